-- `test_probe::test_probe_rewrite` meets its contract: the body behind the header is what the packet was read from, so that what is written is what the bytes say.
-- Assumes nothing.
use borrow.Author.Rules.{rules}
use Rattle.test_probe.proofs.Rewriting.{rewrite-refused, rewrite-passed}
use Rattle.test_probe.proofs.test_probe_rewrite.Goals as goal

pub returns-in-Err : goal.returns-in-Err
returns-in-Err c =
    rewrite-refused c.link_of-l.ensures c.read.ensures c.in-Err.is

pub returns-in-Ok : goal.returns-in-Ok
returns-in-Ok c =
    rewrite-passed c.link_of-l.ensures c.read.ensures c.in-Ok.is c.part-body.ensures c.write.ensures
