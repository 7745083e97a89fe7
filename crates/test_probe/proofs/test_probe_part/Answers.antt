-- `test_probe::test_probe_part` meets its contract: what follows the fields of the packet that `read` gives is the part that its kind has.
-- Assumes nothing.
use borrow.Author.Rules.{rules}
use Rattle.test_probe.proofs.Readings.{part-refused, part-start, part_end}
use Rattle.test_probe.proofs.test_probe_part.Goals as goal

pub returns-in-Err : goal.returns-in-Err
returns-in-Err c =
    part-refused c.link_of-l.ensures c.args.bytes.now c.read.ensures c.args.end c.in-Err.is

pub returns-then-end-eq0 : goal.returns-then-end-eq0
returns-then-end-eq0 c =
    part-start c.link_of-l.ensures c.args.bytes.now c.read.ensures c.in-Ok.is c.rest_of-q.ensures c.if-end-eq0.true

pub returns-else-end-eq0 : goal.returns-else-end-eq0
returns-else-end-eq0 c =
    part_end c.link_of-l.ensures c.args.bytes.now c.read.ensures c.in-Ok.is c.rest_of-q.ensures c.if-end-eq0.false
