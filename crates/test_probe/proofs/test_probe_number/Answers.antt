-- `test_probe::test_probe_number` meets its contract: what `read` tells of the bytes' number, for each of its cases.
-- Assumes nothing.
use borrow.Author.Rules.{rules}
use Rattle.test_probe.proofs.Readings.{number-refused, number_passed}
use Rattle.test_probe.proofs.test_probe_number.Goals as goal

pub returns-in-Err : goal.returns-in-Err
returns-in-Err c =
    number-refused c.link_of.ensures c.args.bytes.now c.read.ensures c.in-Err.is c.number.ensures

pub returns-in-Ok : goal.returns-in-Ok
returns-in-Ok c =
    number_passed c.link_of.ensures c.args.bytes.now c.read.ensures c.in-Ok.is
