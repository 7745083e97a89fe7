-- `test_probe::test_probe_field` meets its contract: the fields of the packet that `read` gives are the front fields of what the bytes say.
-- Assumes nothing.
use borrow.Author.Rules.{rules}
use Rattle.test_probe.proofs.Readings.{field-refused, field-passed}
use Rattle.test_probe.proofs.test_probe_field.Goals as goal

pub returns-in-Err : goal.returns-in-Err
returns-in-Err c =
    field-refused c.link_of-l.ensures c.args.bytes.now c.read.ensures c.args.i c.in-Err.is

pub returns-in-Ok : goal.returns-in-Ok
returns-in-Ok c =
    field-passed c.link_of-l.ensures c.args.bytes.now c.read.ensures c.args.i c.in-Ok.is c.shared_set.ensures c.field_of.ensures
