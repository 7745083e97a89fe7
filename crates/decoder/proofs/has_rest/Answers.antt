-- `decoder::has_rest` meets its contract: the test is the table's column of kinds that have a part.
-- Assumes nothing.
use mathlib.Core.Path.{sym}
use Rattle.decoder.proofs.RestSlots.{rests}
use Rattle.decoder.proofs.has_rest.Goals as goal

pub returns : goal.returns
returns c = sym (rests c.args.slot c.requires)
