-- `capture::Text::add_field` meets its contract: the number stands behind the name.
-- Assumes nothing.
use Rattle.capture.proofs.Spelling.{adds_then}
use Rattle.capture.proofs.Text.add_field.Goals as goal

pub returns : goal.returns
returns c = adds_then c.add.ensures c.add_decimal.ensures
