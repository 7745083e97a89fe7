-- `capture::Text::add_decimal` meets its contract: the digits made and those still to come give what all of them give, and 20 places are enough.
-- Assumes nothing.
use Rattle.capture.proofs.Spelling.{Making}
use Rattle.capture.proofs.Text.add_decimal.Given as goal

abbrev pub invariant-loop-n : goal.invariant-loop-n
invariant-loop-n l = Making l.x l.digits l.i l.n

abbrev pub decreases-loop-n : goal.decreases-loop-n
decreases-loop-n l = l.i
