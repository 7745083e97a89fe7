-- `capture::Text::add_flaw` meets its contract: its parts stand behind one another.
-- Assumes nothing.
use Rattle.capture.specs.Flaws.{flaw_line}
use Rattle.capture.proofs.Spelling.{adds_then}
use Rattle.capture.proofs.Text.add_flaw.Goals as goal

pub returns : goal.returns
unfolding flaw_line
returns c =
    adds_then (adds_then (adds_then c.add_field.ensures c.add.ensures) (rw c.reason.ensures at c.add-2.ensures)) c.add-3.ensures
