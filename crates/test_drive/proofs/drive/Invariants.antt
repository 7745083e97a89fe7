-- What the loop over the script's items keeps: what is still to come, after what is done, gives what all of the script gives.
-- Assumes nothing.
use Rattle.test_drive.proofs.ScriptRuns.{Driving}
use Rattle.test_drive.proofs.drive.Given as goal

abbrev pub invariant-loop-k : goal.invariant-loop-k
invariant-loop-k g l = Driving l.script l.initial.holds l.initial.out l.holds l.out l.s l.at l.k
