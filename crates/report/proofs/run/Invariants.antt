-- `report::run` meets its contract: the turns so far, and the state fits.
-- Assumes nothing.
use Rattle.report.specs.Program.{Fits, memory, beginning, Turns}
use Rattle.report.proofs.run.Given as goal

abbrev pub invariant-loop-turn : goal.invariant-loop-turn
invariant-loop-turn l = record {
  turns : Turns (beginning l.initial.input l.initial.out) (memory l.p l.guest l.host l.input l.out) l._turn;
  fits : Fits l.p;
}
