-- `capture::lay_spelt` meets its contract: the bytes still to be spelt, over what has been laid, give what all of them give.
-- Assumes nothing.
use mathlib.Core.Path.{◌≡◌}
use Prim.Native.Nat.{◌*◌}
use lib.ListN.{drop}
use lib.Seq.{sets}
use Rattle.capture.specs.Lines.{spelt}
use Rattle.capture.proofs.lay_spelt.Given as goal

abbrev pub invariant-loop-i : goal.invariant-loop-i
invariant-loop-i l = sets l.out l.i (spelt (drop (2 * l.i) l.s)) ≡ sets l.initial.out 0 (spelt l.s)
