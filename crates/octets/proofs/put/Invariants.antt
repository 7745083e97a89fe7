-- `octets::put` meets its contract: the bytes still to be laid, over what has been laid, give what all of them give.
-- Assumes nothing.
use Rattle.std.proofs.Common.{◌≡◌, ◌+◌, ◌-◌}
use Rattle.std.proofs.lemmas.List.Edits.{sets}
use Rattle.octets.specs.Little.{bytes_of}
use Rattle.octets.proofs.put.Given as goal

abbrev pub invariant-loop-i : goal.invariant-loop-i
invariant-loop-i l = sets l.out (l.at + l.i) (bytes_of (l.n - l.i) l.y) ≡ sets l.initial.out l.at (bytes_of l.n l.x)
