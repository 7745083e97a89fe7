-- `rules::type_at` meets its contract: the rows still to be looked at have their first bad type where all of them have it.
-- Assumes nothing.
use mathlib.Core.Path.{◌≡◌}
use Prim.Native.Nat.{◌-◌, ◌≤◌}
use Rattle.rules.specs.Findings.{type_fault}
use Rattle.rules.proofs.type_at.Given as goal

abbrev pub invariant-loop-i : goal.invariant-loop-i
invariant-loop-i l = (l.i ≤ 32) × (type_fault l.rows (32 - l.i) l.i l.next ≡ type_fault l.rows 32 0 l.next)
