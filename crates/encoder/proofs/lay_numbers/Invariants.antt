-- `encoder::lay_numbers` meets its contract: each turn lays one number behind those before it.
-- Assumes nothing.
use Prim.Native.Nat.{◌+◌, ◌*◌, ◌-◌, ◌≤◌}
use mathlib.Core.Path.{◌≡◌}
use lib.ListN.{length, drop}
use lib.Seq.{sets}
use Rattle.packet.specs.Fields.{in_widths}
use Rattle.encoder.proofs.lay_numbers.Given as goal

abbrev pub invariant-loop-i : goal.invariant-loop-i
invariant-loop-i l =
    (l.i ≤ l.n) × (l.next ≤ 16 + 255 * l.i) × (length l.out ≡ length l.initial.out)
    × (sets l.out l.next (in_widths (l.n - l.i) (drop l.i l.ws) (drop l.i l.xs)) ≡ sets l.initial.out l.at (in_widths l.n l.ws l.xs))
    × (l.next + length (in_widths (l.n - l.i) (drop l.i l.ws) (drop l.i l.xs)) ≡ l.at + length (in_widths l.n l.ws l.xs))
