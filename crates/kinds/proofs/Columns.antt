-- Past the table there is no kind (`past`), and the bit that a kind needs is shared where all that it needs is (`need-shared`).
-- What stands at a slot is computed from the table.
-- Assumes nothing.
use mathlib.Core.Path.{◌≡◌, sym, ◌∙◌}
use mathlib.Core.Bool.{Bool, true}
use Prim.Native.Nat.{ℕ, ◌≤◌}
use lib.ListN.{get_or-map, get_or-eq_default}
use Rattle.std.specs.Prelude.{Option, Some, None}
use Rattle.octets.specs.Bits.{has_bit}
use Rattle.kinds.specs.Table.{Kind, kinds, kind_at, none_such}
use Rattle.kinds.specs.Content.{shared, needed_bit}

-- past the table there is no kind
pub past : (slot : ℕ) → 33 ≤ slot → kind_at slot ≡ none_such
unfolding kinds
past slot h = get_or-eq_default kinds none_such h

-- the bit that is needed, or none, is shared where what is needed is
abbrev shared_by : ℕ → Option ℕ → Bool
shared_by caps None = true
shared_by caps (Some j) = has_bit caps j

pub need-shared : (slot caps : ℕ) → shared_by caps (needed_bit (kind_at slot).needs) ≡ shared caps (kind_at slot).needs
unfolding kinds
need-shared slot caps =
    sym (get_or-map (λ (k : Kind). shared_by caps (needed_bit k.needs)) kinds slot none_such) ∙ get_or-map (λ (k : Kind). shared caps k.needs) kinds slot none_such
