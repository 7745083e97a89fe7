-- The kinds below 100 whose fields something may follow: off a law of the whole table, by computation.
-- Assumes nothing.
use mathlib.Core.Path.{◌≡◌, refl, ◌∙◌}
use mathlib.Core.Bool.{Bool, ◌||◌, or-false}
use Prim.Native.Nat.{ℕ, ◌<◌}
use native.Mathlib.Omega.{arith}
use lib.Dec.{eqb, leb}
use borrow.Author.Tests.{lt-leb}
use Rattle.kinds.specs.Table.{kinds, kind_at}
use Rattle.kinds.specs.Slots.{column}
use Rattle.decoder.specs.Reading.{carries}

abbrev rest_column : ℕ → Bool
rest_column s = eqb s 0 || eqb s 23

pub rests : (slot : ℕ) → slot < 28 → carries (kind_at slot) ≡ rest_column slot
unfolding kinds
rests slot h = column carries (λ (s : ℕ). rest_column s || leb 28 s) refl slot (omega arith) ∙ rw (lt-leb 28 slot h) (or-false (rest_column slot))
