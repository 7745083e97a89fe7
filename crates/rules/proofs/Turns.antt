-- What one turn of a loop finds: the first row whose type is none (`type-more`, `type-here`).
-- The search from i on computes one step: by the test of what stands at i it ends there, or is the search from i + 1 on.
-- Assumes nothing.
use Rattle.std.specs.Prelude.{Option, Some}
use mathlib.Core.Path.{◌≡◌, sym, ap, ◌∙◌}
use mathlib.Core.Bool.{Bool, true, false, cond}
use mathlib.Core.List.{List}
use Prim.Native.Nat.{ℕ, suc, ◌+◌, ◌-◌, ◌<◌}
use native.Mathlib.Numerals.{add-one}
use native.Mathlib.Omega.{arith}
use Rattle.octets.specs.Little.{le}
use Rattle.rules.specs.Findings.{type_ok, type_fault}

type-step : (rows : List ℕ) (i : ℕ) (next : Option ℕ) → i < 32
    → type_fault rows (32 - i) i next ≡ cond (type_ok i (le 1 rows i)) (type_fault rows (32 - (i + 1)) (i + 1) next) (Some i)
type-step rows i next h =
    let e : 32 - i ≡ suc (32 - (i + 1)) = omega arith in
    rw e (ap (λ (m : ℕ). cond (type_ok i (le 1 rows i)) (type_fault rows (32 - (i + 1)) m next) (Some i)) (sym (add-one i)))

-- row i's type is one: look on from there
pub type-more : (rows : List ℕ) (i : ℕ) (next : Option ℕ) → i < 32 → type_ok i (le 1 rows i) ≡ true
    → type_fault rows (32 - i) i next ≡ type_fault rows (32 - (i + 1)) (i + 1) next
type-more rows i next h t = type-step rows i next h ∙ ap (λ (b : Bool). cond b (type_fault rows (32 - (i + 1)) (i + 1) next) (Some i)) t

-- row i's type is none
pub type-here : (rows : List ℕ) (i : ℕ) (next : Option ℕ) → i < 32 → type_ok i (le 1 rows i) ≡ false → type_fault rows (32 - i) i next ≡ Some i
type-here rows i next h t = type-step rows i next h ∙ ap (λ (b : Bool). cond b (type_fault rows (32 - (i + 1)) (i + 1) next) (Some i)) t
