-- What holds of the fields of every line of the table, and is computed there, holds of the fields of a packet's kind (`found-line`), and of those of
-- a kind that was found (`of-found`).
-- Assumes nothing.
use Rattle.std.specs.Prelude.{Option, Some}
use Prim.Native.Nat.{ℕ}
use mathlib.Core.Bool.{Bool, true, ◌&&◌}
use mathlib.Core.List.{List, [], ◌∷◌}
use mathlib.Core.Path.{◌≡◌, subst}
use lib.Dec.{eqb}
use borrow.Table.Steps.{cases}
use Rattle.octets.proofs.Logic.{and_parts}
use Rattle.kinds.specs.Table.{Field, Kind}
use Rattle.kinds.specs.Content.{find, fields_of}

abbrev pub every_line : (List Field → Bool) → List Kind → Bool
every_line P [] = true
every_line P (k ∷ ks) = P k.fields && every_line P ks

-- a kind that is unknown has no fields
pub found-line : (P : List Field → Bool) → P [] ≡ true → (n : ℕ) (ks : List Kind) → every_line P ks ≡ true → P (fields_of (find n ks)) ≡ true
found-line P e n [] a = e
found-line P e n (k ∷ ks) a =
    let h = and_parts (P k.fields) (every_line P ks) a in
    cases (eqb n k.number) (λ t. rw t h.0) (λ t. rw t (found-line P e n ks h.1))

pub of-found : (P : List Field → Bool) → P [] ≡ true → (n : ℕ) (ks : List Kind) (k : Kind) → every_line P ks ≡ true → find n ks ≡ Some k → P k.fields ≡ true
of-found P e n ks k a f = subst (λ (o : Option Kind). P (fields_of o) ≡ true) f (found-line P e n ks a)
