-- What the table says of the kind at a slot, for all 33 slots at once: a column of the table and a column of the slots are equal
-- by computation.
-- Assumes nothing.
use Rattle.std.specs.Prelude.{◌≡◌, refl, Bool, true, false, cond, ◌&&◌, ◌||◌, List, [], ◌∷◌, map, ℕ, zero, suc, ◌+◌, ◌-◌, ◌*◌, ◌≤◌, ◌<◌, length, get_or, eqb, leb, Some, None}
use Rattle.std.proofs.Common.{sym, ◌∙◌, add-zero, suc-add, add-suc, zero-add, le_of_suc-le-suc, not-suc-le-zero, arith, lit≤, eqb-true, le-leb, leb-true}
use Rattle.std.proofs.Math.Path.{ap}
use Rattle.std.proofs.lemmas.Bool.{false≢true, lt-leb}
use Rattle.octets.proofs.Logic.{and_parts}
use Rattle.kinds.specs.Table.{Bits, Field, Kind, kinds, kind_at, none_such}
use Rattle.kinds.specs.Content.{size, find}

-- n numbers from i on
abbrev pub from : ℕ → ℕ → List ℕ
from zero i = []
from (suc n) i = i ∷ from n (suc i)

module _ {A : Type 0} (f : Kind → A) (g : ℕ → A) where
  column-at : (ks : List Kind) (i : ℕ) → map f ks ≡ map g (from (length ks) i) → (k : ℕ) → k < length ks → f (get_or ks k none_such) ≡ g (i + k)
  column-at [] i e k h = absurd (not-suc-le-zero h)
  column-at (x ∷ ks) i e zero h = rw (add-zero i) (cc)
  column-at (x ∷ ks) i e (suc k) h =
      let t : map f ks ≡ map g (from (length ks) (suc i)) = cc in
      column-at ks (suc i) t k (le_of_suc-le-suc h) ∙ ap g (suc-add i k ∙ sym (add-suc i k))

  -- what is computed of each kind is what is computed of its slot
  pub column : map f kinds ≡ map g (from 33 0) → (slot : ℕ) → slot < 33 → f (kind_at slot) ≡ g slot
  unfolding kinds
  column e slot h = column-at kinds 0 e slot h ∙ ap g (zero-add slot)

-- a kind is found by its number
pub found : (slot : ℕ) → slot < 33 → find (kind_at slot).number kinds ≡ Some (kind_at slot)
unfolding kinds
found slot h = column (λ (k : Kind). find k.number kinds) (λ (i : ℕ). Some (kind_at i)) refl slot h

-- a hello stands at slot 0 and nowhere else
pub only-hello : (slot : ℕ) → slot < 33 → eqb (kind_at slot).number 0 ≡ eqb slot 0
unfolding kinds
only-hello slot h = column (λ (k : Kind). eqb k.number 0) (λ (i : ℕ). eqb i 0) refl slot h

-- ---- sizes

-- a choice of n or nothing
pub at_most : (b : Bool) (n : ℕ) → cond b n 0 ≤ n
at_most true n = omega arith
at_most false n = omega arith

-- a layout has no more bytes than all its fields have
pub some_size : (has : Bits → Bool) (fs : List Field) → size has fs ≤ size (λ b. true) fs
some_size has [] = lit≤ tt
some_size has (f ∷ fs) = omega (arith, some_size has fs, at_most (has f.there) (f.width * f.times))

-- the fields of a kind are few bytes
pub few : (has : Bits → Bool) (slot : ℕ) → slot < 33 → size has (kind_at slot).fields ≤ 65535
unfolding kinds
few has slot h =
    let e : leb (size (λ b. true) (kind_at slot).fields) 65535 ≡ true = column (λ (k : Kind). leb (size (λ b. true) k.fields) 65535) (λ (i : ℕ). true) refl slot h in
    let l : size (λ b. true) (kind_at slot).fields ≤ 65535 = leb-true (size (λ b. true) (kind_at slot).fields) 65535 e in
    omega (arith, some_size has (kind_at slot).fields)

-- ---- numbers: 0 to 27 at their own slot, 100 to 104 at 28 to 32

abbrev number_column : ℕ → ℕ
number_column s = cond (leb s 27) s (s + 72)

pub number_at : (slot : ℕ) → slot < 33 → (kind_at slot).number ≡ number_column slot
unfolding kinds
number_at slot h = column (λ (k : Kind). k.number) number_column refl slot h

pub low : (kind : ℕ) → kind ≤ 27 → (kind_at kind).number ≡ kind
low kind h = number_at kind (omega arith) ∙ rw (le-leb kind 27 h)

pub high : (kind : ℕ) → 100 ≤ kind → kind ≤ 104 → (kind_at (kind - 72)).number ≡ kind
high kind h t = number_at (kind - 72) (omega arith) ∙ rw (lt-leb (kind - 72) 27 (omega arith)) (omega arith)

-- ---- no other kind is in the table

abbrev known : ℕ → Bool
known k = leb k 27 || (leb 100 k && leb k 104)

abbrev all_known : List Kind → Bool
all_known [] = true
all_known (r ∷ rs) = known r.number && all_known rs

absent : (k : ℕ) (rs : List Kind) → known k ≡ false → all_known rs ≡ true → find k rs ≡ None
absent k [] h t = refl
absent k (r ∷ rs) h t = go (eqb k r.number) refl (absent k rs h (and_parts (known r.number) (all_known rs) t).1)
  where
    go : (b : Bool) → eqb k r.number ≡ b → find k rs ≡ None → find k (r ∷ rs) ≡ None
    go true e ih = absurd (false≢true (sym h ∙ ap known (eqb-true k r.number e) ∙ (and_parts (known r.number) (all_known rs) t).0))
    go false e ih = rw e ih

all_known_lem : all_known kinds ≡ true
unfolding kinds
all_known_lem = refl

pub between : (kind : ℕ) → 27 < kind → kind < 100 → find kind kinds ≡ None
between kind h t = absent kind kinds (rw (lt-leb kind 27 h, lt-leb 100 kind t)) all_known_lem

pub above : (kind : ℕ) → 104 < kind → find kind kinds ≡ None
above kind h = absent kind kinds (simp (lt-leb kind 27 (omega arith), le-leb 100 kind (omega arith), lt-leb kind 104 h)) all_known_lem
