-- What a loop over the elements of an array has found or done after i of them. The invariants of the loops cite these laws.
-- A search: the rest of the list is split at i (`drop-cons`), and the definition computes one step. A change in place: `up_to` is the list with
-- its first n elements changed, the next is still as it was (`upto-at`), and its change gives one more (`upto-more`), by induction over n and the
-- list.
-- Assumes nothing.
use Prim.Native.Nat.{ℕ, zero, suc, ◌+◌, ◌≤◌, ◌<◌}
use Rattle.std.specs.Prelude.{◌≡◌, Bool, true, false, length, drop, get_or, set}
use Rattle.std.proofs.Math.Path.{refl, ap}
use Rattle.std.proofs.Common.{sym, ◌∙◌, add-zero, zero-add, add-suc, add-one, arith, drop_of_length-le}
use mathlib.Core.List.{List, [], ◌∷◌, map}
use Rattle.std.proofs.Math.Nat.{suc-add}
use Rattle.std.proofs.lemmas.List.{length-map}
use Rattle.std.proofs.Math.Seq.{drop-cons}
use Rattle.scan.specs.Scan.{exists, any_at, each_at}

-- what owning an array of structs tells of its list
pub long_of : {A Y : Type 0} (f : A → Y) (l : List A) (n : ℕ) → length (map f l) ≡ n → length l ≡ n
long_of f l n e = sym (length-map l f) ∙ e

-- ---- a loop that searches: the rest of the list still holds the answer

module _ {A : Type 0} (p : A → Bool) (l : List A) (i : ℕ) (d : A) where
  pub exists-hit : i < length l → p (get_or l i d) ≡ true → exists p (drop i l) ≡ true
  unfolding exists
  exists-hit h e = rw (drop-cons l i d h, e)

  pub exists-miss : i < length l → p (get_or l i d) ≡ false → exists p (drop i l) ≡ exists p (drop (i + 1) l)
  unfolding exists
  exists-miss h e = rw (add-one, drop-cons l i d h, e)

pub exists-none : {A : Type 0} (p : A → Bool) (l : List A) (i : ℕ) → length l ≤ i → exists p (drop i l) ≡ false
unfolding exists
exists-none p l i h = rw (drop_of_length-le l h)

module _ {A : Type 0} (p : ℕ → A → Bool) (l : List A) (i : ℕ) (d : A) where
  pub any-hit : i < length l → p i (get_or l i d) ≡ true → any_at p i (drop i l) ≡ true
  unfolding any_at
  any-hit h e = rw (drop-cons l i d h, e)

  pub any-miss : i < length l → p i (get_or l i d) ≡ false → any_at p i (drop i l) ≡ any_at p (i + 1) (drop (i + 1) l)
  unfolding any_at
  any-miss h e = rw (add-one, drop-cons l i d h, e)

pub any_none : {A : Type 0} (p : ℕ → A → Bool) (l : List A) (i : ℕ) → length l ≤ i → any_at p i (drop i l) ≡ false
unfolding any_at
any_none p l i h = rw (drop_of_length-le l h)

-- ---- a loop that changes each element in place

-- the list with its first n elements changed, the first of them at index i
unfoldable pub up_to : {A : Type 0} → (ℕ → A → A) → ℕ → ℕ → List A → List A
up_to f i zero l = l
up_to f i (suc n) [] = []
up_to f i (suc n) (x ∷ xs) = f i x ∷ up_to f (suc i) n xs

module _ {A : Type 0} (f : ℕ → A → A) where
  pub upto-none : (l : List A) → l ≡ up_to f 0 0 l
  unfolding up_to
  upto-none l = refl

  pub upto_all : (i n : ℕ) (l : List A) → length l ≤ n → up_to f i n l ≡ each_at f i l
  unfolding up_to each_at
  upto_all i zero [] h = refl
  upto_all i zero (x ∷ xs) h = absurd (omega arith)
  upto_all i (suc n) [] h = refl
  upto_all i (suc n) (x ∷ xs) h = ap (λ (t : List A). f i x ∷ t) (upto_all (suc i) n xs (omega arith))

  -- the element at n is not changed yet
  pub upto-at : (i n : ℕ) (l : List A) (d : A) → get_or (up_to f i n l) n d ≡ get_or l n d
  unfolding up_to
  upto-at i zero l d = refl
  upto-at i (suc n) [] d = refl
  upto-at i (suc n) (x ∷ xs) d = upto-at (suc i) n xs d

  upto_next : (i n : ℕ) (l : List A) (d : A) → n < length l → set (up_to f i n l) n (f (i + n) (get_or l n d)) ≡ up_to f i (suc n) l
  unfolding up_to
  upto_next i n [] d h = absurd (omega arith)
  upto_next i zero (x ∷ xs) d h = rw (add-zero i)
  upto_next i (suc n) (x ∷ xs) d h = rw (add-suc i n, ← suc-add i n) (ap (λ (t : List A). f i x ∷ t) (upto_next (suc i) n xs d (omega arith)))

  pub upto-more : (n : ℕ) (l : List A) (d : A) → n < length l → set (up_to f 0 n l) n (f n (get_or l n d)) ≡ up_to f 0 (n + 1) l
  upto-more n l d h = rw add-one (ap (λ (m : ℕ). set (up_to f 0 n l) n (f m (get_or l n d))) (sym (zero-add n)) ∙ upto_next 0 n l d h)
