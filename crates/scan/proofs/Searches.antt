-- What a search finds and what a change of one element or of each leaves, in relations: `first_found`, `first-lowest`, `first_absent`,
-- `exists-at`, `any-absent`; `get_d_set`, `set_keeps`; `each_at_lem`, `each_keeps`; and what a tabulated list has at each index: `tabulated-at`.
-- By induction over the list: the test of the first element decides a step, and the index goes up by one with each element. A search that counts
-- from k finds its index with k added (`first-from`).
-- Assumes nothing.
use Rattle.std.specs.Prelude.{Option, Some, None}
use Prim.Native.Nat.{ℕ, zero, suc, ◌+◌, ◌≤◌, ◌<◌}
use mathlib.Core.Path.{◌≡◌, refl, sym, ap, ◌∙◌}
use mathlib.Core.Bool.{Bool, true, false, cond, true≢false, or-true}
use mathlib.Core.List.{List, [], ◌∷◌}
use Rattle.std.proofs.lemmas.Option.{none-some, same_Some}
use native.Mathlib.Nat.{add-zero, zero-add, add-suc, suc-add}
use native.Mathlib.Omega.{arith}
use lib.ListN.{length, get_or, set, length-set, get_or-eq_default}
use lib.Seq.{get_or-set_same, get_or-set_other, ext_get_or}
use lib.Dec.{eqb, ltb}
use borrow.Author.Tests.{eqb-true, eqb-false, ltb-true, ltb-false}
use borrow.Table.Steps.{cases}
use Rattle.octets.proofs.Logic.{or_parts}
use Rattle.scan.specs.Scan.{first_at, exists, any_at, each_at, tabulated, put_at}
use Rattle.scan.specs.Loop.{up_to, upto-at, upto-more}

-- ---- the first that passes

module _ {A : Type 0} (p : A → Bool) where
  -- the element at n passes, and none before it
  abbrev First : List A → A → ℕ → Type 0
  First l d n = (n < length l) × (p (get_or l n d) ≡ true) × ((j : ℕ) → j < n → p (get_or l j d) ≡ false)

  first-behind : (x : A) (xs : List A) (d : A) (n : ℕ) → p x ≡ false → First xs d n → First (x ∷ xs) d (suc n)
  first-behind x xs d n e f = (omega (arith, f.0), f.1, before)
    where
      before : (j : ℕ) → j < suc n → p (get_or (x ∷ xs) j d) ≡ false
      before zero h = e
      before (suc j) h = f.2 j (omega arith)

  first-from : (k : ℕ) (l : List A) (i : ℕ) (d : A) → first_at p k l ≡ Some i → (n : ℕ) × (k + n ≡ i) × First l d n
  unfolding first_at
  first-from k [] i d e = absurd (none-some i e)
  first-from k (x ∷ xs) i d e = go (p x) refl (first-from (suc k) xs i d) e
    where
      go : (b : Bool) → p x ≡ b → (first_at p (suc k) xs ≡ Some i → (n : ℕ) × (suc k + n ≡ i) × First xs d n)
          → cond b (Some k) (first_at p (suc k) xs) ≡ Some i → (n : ℕ) × (k + n ≡ i) × First (x ∷ xs) d n
      go true t ih q = (0, add-zero k ∙ same_Some k i q, (omega arith, t, λ j h. absurd (omega arith)))
      go false t ih q = let r = ih q in (suc r.0, omega (arith, r.1), first-behind x xs d r.0 t r.2)

  absent-from : (k : ℕ) (l : List A) (d : A) → first_at p k l ≡ None → (j : ℕ) → j < length l → p (get_or l j d) ≡ false
  unfolding first_at
  absent-from k [] d e j h = absurd (omega arith)
  absent-from k (x ∷ xs) d e j h = go (p x) refl (absent-from (suc k) xs d) e j h
    where
      go : (b : Bool) → p x ≡ b → (first_at p (suc k) xs ≡ None → (j : ℕ) → j < length xs → p (get_or xs j d) ≡ false)
          → cond b (Some k) (first_at p (suc k) xs) ≡ None → (j : ℕ) → j < length (x ∷ xs) → p (get_or (x ∷ xs) j d) ≡ false
      go true t ih q j h = absurd (none-some k (sym q))
      go false t ih q zero h = t
      go false t ih q (suc j) h = ih q j (omega arith)

  module _ (l : List A) where
    first-is : (i : ℕ) (d : A) → first_at p 0 l ≡ Some i → First l d i
    first-is i d e = let r = first-from 0 l i d e in rw (← (sym (zero-add r.0) ∙ r.1)) r.2

    -- what is found stands in the list and passes
    pub first_found : (i : ℕ) (d : A) → first_at p 0 l ≡ Some i → (i < length l) × (p (get_or l i d) ≡ true)
    first_found i d e = let f = first-is i d e in (f.0, f.1)

    -- none before it passes
    pub first-lowest : (i : ℕ) (d : A) → first_at p 0 l ≡ Some i → (j : ℕ) → j < i → p (get_or l j d) ≡ false
    first-lowest i d e = (first-is i d e).2

    -- where none is found, none passes
    pub first_absent : (d : A) → first_at p 0 l ≡ None → (j : ℕ) → j < length l → p (get_or l j d) ≡ false
    first_absent d e = absent-from 0 l d e

    -- where one passes, one is found
    pub first_some : (d : A) (j : ℕ) → j < length l → p (get_or l j d) ≡ true → (i : ℕ) × (first_at p 0 l ≡ Some i)
    first_some d j h e = go (first_at p 0 l) refl
      where
        go : (o : Option ℕ) → first_at p 0 l ≡ o → (i : ℕ) × (first_at p 0 l ≡ Some i)
        go None q = absurd (true≢false (sym e ∙ first_absent d q j h))
        go (Some i) q = (i, q)

    -- the first that passes is the one that is found
    pub first-when : (i : ℕ) (d : A) → i < length l → p (get_or l i d) ≡ true → ((j : ℕ) → j < i → p (get_or l j d) ≡ false) → first_at p 0 l ≡ Some i
    first-when i d h e lower = found ∙ ap Some (cases (ltb k i) (λ b. absurd (below (ltb-true k i b))) (λ b. cases (ltb i k) (λ a. absurd (above (ltb-true i k a))) (λ a. omega (arith, ltb-false k i b, ltb-false i k a))))
      where
        k : ℕ
        k = (first_some d i h e).0

        found : first_at p 0 l ≡ Some k
        found = (first_some d i h e).1

        below : k < i → ⊥
        below b = true≢false (sym (first_found k d found).1 ∙ lower k b)

        above : i < k → ⊥
        above a = true≢false (sym e ∙ first-lowest k d found i a)

  -- ---- one that passes

  pub exists-at : (l : List A) (d : A) (j : ℕ) → j < length l → p (get_or l j d) ≡ true → exists p l ≡ true
  unfolding exists
  exists-at [] d j h e = absurd (omega arith)
  exists-at (x ∷ xs) d zero h e = rw e
  exists-at (x ∷ xs) d (suc j) h e = rw (exists-at xs d j (omega arith) e) (or-true (p x))

  pub exists-not : (l : List A) (d : A) → ((j : ℕ) → j < length l → p (get_or l j d) ≡ false) → exists p l ≡ false
  unfolding exists
  exists-not [] d f = refl
  exists-not (x ∷ xs) d f = rw (f 0 (omega arith)) (exists-not xs d (λ j h. f (suc j) (omega arith)))

-- ---- one element changed

pub get_d_set : {A : Type 0} (l : List A) (i j : ℕ) (a d : A) → j < length l → get_or (set l i a) j d ≡ cond (eqb j i) a (get_or l j d)
get_d_set l i j a d h = cases (eqb j i) there elsewhere
  where
    there : eqb j i ≡ true → get_or (set l i a) j d ≡ cond (eqb j i) a (get_or l j d)
    there e = let q : j ≡ i = eqb-true j i e in rw (e, q) (get_or-set_same l i a d (rw (← q) h))

    elsewhere : eqb j i ≡ false → get_or (set l i a) j d ≡ cond (eqb j i) a (get_or l j d)
    elsewhere e = rw e (get_or-set_other l i j a d (eqb-false j i e))

-- what the change keeps of it is kept at every index, also where the change or the index is past the end
pub set_keeps : {A B : Type 0} (g : A → B) (l : List A) (i k : ℕ) (d y : A) → g y ≡ g (get_or l i d) → g (get_or (set l i y) k d) ≡ g (get_or l k d)
set_keeps g [] i k d y h = refl
set_keeps g (x ∷ xs) zero zero d y h = h
set_keeps g (x ∷ xs) zero (suc k) d y h = refl
set_keeps g (x ∷ xs) (suc i) zero d y h = refl
set_keeps g (x ∷ xs) (suc i) (suc k) d y h = set_keeps g xs i k d y h

-- ---- a change of each element

module _ {A : Type 0} (f : ℕ → A → A) where
  pub each-length : (l : List A) (i : ℕ) → length (each_at f i l) ≡ length l
  unfolding each_at
  each-length [] i = refl
  each-length (x ∷ xs) i = ap suc (each-length xs (suc i))

  pub each_at_lem : (l : List A) (i k : ℕ) (d : A) → k < length l → get_or (each_at f i l) k d ≡ f (i + k) (get_or l k d)
  unfolding each_at
  each_at_lem [] i k d h = absurd (omega arith)
  each_at_lem (x ∷ xs) i zero d h = rw (add-zero i)
  each_at_lem (x ∷ xs) i (suc k) d h = rw (add-suc i k, ← suc-add i k) (each_at_lem xs (suc i) k d (omega arith))

  -- what each change keeps of an element is kept at every index, also past the end
  pub each_keeps : {B : Type 0} (g : A → B) → ((i : ℕ) (x : A) → g (f i x) ≡ g x) → (l : List A) (i k : ℕ) (d : A) → g (get_or (each_at f i l) k d) ≡ g (get_or l k d)
  unfolding each_at
  each_keeps g h [] i k d = refl
  each_keeps g h (x ∷ xs) i zero d = h i x
  each_keeps g h (x ∷ xs) i (suc k) d = each_keeps g h xs (suc i) k d

  -- a step of a loop that changes each element in place: the list t holds n changes, and y is the next
  pub upto_step : (n : ℕ) (l t : List A) (d y : A) → n < length l → t ≡ up_to f 0 n l → y ≡ f n (get_or t n d) → set t n y ≡ up_to f 0 (n + 1) l
  upto_step n l t d y h e v =
      let w : y ≡ f n (get_or l n d) = v ∙ ap (λ (z : List A). f n (get_or z n d)) e ∙ ap (f n) (upto-at f 0 n l d) in
      (λ j. set (e j) n (w j)) ∙ upto-more f n l d h

  -- where each change leaves its element as it was, the list is as it was
  pub each_same : ((i : ℕ) (x : A) → f i x ≡ x) → (l : List A) (i : ℕ) → each_at f i l ≡ l
  unfolding each_at
  each_same h [] i = refl
  each_same h (x ∷ xs) i = λ j. h i x j ∷ each_same h xs (suc i) j

-- ---- one that passes a test that sees its index

module _ {A : Type 0} (p : ℕ → A → Bool) where
  pub any-absent : (l : List A) (i : ℕ) (d : A) → any_at p i l ≡ false → (k : ℕ) → k < length l → p (i + k) (get_or l k d) ≡ false
  unfolding any_at
  any-absent [] i d e k h = absurd (omega arith)
  any-absent (x ∷ xs) i d e zero h = rw (add-zero i) (or_parts (p i x) (any_at p (suc i) xs) e).0
  any-absent (x ∷ xs) i d e (suc k) h = rw (add-suc i k, ← suc-add i k) (any-absent xs (suc i) d (or_parts (p i x) (any_at p (suc i) xs) e).1 k (omega arith))

  pub any-not : (l : List A) (i : ℕ) (d : A) → ((k : ℕ) → k < length l → p (i + k) (get_or l k d) ≡ false) → any_at p i l ≡ false
  unfolding any_at
  any-not [] i d f = refl
  any-not (x ∷ xs) i d f =
      rw (sym (ap (λ (m : ℕ). p m x) (add-zero i)) ∙ f 0 (omega arith))
      (any-not xs (suc i) d (λ k h. rw (suc-add i k, ← add-suc i k) (f (suc k) (omega arith))))

-- ---- a search that finds none

pub first-never : {A : Type 0} (p : A → Bool) (l : List A) (d : A) → ((j : ℕ) → j < length l → p (get_or l j d) ≡ false) → first_at p 0 l ≡ None
first-never p l d h = go (first_at p 0 l) refl
  where
    go : (o : Option ℕ) → first_at p 0 l ≡ o → first_at p 0 l ≡ None
    go None q = q
    go (Some i) q = let f = first_found p l i d q in absurd (true≢false (sym f.1 ∙ h i f.0))

-- ---- a change that leaves the default as it is: each element is changed, also past the end

pub each-anywhere : {A : Type 0} (f : ℕ → A → A) (d : A) → ((i : ℕ) → f i d ≡ d) → (l : List A) (i k : ℕ) → get_or (each_at f i l) k d ≡ f (i + k) (get_or l k d)
unfolding each_at
each-anywhere f d h [] i k = sym (h (i + k))
each-anywhere f d h (x ∷ xs) i zero = rw (add-zero i)
each-anywhere f d h (x ∷ xs) i (suc k) = rw (add-suc i k, ← suc-add i k) (each-anywhere f d h xs (suc i) k)

-- ---- a tabulated list

module _ {A : Type 0} (f : ℕ → A) where
  pub tabulated-length : (i n : ℕ) → length (tabulated f i n) ≡ n
  unfolding tabulated
  tabulated-length i zero = refl
  tabulated-length i (suc n) = ap suc (tabulated-length (suc i) n)

  tabulated-from : (i n k : ℕ) (d : A) → k < n → get_or (tabulated f i n) k d ≡ f (i + k)
  unfolding tabulated
  tabulated-from i zero k d h = absurd (omega arith)
  tabulated-from i (suc n) zero d h = rw (add-zero i)
  tabulated-from i (suc n) (suc k) d h = rw (add-suc i k, ← suc-add i k) (tabulated-from (suc i) n k d (omega arith))

  pub tabulated-at : (n k : ℕ) (d : A) → k < n → get_or (tabulated f 0 n) k d ≡ f k
  tabulated-at n k d h = tabulated-from 0 n k d h ∙ ap f (zero-add k)

  -- past the end there is nothing
  pub tabulated-past : (n k : ℕ) (d : A) → n ≤ k → get_or (tabulated f 0 n) k d ≡ d
  tabulated-past n k d h = get_or-eq_default (tabulated f 0 n) d {n = k} (rw (tabulated-length 0 n) h)

  -- a list that has these elements is the tabulated one
  pub tabulated-is : (l : List A) (n : ℕ) (d : A) → length l ≡ n → ((k : ℕ) → k < n → get_or l k d ≡ f k) → l ≡ tabulated f 0 n
  tabulated-is l n d e h =
      ext_get_or d l (tabulated f 0 n) (e ∙ sym (tabulated-length 0 n)) (λ k g. let m : k < n = rw (← e) g in h k m ∙ sym (tabulated-at n k d m))

-- two functions that agree below n give one list
pub tabulated-same : {A : Type 0} (f g : ℕ → A) (n : ℕ) (d : A) → ((k : ℕ) → k < n → f k ≡ g k) → tabulated f 0 n ≡ tabulated g 0 n
tabulated-same f g n d h = tabulated-is g (tabulated f 0 n) n d (tabulated-length f 0 n) (λ k b. tabulated-at f n k d b ∙ h k b)

-- a store into a list of n elements
pub set-put : {A : Type 0} (n : ℕ) (d : A) (l : List A) (i : ℕ) (x : A) → length l ≡ n → set l i x ≡ put_at n d l i x
set-put n d l i x e =
    tabulated-is (λ (j : ℕ). cond (eqb j i) x (get_or l j d)) (set l i x) n d (length-set l i x ∙ e) (λ k h. get_d_set l i k x d (rw e h))
