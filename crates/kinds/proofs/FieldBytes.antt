-- What is written is what is read, over any list of fields (`round`, `rest_back`, `length-of`): the layout's laws, which know no kind.
-- By induction over the fields, for values that fit them (`Fit`), as those do of which the checks find nothing (`fit`): a value's bytes are as
-- many as its field has, so that the next is read where its own begin.
-- Of what is read: all of it is there exactly where the bytes are no fewer than the layout says (`complete-split`); then each field is read where
-- it stands (`split-full`); and what is read off bytes fits (`fitting-split`).
-- Assumes nothing.
use Rattle.std.specs.Prelude.{Option, Some, None}
use mathlib.Core.Path.{◌≡◌, refl, sym, ap, subst, ◌∙◌}
use mathlib.Core.Bool.{Bool, true, false, cond, not, ◌&&◌, false≢true}
use mathlib.Core.List.{List, [], ◌∷◌, ◌++◌, append_assoc}
use Prim.Native.Nat.{ℕ, zero, suc, ◌+◌, ◌-◌, ◌*◌, ◌^◌, ◌≤◌, ◌<◌}
use native.Mathlib.Nat.{add_assoc, add-zero, zero-add, add-suc, suc-add, mul-zero, mul-suc, add_comm}
use native.Mathlib.Omega.{arith}
use lib.ListN.{length, get_or, take, drop, length-append, length-drop, take-append-drop}
use lib.Seq.{drop_at, drop-drop, get_or-drop, length-take-le}
use lib.Dec.{eqb, leb, leb-zero, eqb-zero-suc}
use borrow.Author.Tests.{eqb-true, le-leb, lt-leb, leb-true, leb-false, eq-eqb}
use Rattle.header.specs.declared.Side.{Side}
use Rattle.octets.specs.Little.{bytes_of}
use Rattle.octets.proofs.Integers.{le_bytes, le-shift, le-lt, length-bytes}
use Rattle.octets.proofs.Logic.{and_parts, or_parts}
use Rattle.kinds.specs.Table.{Bits, Field}
use Rattle.kinds.specs.Content.{Value, shared, size_of, size, numbers, whole, split, bytes_of_all, bytes_of_value, bytes}
use Rattle.kinds.specs.Number.{surplus, complete, holds, first_bad, bad_field, bad_fields, is_none, or_else}
use Rattle.kinds.specs.Codec.{Below, Fitting}

-- ---- tests

pub is_none-left : (x y : Option ℕ) → is_none (or_else x y) ≡ true → is_none x ≡ true
is_none-left None y e = refl
is_none-left (Some a) y e = e

pub is_none-right : (x y : Option ℕ) → is_none (or_else x y) ≡ true → is_none y ≡ true
is_none-right None y e = e
is_none-right (Some a) y e = absurd (false≢true e)

-- ---- values that fit their fields, as the layout `has` has them

abbrev pub FitField : Bool → ℕ → ℕ → Value → Type 0
FitField true w n None = ⊥
FitField true w n (Some xs) = (length xs ≡ n) × Below w xs
FitField false w n None = Unit {0}
FitField false w n (Some xs) = ⊥

abbrev pub Fit : (Bits → Bool) → List Field → List Value → Type 0
Fit has [] [] = Unit {0}
Fit has [] (v ∷ vs) = ⊥
Fit has (f ∷ fs) [] = ⊥
Fit has (f ∷ fs) (v ∷ vs) = FitField (has f.there) f.width f.times v × Fit has fs vs

missing-none : (b : Bool) (w n at : ℕ) → is_none (cond b (Some at) None) ≡ true → FitField b w n None
missing-none true w n at e = absurd (false≢true e)
missing-none false w n at e = tt

present-some : (b : Bool) (w n : ℕ) (xs : List ℕ) → Below w xs → not b ≡ false → eqb (length xs) n ≡ true → FitField b w n (Some xs)
present-some true w n xs t s c = (eqb-true (length xs) n c, t)
present-some false w n xs t s c = absurd (false≢true (sym s))

-- complete, nothing surplus, nothing missing: the values fit
pub fit : (from : Side) (caps e : ℕ) (fs : List Field) (vs : List Value) (at : ℕ) → Fitting fs vs → complete fs vs ≡ true → surplus caps fs vs ≡ false
    → is_none (bad_fields from caps e fs vs at) ≡ true → Fit (shared caps) fs vs
fit from caps e [] [] at t c s b = tt
fit from caps e [] (v ∷ vs) at t c s b = absurd t
fit from caps e (f ∷ fs) [] at t c s b = absurd t
fit from caps e (f ∷ fs) (None ∷ vs) at t c s b =
    let x : Option ℕ = cond (shared caps f.there) (Some at) None in
    let y : Option ℕ = bad_fields from caps e fs vs (at + size_of (shared caps) f) in
    (missing-none (shared caps f.there) f.width f.times at (is_none-left x y b), fit from caps e fs vs (at + size_of (shared caps) f) t c s (is_none-right x y b))
fit from caps e (f ∷ fs) (Some xs ∷ vs) at t c s b =
    let x : Option ℕ = bad_field from caps e f (Some xs) at in
    let y : Option ℕ = bad_fields from caps e fs vs (at + size_of (shared caps) f) in (
      present-some (shared caps f.there) f.width f.times xs t.0 (or_parts (not (shared caps f.there)) (surplus caps fs vs) s).0
          (and_parts (eqb (length xs) f.times) (complete fs vs) c).0,
      fit from caps e fs vs (at + size_of (shared caps) f) t.1 (and_parts (eqb (length xs) f.times) (complete fs vs) c).1
          (or_parts (not (shared caps f.there)) (surplus caps fs vs) s).1 (is_none-right x y b),
    )

-- ---- the numbers of a field

numbers-shift : (w n : ℕ) (p s : List ℕ) (at : ℕ) → numbers w n (p ++ s) (length p + at) ≡ numbers w n s at
numbers-shift w zero p s at = refl
numbers-shift w (suc n) p s at = rw (le-shift p s w at, add_assoc (length p) at w, numbers-shift w n p s (at + w))

-- what stands after p is read as if p were not there
pub numbers_after : (w n k : ℕ) (p s : List ℕ) → length p ≡ k → numbers w n (p ++ s) k ≡ numbers w n s 0
numbers_after w n k p s e = ap (numbers w n (p ++ s)) (sym (add-zero (length p) ∙ e)) ∙ numbers-shift w n p s 0

numbers-back : (w : ℕ) (xs r : List ℕ) → Below w xs → numbers w (length xs) (bytes_of_all w xs ++ r) 0 ≡ xs
numbers-back w [] r h = refl
numbers-back w (x ∷ xs) r h =
    rw (
      append_assoc (bytes_of w x) (bytes_of_all w xs) r,
      zero-add w,
      le_bytes w x (bytes_of_all w xs ++ r) h.0,
      numbers_after w (length xs) w (bytes_of w x) (bytes_of_all w xs ++ r) (length-bytes w x),
      numbers-back w xs r h.1,
    )

pub length-all : (w : ℕ) (xs : List ℕ) → length (bytes_of_all w xs) ≡ w * length xs
length-all w [] = sym (mul-zero w)
length-all w (x ∷ xs) = rw (length-append, length-bytes w x, length-all w xs, mul-suc) (add_comm w (w * length xs))

-- ---- one field

value-size : (b : Bool) (w n : ℕ) (v : Value) → FitField b w n v → length (bytes_of_value w v) ≡ cond b (w * n) 0
value-size true w n None h = absurd h
value-size true w n (Some xs) h = length-all w xs ∙ ap (λ (m : ℕ). w * m) h.0
value-size false w n None h = refl
value-size false w n (Some xs) h = absurd h

value-back : (b : Bool) (f : Field) (v : Value) (r : List ℕ) → FitField b f.width f.times v → cond b (Some (whole f (bytes_of_value f.width v ++ r))) None ≡ v
value-back true f None r h = absurd h
value-back true f (Some xs) r h =
    let w : ℕ = f.width in
    let e : length (bytes_of_all w xs) ≡ w * f.times = length-all w xs ∙ ap (λ (m : ℕ). w * m) h.0 in
    let l : w * f.times ≤ length (bytes_of_all w xs ++ r) = omega (arith, e, length-append (bytes_of_all w xs) r) in
    rw (le-leb (w * f.times) (length (bytes_of_all w xs ++ r)) l)
    (ap Some (subst (λ (m : ℕ). numbers w m (bytes_of_all w xs ++ r) 0 ≡ xs) h.0 (numbers-back w xs r h.1)))
value-back false f None r h = refl
value-back false f (Some xs) r h = absurd h

-- ---- the fields

-- the values come back, whatever follows
pub round : (has : Bits → Bool) (fs : List Field) (vs : List Value) (q : List ℕ) → Fit has fs vs → split has fs (bytes fs vs ++ q) ≡ vs
round has [] [] q h = refl
round has [] (v ∷ vs) q h = absurd h
round has (f ∷ fs) [] q h = absurd h
round has (f ∷ fs) (v ∷ vs) q h =
    let b : List ℕ = bytes_of_value f.width v in
    rw (
      append_assoc b (bytes fs vs) q,
      value-back (has f.there) f v (bytes fs vs ++ q) h.0,
      drop_at b (bytes fs vs ++ q) (size_of has f) (value-size (has f.there) f.width f.times v h.0),
      round has fs vs q h.1,
    )

-- their bytes are as many as the layout says
pub length-of : (has : Bits → Bool) (fs : List Field) (vs : List Value) → Fit has fs vs → length (bytes fs vs) ≡ size has fs
length-of has [] [] h = refl
length-of has [] (v ∷ vs) h = absurd h
length-of has (f ∷ fs) [] h = absurd h
length-of has (f ∷ fs) (v ∷ vs) h = rw (length-append, value-size (has f.there) f.width f.times v h.0, length-of has fs vs h.1)

-- what follows the fields comes back too
pub rest_back : (has : Bits → Bool) (fs : List Field) (vs : List Value) (q : List ℕ) → Fit has fs vs → drop (size has fs) (bytes fs vs ++ q) ≡ q
rest_back has fs vs q h = drop_at (bytes fs vs) q (size has fs) (length-of has fs vs h)

-- ---- what is read

pub length-numbers : (w n : ℕ) (s : List ℕ) (at : ℕ) → length (numbers w n s at) ≡ n
length-numbers w zero s at = refl
length-numbers w (suc n) s at = ap suc (length-numbers w n s (at + w))

split_at : (k n : ℕ) (s : List ℕ) → n ≤ length s → leb k (length (drop n s)) ≡ leb (n + k) (length s)
split_at k n s h = go (leb k (length (drop n s))) refl
  where
    go : (b : Bool) → leb k (length (drop n s)) ≡ b → leb k (length (drop n s)) ≡ leb (n + k) (length s)
    go true t = t ∙ sym (le-leb (n + k) (length s) (omega (arith, leb-true k (length (drop n s)) t, length-drop n s)))
    go false t = t ∙ sym (lt-leb (n + k) (length s) (omega (arith, leb-false k (length (drop n s)) t, length-drop n s)))

-- a field is whole where all its bytes are there
whole-complete : (f : Field) (s : List ℕ) (r : Bool) → (eqb (length (whole f s)) f.times && r) ≡ (leb (f.width * f.times) (length s) && r)
whole-complete f s r = go (leb (f.width * f.times) (length s)) refl
  where
    none-there : (t : ℕ) → t ≡ f.times → leb (f.width * f.times) (length s) ≡ false → eqb 0 t ≡ false
    none-there zero e h =
        let l : length s < f.width * f.times = leb-false (f.width * f.times) (length s) h in
        absurd (omega (arith, l, ap (λ (m : ℕ). f.width * m) (sym e), mul-zero f.width))
    none-there (suc t) e h = eqb-zero-suc t

    go : (b : Bool) → leb (f.width * f.times) (length s) ≡ b → (eqb (length (whole f s)) f.times && r) ≡ (leb (f.width * f.times) (length s) && r)
    go true t = rw (t, eq-eqb (length (numbers f.width f.times s 0)) f.times (length-numbers f.width f.times s 0))
    go false t = rw (t, none-there f.times refl t)

-- all fields have their numbers exactly where the bytes are as many as the layout says
pub complete-split : (has : Bits → Bool) (fs : List Field) (s : List ℕ) → complete fs (split has fs s) ≡ leb (size has fs) (length s)
complete-split has [] s = sym (leb-zero (length s))
complete-split has (f ∷ fs) s = go (has f.there) refl (complete-split has fs (drop (size_of has f) s))
  where
    -- a field that is not there has no bytes; one that is there needs its own, and the others those behind them
    go : (b : Bool) → has f.there ≡ b → complete fs (split has fs (drop (size_of has f) s)) ≡ leb (size has fs) (length (drop (size_of has f) s))
        → complete (f ∷ fs) (split has (f ∷ fs) s) ≡ leb (size has (f ∷ fs)) (length s)
    go false e ih = rw e (rw e at ih ∙ ap (λ (m : ℕ). leb m (length s)) (sym (zero-add (size has fs))))
    go true e ih =
        let n : ℕ = f.width * f.times in
        let i : complete fs (split has fs (drop n s)) ≡ leb (size has fs) (length (drop n s)) = rw e at ih in
        rw (e, whole-complete f s (complete fs (split has fs (drop n s))), i) (there (leb n (length s)) refl)
      where
        there : (b : Bool) → leb (f.width * f.times) (length s) ≡ b
            → (leb (f.width * f.times) (length s) && leb (size has fs) (length (drop (f.width * f.times) s))) ≡ leb (f.width * f.times + size has fs) (length s)
        there true t = rw t (split_at (size has fs) (f.width * f.times) s (leb-true (f.width * f.times) (length s) t))
        there false t =
            let l : length s < f.width * f.times = leb-false (f.width * f.times) (length s) t in
            rw t (sym (lt-leb (f.width * f.times + size has fs) (length s) (omega arith)))

-- the fields that stand in s from a place on, each read where it stands
abbrev values_at : (Bits → Bool) → List Field → List ℕ → ℕ → List Value
values_at has [] s at = []
values_at has (f ∷ fs) s at = cond (has f.there) (Some (numbers f.width f.times s at)) None ∷ values_at has fs s (at + size_of has f)

numbers-drop : (w n k : ℕ) (s : List ℕ) → k ≤ length s → numbers w n (drop k s) 0 ≡ numbers w n s k
numbers-drop w n k s h = sym (numbers_after w n k (take k s) (drop k s) (length-take-le k s h)) ∙ ap (λ (r : List ℕ). numbers w n r k) (take-append-drop k s)

-- where all bytes are there, splitting them is reading each field where it stands
split_from : (has : Bits → Bool) (fs : List Field) (s : List ℕ) (k : ℕ) → k ≤ length s → size has fs ≤ length (drop k s) → split has fs (drop k s) ≡ values_at has fs s k
split_from has [] s k l h = refl
split_from has (f ∷ fs) s k l h =
    let n : ℕ = size_of has f in
    let d : length (drop k s) ≡ length s - k = length-drop k s in
    let e : drop n (drop k s) ≡ drop (k + n) s = drop-drop n k s in
    let m : size has fs ≤ length (drop (k + n) s) = rw (length-drop (k + n) s) (omega arith) in
    let ih : split has fs (drop (k + n) s) ≡ values_at has fs s (k + n) = split_from has fs s (k + n) (omega arith) m in
    let v : cond (has f.there) (Some (whole f (drop k s))) None ≡ cond (has f.there) (Some (numbers f.width f.times s k)) None =
    read-there (has f.there) f s k l (omega arith) in
    rw (e, ih, v)
  where
    read-there : (b : Bool) (g : Field) (t : List ℕ) (j : ℕ) → j ≤ length t → cond b (g.width * g.times) 0 ≤ length (drop j t)
        → cond b (Some (whole g (drop j t))) None ≡ cond b (Some (numbers g.width g.times t j)) None
    read-there true g t j a z = rw (le-leb (g.width * g.times) (length (drop j t)) z) (ap Some (numbers-drop g.width g.times j t a))
    read-there false g t j a z = refl

pub split-full : (has : Bits → Bool) (fs : List Field) (s : List ℕ) → size has fs ≤ length s → split has fs s ≡ values_at has fs s 0
split-full has fs s h = split_from has fs s 0 (omega arith) h

-- ---- what is read from bytes fits

below-numbers : (s : List ℕ) → ((k : ℕ) → get_or s k 0 < 256) → (w n at : ℕ) → Below w (numbers w n s at)
below-numbers s b w zero at = tt
below-numbers s b w (suc n) at = (le-lt s b w at, below-numbers s b w n (at + w))

below-whole : (f : Field) (s : List ℕ) → ((k : ℕ) → get_or s k 0 < 256) → Below f.width (whole f s)
below-whole f s b = go (leb (f.width * f.times) (length s))
  where
    go : (t : Bool) → Below f.width (cond t (numbers f.width f.times s 0) [])
    go true = below-numbers s b f.width f.times 0
    go false = tt

pub fitting-split : (has : Bits → Bool) (fs : List Field) (s : List ℕ) → ((k : ℕ) → get_or s k 0 < 256) → Fitting fs (split has fs s)
fitting-split has [] s b = tt
fitting-split has (f ∷ fs) s b = go (has f.there) (fitting-split has fs (drop (size_of has f) s) (λ k. rw (get_or-drop (size_of has f) s k 0) (b (size_of has f + k))))
  where
    go : (t : Bool) → Fitting fs (split has fs (drop (size_of has f) s)) → Fitting (f ∷ fs) (cond t (Some (whole f s)) None ∷ split has fs (drop (size_of has f) s))
    go true ih = (below-whole f s b, ih)
    go false ih = ih

pub fitting-append : (fs : List Field) (vs ws : List Value) → Fitting (take (length vs) fs) vs → Fitting (drop (length vs) fs) ws → Fitting fs (vs ++ ws)
fitting-append fs [] ws h k = k
fitting-append [] (v ∷ vs) ws h k = absurd h
fitting-append (f ∷ fs) (None ∷ vs) ws h k = fitting-append fs vs ws h k
fitting-append (f ∷ fs) (Some xs ∷ vs) ws h k = (h.0, fitting-append fs vs ws h.1 k)

-- ---- ids

-- an id of at most 8 bytes is too wide where its width is 4
pub wide-id : (hello wide : Bool) (id : ℕ) → id < 256 ^ 8
    → (not hello && leb (256 ^ cond (not hello && wide) 8 4) id) ≡ (not hello && not wide && leb 4294967296 id)
wide-id true wide id h = refl
wide-id false true id h = lt-leb (256 ^ 8) id h
wide-id false false id h = refl

-- ---- a rule that no number of a field breaks

-- where the search for a number that fails finds none, each of the n numbers keeps the rule
each-good : (ok : ℕ → Bool) (w n i at : ℕ) → is_none (first_bad ok w n i at) ≡ true → (k : ℕ) → k < n → ok (i + k) ≡ true
each-good ok w zero i at e k h = absurd (omega arith)
each-good ok w (suc n) i at e k h = go k h (good (ok i) e) (each-good ok w n (suc i) (at + w))
  where
    -- the first number keeps it, and so do those behind it
    good : (b : Bool) → is_none (cond b (first_bad ok w n (suc i) (at + w)) (Some at)) ≡ true → (b ≡ true) × (is_none (first_bad ok w n (suc i) (at + w)) ≡ true)
    good true t = (refl, t)
    good false t = absurd (false≢true t)

    go : (k : ℕ) → k < suc n → (ok i ≡ true) × (is_none (first_bad ok w n (suc i) (at + w)) ≡ true)
        → (is_none (first_bad ok w n (suc i) (at + w)) ≡ true → (k : ℕ) → k < n → ok (suc i + k) ≡ true) → ok (i + k) ≡ true
    go zero l g ih = rw (add-zero i) g.0
    go (suc k) l g ih = rw (add-suc i k, ← suc-add i k) (ih g.1 k (omega arith))

-- where no field breaks its rule, each number of the first keeps it
pub first_good : (from : Side) (caps e : ℕ) (f : Field) (fs : List Field) (xs : List ℕ) (vs : List Value) (at : ℕ) → is_none (bad_fields from caps e (f ∷ fs) (Some xs ∷ vs) at) ≡ true
    → (k : ℕ) → k < f.times → holds f.rule from caps e xs k ≡ true
first_good from caps e f fs xs vs at b k h =
    let good = is_none-left (bad_field from caps e f (Some xs) at) (bad_fields from caps e fs vs (at + size_of (shared caps) f)) b in
    rw (← zero-add k) (each-good (holds f.rule from caps e xs) f.width f.times 0 at good k h)
