-- What the bytes of a number are: below a power of 256 (`below`), the same taken out of a slice (`le-taken`), and laid one by one (`bytes-step`). What one
-- turn of a copy lays (`lay-step`), and that no more is left than has room (`lay-none`); how a part is cut to what there is (`slice-min`).
-- A turn of a loop makes the count that is left a successor, and `bytes_of` computes one step. The others go by induction over the count and the list:
-- past the end there is nothing to take, to drop or to change.
-- Assumes nothing.
use mathlib.Core.Path.{◌≡◌, refl, sym, ap, ap₂, ◌∙◌}
use mathlib.Core.List.{List, [], ◌∷◌}
use Prim.Native.Nat.{ℕ, zero, suc, ◌+◌, ◌-◌, ◌*◌, ◌/◌, ◌%◌, ◌^◌, ◌≤◌, ◌<◌, min}
use native.Mathlib.Nat.{add-zero, pow-le-pow_right, zero-lt-suc, zero-min, min-zero, suc-min-suc}
use native.Mathlib.Numerals.{add-one}
use native.Mathlib.Omega.{arith}
use lib.ListN.{length, get_or, set, take, drop, length-take, drop_of_length-le}
use lib.Seq.{drop-cons, sets, slice, get_or-take}
use lib.Dec.{leb}
use Rattle.std.proofs.Common.{Fits, w8}
use borrow.Author.Tests.{leb-true, leb-false}
use borrow.Table.Steps.{cases}
use Rattle.octets.specs.Little.{le, bytes_of}
use Rattle.octets.proofs.Integers.{le-lt, le-drop, sets-out}

-- n bytes spell a number below 256 to the m, for any m from n on
pub below : (s : List ℕ) → ((k : ℕ) → Fits w8 (get_or s k 0)) → (n m at : ℕ) → n ≤ m → le n s at < 256 ^ m
below s b n m at h =
    let l : 256 ^ n ≤ 256 ^ m = pow-le-pow_right (zero-lt-suc 255) h in
    omega (arith, le-lt s (λ k. let f = b k in omega arith) n at, l)

-- n bytes that were taken out spell what they spell in their place
le-take : (n k : ℕ) (s : List ℕ) (at : ℕ) → at + n ≤ k → le n (take k s) at ≡ le n s at
le-take zero k s at h = refl
le-take (suc n) k s at h = ap₂ (λ (x y : ℕ). x + 256 * y) (get_or-take k s at 0 (omega arith)) (le-take n k s (suc at) (omega arith))

pub le-taken : {b : List ℕ} (s : List ℕ) (at n : ℕ) → b ≡ take n (drop at s) → le n b 0 ≡ le n s at
le-taken s at n e = rw (e, le-take n n (drop at s) 0 (omega arith), le-drop, add-zero) refl

-- one byte less, off the front of what is still to be laid
pub bytes-step : (out : List ℕ) (at n i y : ℕ) → i < n
    → sets out (at + i) (bytes_of (n - i) y) ≡ sets (set out (at + i) (y % 256)) (at + (i + 1)) (bytes_of (n - (i + 1)) (y / 256))
bytes-step out at n i y h =
    let e₁ : n - i ≡ suc (n - (i + 1)) = omega arith in
    let e₂ : suc (at + i) ≡ at + (i + 1) = omega arith in
    rw e₁ (ap (λ (m : ℕ). sets (set out (at + i) (y % 256)) m (bytes_of (n - (i + 1)) (y / 256))) e₂)

-- one element less, off the front of what is still to be laid
pub lay-step : (out s : List ℕ) (at i : ℕ) → i < length s
    → sets out (at + i) (drop i s) ≡ sets (set out (at + i) (get_or s i 0)) (at + (i + 1)) (drop (i + 1) s)
lay-step out s at i h =
    let e : suc (at + i) ≡ at + (i + 1) = omega arith in
    rw (drop-cons s i 0) (ap (λ (m : ℕ). sets (set out (at + i) (get_or s i 0)) m (drop (suc i) s)) e ∙ ap (λ (m : ℕ). sets (set out (at + i) (get_or s i 0)) (at + (i + 1)) (drop m s)) (sym (add-one i)))

-- so nothing is left to be laid once i is as many as there are, or as there is room for
pub lay-none : (out s : List ℕ) (at i : ℕ) → min (length s) (length out - at) ≤ i → sets out (at + i) (drop i s) ≡ out
lay-none out s at i h = cases (leb (length s) i) (λ e. rw (drop_of_length-le s (leb-true (length s) i e))) (λ e. let l : i < length s = leb-false (length s) i e in sets-out out (drop i s) (at + i) (omega arith))

-- there is no more to take or to drop than there is
take_min : (n : ℕ) (s : List ℕ) → take (min n (length s)) s ≡ take n s
take_min zero s = rw zero-min
take_min (suc n) [] = rw min-zero
take_min (suc n) (x ∷ s) = rw suc-min-suc (ap (λ (r : List ℕ). x ∷ r) (take_min n s))

drop_min : (n : ℕ) (s : List ℕ) → drop (min n (length s)) s ≡ drop n s
drop_min zero s = rw zero-min
drop_min (suc n) [] = rw min-zero
drop_min (suc n) (x ∷ s) = rw suc-min-suc (drop_min n s)

-- a part goes no further than there is
pub slice-min : (a e : ℕ) (s : List ℕ) → slice (min a (min e (length s))) (min e (length s)) s ≡ slice a e s
slice-min a e s = rw (take_min, ← length-take, drop_min)
