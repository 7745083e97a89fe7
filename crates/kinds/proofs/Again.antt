-- What is read off bytes and written again is what was there, over any list of fields (`again`); and the bytes of values are those of the first
-- and then those of the others (`bytes-append`).
-- By induction over the fields, the numbers of a field and the bytes of a number: each byte is below 256, so that the remainder by 256 gives it
-- back and the quotient those behind it (`number-again`).
-- Assumes nothing.
use Rattle.std.specs.Prelude.{Some, None}
use mathlib.Core.Path.{◌≡◌, refl, sym, ap, subst, ◌∙◌}
use mathlib.Core.Bool.{Bool, true, false, cond}
use mathlib.Core.List.{List, [], ◌∷◌, ◌++◌, append_assoc}
use Prim.Native.Nat.{ℕ, zero, suc, ◌+◌, ◌*◌, ◌/◌, ◌%◌, ◌≤◌, ◌<◌}
use native.Mathlib.Nat.{zero-add, mul-suc, mul-zero, add_comm, not-suc-le-zero, le_of_suc-le-suc}
use native.Mathlib.Omega.{arith}
use lib.ListN.{length, get_or, take, drop, take-append-drop, length-drop}
use lib.Seq.{drop-drop, get_or-drop, length-take-le}
use lib.Dec.{lit<}
use borrow.Author.Tests.{le-leb}
use Rattle.octets.specs.Little.{le, bytes_of}
use Rattle.octets.proofs.Integers.{le-cons}
use Rattle.kinds.specs.Table.{Bits, Field}
use Rattle.kinds.specs.Content.{Value, size_of, size, numbers, whole, split, bytes_of_all, bytes_of_value, bytes}
use Rattle.kinds.proofs.FieldBytes.{numbers_after}

-- every byte is one
abbrev pub Octets : List ℕ → Type 0
Octets s = (k : ℕ) → get_or s k 0 < 256

pub octets-drop : (n : ℕ) (s : List ℕ) → Octets s → Octets (drop n s)
octets-drop n s b k = subst (λ (x : ℕ). x < 256) (sym (get_or-drop n s k 0)) (b (n + k))

pub octets-take : (n : ℕ) (s : List ℕ) → Octets s → Octets (take n s)
octets-take zero s b k = lit< tt
octets-take (suc n) [] b k = lit< tt
octets-take (suc n) (x ∷ s) b zero = b 0
octets-take (suc n) (x ∷ s) b (suc k) = octets-take n s (λ j. b (suc j)) k

-- one number
pub number-again : (w : ℕ) (s : List ℕ) → Octets s → w ≤ length s → bytes_of w (le w s 0) ++ drop w s ≡ s
number-again zero s b h = refl
number-again (suc w) [] b h = absurd (not-suc-le-zero h)
number-again (suc w) (x ∷ s) b h =
    let c : x < 256 = b 0 in
    let m : ℕ = le w s 0 in
    let e : (x + 256 * m) % 256 ≡ x = omega arith in
    let f : (x + 256 * m) / 256 ≡ m = omega arith in
    rw (le-cons x s w 0, e, f) (ap (λ (r : List ℕ). x ∷ r) (number-again w s (λ k. b (suc k)) (le_of_suc-le-suc h)))

numbers-from : (w n : ℕ) (s : List ℕ) → w ≤ length s → numbers w n s w ≡ numbers w n (drop w s) 0
numbers-from w n s h = ap (λ (r : List ℕ). numbers w n r w) (sym (take-append-drop w s)) ∙ numbers_after w n w (take w s) (drop w s) (length-take-le w s h)

-- the numbers of a field
numbers-again : (w n : ℕ) (s : List ℕ) → Octets s → w * n ≤ length s → bytes_of_all w (numbers w n s 0) ++ drop (w * n) s ≡ s
numbers-again w zero s b h = rw (mul-zero w)
numbers-again w (suc n) s b h =
    let e : w * suc n ≡ w + w * n = mul-suc w n ∙ add_comm (w * n) w in
    let l : w ≤ length s = omega (arith, e) in
    let g : w * n ≤ length (drop w s) = rw (length-drop w s) (omega (arith, e)) in
    rw (
      e,
      sym (drop-drop (w * n) w s),
      zero-add w,
      numbers-from w n s l,
      append_assoc (bytes_of w (le w s 0)) (bytes_of_all w (numbers w n (drop w s) 0)) (drop (w * n) (drop w s)),
      numbers-again w n (drop w s) (octets-drop w s b) g,
    )
    (number-again w s b l)

-- a field, there or not
value-again : (t : Bool) (f : Field) (s : List ℕ) → Octets s → cond t (f.width * f.times) 0 ≤ length s
    → bytes_of_value f.width (cond t (Some (whole f s)) None) ++ drop (cond t (f.width * f.times) 0) s ≡ s
value-again true f s b h = rw (le-leb (f.width * f.times) (length s) h) (numbers-again f.width f.times s b h)
value-again false f s b h = refl

-- fields, with what follows them
pub again : (has : Bits → Bool) (fs : List Field) (s : List ℕ) → Octets s → size has fs ≤ length s → bytes fs (split has fs s) ++ drop (size has fs) s ≡ s
again has [] s b h = refl
again has (f ∷ fs) s b h =
    let k : ℕ = size_of has f in
    let l : k ≤ length s = omega arith in
    let g : size has fs ≤ length (drop k s) = rw (length-drop k s) (omega arith) in
    rw (
      sym (drop-drop (size has fs) k s),
      append_assoc (bytes_of_value f.width (cond (has f.there) (Some (whole f s)) None)) (bytes fs (split has fs (drop k s))) (drop (size has fs) (drop k s)),
      again has fs (drop k s) (octets-drop k s b) g,
    )
    (value-again (has f.there) f s b l)

-- the bytes of values are those of the first ones and then those of the others
pub bytes-append : (fs : List Field) (vs ws : List Value) → bytes fs (vs ++ ws) ≡ bytes fs vs ++ bytes (drop (length vs) fs) ws
bytes-append [] [] ws = refl
bytes-append [] (v ∷ vs) ws = refl
bytes-append (f ∷ fs) [] ws = refl
bytes-append (f ∷ fs) (v ∷ vs) ws =
    rw (bytes-append fs vs ws) (sym (append_assoc (bytes_of_value f.width v) (bytes fs vs) (bytes (drop (length vs) fs) ws)))
