-- The laws of numbers in bytes, each over the width: what is written is read back (`le_bytes`), behind other bytes (`le-shift`, `le-drop`) and
-- before them (`le-front`), and n bytes spell a number below 256 to the n (`le-lt`). Of stores into a list and of parts of one: two runs of
-- stores are one (`sets-append`), and a part can be cut out from either end first (`drop-take`).
-- By induction over the width: the first byte is the remainder by 256, and those behind it spell the quotient. What stands in front is taken off
-- byte by byte (`le-cons`); runs of stores and parts go by induction over the first.
-- Assumes nothing.
use mathlib.Core.Path.{◌≡◌, refl, sym, ap, ap₂, ◌∙◌}
use mathlib.Core.List.{List, [], ◌∷◌, ◌++◌}
use Prim.Native.Nat.{ℕ, zero, suc, ◌+◌, ◌-◌, ◌*◌, ◌/◌, ◌%◌, ◌^◌, ◌≤◌, ◌<◌}
use native.Mathlib.Nat.{pow-suc, zero-add, suc-add, add-suc, add-zero, sub-zero, zero-sub, suc-sub-suc}
use native.Mathlib.Omega.{arith}
use lib.ListN.{length, get_or, set, drop, get_or-append, take, length-append}
use lib.Seq.{sets, get_or-drop, take-nil, set_out, sets-eq, length-take-le, take_at}
use lib.Dec.{lit<}
use Rattle.octets.specs.Little.{le, bytes_of}

pub le-cons : (b : ℕ) (s : List ℕ) (n at : ℕ) → le n (b ∷ s) (suc at) ≡ le n s at
le-cons b s zero at = refl
le-cons b s (suc n) at = ap (λ (m : ℕ). get_or s at 0 + 256 * m) (le-cons b s n (suc at))

-- what is read is what was written, for any width that holds it, whatever follows
pub le_bytes : (n x : ℕ) (q : List ℕ) → x < 256 ^ n → le n (bytes_of n x ++ q) 0 ≡ x
le_bytes zero x q h = omega arith
le_bytes (suc n) x q h =
    let l : x / 256 < 256 ^ n = omega (arith, pow-suc 256 n) in
    let e : le n (x % 256 ∷ bytes_of n (x / 256) ++ q) 1 ≡ x / 256 = le-cons (x % 256) (bytes_of n (x / 256) ++ q) n 0 ∙ le_bytes n (x / 256) q l in
    omega (arith, e)

-- what stands after p is read as if p were not there
pub le-shift : (p s : List ℕ) (n at : ℕ) → le n (p ++ s) (length p + at) ≡ le n s at
le-shift [] s n at = ap (le n s) (zero-add at)
le-shift (b ∷ p) s n at = ap (le n (b ∷ p ++ s)) (suc-add (length p) at) ∙ le-cons b (p ++ s) n (length p + at) ∙ le-shift p s n at

pub le-after : (p s : List ℕ) (n k : ℕ) → length p ≡ k → le n (p ++ s) k ≡ le n s 0
le-after p s n k e = ap (le n (p ++ s)) (sym (add-zero (length p) ∙ e)) ∙ le-shift p s n 0

-- n bytes spell a number below 256 to the n
pub le-lt : (s : List ℕ) → ((k : ℕ) → get_or s k 0 < 256) → (n at : ℕ) → le n s at < 256 ^ n
le-lt s b zero at = lit< tt
le-lt s b (suc n) at = omega (arith, le-lt s b n (suc at), b at, pow-suc 256 n)

pub length-bytes : (n x : ℕ) → length (bytes_of n x) ≡ n
length-bytes zero x = refl
length-bytes (suc n) x = ap suc (length-bytes n (x / 256))

-- two runs of stores are one
pub sets-append : (l : List ℕ) (i : ℕ) (xs ys : List ℕ) → sets l i (xs ++ ys) ≡ sets (sets l i xs) (i + length xs) ys
sets-append l i [] ys = rw add-zero
sets-append l i (x ∷ xs) ys =
    let e : suc i + length xs ≡ i + suc (length xs) = omega arith in
    sets-append (set l i x) (suc i) xs ys ∙ ap (λ (m : ℕ). sets (sets (set l i x) (suc i) xs) m ys) e

-- past the end nothing is stored
pub sets-out : (l xs : List ℕ) (i : ℕ) → length l ≤ i → sets l i xs ≡ l
sets-out l [] i h = refl
sets-out l (x ∷ xs) i h = rw (set_out l i x h) (sets-out l xs (suc i) (omega arith))

-- what is stored behind the front of a list follows it
pub take-sets : (l xs : List ℕ) (i : ℕ) → i + length xs ≤ length l → take (i + length xs) (sets l i xs) ≡ take i l ++ xs
take-sets l xs i h =
    let n : length (take i l ++ xs) ≡ i + length xs = omega (arith, length-append (take i l) xs, length-take-le i l (omega arith)) in
    ap (take (i + length xs)) (sets-eq xs l i h)
    ∙ take_at (take i l ++ xs) (drop (i + length xs) l) (i + length xs) n

-- what is read behind a place is read as if that were the first
pub le-drop : (n k : ℕ) (s : List ℕ) (at : ℕ) → le n (drop k s) at ≡ le n s (k + at)
le-drop zero k s at = refl
le-drop (suc n) k s at = rw (get_or-drop k s at 0, le-drop n k s (suc at), add-suc k at)

-- a number whose bytes all stand in a is read off a alone
pub le-front : (n : ℕ) (a b : List ℕ) (at : ℕ) → at + n ≤ length a → le n (a ++ b) at ≡ le n a at
le-front zero a b at h = refl
le-front (suc n) a b at h =
    ap₂ (λ (x y : ℕ). x + 256 * y) (get_or-append a b 0 at (omega arith)) (le-front n a b (suc at) (omega arith))

-- the two ways to cut a part out of the middle
pub drop-take : (a e : ℕ) (s : List ℕ) → drop a (take e s) ≡ take (e - a) (drop a s)
drop-take zero e s = rw sub-zero
drop-take (suc a) zero s = rw zero-sub
drop-take (suc a) (suc e) [] = rw take-nil
drop-take (suc a) (suc e) (x ∷ s) = rw suc-sub-suc (drop-take a e s)
