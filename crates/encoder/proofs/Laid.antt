-- Runs of stores, one behind the other, are one run: the header's three numbers, the packet's numbers, the rows and the rest, laid one by one, are
-- the packet (`laid_out_lem`), and so are numbers in their widths (`lay-on`); a run from the front is that run with what was behind it (`laid`).
-- Each run starts where the one before it ends, so `sets-append` joins two of them (`behind`), from the last pair to the first.
-- Assumes nothing.
use mathlib.Core.Path.{◌≡◌, refl, sym, ap, ◌∙◌}
use mathlib.Core.List.{List, ◌++◌}
use Prim.Native.Nat.{ℕ, suc, ◌+◌, ◌-◌, ◌≤◌, ◌<◌}
use native.Mathlib.Nat.{zero-add}
use native.Mathlib.Numerals.{add-one}
use native.Mathlib.Omega.{arith}
use lib.ListN.{length, get_or, drop, length-append}
use lib.Seq.{sets, sets-eq, drop-cons}
use Rattle.octets.specs.Little.{bytes_of}
use Rattle.octets.proofs.Integers.{length-bytes, sets-append}
use Rattle.packet.specs.Fields.{in_widths}
use Rattle.encoder.specs.Layout.{laid_out}

-- a run behind another
behind : (out : List ℕ) (i n : ℕ) (xs ys : List ℕ) → length xs ≡ n → sets (sets out i xs) (i + n) ys ≡ sets out i (xs ++ ys)
behind out i n xs ys e = rw (← e) (sym (sets-append out i xs ys))

-- the header's three numbers, the packet's numbers, the rows and the rest
pub laid_out_lem : (out : List ℕ) (width kind id size : ℕ) (numbers rows rest : List ℕ)
    → sets (sets (sets (sets (sets (sets out 0 (bytes_of 4 kind)) 4 (bytes_of 4 size)) 8 (bytes_of width id)) (8 + width) numbers) (8 + width + length numbers) rows)
    (8 + width + length numbers + length rows) rest
    ≡ sets out 0 (laid_out width kind id size numbers rows rest)
laid_out_lem out width kind id size numbers rows rest =
    let a : List ℕ = bytes_of 4 kind in
    let b : List ℕ = bytes_of 4 size in
    let d : List ℕ = bytes_of width id in
    let x : List ℕ = sets out 0 a in
    let y : List ℕ = sets x 4 b in
    let z : List ℕ = sets y 8 d in
    behind (sets z (8 + width) numbers) (8 + width + length numbers) (length rows) rows rest refl
    ∙ behind z (8 + width) (length numbers) numbers (rows ++ rest) refl
    ∙ behind y 8 width d (numbers ++ (rows ++ rest)) (length-bytes width id)
    ∙ behind x 4 4 b (d ++ (numbers ++ (rows ++ rest))) refl
    ∙ behind out 0 4 a (b ++ (d ++ (numbers ++ (rows ++ rest)))) refl

-- one number more in front of those that are still to be laid
pub numbers_on : (n i : ℕ) (ws xs : List ℕ) → i < n → i < length ws → i < length xs
    → in_widths (n - i) (drop i ws) (drop i xs) ≡ bytes_of (get_or ws i 0) (get_or xs i 0) ++ in_widths (n - (i + 1)) (drop (i + 1) ws) (drop (i + 1) xs)
numbers_on n i ws xs h hw hx =
    let e : n - i ≡ suc (n - (i + 1)) = omega arith in
    rw (e, drop-cons ws i 0, drop-cons xs i 0, add-one i)

-- and laid
pub lay-on : (out : List ℕ) (at n i : ℕ) (ws xs : List ℕ) → i < n → i < length ws → i < length xs
    → sets (sets out at (bytes_of (get_or ws i 0) (get_or xs i 0))) (at + get_or ws i 0) (in_widths (n - (i + 1)) (drop (i + 1) ws) (drop (i + 1) xs))
    ≡ sets out at (in_widths (n - i) (drop i ws) (drop i xs))
lay-on out at n i ws xs h hw hx =
    behind out at (get_or ws i 0) (bytes_of (get_or ws i 0) (get_or xs i 0)) (in_widths (n - (i + 1)) (drop (i + 1) ws) (drop (i + 1) xs)) (length-bytes (get_or ws i 0) (get_or xs i 0))
    ∙ ap (sets out at) (sym (numbers_on n i ws xs h hw hx))

pub length-on : (at n i : ℕ) (ws xs : List ℕ) → i < n → i < length ws → i < length xs
    → at + get_or ws i 0 + length (in_widths (n - (i + 1)) (drop (i + 1) ws) (drop (i + 1) xs)) ≡ at + length (in_widths (n - i) (drop i ws) (drop i xs))
length-on at n i ws xs h hw hx =
    let r : List ℕ = in_widths (n - (i + 1)) (drop (i + 1) ws) (drop (i + 1) xs) in
    let e : length (in_widths (n - i) (drop i ws) (drop i xs)) ≡ length (bytes_of (get_or ws i 0) (get_or xs i 0) ++ r) = ap length (numbers_on n i ws xs h hw hx) in
    omega (arith, e, length-append (bytes_of (get_or ws i 0) (get_or xs i 0)) r, length-bytes (get_or ws i 0) (get_or xs i 0))

-- a run from the front, where there is room for it
pub laid : (out b : List ℕ) → length b ≤ length out → sets out 0 b ≡ b ++ drop (length b) out
laid out b h = sets-eq b out 0 (rw zero-add h) ∙ ap (λ (k : ℕ). b ++ drop k out) (zero-add (length b))
