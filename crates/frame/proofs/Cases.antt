-- What bytes are, case by case, in the values that the code has: the header's size, its number, and the length that it says (`cut_short`,
-- `cut-refused`, `cut-part`, `cut-full`); how they are read across two slices (`le-beyond`, `beyond`), and what is completed in the buffer
-- (`completed-begun`).
-- The code compares the piece with what the held bytes lack, the definition all bytes with what they should be: one is the other by arithmetic on
-- lengths, and `cut_of` then computes from its three tests.
-- Assumes nothing.
use mathlib.Core.Path.{◌≡◌, sym, ap, ap₂, ◌∙◌}
use mathlib.Core.Bool.{true, false}
use mathlib.Core.List.{List, ◌++◌}
use Prim.Native.Nat.{ℕ, ◌+◌, ◌-◌, ◌≤◌, ◌<◌}
use native.Mathlib.Omega.{arith}
use lib.ListN.{length, get_or, take, length-append}
use lib.Seq.{sets, get_or-append-add}
use lib.Dec.{eqb}
use borrow.Author.Tests.{lt-ltb, le-ltb, ne_eqb}
use Rattle.octets.specs.Little.{le}
use Rattle.octets.proofs.Integers.{le-shift}
use Rattle.header.specs.declared.Link.{Link}
use Rattle.header.specs.Link.{id_width}
use Rattle.header.proofs.Widths.{id-widths}
use Rattle.header.specs.Header.{kind_of, length_of, header_size, header_number}
use Rattle.frame.specs.Cut.{cut_of}
use Rattle.frame.specs.Frame.{more_bytes, bad_header, whole_packet, head_size, head_number, cut_for, completed}

module _ (l : Link) (a b : List ℕ) (kind len w : ℕ) (ek : kind ≡ kind_of (a ++ b)) (el : len ≡ length_of (a ++ b)) (ew : w ≡ id_width l kind) where
  size_is : head_size l (a ++ b) ≡ 8 + w
  unfolding header_size
  size_is = ap (λ (k : ℕ). 8 + id_width l k) (sym ek) ∙ ap (λ (n : ℕ). 8 + n) (sym ew)

  number_is : (n : ℕ) → n ≡ header_number l kind len → head_number l (a ++ b) ≡ n
  number_is n en = ap₂ (header_number l) (sym ek) (sym el) ∙ sym en

  pub cut_short : length b < 8 + w - length a → more_bytes ≡ cut_for l (a ++ b)
  unfolding cut_for cut_of
  cut_short h =
      let g : length (a ++ b) < head_size l (a ++ b) = omega (arith, size_is, length-append a b) in
      rw (lt-ltb (length (a ++ b)) (head_size l (a ++ b)) g)

  module _ (h : 8 + w - length a ≤ length b) (n : ℕ) (en : n ≡ header_number l kind len) where
    header : head_size l (a ++ b) ≤ length (a ++ b)
    header = omega (arith, size_is, length-append a b)

    pub cut-refused : (n ≡ 0 → ⊥) → bad_header n (8 + w) ≡ cut_for l (a ++ b)
    unfolding cut_for cut_of
    cut-refused z =
        let t = le-ltb (length (a ++ b)) (head_size l (a ++ b)) header in
        let q : eqb (head_number l (a ++ b)) 0 ≡ false = ne_eqb (head_number l (a ++ b)) 0 (λ e. z (sym (number_is n en) ∙ e)) in
        rw (t, q) (ap₂ bad_header (sym (number_is n en)) (sym size_is))

    module _ (z : n ≡ 0) where
      zero_is : eqb (head_number l (a ++ b)) 0 ≡ true
      zero_is = ap (λ (m : ℕ). eqb m 0) (number_is n en ∙ z)

      whole_is : head_size l (a ++ b) + length_of (a ++ b) ≡ 8 + w + len
      whole_is = ap₂ (λ (x y : ℕ). x + y) size_is (sym el)

      pub cut-part : length b < 8 + w + len - length a → more_bytes ≡ cut_for l (a ++ b)
      unfolding cut_for cut_of
      cut-part g =
          let t = le-ltb (length (a ++ b)) (head_size l (a ++ b)) header in
          let k : length (a ++ b) < head_size l (a ++ b) + length_of (a ++ b) = omega (arith, whole_is, length-append a b) in
          rw (t, zero_is, lt-ltb (length (a ++ b)) (head_size l (a ++ b) + length_of (a ++ b)) k)

      pub cut-full : 8 + w + len - length a ≤ length b → whole_packet kind (8 + w) (8 + w + len) ≡ cut_for l (a ++ b)
      unfolding cut_for cut_of
      cut-full g =
          let t = le-ltb (length (a ++ b)) (head_size l (a ++ b)) header in
          let k : head_size l (a ++ b) + length_of (a ++ b) ≤ length (a ++ b) = omega (arith, whole_is, length-append a b) in
          rw (t, zero_is, le-ltb (length (a ++ b)) (head_size l (a ++ b) + length_of (a ++ b)) k) (λ i. whole_packet (ek i) (sym size_is i) (sym whole_is i))

-- past a, a number of b
pub le-beyond : (n : ℕ) (a b : List ℕ) (at : ℕ) → length a ≤ at → le n b (at - length a) ≡ le n (a ++ b) at
le-beyond n a b at h =
    let e : at ≡ length a + (at - length a) = omega arith in
    sym (ap (le n (a ++ b)) e ∙ le-shift a b n (at - length a))

-- past a, a byte of b
pub beyond : (a b : List ℕ) (i : ℕ) → length a ≤ i → get_or b (i - length a) 0 ≡ get_or (a ++ b) i 0
beyond a b i h =
    let e : i ≡ length a + (i - length a) = omega arith in
    sym (ap (λ (k : ℕ). get_or (a ++ b) k 0) e ∙ get_or-append-add a b (i - length a) 0)

-- an id has at most 8 bytes
pub id-narrow : (l : Link) (kind : ℕ) → id_width l kind ≤ 8
id-narrow l kind = id-widths (λ w. w ≤ 8) (omega arith) (omega arith) l kind

-- with bytes held, what is missing is laid behind them
pub completed-begun : (hold piece src after : List ℕ) (held size taken : ℕ) → (held ≡ 0 → ⊥) → taken ≡ size - held → src ≡ take taken piece → after ≡ sets hold held src
    → after ≡ completed hold held piece size
completed-begun hold piece src after held size taken h et es ea =
    rw (ne_eqb held 0 h) (ea ∙ ap (sets hold held) (es ∙ ap (λ (n : ℕ). take n piece) et))
