-- What `cut_of` told is what the bytes are (`cut-more`, `cut-bad`, `cut-whole`), and what a whole packet's own bytes say then (`framed`), with
-- their header (`header_is`).
-- By the cases of `cut_told`, whose answers differ. A packet's header stands in its own bytes, so that it reads the same off them (`le-front`).
-- Assumes nothing.
use mathlib.Core.Path.{◌≡◌, refl, sym, ap, ap₂, ◌∙◌}
use mathlib.Core.Bool.{Bool, true, false, cond}
use mathlib.Core.List.{List, ◌++◌}
use Prim.Native.Nat.{ℕ, ◌+◌, ◌-◌, ◌≤◌, min}
use native.Mathlib.Omega.{arith}
use lib.ListN.{length, take, drop, take-append-drop}
use lib.Seq.{length-take-le}
use lib.Dec.{eqb, ltb}
use borrow.Author.Tests.{ltb-false, eqb-true}
use Rattle.octets.specs.Little.{le}
use Rattle.octets.proofs.Integers.{le-front}
use Rattle.header.specs.declared.Link.{Link}
use Rattle.header.specs.declared.Header.{Header}
use Rattle.header.specs.Link.{id_width}
use Rattle.header.specs.Header.{kind_of, length_of, header_of, header_size, header_number}
use Rattle.header.proofs.Widths.{id-widths, wide}
use Rattle.frame.specs.Cut.{Cut, more, bad, whole, cut_of}
use Rattle.frame.specs.Frame.{more_bytes, bad_header, whole_packet, Cuts, head_size, head_number, cut_at, cut_told, cut_for}

found-more : (k w : ℕ) (c : Cut) → cut_told k w c ≡ more_bytes → c ≡ more
found-more k w more e = refl
found-more k w (bad n) e = let z : ◌≡◌ {A = ℕ} 0 1 = cc in absurd (omega arith)
found-more k w (whole n) e = let z : ◌≡◌ {A = ℕ} 0 1 = cc in absurd (omega arith)

found-bad : (k w : ℕ) (c : Cut) (n size : ℕ) → cut_told k w c ≡ bad_header n size → (c ≡ bad n) × (w ≡ size)
found-bad k w more n size e = let z : ◌≡◌ {A = ℕ} 0 1 = cc in absurd (omega arith)
found-bad k w (bad m) n size e = let p : m ≡ n = cc in let q : w ≡ size = cc in (ap bad p, q)
found-bad k w (whole m) n size e = let z : ◌≡◌ {A = ℕ} 0 1 = cc in absurd (omega arith)

found-whole : (k w : ℕ) (c : Cut) (kind size n : ℕ) → cut_told k w c ≡ whole_packet kind size n → (c ≡ whole n) × ((k ≡ kind) × (w ≡ size))
found-whole k w more kind size n e = let z : ◌≡◌ {A = ℕ} 0 1 = cc in absurd (omega arith)
found-whole k w (bad m) kind size n e = let z : ◌≡◌ {A = ℕ} 0 1 = cc in absurd (omega arith)
found-whole k w (whole m) kind size n e =
    let p : m ≡ n = cc in
    let q : k ≡ kind = cc in
    let r : w ≡ size = cc in
    (ap whole p, (q, r))

module _ (l : Link) (all : List ℕ) where
  pub cut-more : cut_for l all ≡ more_bytes → cut_at l all ≡ more
  unfolding cut_for
  cut-more e = found-more (kind_of all) (head_size l all) (cut_at l all) e

  pub cut-bad : {n size : ℕ} → cut_for l all ≡ bad_header n size → (cut_at l all ≡ bad n) × (head_size l all ≡ size)
  unfolding cut_for
  cut-bad {n} {size} e = found-bad (kind_of all) (head_size l all) (cut_at l all) n size e

  pub cut-whole : {kind size n : ℕ} → cut_for l all ≡ whole_packet kind size n → Cuts l all kind size n
  unfolding cut_for
  cut-whole {kind} {size} {n} e =
      let f = found-whole (kind_of all) (head_size l all) (cut_at l all) kind size n e in
      record { cut = f.0; kind = f.1.0; size = f.1.1 }

-- a packet's own bytes: their header is whole, nothing refuses it, and they are as many as it says
pub record Framed (l : Link) (bytes : List ℕ) (k w n : ℕ) : Type 0 where
  pub there : length bytes ≡ n
  pub kind : kind_of bytes ≡ k
  pub size : header_size l (kind_of bytes) ≡ w
  pub says : n ≡ w + length_of bytes
  pub number : header_number l (kind_of bytes) (length_of bytes) ≡ 0

-- a whole packet: nothing refuses its header, and all that it says is there
cut-is : (l : Link) (all : List ℕ) (n : ℕ) → cut_at l all ≡ whole n → (head_number l all ≡ 0) × ((head_size l all + length_of all ≡ n) × (n ≤ length all))
unfolding cut_of
cut-is l all n = go (ltb (length all) (head_size l all)) (eqb (head_number l all) 0) refl (ltb (length all) (head_size l all + length_of all)) refl
  where
    go : (x y : Bool) → eqb (head_number l all) 0 ≡ y → (z : Bool) → ltb (length all) (head_size l all + length_of all) ≡ z
        → cond x more (cond y (cond z more (whole (head_size l all + length_of all))) (bad (head_number l all))) ≡ whole n
        → (head_number l all ≡ 0) × ((head_size l all + length_of all ≡ n) × (n ≤ length all))
    go true y ey z ez e = let f : ◌≡◌ {A = ℕ} 0 1 = cc in absurd (omega arith)
    go false false ey z ez e = let f : ◌≡◌ {A = ℕ} 0 1 = cc in absurd (omega arith)
    go false true ey true ez e = let f : ◌≡◌ {A = ℕ} 0 1 = cc in absurd (omega arith)
    go false true ey false ez e =
        let q : head_size l all + length_of all ≡ n = cc in
        let h : head_size l all + length_of all ≤ length all = ltb-false _ _ ez in
        (eqb-true _ _ ey, (q, omega arith))

pub framed : (l : Link) (all : List ℕ) {kind size n : ℕ} → Cuts l all kind size n → Framed l (take n all) kind size n
framed l all {kind} {size} {n} c =
    let t = cut-is l all n c.cut in
    let m : length (take n all) ≡ n = length-take-le n all t.1.1 in
    let w : 12 ≤ head_size l all = wide l (kind_of all) in
    let whole : take n all ++ drop n all ≡ all = take-append-drop n all in
    let k : kind_of (take n all) ≡ kind_of all = sym (le-front 4 (take n all) (drop n all) 0 (omega arith)) ∙ ap kind_of whole in
    let s : length_of (take n all) ≡ length_of all = sym (le-front 4 (take n all) (drop n all) 4 (omega arith)) ∙ ap length_of whole in
    let z : header_size l (kind_of (take n all)) ≡ size = ap (header_size l) k ∙ c.size in
    record {
      there = m;
      kind = k ∙ c.kind;
      size = z;
      says = omega (arith, t.1.0, s, c.size);
      number = ap₂ (header_number l) k s ∙ t.0;
    }

-- the header that such bytes begin with, of what was told of them
pub header_is : (l : Link) (bytes : List ℕ) {k w n : ℕ} → Framed l bytes k w n
    → ◌≡◌ {A = Header} (record { kind = k; length = n - w; id = le (min (w - 8) 8) bytes 8; size = w }) (header_of l bytes)
unfolding header_size
header_is l bytes {k} {w} {n} f =
    let i : w - 8 ≡ id_width l (kind_of bytes) = omega (arith, f.size) in
    let m : min (w - 8) 8 ≡ id_width l (kind_of bytes) = ap (λ (x : ℕ). min x 8) i ∙ id-widths (λ v. min v 8 ≡ v) refl refl l (kind_of bytes) in
    let s : n - w ≡ length_of bytes = omega (arith, f.says) in
    λ j. record { kind = sym f.kind j; length = s j; id = le (m j) bytes 8; size = sym f.size j }
