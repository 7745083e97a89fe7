-- The other way round: what the reader passes, the writer accepts and puts out as the same bytes (`reread`).
-- A number of 0 says that the header is not refused, that the bytes are as many as it says, and that the wire checks find nothing (`whole`). Then
-- all fields are there (`all_there`), so that the body's length is the header's, and `again` gives the body back; the header's three numbers come
-- back one by one (`number-there`).
-- Assumes nothing.
use Rattle.std.specs.Prelude.{Option, Some, None}
use mathlib.Core.Path.{◌≡◌, refl, sym, ap, ◌∙◌}
use mathlib.Core.Bool.{Bool, true, false}
use mathlib.Core.List.{List, ◌++◌}
use Prim.Native.Nat.{ℕ, ◌+◌, ◌^◌, ◌≤◌, ◌<◌}
use native.Mathlib.Nat.{add-zero}
use native.Mathlib.Omega.{arith}
use lib.ListN.{length, drop, length-drop}
use lib.Seq.{drop-drop}
use lib.Dec.{eqb, ltb}
use borrow.Author.Tests.{eqb-true, leb-true}
use Rattle.octets.specs.Little.{le, bytes_of}
use Rattle.octets.proofs.Integers.{le-drop, le-lt}
use Rattle.header.specs.declared.Link.{Link}
use Rattle.header.specs.Link.{shared_set, id_width}
use Rattle.header.specs.Header.{kind_of, length_of, id_of, header_size, header_bytes, header_number}
use Rattle.header.proofs.Widths.{id-widths}
use Rattle.kinds.specs.Table.{Kind, kinds}
use Rattle.kinds.specs.Content.{Content, shared, size, split, find, fields_of}
use Rattle.kinds.specs.Number.{complete, wire_number}
use Rattle.kinds.specs.Codec.{layout, content_at, decode, read_number, body_of, encode, body_length, packet_number, Accepted}
use Rattle.kinds.proofs.FieldBytes.{complete-split, fitting-split}
use Rattle.kinds.proofs.RoundTrip.{clean, both_zero}
use Rattle.kinds.proofs.Again.{Octets, octets-drop, number-again, again}

-- where the wire checks find nothing, each field has all its numbers
pub all_there : (l : Link) (q : Content) (k : Kind) → find q.kind kinds ≡ Some k → wire_number l q ≡ 0 → complete k.fields q.fields ≡ true
all_there l q k f z =
    let c = clean l q z in
    let e : c.kind ≡ k = cc (c.found, f) in
    ap (λ (m : Kind). complete m.fields q.fields) (sym e) ∙ c.there

-- what a number of 0 says of bytes that were read
record Whole (l : Link) (b : List ℕ) : Type 0 where
  header : header_number l (kind_of b) (length_of b) ≡ 0
  size : length b ≡ header_size l (kind_of b) + length_of b
  wire : wire_number l (decode l b) ≡ 0

whole : (l : Link) (b : List ℕ) → read_number l b ≡ 0 → Whole l b
unfolding read_number
whole l b e = go (ltb (length b) (header_size l (kind_of b))) refl (eqb (length b) (header_size l (kind_of b) + length_of b)) refl
  where
    go : (s : Bool) → ltb (length b) (header_size l (kind_of b)) ≡ s → (t : Bool) → eqb (length b) (header_size l (kind_of b) + length_of b) ≡ t → Whole l b
    go true es t et = let z : ◌≡◌ {A = ℕ} 23 0 = simp es at e in absurd (omega arith)
    go false es false et =
        let z = both_zero (header_number l (kind_of b) (length_of b)) 23 (simp (es, et) at e) in
        absurd (omega (arith, z.1))
    go false es true et =
        let z = both_zero (header_number l (kind_of b) (length_of b)) (wire_number l (decode l b)) (simp (es, et) at e) in
        record { header = z.0; size = eqb-true (length b) (header_size l (kind_of b) + length_of b) et; wire = z.1 }

-- a number that was read is written as it was, with what stands behind it
number-there : (n k : ℕ) (b : List ℕ) → Octets b → k + n ≤ length b → bytes_of n (le n b k) ++ drop (k + n) b ≡ drop k b
number-there n k b o h =
    let r : le n (drop k b) 0 ≡ le n b k = le-drop n k b 0 ∙ ap (le n b) (add-zero k) in
    let l : n ≤ length (drop k b) = rw (length-drop k b) (omega arith) in
    (λ i. bytes_of n (sym r i) ++ sym (drop-drop n k b) i) ∙ number-again n (drop k b) (octets-drop k b o) l

-- and so is a header
header-again : (l : Link) (b : List ℕ) → Octets b → header_size l (kind_of b) ≤ length b
    → header_bytes l (kind_of b) (length_of b) (id_of l b) ++ drop (header_size l (kind_of b)) b ≡ b
unfolding header_bytes header_size
header-again l b o h =
    let w : ℕ = id_width l (kind_of b) in
    ap (λ (x : List ℕ). bytes_of 4 (kind_of b) ++ (bytes_of 4 (length_of b) ++ x)) (number-there w 8 b o h)
    ∙ ap (λ (x : List ℕ). bytes_of 4 (kind_of b) ++ x) (number-there 4 4 b o (omega arith))
    ∙ number-there 4 0 b o (omega arith)

module _ (l : Link) (b : List ℕ) (o : Octets b) (w : Whole l b) where
  -- the fields are all there
  there : size (shared (shared_set l)) (layout (kind_of b)) ≤ length (drop (header_size l (kind_of b)) b)
  unfolding wire_number layout decode content_at
  there = go (find (kind_of b) kinds) refl
    where
      body : List ℕ
      body = drop (header_size l (kind_of b)) b

      go : (k : Option Kind) → find (kind_of b) kinds ≡ k → size (shared (shared_set l)) (fields_of (find (kind_of b) kinds)) ≤ length (drop (header_size l (kind_of b)) b)
      go None f = let z : ◌≡◌ {A = ℕ} 20 0 = rw f at w.wire in absurd (omega arith)
      go (Some k) f =
          let c : complete k.fields (split (shared (shared_set l)) (fields_of (find (kind_of b) kinds)) body) ≡ true = all_there l (decode l b) k f w.wire in
          let d : complete k.fields (split (shared (shared_set l)) k.fields body) ≡ true = (λ i. complete k.fields (split (shared (shared_set l)) (fields_of (sym f i)) body)) ∙ c in
          rw f (leb-true (size (shared (shared_set l)) k.fields) (length body) (sym (complete-split (shared (shared_set l)) k.fields body) ∙ d))

  rest-length : length (drop (header_size l (kind_of b)) b) ≡ length_of b
  rest-length = length-drop (header_size l (kind_of b)) b ∙ omega (arith, w.size)

  body-again : body_of (decode l b) ≡ drop (header_size l (kind_of b)) b
  unfolding decode content_at
  body-again = again (shared (shared_set l)) (layout (kind_of b)) (drop (header_size l (kind_of b)) b) (octets-drop (header_size l (kind_of b)) b o) there

  counted : body_length l (decode l b) ≡ length_of b
  unfolding decode content_at
  counted =
      omega (
        arith,
        there,
        rest-length,
        length-drop (size (shared (shared_set l)) (layout (kind_of b))) (drop (header_size l (kind_of b)) b),
      )

  kinded : (decode l b).kind ≡ kind_of b
  unfolding decode content_at
  kinded = refl

  same_id : (decode l b).id ≡ id_of l b
  unfolding decode content_at
  same_id = refl

  numbered : packet_number l (decode l b) ≡ 0
  unfolding packet_number
  numbered =
      let h : header_number l (decode l b).kind (body_length l (decode l b)) ≡ 0 = (λ i. header_number l (kinded i) (counted i)) ∙ w.header in
      rw (h, w.wire)

  accepted-again : Accepted l (decode l b)
  unfolding decode content_at
  accepted-again =
      record {
        fields = fitting-split (shared (shared_set l)) (layout (kind_of b)) (drop (header_size l (kind_of b)) b) (octets-drop (header_size l (kind_of b)) b o);
        id = id-widths (λ n. le n b 8 < 256 ^ 8) (omega (arith, le-lt b o 4 8)) (le-lt b o 8 8) l (kind_of b);
        number = numbered;
      }

  bytes-again : encode l (decode l b) ≡ b
  unfolding encode
  bytes-again =
      (λ i. header_bytes l (kinded i) (length (body-again i)) (same_id i) ++ body-again i)
      ∙ (λ i. header_bytes l (kind_of b) (rest-length i) (id_of l b) ++ drop (header_size l (kind_of b)) b)
      ∙ header-again l b o (omega (arith, w.size))

-- the reader's packets are the writer's
pub reread : (l : Link) (b : List ℕ) → Octets b → read_number l b ≡ 0 → Accepted l (decode l b) × (encode l (decode l b) ≡ b)
reread l b o e = let w : Whole l b = whole l b e in (accepted-again l b o w, bytes-again l b o w)
