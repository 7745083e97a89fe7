-- The round trip: for every link and every packet that the writer accepts, its bytes are one whole packet whose number is 0, and reading them
-- gives that packet (`round_trip`). One statement over all kinds and both widths of an id.
-- Acceptance says that no check holds, and so that kind and id fit the header and the values their fields (`accepted`). The header's numbers are
-- read back by its laws, the body stands behind it (`reads`), and fields and rest come back by `round` and `rest_back`. The number is then that
-- of the packet itself.
-- Assumes nothing.
use Rattle.std.specs.Prelude.{Option, Some, None}
use mathlib.Core.Path.{◌≡◌, refl, sym, ap, ◌∙◌}
use mathlib.Core.Bool.{Bool, true, false, not, ◌&&◌, ◌||◌, false≢true}
use mathlib.Core.List.{List, [], ◌∷◌}
use Prim.Native.Nat.{ℕ, ◌+◌, ◌^◌, ◌≤◌, ◌<◌}
use native.Mathlib.Omega.{arith}
use lib.ListN.{length, drop, length-append}
use lib.Seq.{drop_at}
use lib.Dec.{eqb, ltb}
use borrow.Author.Tests.{eqb-true, eqb-false, leb-false, ltb-true, le-ltb, not-false, eq-eqb}
use Rattle.header.specs.declared.Link.{Link}
use Rattle.header.specs.Link.{shared_set, id_width}
use Rattle.header.specs.Header.{kind_of, length_of, id_of, header_size, header_bytes, header_number}
use Rattle.header.proofs.Widths.{header-length, kind-back, length_back, id-back, short, id-widths}
use Rattle.octets.specs.Little.{le}
use Rattle.octets.proofs.Logic.{and_parts, or_parts}
use Rattle.kinds.specs.Table.{Field, Kind, Id, id-any, id-zero, kinds}
use Rattle.kinds.specs.Content.{Content, shared, size, split, bytes, named, find}
use Rattle.kinds.specs.Number.{sends, surplus, wide_id, complete, tail_ok, size_ok, bad_fields, bad_tail, bad_id, bad, is_none, or_else, streams_alone, in_order, kind_number, wire_number, by_kind}
use Rattle.kinds.specs.Codec.{layout, content_at, decode, or_next, read_number, body_of, encode, body_length, packet_number, Accepted}
use Rattle.kinds.specs.RoundTrip.{AcceptedComesBack}
use Rattle.kinds.proofs.FieldBytes.{is_none-left, is_none-right, Fit, fit, round, length-of, rest_back}

-- ---- what a number of 0 says

none-holds : (a b c d e : Bool) → in_order a b c d e ≡ 0 → (a ≡ false) × (b ≡ false) × (c ≡ false) × (d ≡ false) × (e ≡ false)
none-holds true b c d e z = absurd (omega (arith, z))
none-holds false true c d e z = absurd (omega (arith, z))
none-holds false false true d e z = absurd (omega (arith, z))
none-holds false false false true e z = absurd (omega (arith, z))
none-holds false false false false true z = absurd (omega (arith, z))
none-holds false false false false false z = (refl, refl, refl, refl, refl)

-- a packet that the wire checks pass: of a kind that its sender may send, with the fields that are shared and an id of the header's width,
-- each field whole and none that breaks its rule
pub record Clean (l : Link) (p : Content) : Type 0 where
  pub kind : Kind
  pub found : find p.kind kinds ≡ Some kind
  pub sender : sends kind.sender l.sender ≡ true
  pub sharing : surplus (shared_set l) kind.fields p.fields ≡ false
  pub narrow : wide_id l p ≡ false
  pub there : complete kind.fields p.fields ≡ true
  pub rules : is_none (bad l.sender (shared_set l) kind p) ≡ true

pub clean : (l : Link) (p : Content) → wire_number l p ≡ 0 → Clean l p
unfolding wire_number kind_number
clean l p z = go (find p.kind kinds) refl z
  where
    go : (o : Option Kind) → find p.kind kinds ≡ o → by_kind l o p ≡ 0 → Clean l p
    go None f n = absurd (omega (arith, n))
    go (Some k) f n =
        let caps : ℕ = shared_set l in
        let fs : List Field = k.fields in
        let h = none-holds (not (sends k.sender l.sender))
        (not (shared caps k.needs) || surplus caps fs p.fields || wide_id l p)
        (not (size_ok l.sender k p))
        (not (is_none (bad l.sender caps k p)))
        (streams_alone k.tail p.rest) n in
        let u = or_parts (not (shared caps k.needs) || surplus caps fs p.fields) (wide_id l p) h.1 in
        record {
          kind = k;
          found = f;
          sender = not-false (sends k.sender l.sender) h.0;
          sharing = (or_parts (not (shared caps k.needs)) (surplus caps fs p.fields) u.0).1;
          narrow = u.1;
          there = (and_parts (complete fs p.fields) (tail_ok k.tail l.sender fs p.fields (length p.rest)) (not-false (size_ok l.sender k p) h.2)).0;
          rules = not-false (is_none (bad l.sender caps k p)) h.3;
        }

pub both_zero : (n m : ℕ) → or_next n m ≡ 0 → (n ≡ 0) × (m ≡ 0)
both_zero n m e = go (eqb n 0) refl
  where
    go : (b : Bool) → eqb n 0 ≡ b → (n ≡ 0) × (m ≡ 0)
    go true t = (eqb-true n 0 t, simp t at e)
    go false t = absurd (eqb-false n 0 t (simp t at e))

-- a kind is found under its number, which fits a header's type field
abbrev fit_kinds : List Kind → Bool
fit_kinds [] = true
fit_kinds (k ∷ ks) = ltb k.number (256 ^ 4) && fit_kinds ks

kinds-fit : fit_kinds kinds ≡ true
unfolding kinds
kinds-fit = refl

found-fits : (n : ℕ) (ks : List Kind) (k : Kind) → fit_kinds ks ≡ true → find n ks ≡ Some k → n < 256 ^ 4
found-fits n [] k t e = let z : ◌≡◌ {A = ℕ} 0 1 = cc in absurd (omega arith)
found-fits n (r ∷ rs) k t e = go (eqb n r.number) refl (found-fits n rs k (and_parts (ltb r.number (256 ^ 4)) (fit_kinds rs) t).1)
  where
    go : (b : Bool) → eqb n r.number ≡ b → (find n rs ≡ Some k → n < 256 ^ 4) → n < 256 ^ 4
    go true s ih =
        let l : r.number < 256 ^ 4 = ltb-true r.number (256 ^ 4) (and_parts (ltb r.number (256 ^ 4)) (fit_kinds rs) t).0 in
        let z : n ≡ r.number = eqb-true n r.number s in
        omega arith
    go false s ih = ih (simp s at e)

-- a hello's id has to be 0
abbrev id_rule : Option Kind → Id
id_rule None = id-any
id_rule (Some k) = k.id

hello-id : (k : Kind) → find 0 kinds ≡ Some k → k.id ≡ id-zero
unfolding kinds
hello-id k e = sym (ap id_rule e)

zero-id : (r : Id) (n : ℕ) → r ≡ id-zero → is_none (bad_id r n) ≡ true → n ≡ 0
zero-id r n z e = go (eqb n 0) refl
  where
    b : is_none (bad_id id-zero n) ≡ true
    b = rw z at e

    go : (t : Bool) → eqb n 0 ≡ t → n ≡ 0
    go true s = eqb-true n 0 s
    go false s = absurd (false≢true (simp s at b))

-- ---- what acceptance gives

pub record Encodable (l : Link) (p : Content) : Type 0 where
  pub kind : p.kind < 256 ^ 4
  pub id : p.id < 256 ^ id_width l p.kind
  pub fields : Fit (shared (shared_set l)) (layout p.kind) p.fields
  pub header : header_number l p.kind (body_length l p) ≡ 0
  pub wire : wire_number l p ≡ 0

-- an id fits its width: a hello's is 0, and any other that does not is 22
id-fits : (l : Link) (p : Content) (k : Kind) → find p.kind kinds ≡ Some k → wide_id l p ≡ false → is_none (bad_id k.id p.id) ≡ true
    → p.id < 256 ^ id_width l p.kind
id-fits l p k f w b = go (eqb p.kind 0) refl
  where
    go : (t : Bool) → eqb p.kind 0 ≡ t → p.id < 256 ^ id_width l p.kind
    go true s =
        let z : p.kind ≡ 0 = eqb-true p.kind 0 s in
        let n : p.id ≡ 0 = zero-id k.id p.id (hello-id k (rw z at f)) b in
        rw n (id-widths (λ m. 0 < 256 ^ m) (omega arith) (omega arith) l p.kind)
    go false s = leb-false (256 ^ id_width l p.kind) p.id (simp s at w)

-- what a number of 0 says (`clean`) gives each part of this
pub accepted : (l : Link) (p : Content) → Accepted l p → Encodable l p
unfolding packet_number layout bad
accepted l p a =
    let z = both_zero (header_number l p.kind (body_length l p)) (wire_number l p) a.number in
    let c = clean l p z.1 in
    let caps : ℕ = shared_set l in
    let k : Kind = c.kind in
    let fs : List Field = k.fields in
    let x : Option ℕ = bad_fields l.sender caps (named "endpoint" fs p.fields) fs p.fields 0 in
    let t : Option ℕ = bad_tail k.tail p.rest (size (shared caps) fs) in
    let i : Option ℕ = bad_id k.id p.id in
    record {
      kind = found-fits p.kind kinds k kinds-fit c.found;
      id = id-fits l p k c.found c.narrow (is_none-right t i (is_none-right x (or_else t i) c.rules));
      fields = rw c.found
          (fit l.sender caps (named "endpoint" fs p.fields) fs p.fields 0 (rw c.found at a.fields) c.there c.sharing
          (is_none-left x (or_else t i) c.rules));
      header = z.0;
      wire = z.1;
    }

-- ---- the round trip

-- what the bytes of an accepted packet begin with, and what stands behind it
record Read (l : Link) (p : Content) : Type 0 where
  kind : kind_of (encode l p) ≡ p.kind
  length-field : length_of (encode l p) ≡ length (body_of p)
  id : id_of l (encode l p) ≡ p.id
  body : drop (header_size l (kind_of (encode l p))) (encode l p) ≡ body_of p
  size : length (encode l p) ≡ header_size l p.kind + length (body_of p)
  counted : length (body_of p) ≡ body_length l p

-- the header's laws read its three numbers back, and the body is what stands behind as many bytes as the header has
reads : (l : Link) (p : Content) → Encodable l p → Read l p
unfolding encode
reads l p s =
    let fs : List Field = layout p.kind in
    let body : List ℕ = body_of p in
    let n : ℕ = length body in
    let b : List ℕ = encode l p in
    let h : List ℕ = header_bytes l p.kind n p.id in
    let e : n ≡ body_length l p =
    length-append (bytes fs p.fields) p.rest ∙ ap (λ (m : ℕ). m + length p.rest) (length-of (shared (shared_set l)) fs p.fields s.fields) in
    let m : n ≤ 32768 = omega (arith, e, short l p.kind (body_length l p) s.header) in
    let k : kind_of b ≡ p.kind = kind-back l p.kind n p.id body s.kind in
    let w : length h ≡ header_size l p.kind = header-length l p.kind n p.id in
    record {
      kind = k;
      length-field = length_back l p.kind n p.id body (omega arith);
      id = ap (λ (j : ℕ). le (id_width l j) b 8) k ∙ id-back l p.kind n p.id body s.id;
      body = ap (λ (j : ℕ). drop (header_size l j) b) k ∙ drop_at h body (header_size l p.kind) w;
      size = length-append h body ∙ ap (λ (j : ℕ). j + n) w;
      counted = e;
    }

-- what is read is put together from kind, id, fields and rest; so the number of the bytes is that of the packet, 0
pub round_trip : AcceptedComesBack
unfolding decode content_at read_number
round_trip l p a =
    let s : Encodable l p = accepted l p a in
    let r : Read l p = reads l p s in
    let has = shared (shared_set l) in
    let fs : List Field = layout p.kind in
    let b : List ℕ = encode l p in
    let e : length b ≡ header_size l (kind_of b) + length_of b = rw (r.kind, r.length-field) r.size in
    let h : header_number l (kind_of b) (length_of b) ≡ 0 = rw (r.kind, r.length-field, r.counted) s.header in
    let d : decode l b ≡ content_at (shared_set l) p.kind p.id (body_of p) = λ i. content_at (shared_set l) (r.kind i) (r.id i) (r.body i) in
    let f : split has fs (body_of p) ≡ p.fields = round has fs p.fields p.rest s.fields in
    let t : drop (size has fs) (body_of p) ≡ p.rest = rest_back has fs p.fields p.rest s.fields in
    let back : decode l b ≡ p = d ∙ (λ i. record { kind = p.kind; id = p.id; fields = f i; rest = t i }) in
    record {
      size = e;
      header = h;
      number = simp (le-ltb (length b) (header_size l (kind_of b)) (omega arith), h, eq-eqb (length b) (header_size l (kind_of b) + length_of b) e, back) s.wire;
      back = back;
    }
