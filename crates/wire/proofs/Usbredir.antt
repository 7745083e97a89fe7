-- The laws of usbredir as a wire layer (`laws`), so that no two accepted packets have the
-- same bytes, and no accepted packet's bytes begin another's. What the shared set doesn't allow is refused by number (`unshared-number`,
-- `unsuited-number`).
-- The header's laws and the round trip give the laws, and `Prefix.antt` the rest. What is not allowed is no hello: 10 or 11
-- refuses its header, or 21 or 22 what is not shared; a missing field or a stream without bit 0 breaks a field rule, 24, if none of 21 to 23 comes first.
-- Assumes nothing.
use Rattle.std.specs.Prelude.{ℕ, ◌+◌, ◌≤◌, ◌≡◌, refl, Bool, true, false, cond, not, ◌&&◌, ◌||◌, List, [], ◌∷◌, ◌++◌, length, drop, eqb, ltb, Option, Some, None}
use Rattle.std.proofs.Common.{arith, sym, ap, ap₂, ◌∙◌, true≢false, eqb-true, ne_eqb}
use Rattle.std.proofs.lemmas.Bool.{false≢true}
use borrow.Table.Steps.{cases}
use Rattle.octets.specs.Bits.{has_bit}
use Rattle.octets.proofs.Integers.{le-front}
use Rattle.octets.proofs.Logic.{and_parts}
use Rattle.header.specs.declared.Side.{Side}
use Rattle.header.specs.declared.Link.{Link}
use Rattle.header.specs.Link.{shared_set, passed, own}
use Rattle.header.specs.Header.{kind_of, length_of, header_size, header_number}
use Rattle.header.proofs.Widths.{wide, narrow, short}
use Rattle.kinds.specs.Table.{Bits, endpoint, zero-without, Field, Kind, u8, u16, u32, ◌is◌, kinds, kind_at}
use Rattle.kinds.specs.Content.{Value, Content, shared, size_of, size, named, find, fields_of}
use Rattle.kinds.specs.Number.{sends, surplus, wide_id, size_ok, bad_field, bad_fields, bad_tail, bad_id, or_else, bad, is_none, streams_alone, in_order, kind_number, by_kind, wire_number}
use Rattle.kinds.specs.Codec.{layout, encode, or_next, body_length, packet_number, Accepted}
use Rattle.kinds.proofs.FieldBytes.{is_none-left, is_none-right, first_good, FitField, Fit}
use Rattle.kinds.specs.RoundTrip.{RoundTrip}
use Rattle.kinds.proofs.RoundTrip.{accepted, round_trip}
use Rattle.wire.specs.Wire.{Good, WireLaws}
use Rattle.wire.specs.Prefix.{all_bytes, AllAccepted}
use Rattle.wire.proofs.Prefix.{same, not-begun, apart}
use Rattle.wire.specs.Usbredir.{AbsentIn, unshared, Unshared, depends, missing, stream_unshared, unsuited, Unsuited, usbredir}

-- kind and length stand in the first 8 bytes
same_kind : (a b : List ℕ) → 12 ≤ length a → kind_of (a ++ b) ≡ kind_of a
same_kind a b h = le-front 4 a b 0 (omega arith)

same_length : (a b : List ℕ) → 12 ≤ length a → length_of (a ++ b) ≡ length_of a
same_length a b h = le-front 4 a b 4 (omega arith)

-- a whole header has 12 bytes at least
twelve : (l : Link) (a : List ℕ) → header_size l (kind_of a) ≤ length a → 12 ≤ length a
twelve l a h = omega (arith, wide l (kind_of a))

good : (l : Link) (p : Content) → Accepted l p → Good usbredir l p
good l p a =
    let r : RoundTrip l p = round_trip l p a in
    record { size = r.size; header = r.header; wire = r.number; back = r.back }

-- values that fit their fields: one that is not there has none
absent-field : (b : Bool) (w n : ℕ) (v : Value) → FitField b w n v → b ≡ false → v ≡ None
absent-field true w n v h e = absurd (false≢true (sym e))
absent-field false w n None h e = refl
absent-field false w n (Some xs) h e = absurd h

absent-in : (has : Bits → Bool) (fs : List Field) (vs : List Value) → Fit has fs vs → AbsentIn has fs vs
absent-in has [] vs h = tt
absent-in has (f ∷ fs) [] h = absurd h
absent-in has (f ∷ fs) (v ∷ vs) h = (absent-field (has f.there) f.width f.times v h.0, absent-in has fs vs h.1)

pub laws : WireLaws usbredir
laws =
    record {
      wide = λ l b. wide l (kind_of b);
      narrow = λ l b. narrow l (kind_of b);
      short = λ l b. short l (kind_of b) (length_of b);
      same_width = λ l a b h. ap (header_size l) (same_kind a b h);
      same_number = λ l a b h. ap₂ (header_number l) (same_kind a b (twelve l a h)) (same_length a b (twelve l a h));
      same_length = λ l a b h. same_length a b (twelve l a h);
      good = good;
      absent = λ l p a. absent-in (shared (shared_set l)) (layout p.kind) p.fields (accepted l p a).fields;
    }

-- two accepted packets with the same bytes are the same
pub same_bytes : (l : Link) (p q : Content) → Accepted l p → Accepted l q → encode l p ≡ encode l q → p ≡ q
same_bytes l = same usbredir laws l

-- no accepted packet's bytes begin another's
pub no-prefix : (l : Link) (p q : Content) (s : List ℕ) → Accepted l p → Accepted l q → encode l p ++ s ≡ encode l q → (p ≡ q) × (s ≡ [])
no-prefix l = not-begun usbredir laws l

-- two lists of accepted packets that give the same bytes are the same
pub same_lists : (l : Link) (ps qs : List Content) → AllAccepted usbredir l ps → AllAccepted usbredir l qs → all_bytes usbredir l ps ≡ all_bytes usbredir l qs → ps ≡ qs
same_lists l = apart usbredir laws l

-- ---- "What the shared set doesn't allow, the writer refuses by number."

-- no field of a hello depends on the shared set
pub hello-fields : (caps : ℕ) (vs : List Value) → surplus caps (kind_at 0).fields vs ≡ false
unfolding kinds
hello-fields caps [] = refl
hello-fields caps (None ∷ vs) = refl
hello-fields caps (Some xs ∷ vs) = refl

hello-there : (caps : ℕ) (vs : List Value) → missing caps (kind_at 0).fields vs ≡ false
unfolding kinds
hello-there caps [] = refl
hello-there caps (None ∷ vs) = refl
hello-there caps (Some xs ∷ vs) = refl

-- so neither holds of one
hello-shared : (l : Link) (p : Content) → p.kind ≡ 0 → unshared l (find p.kind kinds) p ≡ false
unfolding kinds
hello-shared l p k =
    let w : wide_id l p ≡ false = rw k refl in
    ap (λ (m : ℕ). unshared l (find m kinds) p) k ∙ rw (hello-fields (shared_set l) p.fields, w) refl

hello-suited : (l : Link) (p : Content) → p.kind ≡ 0 → unsuited l (find p.kind kinds) p ≡ false
unfolding kinds
hello-suited l p k = ap (λ (m : ℕ). unsuited l (find m kinds) p) k ∙ rw (hello-there (shared_set l) p.fields, k) refl

-- where no field breaks a rule, none behind the first does
next-good : (from : Side) (caps e : ℕ) (f : Field) (fs : List Field) (v : Value) (vs : List Value) (at : ℕ) → is_none (bad_fields from caps e (f ∷ fs) (v ∷ vs) at) ≡ true
    → is_none (bad_fields from caps e fs vs (at + size_of (shared caps) f)) ≡ true
next-good from caps e f fs v vs at b = is_none-right (bad_field from caps e f v at) (bad_fields from caps e fs vs (at + size_of (shared caps) f)) b

-- a field that is missing where it is shared breaks a rule
missing-bad : (from : Side) (caps e : ℕ) (fs : List Field) (vs : List Value) (at : ℕ) → missing caps fs vs ≡ true → is_none (bad_fields from caps e fs vs at) ≡ true → ⊥
missing-bad from caps e [] vs at m b = false≢true m
missing-bad from caps e (f ∷ fs) [] at m b = false≢true m
missing-bad from caps e (f ∷ fs) (None ∷ vs) at m b =
    go (depends f.there) (shared caps f.there) m (is_none-left (bad_field from caps e f None at) (bad_fields from caps e fs vs (at + size_of (shared caps) f)) b)
    (λ t. missing-bad from caps e fs vs (at + size_of (shared caps) f) t (next-good from caps e f fs None vs at b))
  where
    go : (a c : Bool) → ((a && c) || missing caps fs vs) ≡ true → is_none (cond c (Some at) None) ≡ true → (missing caps fs vs ≡ true → ⊥) → ⊥
    go true true t z r = false≢true z
    go true false t z r = r t
    go false c t z r = r t
missing-bad from caps e (f ∷ fs) (Some xs ∷ vs) at m b = missing-bad from caps e fs vs (at + size_of (shared caps) f) m (next-good from caps e f fs (Some xs) vs at b)

-- and so does a stream in kind 101 without bit 0
stream-zero : (from : Side) (caps e : ℕ) (vs : List Value) (at : ℕ) → has_bit caps 0 ≡ false → is_none (bad_fields from caps e (layout 101) vs at) ≡ true → named "stream" (layout 101) vs ≡ 0
unfolding layout kinds
stream-zero from caps e [] at h b = refl
stream-zero from caps e (u ∷ []) at h b = refl
stream-zero from caps e (u ∷ v ∷ []) at h b = refl
stream-zero from caps e (u ∷ v ∷ w ∷ []) at h b = refl
stream-zero from caps e (u ∷ v ∷ w ∷ None ∷ vs) at h b = refl
stream-zero from caps e (u ∷ v ∷ w ∷ Some [] ∷ vs) at h b = refl
stream-zero from caps e (u ∷ v ∷ w ∷ Some (x ∷ xs) ∷ vs) at h b =
    let c = next-good from caps e (u8 "endpoint" is endpoint) (drop 1 (layout 101)) u (v ∷ w ∷ Some (x ∷ xs) ∷ vs) at b in
    let d = next-good from caps e (u8 "status") (drop 2 (layout 101)) v (w ∷ Some (x ∷ xs) ∷ vs) (at + 1) c in
    let f = next-good from caps e (u16 "length") (drop 3 (layout 101)) w (Some (x ∷ xs) ∷ vs) (at + 1 + 1) d in
    let good = first_good from caps e (u32 "stream" is zero-without 0) (drop 4 (layout 101)) (x ∷ xs) vs (at + 1 + 1 + 2) f 0 (omega arith) in
    eqb-true x 0 (rw h at good)

stream-bad : (from : Side) (caps e : ℕ) (p : Content) → stream_unshared caps (layout 101) p ≡ true → is_none (bad_fields from caps e (layout 101) p.fields 0) ≡ true → ⊥
stream-bad from caps e p s b =
    let stream : ℕ = named "stream" (layout 101) p.fields in
    cases (has_bit caps 0)
    (λ h. false≢true (rw h at (and_parts (eqb p.kind 101) (not (has_bit caps 0)) (and_parts _ (not (eqb stream 0)) s).0).1))
    (λ h. false≢true (rw (stream-zero from caps e p.fields 0 h b) at (and_parts (eqb p.kind 101 && not (has_bit caps 0)) (not (eqb stream 0)) s).1))

-- what misses a field or has a stream so breaks a field rule
unsuited-bad : (l : Link) (p : Content) (k : Kind) → find p.kind kinds ≡ Some k → unsuited l (Some k) p ≡ true → not (is_none (bad l.sender (shared_set l) k p)) ≡ true
unfolding bad layout
unsuited-bad l p k f m =
    let caps : ℕ = shared_set l in
    let fields = bad_fields l.sender caps (named "endpoint" k.fields p.fields) k.fields p.fields 0 in
    let rest = or_else (bad_tail k.tail p.rest (size (shared caps) k.fields)) (bad_id k.id p.id) in
    cases (is_none (bad l.sender caps k p)) (λ b. absurd (go (missing caps k.fields p.fields) refl m (is_none-left fields rest b))) (λ b. rw b refl)
  where
    go : (a : Bool) → missing (shared_set l) k.fields p.fields ≡ a → (a || stream_unshared (shared_set l) k.fields p) ≡ true
        → is_none (bad_fields l.sender (shared_set l) (named "endpoint" k.fields p.fields) k.fields p.fields 0) ≡ true → ⊥
    go true h m b = missing-bad l.sender (shared_set l) _ k.fields p.fields 0 h b
    go false h m b =
        let n : p.kind ≡ 101 = eqb-true p.kind 101 (and_parts (eqb p.kind 101) _ (and_parts _ (not (eqb (named "stream" k.fields p.fields) 0)) m).0).0 in
        let q : k.fields ≡ layout 101 = sym (ap fields_of f) ∙ ap layout n in
        stream-bad l.sender (shared_set l) (named "endpoint" (layout 101) p.fields) p (rw q at m) (rw q at b)

-- ---- the numbers

-- of a packet that is no hello: 10, 11 where the sender's own has not passed, or its wire number
later-number : (P : ℕ → Type 0) (l : Link) (p : Content) → (p.kind ≡ 0 → ⊥) → P 10 → (passed (own l) ≡ false → P 11) → P (wire_number l p) → P (packet_number l p)
unfolding packet_number header_number
later-number P l p k n10 n11 w = rw (ne_eqb p.kind 0 k) (go (ltb 32768 (body_length l p)) (passed (own l)) refl)
  where
    go : (a b : Bool) → passed (own l) ≡ b → P (or_next (cond a 10 (cond b 0 11)) (wire_number l p))
    go true b e = n10
    go false true e = w
    go false false e = n11 e

-- so 10, 21 and 22 are the numbers of a packet with something that is not shared, once the sender's hello has passed; 11 before
pub unshared-number : (P : ℕ → Type 0) (l : Link) (p : Content) → P 10 → (passed (own l) ≡ false → P 11) → P 21 → P 22 → Unshared l p → P (packet_number l p)
unfolding wire_number kind_number
unshared-number P l p n10 n11 n21 n22 u = later-number P l p (λ k. true≢false (sym u ∙ hello-shared l p k)) n10 n11 (known (find p.kind kinds) u)
  where
    ordered : (a b c d e : Bool) → b ≡ true → P (in_order a b c d e)
    ordered true b c d e t = n21
    ordered false true c d e t = n22
    ordered false false c d e t = absurd (false≢true t)

    known : (k : Option Kind) → unshared l k p ≡ true → P (by_kind l k p)
    known None t = absurd (false≢true t)
    known (Some k) t =
        ordered (not (sends k.sender l.sender)) (unshared l (Some k) p) (not (size_ok l.sender k p)) (not (is_none (bad l.sender (shared_set l) k p))) (streams_alone k.tail p.rest) t

-- and 10 and 21 to 24 those of one with a field that does not suit what is shared
pub unsuited-number : (P : ℕ → Type 0) (l : Link) (p : Content) → P 10 → (passed (own l) ≡ false → P 11) → P 21 → P 22 → P 23 → P 24 → Unsuited l p → P (packet_number l p)
unfolding wire_number kind_number
unsuited-number P l p n10 n11 n21 n22 n23 n24 u = later-number P l p (λ k. true≢false (sym u ∙ hello-suited l p k)) n10 n11 (known (find p.kind kinds) refl u)
  where
    ordered : (a b c d e : Bool) → d ≡ true → P (in_order a b c d e)
    ordered true b c d e t = n21
    ordered false true c d e t = n22
    ordered false false true d e t = n23
    ordered false false false true e t = n24
    ordered false false false false e t = absurd (false≢true t)

    known : (k : Option Kind) → find p.kind kinds ≡ k → unsuited l k p ≡ true → P (by_kind l k p)
    known None f t = absurd (false≢true t)
    known (Some k) f t =
        ordered (not (sends k.sender l.sender)) (unshared l (Some k) p) (not (size_ok l.sender k p)) (not (is_none (bad l.sender (shared_set l) k p))) (streams_alone k.tail p.rest)
        (unsuited-bad l p k f t)
