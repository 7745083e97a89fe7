-- The wire checks in relations are those of `wire_number`: each test of it holds exactly where its relation does, and the number is that of the
-- first that fails.
-- The tests over fields are by induction over the line and the packet's values; those of a number are cases of its rule.
-- Assumes nothing.
use Rattle.std.specs.Prelude.{Option, Some, None}
use Prim.Native.Nat.{ℕ, zero, suc, ◌+◌, ◌*◌, ◌/◌, ◌%◌, ◌^◌, ◌≤◌, ◌<◌}
use native.Mathlib.Nat.{add-zero, zero-add, add-suc, suc-add, not-suc-le-zero, le_of_suc-le-suc, div-eq_of_lt, lt_of_lt_of_le}
use native.Mathlib.Omega.{arith}
use mathlib.Core.Bool.{Bool, true, false, cond, not, ◌&&◌, ◌||◌, true≢false, false≢true}
use mathlib.Core.List.{List, [], ◌∷◌}
use mathlib.Core.Logic.{◌↔◌, ◌⊎◌, inl, inr}
use Rattle.std.proofs.lemmas.Option.{none-some, same_Some}
use mathlib.Core.Path.{◌≡◌, refl, sym, ap, subst, ◌∙◌}
use lib.ListN.{length, get_or}
use lib.Dec.{eqb, leb, lit<}
use lib.Text.{eqt}
use lib.Bits.{bit_and, and_shr, and_mod}
use lib.Pow.{pow_mono, pow_pos, shr-shr}
use borrow.Author.Tests.{ltb-true, lt-ltb, leb-true, leb-false, le-leb, lt-leb, eqb-true, eqb-false, eq-eqb, ne_eqb, not-true, not-false}
use borrow.Table.Steps.{cases}
use Rattle.octets.specs.Little.{le}
use Rattle.octets.specs.Bits.{has_bit}
use Rattle.octets.proofs.Logic.{and_parts, and-whole, or_parts, or-none, fails, failing, false-not, true-not}
use Rattle.header.specs.declared.Side.{Side}
use Rattle.header.specs.declared.Side.TheVariants.{Guest, Host}
use Rattle.header.specs.declared.Link.{Link}
use Rattle.header.specs.Link.{is_guest, offered, shared_set, id_width}
use Rattle.kinds.specs.Table.{Sender, G, H, B, Bits, always, bit, bits, Rule, any, holding-zero, speed, at-most-32, endpoint-type, endpoint, endpoint-in, endpoint-onward, endpoint-out-of-guest, as-endpoint, nonzero, zero-without, Field, Tail, nothing, words, string, payload, payload-onward, Id, id-any, id-zero, Kind, kinds, none_such, u8}
use Rattle.kinds.specs.Content.{Value, Content, shared, size, size_of, named, find}
use Rattle.kinds.specs.Number.{sends, surplus, wide_id, complete, data_length, onward, tail_ok, size_ok, zero_at, holds, or_else, first_bad, bad_field, bad_fields, bad_tail, bad_id, bad, is_none, streams_alone, in_order, kind_number, by_kind, wire_number}
use Rattle.kinds.proofs.FieldBytes.{is_none-left, is_none-right}
use Rattle.kinds.proofs.TableLines.{every_line, of-found}
use Rattle.kinds.specs.Slots.{found}
use Rattle.kinds.specs.Formed.{Line, Sends, Shared, Sharing, endpoint_byte, count_with, data_count, Onward, Follow, Sized, Keeps, EndsInZero, Ruled, StreamsToo, Formed, Numbered, WireExactly, WireNumberIs, OneTableLine, SharedBit, SharedBits, Address}

-- ---- 20

-- what is found stands in the list under that number
found_at : (n : ℕ) (ks : List Kind) (k : Kind) → find n ks ≡ Some k → (i : ℕ) × (i < length ks) × (get_or ks i none_such ≡ k) × (k.number ≡ n)
found_at n [] k e = absurd (none-some _ e)
found_at n (r ∷ rs) k e = cases (eqb n r.number) here (λ t. there (found_at n rs k (rw t at e)))
  where
    here : eqb n r.number ≡ true → (i : ℕ) × (i < length (r ∷ rs)) × (get_or (r ∷ rs) i none_such ≡ k) × (k.number ≡ n)
    here t =
        let q : r ≡ k = same_Some _ _ (rw t at e) in
        (0, omega arith, q, ap (λ (x : Kind). x.number) (sym q) ∙ sym (eqb-true n r.number t))

    there : (i : ℕ) × (i < length rs) × (get_or rs i none_such ≡ k) × (k.number ≡ n) → (i : ℕ) × (i < length (r ∷ rs)) × (get_or (r ∷ rs) i none_such ≡ k) × (k.number ≡ n)
    there h = (suc h.0, omega (arith, h.1), h.2, h.3)

line_of : (p : Content) (k : Kind) → find p.kind kinds ≡ Some k → Line p k
unfolding kinds
line_of p k e =
    let h = found_at p.kind kinds k e in
    record { slot = h.0; listed = h.1; line = h.2; number = h.3 }

of-line : (p : Content) (k : Kind) → Line p k → find p.kind kinds ≡ Some k
of-line p k h =
    ap (λ (n : ℕ). find n kinds) (sym h.number ∙ ap (λ (x : Kind). x.number) (sym h.line)) ∙ found h.slot h.listed ∙ ap Some h.line

pub one-table-line : OneTableLine
one-table-line p k m a b = same_Some _ _ (sym (of-line p k a) ∙ of-line p m b)

-- ---- 21

guest-only : (from : Side) → is_guest from ≡ true → from ≡ Guest
guest-only Guest e = refl
guest-only Host e = absurd (false≢true e)

host-only : (from : Side) → is_guest from ≡ false → from ≡ Host
host-only Guest e = absurd (true≢false e)
host-only Host e = refl

sends-is : (s : Sender) (from : Side) → (not (sends s from) ≡ false) ↔ Sends s from
sends-is G from = (λ e. guest-only from (not-false (is_guest from) e), λ e. rw e refl)
sends-is H from = (λ e. host-only from (not-true (is_guest from) (not-false (not (is_guest from)) e)), λ e. rw e refl)
sends-is B from = (λ e. tt, λ e. refl)

-- ---- 22

shared-is : (caps : ℕ) (b : Bits) → (shared caps b ≡ true) ↔ Shared caps b
shared-is caps always = (λ e. tt, λ e. refl)
shared-is caps (bit j) = (λ e. e, λ e. e)
shared-is caps (bits j k) = (and_parts (has_bit caps j) (has_bit caps k), λ e. and-whole (has_bit caps j) (has_bit caps k) e.0 e.1)

-- the fields that are there are shared
abbrev AllShared : ℕ → List Field → List Value → Type 0
AllShared caps fs vs = (i : ℕ) → i < length fs → (xs : List ℕ) → get_or vs i None ≡ Some xs → Shared caps (get_or fs i (u8 "")).there

surplus-none : (caps : ℕ) (fs : List Field) (vs : List Value) → surplus caps fs vs ≡ false → AllShared caps fs vs
surplus-none caps [] vs e i h xs t = absurd (not-suc-le-zero h)
surplus-none caps (f ∷ fs) [] e i h xs t = absurd (none-some _ t)
surplus-none caps (f ∷ fs) (None ∷ vs) e zero h xs t = absurd (none-some _ t)
surplus-none caps (f ∷ fs) (None ∷ vs) e (suc i) h xs t = surplus-none caps fs vs e i (le_of_suc-le-suc h) xs t
surplus-none caps (f ∷ fs) (Some ys ∷ vs) e zero h xs t =
    (shared-is caps f.there).0 (not-false (shared caps f.there) (or_parts (not (shared caps f.there)) (surplus caps fs vs) e).0)
surplus-none caps (f ∷ fs) (Some ys ∷ vs) e (suc i) h xs t =
    surplus-none caps fs vs (or_parts (not (shared caps f.there)) (surplus caps fs vs) e).1 i (le_of_suc-le-suc h) xs t

none-surplus : (caps : ℕ) (fs : List Field) (vs : List Value) → AllShared caps fs vs → surplus caps fs vs ≡ false
none-surplus caps [] vs a = refl
none-surplus caps (f ∷ fs) [] a = refl
none-surplus caps (f ∷ fs) (None ∷ vs) a = none-surplus caps fs vs (λ i h xs t. a (suc i) (omega (arith, h)) xs t)
none-surplus caps (f ∷ fs) (Some ys ∷ vs) a =
    or-none (not (shared caps f.there)) (surplus caps fs vs)
    (false-not (shared caps f.there) ((shared-is caps f.there).1 (a 0 (omega arith) ys refl)))
    (none-surplus caps fs vs (λ i h xs t. a (suc i) (omega (arith, h)) xs t))

-- an id fits its width exactly where it is below 32 bits without bit 5, and below 64 in any case
abbrev IdFits : Link → ℕ → Type 0
IdFits l id = (has_bit (shared_set l) 5 ≡ false → id < 4294967296) × (id < 18446744073709551616)

pub id-fits : (l : Link) (kind id : ℕ) → (kind ≡ 0 → ⊥) → id < 256 ^ id_width l kind → IdFits l id
unfolding id_width
id-fits l kind id z h = go (has_bit (shared_set l) 5) refl
  where
    go : (b : Bool) → has_bit (shared_set l) 5 ≡ b → IdFits l id
    go true e = let u : id < 18446744073709551616 = rw (ne_eqb kind 0 z, e) at h in (λ f. absurd (true≢false (sym e ∙ f)), u)
    go false e = let u : id < 4294967296 = rw (ne_eqb kind 0 z, e) at h in (λ f. u, omega (arith, u))

fits-id : (l : Link) (kind id : ℕ) → (kind ≡ 0 → ⊥) → IdFits l id → id < 256 ^ id_width l kind
unfolding id_width
fits-id l kind id z h = go (has_bit (shared_set l) 5) refl
  where
    go : (b : Bool) → has_bit (shared_set l) 5 ≡ b → id < 256 ^ id_width l kind
    go true e = rw (ne_eqb kind 0 z, e) h.1
    go false e = rw (ne_eqb kind 0 z, e) (h.0 e)

narrow-is : (l : Link) (p : Content) → (wide_id l p ≡ false) ↔ ((p.kind ≡ 0 → ⊥) → IdFits l p.id)
narrow-is l p = (
  λ e z. id-fits l p.kind p.id z (leb-false (256 ^ id_width l p.kind) p.id (fails (not (eqb p.kind 0)) (leb (256 ^ id_width l p.kind) p.id) e (true-not (eqb p.kind 0) (ne_eqb p.kind 0 z)))),
  λ h. failing (not (eqb p.kind 0)) (leb (256 ^ id_width l p.kind) p.id) (λ t.
      let z : p.kind ≡ 0 → ⊥ = eqb-false p.kind 0 (not-true (eqb p.kind 0) t) in
      lt-leb (256 ^ id_width l p.kind) p.id (fits-id l p.kind p.id z (h z))),
)

abbrev unshared : Link → Kind → Content → Bool
unshared l k p = not (shared (shared_set l) k.needs) || surplus (shared_set l) k.fields p.fields || wide_id l p

sharing-is : (l : Link) (k : Kind) (p : Content) → (unshared l k p ≡ false) ↔ Sharing l k p
sharing-is l k p = (holds-so, so-holds)
  where
    a : Bool
    a = not (shared (shared_set l) k.needs)

    b : Bool
    b = surplus (shared_set l) k.fields p.fields

    holds-so : unshared l k p ≡ false → Sharing l k p
    holds-so e =
        let u = or_parts (a || b) (wide_id l p) e in
        let v = or_parts a b u.0 in
        record {
          needed = (shared-is (shared_set l) k.needs).0 (not-false (shared (shared_set l) k.needs) v.0);
          fields = surplus-none (shared_set l) k.fields p.fields v.1;
          narrow = λ z. ((narrow-is l p).0 u.1 z).0;
          wide = λ z. ((narrow-is l p).0 u.1 z).1;
        }

    so-holds : Sharing l k p → unshared l k p ≡ false
    so-holds s =
        or-none (a || b) (wide_id l p)
        (or-none a b (false-not (shared (shared_set l) k.needs) ((shared-is (shared_set l) k.needs).1 s.needed)) (none-surplus (shared_set l) k.fields p.fields s.fields))
        ((narrow-is l p).1 (λ z. (s.narrow z, s.wide z)))

-- ---- 23

abbrev AllWhole : List Field → List Value → Type 0
AllWhole fs vs = (i : ℕ) → i < length fs → (xs : List ℕ) → get_or vs i None ≡ Some xs → length xs ≡ (get_or fs i (u8 "")).times

-- the first field and then the others
whole-cons : (f : Field) (fs : List Field) (v : Value) (vs : List Value) → ((xs : List ℕ) → v ≡ Some xs → length xs ≡ f.times) → (length fs ≤ length vs) × AllWhole fs vs
    → (length (f ∷ fs) ≤ length (v ∷ vs)) × AllWhole (f ∷ fs) (v ∷ vs)
whole-cons f fs v vs w r = (omega (arith, r.0), at)
  where
    at : AllWhole (f ∷ fs) (v ∷ vs)
    at zero h xs t = w xs t
    at (suc i) h xs t = r.1 i (le_of_suc-le-suc h) xs t

complete-all : (fs : List Field) (vs : List Value) → complete fs vs ≡ true → (length fs ≤ length vs) × AllWhole fs vs
complete-all [] vs e = (omega arith, λ i h xs t. absurd (not-suc-le-zero h))
complete-all (f ∷ fs) [] e = absurd (false≢true e)
complete-all (f ∷ fs) (None ∷ vs) e = whole-cons f fs None vs (λ xs t. absurd (none-some _ t)) (complete-all fs vs e)
complete-all (f ∷ fs) (Some ys ∷ vs) e =
    let h = and_parts (eqb (length ys) f.times) (complete fs vs) e in
    whole-cons f fs (Some ys) vs (λ xs t. ap length (sym (same_Some _ _ t)) ∙ eqb-true (length ys) f.times h.0) (complete-all fs vs h.1)

all-complete : (fs : List Field) (vs : List Value) → length fs ≤ length vs → AllWhole fs vs → complete fs vs ≡ true
all-complete [] vs n a = refl
all-complete (f ∷ fs) [] n a = absurd (not-suc-le-zero n)
all-complete (f ∷ fs) (None ∷ vs) n a = all-complete fs vs (le_of_suc-le-suc n) (λ i h xs t. a (suc i) (omega (arith, h)) xs t)
all-complete (f ∷ fs) (Some ys ∷ vs) n a =
    and-whole (eqb (length ys) f.times) (complete fs vs) (eq-eqb (length ys) f.times (a 0 (omega arith) ys refl))
    (all-complete fs vs (le_of_suc-le-suc n) (λ i h xs t. a (suc i) (omega (arith, h)) xs t))

onward-is : (from : Side) (e : ℕ) → (onward from e ≡ true) ↔ Onward from e
onward-is Guest e = (eqb-true (e / 128) 0, eq-eqb (e / 128) 0)
onward-is Host e = (eqb-true (e / 128) 1, eq-eqb (e / 128) 1)

-- c where b holds, and 0 elsewhere
chosen : (b : Bool) (A : Type 0) (n c : ℕ) → ((b ≡ true) ↔ A) → (eqb n (cond b c 0) ≡ true) ↔ ((A → n ≡ c) × ((A → ⊥) → n ≡ 0))
chosen true A n c q = (λ e. (λ a. eqb-true n c e, λ z. absurd (z (q.0 refl))), λ h. eq-eqb n c (h.0 (q.0 refl)))
chosen false A n c q = (λ e. (λ a. absurd (false≢true (q.1 a)), λ z. eqb-true n 0 e), λ h. eq-eqb n 0 (h.1 (λ a. false≢true (q.1 a))))

-- What the checks take from the table: a high part stands in the line with bit 6, and a field of endpoint types has at most 32 rows.
abbrev is_six : Bits → Bool
is_six always = false
is_six (bit j) = eqb j 6
is_six (bits j k) = false

abbrev rows_fit : Rule → ℕ → Bool
rows_fit any n = true
rows_fit holding-zero n = true
rows_fit speed n = true
rows_fit at-most-32 n = true
rows_fit endpoint-type n = leb n 32
rows_fit endpoint n = true
rows_fit endpoint-in n = true
rows_fit endpoint-onward n = true
rows_fit endpoint-out-of-guest n = true
rows_fit as-endpoint n = true
rows_fit nonzero n = true
rows_fit (zero-without j) n = true

abbrev line_fits : List Field → Bool
line_fits [] = true
line_fits (f ∷ fs) = cond (eqt "length high" f.name) (is_six f.there) true && rows_fit f.rule f.times && line_fits fs

all-lines-fit : every_line line_fits kinds ≡ true
unfolding kinds
all-lines-fit = refl

line-fits : (p : Content) (k : Kind) → Line p k → line_fits k.fields ≡ true
line-fits p k h = of-found line_fits refl p.kind kinds k all-lines-fit (of-line p k h)

-- a field's own part of it, and the others'
fits-first : (f : Field) (fs : List Field) → line_fits (f ∷ fs) ≡ true → (cond (eqt "length high" f.name) (is_six f.there) true ≡ true) × (rows_fit f.rule f.times ≡ true) × (line_fits fs ≡ true)
fits-first f fs s =
    let h = and_parts (cond (eqt "length high" f.name) (is_six f.there) true && rows_fit f.rule f.times) (line_fits fs) s in
    let g = and_parts (cond (eqt "length high" f.name) (is_six f.there) true) (rows_fit f.rule f.times) h.0 in
    (g.0, g.1, h.1)

-- a field with bit 6 that is there where bit 6 is not shared
not-six : (caps : ℕ) (b : Bits) → has_bit caps 6 ≡ false → is_six b ≡ true → Shared caps b → ⊥
not-six caps always z e s = false≢true e
not-six caps (bit j) z e s = let q : j ≡ 6 = eqb-true j 6 e in true≢false (sym s ∙ ap (has_bit caps) q ∙ z)
not-six caps (bits j k) z e s = false≢true e

-- without bit 6 there is no high part
no-high : (caps : ℕ) (fs : List Field) (vs : List Value) → line_fits fs ≡ true → has_bit caps 6 ≡ false → AllShared caps fs vs → named "length high" fs vs ≡ 0
no-high caps [] vs s z a = refl
no-high caps (f ∷ fs) [] s z a = refl
no-high caps (f ∷ fs) (None ∷ vs) s z a =
    let h = fits-first f fs s in
    cases (eqt "length high" f.name) (λ t. rw t refl) (λ t. rw t (no-high caps fs vs h.2 z (λ i g xs q. a (suc i) (omega (arith, g)) xs q)))
no-high caps (f ∷ fs) (Some ys ∷ vs) s z a =
    let h = fits-first f fs s in
    cases (eqt "length high" f.name)
    (λ t. absurd (not-six caps f.there z (rw t at h.0) (a 0 (omega arith) ys refl)))
    (λ t. rw t (no-high caps fs vs h.2 z (λ i g xs q. a (suc i) (omega (arith, g)) xs q)))

-- so the count by bit 6 is that of both parts
both-parts : (b : Bool) (low high : ℕ) → (b ≡ false → high ≡ 0) → count_with b low high ≡ low + 65536 * high
both-parts true low high z = refl
both-parts false low high z = let q : high ≡ 0 = z refl in omega (arith, q)

count-is : (l : Link) (k : Kind) (p : Content) → Line p k → Sharing l k p → data_count l k p ≡ data_length k.fields p.fields
count-is l k p h s =
    both-parts (has_bit (shared_set l) 6) (named "length" k.fields p.fields) (named "length high" k.fields p.fields)
    (λ z. no-high (shared_set l) k.fields p.fields (line-fits p k h) z s.fields)

follow-is : (t : Tail) (from : Side) (k : Kind) (p : Content) (n : ℕ) → (tail_ok t from k.fields p.fields n ≡ true) ↔ Follow t from (endpoint_byte k p) (data_length k.fields p.fields) n
follow-is nothing from k p n = (eqb-true n 0, eq-eqb n 0)
follow-is words from k p n = (
  λ e.
      let h = and_parts (leb n 32) (eqb (n % 4) 0) e in
      let u : n ≤ 32 = leb-true n 32 h.0 in
      let v : n % 4 ≡ 0 = eqb-true (n % 4) 0 h.1 in
      (n / 4, omega arith, omega arith),
  λ h.
      let u : h.0 ≤ 8 = h.1 in
      let v : n ≡ 4 * h.0 = h.2 in
      and-whole (leb n 32) (eqb (n % 4) 0) (le-leb n 32 (omega arith)) (eq-eqb (n % 4) 0 (omega arith)),
)
follow-is string from k p n = (leb-true 1 n, le-leb 1 n)
follow-is payload from k p n = (eqb-true n (data_length k.fields p.fields), eq-eqb n (data_length k.fields p.fields))
follow-is payload-onward from k p n = chosen (onward from (endpoint_byte k p)) (Onward from (endpoint_byte k p)) n (data_length k.fields p.fields) (onward-is from (endpoint_byte k p))

sized-is : (l : Link) (k : Kind) (p : Content) → Line p k → Sharing l k p → (not (size_ok l.sender k p) ≡ false) ↔ Sized l k p
sized-is l k p w r = (
  λ e.
      let h = and_parts (complete k.fields p.fields) (tail_ok k.tail l.sender k.fields p.fields (length p.rest)) (not-false (size_ok l.sender k p) e) in
      let c = complete-all k.fields p.fields h.0 in
      record { all = c.0; whole = c.1; tail = subst tail_of (sym (count-is l k p w r)) ((follow-is k.tail l.sender k p (length p.rest)).0 h.1) },
  λ s. false-not (size_ok l.sender k p)
      (and-whole (complete k.fields p.fields) (tail_ok k.tail l.sender k.fields p.fields (length p.rest))
      (all-complete k.fields p.fields s.all s.whole)
      ((follow-is k.tail l.sender k p (length p.rest)).1 (subst tail_of (count-is l k p w r) s.tail))),
)
  where
    tail_of : ℕ → Type 0
    tail_of c = Follow k.tail l.sender (endpoint_byte k p) c (length p.rest)

-- ---- the first zero

zero-at : (s : List ℕ) → zero_at s < length s → get_or s (zero_at s) 0 ≡ 0
zero-at [] h = refl
zero-at (b ∷ s) h = cases (eqb b 0) (λ t. rw t (eqb-true b 0 t)) (λ t. rw t (zero-at s (le_of_suc-le-suc (rw t at h))))

before-zero : (s : List ℕ) (j : ℕ) → j < zero_at s → get_or s j 0 ≡ 0 → ⊥
before-zero [] j h z = not-suc-le-zero h
before-zero (b ∷ s) zero h z = not-suc-le-zero (rw (eq-eqb b 0 z) at h)
before-zero (b ∷ s) (suc j) h z = cases (eqb b 0) (λ t. not-suc-le-zero (rw t at h)) (λ t. before-zero s j (le_of_suc-le-suc (rw t at h)) z)

zero-first : (s : List ℕ) (j : ℕ) → get_or s j 0 ≡ 0 → zero_at s ≤ j
zero-first s j z = cases (leb (zero_at s) j) (λ t. leb-true (zero_at s) j t) (λ t. absurd (before-zero s j (leb-false (zero_at s) j t) z))

ends_is : (s : List ℕ) → (eqb (zero_at s + 1) (length s) ≡ true) ↔ EndsInZero s
ends_is s = (ends, ending)
  where
    ends : eqb (zero_at s + 1) (length s) ≡ true → EndsInZero s
    ends e =
        let q : zero_at s + 1 ≡ length s = eqb-true (zero_at s + 1) (length s) e in
        record { last = zero_at s; is_last = omega (arith, q); zero-there = zero-at s (omega (arith, q)); none_before = before-zero s }

    ending : EndsInZero s → eqb (zero_at s + 1) (length s) ≡ true
    ending z =
        let a : zero_at s ≤ z.last = zero-first s z.last z.zero-there in
        let b : suc z.last ≡ length s = z.is_last in
        let c : z.last ≤ zero_at s = cases (leb z.last (zero_at s)) (λ t. leb-true z.last (zero_at s) t) (λ t. absurd (z.none_before (zero_at s) (leb-false z.last (zero_at s) t) (zero-at s (omega arith)))) in
        eq-eqb (zero_at s + 1) (length s) (omega arith)

-- ---- 24

le_is : (a b : ℕ) → (leb a b ≡ true) ↔ (a ≤ b)
le_is a b = (leb-true a b, le-leb a b)

eq_is : (a b : ℕ) → (eqb a b ≡ true) ↔ (a ≡ b)
eq_is a b = (eqb-true a b, eq-eqb a b)

both_is : (a b : Bool) {A B : Type 0} → (a ≡ true) ↔ A → (b ≡ true) ↔ B → ((a && b) ≡ true) ↔ (A × B)
both_is a b p q = (λ e. let h = and_parts a b e in (p.0 h.0, q.0 h.1), λ h. and-whole a b (p.1 h.0) (q.1 h.1))

either_is : (a b : Bool) {A B : Type 0} → (a ≡ true) ↔ A → (b ≡ true) ↔ B → ((a || b) ≡ true) ↔ (A ⊎ B)
either_is true b p q = (λ e. inl (p.0 refl), λ h. refl)
either_is false b {A} {B} p q = (λ e. inr (q.0 e), back)
  where
    back : A ⊎ B → b ≡ true
    back (inl x) = absurd (false≢true (p.1 x))
    back (inr y) = q.1 y

guest≢host : Guest ≡ Host → ⊥
guest≢host e = true≢false (ap is_guest e)

-- "bits 4 to 6 are zero"
no_bits : (x : ℕ) → x / 16 % 8 ≡ 0 → Address x
no_bits x e = (ne_eqb (x / 16 % 2) 1 (λ q. omega (arith, e, q)), ne_eqb (x / 32 % 2) 1 (λ q. omega (arith, e, q)), ne_eqb (x / 64 % 2) 1 (λ q. omega (arith, e, q)))

bits_none : (x : ℕ) → Address x → x / 16 % 8 ≡ 0
bits_none x h =
    let a : x / 16 % 2 ≡ 1 → ⊥ = eqb-false (x / 16 % 2) 1 h.0 in
    let b : x / 32 % 2 ≡ 1 → ⊥ = eqb-false (x / 32 % 2) 1 h.1 in
    let c : x / 64 % 2 ≡ 1 → ⊥ = eqb-false (x / 64 % 2) 1 h.2 in
    let d : x / 16 % 2 ≡ 0 = even (x / 16) a in
    let e : x / 32 % 2 ≡ 0 = even (x / 32) b in
    let f : x / 64 % 2 ≡ 0 = even (x / 64) c in
    let g : x / 32 ≡ x / 16 / 2 = sym (shr-shr x 4 1) in
    let i : x / 64 ≡ x / 16 / 2 / 2 = sym (ap (λ (n : ℕ). n / 2) (shr-shr x 4 1) ∙ shr-shr x 5 1) in
    eighth (x / 16) d (ap (λ (n : ℕ). n % 2) (sym g) ∙ e) (ap (λ (n : ℕ). n % 2) (sym i) ∙ f)
  where
    eighth : (n : ℕ) → n % 2 ≡ 0 → n / 2 % 2 ≡ 0 → n / 2 / 2 % 2 ≡ 0 → n % 8 ≡ 0
    eighth n a b c =
        let u : n ≡ 2 * (n / 2) = omega (arith, a) in
        let v : n / 2 ≡ 2 * (n / 2 / 2) = omega (arith, b) in
        let w : n / 2 / 2 ≡ 2 * (n / 2 / 2 / 2) = omega (arith, c) in
        let z : n ≡ 8 * (n / 2 / 2 / 2) = u ∙ ap (λ (m : ℕ). 2 * m) (v ∙ ap (λ (m : ℕ). 2 * m) w) ∙ eight (n / 2 / 2 / 2) in
        whole8 n (n / 2 / 2 / 2) z
      where
        eight : (m : ℕ) → 2 * (2 * (2 * m)) ≡ 8 * m
        eight m = omega arith

        whole8 : (k m : ℕ) → k ≡ 8 * m → k % 8 ≡ 0
        whole8 k m q = omega (arith, q)

    even : (n : ℕ) → (n % 2 ≡ 1 → ⊥) → n % 2 ≡ 0
    even n z = cases (eqb (n % 2) 1) (λ t. absurd (z (eqb-true (n % 2) 1 t))) (λ t. let q : n % 2 < 2 = omega arith in cases (eqb (n % 2) 0) (λ u. eqb-true (n % 2) 0 u) (λ u. absurd (z (one_of (n % 2) q (eqb-false (n % 2) 0 u)))))
      where
        one_of : (m : ℕ) → m < 2 → (m ≡ 0 → ⊥) → m ≡ 1
        one_of zero h w = absurd (w refl)
        one_of (suc zero) h w = refl
        one_of (suc (suc m)) h w = absurd (not-suc-le-zero (le_of_suc-le-suc (le_of_suc-le-suc h)))

address_is : (x : ℕ) → (eqb (x / 16 % 8) 0 ≡ true) ↔ Address x
address_is x = (λ e. no_bits x (eqb-true (x / 16 % 8) 0 e), λ h. eq-eqb (x / 16 % 8) 0 (bits_none x h))

-- of 32 rows, 0 and 16 are the multiples of 16
row_of : (i : ℕ) → (i ≡ 0) ⊎ (i ≡ 16) → i % 16 ≡ 0
row_of i (inl e) = omega (arith, e)
row_of i (inr e) = omega (arith, e)

of_row : (i : ℕ) → i < 32 → i % 16 ≡ 0 → (i ≡ 0) ⊎ (i ≡ 16)
of_row i h e = cases (eqb i 0) (λ t. inl (eqb-true i 0 t)) (λ t. cases (eqb i 16) (λ u. inr (eqb-true i 16 u)) (λ u. absurd (other i h e (eqb-false i 0 t) (eqb-false i 16 u))))
  where
    other : (n : ℕ) → n < 32 → n % 16 ≡ 0 → (n ≡ 0 → ⊥) → (n ≡ 16 → ⊥) → ⊥
    other n a b c d =
        let q : n / 16 < 2 = omega (arith, a) in
        go (n / 16) q refl
      where
        go : (m : ℕ) → m < 2 → n / 16 ≡ m → ⊥
        go zero v w = c (omega (arith, b, w))
        go (suc zero) v w = d (omega (arith, b, w))
        go (suc (suc m)) v w = not-suc-le-zero (le_of_suc-le-suc (le_of_suc-le-suc v))

-- a type of row i
type-is : (b : Bool) (x : ℕ) {A : Type 0} → (b ≡ true) ↔ A → (cond b (eqb x 0) (leb x 3 || eqb x 255) ≡ true) ↔ (((x ≤ 3) ⊎ (x ≡ 255)) × (A → x ≡ 0))
type-is true x q = (λ e. let z : x ≡ 0 = eqb-true x 0 e in (inl (omega (arith, z)), λ a. z), λ h. eq-eqb x 0 (h.1 (q.0 refl)))
type-is false x q =
    let t = either_is (leb x 3) (eqb x 255) (le_is x 3) (eq_is x 255) in
    (λ e. (t.0 e, λ a. absurd (false≢true (q.1 a))), λ h. t.1 h.0)

out-of-guest-is : (from : Side) (x : ℕ) → ((not (is_guest from) || onward from x) ≡ true) ↔ (from ≡ Guest → x / 128 ≡ 0)
out-of-guest-is Guest x = (λ e h. eqb-true (x / 128) 0 e, λ h. eq-eqb (x / 128) 0 (h refl))
out-of-guest-is Host x = (λ e h. absurd (guest≢host (sym h)), λ h. refl)

unless-is : (b : Bool) (x : ℕ) → ((b || eqb x 0) ≡ true) ↔ (b ≡ false → x ≡ 0)
unless-is true x = (λ e h. absurd (true≢false h), λ h. refl)
unless-is false x = (λ e h. eqb-true x 0 e, λ h. eq-eqb x 0 (h refl))

keeps-is : (r : Rule) (from : Side) (caps e : ℕ) (xs : List ℕ) (i n : ℕ) → i < n → rows_fit r n ≡ true → (holds r from caps e xs i ≡ true) ↔ Keeps r from caps e xs i
keeps-is any from caps e xs i n m h = (λ t. tt, λ t. refl)
keeps-is holding-zero from caps e xs i n m h = (
  λ t. let w : zero_at xs < length xs = ltb-true (zero_at xs) (length xs) t in (zero_at xs, w, zero-at xs w),
  λ w. lt-ltb (zero_at xs) (length xs) (omega (arith, w.1, zero-first xs w.0 w.2)),
)
keeps-is speed from caps e xs i n m h = either_is (leb (get_or xs i 0) 3) (eqb (get_or xs i 0) 255) (le_is (get_or xs i 0) 3) (eq_is (get_or xs i 0) 255)
keeps-is at-most-32 from caps e xs i n m h = le_is (get_or xs i 0) 32
keeps-is endpoint-type from caps e xs i n m h = type-is (eqb (i % 16) 0) (get_or xs i 0) (λ e. of_row i (omega (arith, m, leb-true n 32 h)) (eqb-true (i % 16) 0 e), λ w. eq-eqb (i % 16) 0 (row_of i w))
keeps-is endpoint from caps e xs i n m h = address_is (get_or xs i 0)
keeps-is endpoint-in from caps e xs i n m h = both_is (eqb (get_or xs i 0 / 16 % 8) 0) (eqb (get_or xs i 0 / 128) 1) (address_is (get_or xs i 0)) (eq_is (get_or xs i 0 / 128) 1)
keeps-is endpoint-onward from caps e xs i n m h = both_is (eqb (get_or xs i 0 / 16 % 8) 0) (onward from (get_or xs i 0)) (address_is (get_or xs i 0)) (onward-is from (get_or xs i 0))
keeps-is endpoint-out-of-guest from caps e xs i n m h =
    both_is (eqb (get_or xs i 0 / 16 % 8) 0) (not (is_guest from) || onward from (get_or xs i 0)) (address_is (get_or xs i 0)) (out-of-guest-is from (get_or xs i 0))
keeps-is as-endpoint from caps e xs i n m h = eq_is (get_or xs i 0 / 128) (e / 128)
keeps-is nonzero from caps e xs i n m h = (λ t. eqb-false (get_or xs i 0) 0 (not-true (eqb (get_or xs i 0) 0) t), λ w. true-not (eqb (get_or xs i 0) 0) (ne_eqb (get_or xs i 0) 0 w))
keeps-is (zero-without j) from caps e xs i n m h = unless-is (has_bit caps j) (get_or xs i 0)

-- the numbers of one field
all-good : (ok : ℕ → Bool) (w n i at : ℕ) → is_none (first_bad ok w n i at) ≡ true → (k : ℕ) → k < n → ok (i + k) ≡ true
all-good ok w zero i at e k h = absurd (not-suc-le-zero h)
all-good ok w (suc n) i at e zero h = rw (add-zero i) (cases (ok i) (λ t. t) (λ t. absurd (false≢true (rw t at e))))
all-good ok w (suc n) i at e (suc k) h =
    rw (add-suc i k, ← suc-add i k)
    (cases (ok i) (λ t. all-good ok w n (suc i) (at + w) (rw t at e) k (le_of_suc-le-suc h)) (λ t. absurd (false≢true (rw t at e))))

good-all : (ok : ℕ → Bool) (w n i at : ℕ) → ((k : ℕ) → k < n → ok (i + k) ≡ true) → is_none (first_bad ok w n i at) ≡ true
good-all ok w zero i at a = refl
good-all ok w (suc n) i at a =
    let t : ok i ≡ true = rw (← add-zero i) (a 0 (omega arith)) in
    rw t (good-all ok w n (suc i) (at + w) (λ k h. rw (suc-add i k, ← add-suc i k) (a (suc k) (omega (arith, h)))))

none_both : (x y : Option ℕ) → is_none x ≡ true → is_none y ≡ true → is_none (or_else x y) ≡ true
none_both None y e f = f
none_both (Some a) y e f = e

-- all fields
abbrev AllThere : ℕ → List Field → List Value → Type 0
AllThere caps fs vs = (i : ℕ) → i < length fs → Shared caps (get_or fs i (u8 "")).there → (xs : List ℕ) × (get_or vs i None ≡ Some xs)

abbrev AllKept : Side → ℕ → ℕ → List Field → List Value → Type 0
AllKept from caps e fs vs =
    (i : ℕ) → i < length fs → (xs : List ℕ) → get_or vs i None ≡ Some xs → (j : ℕ) → j < (get_or fs i (u8 "")).times → Keeps (get_or fs i (u8 "")).rule from caps e xs j

module _ (from : Side) (caps e : ℕ) where
  missing : (f : Field) (at : ℕ) → is_none (cond (shared caps f.there) (Some at) None) ≡ true → Shared caps f.there → ⊥
  missing f at b s = false≢true (rw ((shared-is caps f.there).1 s) at b)

  -- nothing is bad in the first field, and nothing in the others
  first-none : (f : Field) (fs : List Field) (v : Value) (vs : List Value) (at : ℕ) → is_none (bad_fields from caps e (f ∷ fs) (v ∷ vs) at) ≡ true → is_none (bad_field from caps e f v at) ≡ true
  first-none f fs v vs at b = is_none-left (bad_field from caps e f v at) (bad_fields from caps e fs vs (at + size_of (shared caps) f)) b

  others-none : (f : Field) (fs : List Field) (v : Value) (vs : List Value) (at : ℕ) → is_none (bad_fields from caps e (f ∷ fs) (v ∷ vs) at) ≡ true
      → is_none (bad_fields from caps e fs vs (at + size_of (shared caps) f)) ≡ true
  others-none f fs v vs at b = is_none-right (bad_field from caps e f v at) (bad_fields from caps e fs vs (at + size_of (shared caps) f)) b

  bad-there : (fs : List Field) (vs : List Value) (at : ℕ) → length fs ≤ length vs → is_none (bad_fields from caps e fs vs at) ≡ true → AllThere caps fs vs
  bad-there [] vs at n b i h s = absurd (not-suc-le-zero h)
  bad-there (f ∷ fs) [] at n b i h s = absurd (not-suc-le-zero n)
  bad-there (f ∷ fs) (None ∷ vs) at n b zero h s = absurd (missing f at (first-none f fs None vs at b) s)
  bad-there (f ∷ fs) (Some ys ∷ vs) at n b zero h s = (ys, refl)
  bad-there (f ∷ fs) (v ∷ vs) at n b (suc i) h s = bad-there fs vs (at + size_of (shared caps) f) (le_of_suc-le-suc n) (others-none f fs v vs at b) i (le_of_suc-le-suc h) s

  bad-kept : (fs : List Field) (vs : List Value) (at : ℕ) → line_fits fs ≡ true → is_none (bad_fields from caps e fs vs at) ≡ true → AllKept from caps e fs vs
  bad-kept [] vs at w b i h xs t = absurd (not-suc-le-zero h)
  bad-kept (f ∷ fs) [] at w b i h xs t = absurd (none-some _ t)
  bad-kept (f ∷ fs) (None ∷ vs) at w b zero h xs t = absurd (none-some _ t)
  bad-kept (f ∷ fs) (Some ys ∷ vs) at w b zero h xs t = λ j g.
      let k = all-good (holds f.rule from caps e ys) f.width f.times 0 at (first-none f fs (Some ys) vs at b) j g in
      subst (λ (zs : List ℕ). Keeps f.rule from caps e zs j) (same_Some _ _ t) ((keeps-is f.rule from caps e ys j f.times g (fits-first f fs w).1).0 (rw (← zero-add j) k))
  bad-kept (f ∷ fs) (v ∷ vs) at w b (suc i) h xs t = bad-kept fs vs (at + size_of (shared caps) f) (fits-first f fs w).2 (others-none f fs v vs at b) i (le_of_suc-le-suc h) xs t

  good-fields : (fs : List Field) (vs : List Value) (at : ℕ) → line_fits fs ≡ true → AllThere caps fs vs → AllKept from caps e fs vs → is_none (bad_fields from caps e fs vs at) ≡ true
  good-fields [] vs at w a k = refl
  good-fields (f ∷ fs) [] at w a k = refl
  good-fields (f ∷ fs) (None ∷ vs) at w a k =
      none_both (bad_field from caps e f None at) (bad_fields from caps e fs vs (at + size_of (shared caps) f))
      (cases (shared caps f.there) (λ t. absurd (none-some _ (a 0 (omega arith) ((shared-is caps f.there).0 t)).1)) (λ t. rw t refl))
      (good-fields fs vs (at + size_of (shared caps) f) (fits-first f fs w).2 (λ i h. a (suc i) (omega (arith, h))) (λ i h. k (suc i) (omega (arith, h))))
  good-fields (f ∷ fs) (Some ys ∷ vs) at w a k =
      none_both (bad_field from caps e f (Some ys) at) (bad_fields from caps e fs vs (at + size_of (shared caps) f))
      (good-all (holds f.rule from caps e ys) f.width f.times 0 at (λ j g. rw (zero-add j) ((keeps-is f.rule from caps e ys j f.times g (fits-first f fs w).1).1 (k 0 (omega arith) ys refl j g))))
      (good-fields fs vs (at + size_of (shared caps) f) (fits-first f fs w).2 (λ i h. a (suc i) (omega (arith, h))) (λ i h. k (suc i) (omega (arith, h))))

-- what follows the fields, and the id
abbrev is_string : Tail → Bool
is_string nothing = false
is_string words = false
is_string string = true
is_string payload = false
is_string payload-onward = false

abbrev is_words : Tail → Bool
is_words nothing = false
is_words words = true
is_words string = false
is_words payload = false
is_words payload-onward = false

no-string : (t : Tail) → is_string t ≡ false → t ≡ string → ⊥
no-string t e q = true≢false (sym (ap is_string q) ∙ e)

no_words : (t : Tail) → is_words t ≡ false → t ≡ words → ⊥
no_words t e q = true≢false (sym (ap is_words q) ∙ e)

-- nothing is bad exactly where the test holds
found_none : (b : Bool) (at : ℕ) → (is_none (cond b None (Some at)) ≡ true) ↔ (b ≡ true)
found_none true at = (λ e. refl, λ e. refl)
found_none false at = (λ e. e, λ e. e)

ending-is : (t : Tail) (s : List ℕ) (at : ℕ) → (is_none (bad_tail t s at) ≡ true) ↔ (t ≡ string → EndsInZero s)
ending-is nothing s at = (λ e q. absurd (no-string nothing refl q), λ h. refl)
ending-is words s at = (λ e q. absurd (no-string words refl q), λ h. refl)
ending-is string s at =
    let b = found_none (eqb (zero_at s + 1) (length s)) at in
    (λ e q. (ends_is s).0 (b.0 e), λ h. b.1 ((ends_is s).1 (h refl)))
ending-is payload s at = (λ e q. absurd (no-string payload refl q), λ h. refl)
ending-is payload-onward s at = (λ e q. absurd (no-string payload-onward refl q), λ h. refl)

abbrev wants_zero : Id → Bool
wants_zero id-any = false
wants_zero id-zero = true

id-is : (r : Id) (n : ℕ) → (is_none (bad_id r n) ≡ true) ↔ (r ≡ id-zero → n ≡ 0)
id-is id-any n = (λ e q. absurd (false≢true (ap wants_zero q)), λ h. refl)
id-is id-zero n = let b = found_none (eqb n 0) 65535 in (λ e q. eqb-true n 0 (b.0 e), λ h. b.1 (eq-eqb n 0 (h refl)))

module _ (l : Link) (k : Kind) (p : Content) where
  abbrev x : Option ℕ
  x = bad_fields l.sender (shared_set l) (endpoint_byte k p) k.fields p.fields 0

  abbrev y : Option ℕ
  y = bad_tail k.tail p.rest (size (shared (shared_set l)) k.fields)

  abbrev z : Option ℕ
  z = bad_id k.id p.id

  keeps-rules : line_fits k.fields ≡ true → length k.fields ≤ length p.fields → not (is_none (bad l.sender (shared_set l) k p)) ≡ false → Ruled l k p
  unfolding bad
  keeps-rules w n e =
      let h : is_none (or_else x (or_else y z)) ≡ true = not-false (is_none (bad l.sender (shared_set l) k p)) e in
      let a = is_none-left x (or_else y z) h in
      let b = is_none-right x (or_else y z) h in
      record {
        there = bad-there l.sender (shared_set l) (endpoint_byte k p) k.fields p.fields 0 n a;
        rules = bad-kept l.sender (shared_set l) (endpoint_byte k p) k.fields p.fields 0 w a;
        ending = (ending-is k.tail p.rest (size (shared (shared_set l)) k.fields)).0 (is_none-left y z b);
        id = (id-is k.id p.id).0 (is_none-right y z b);
      }

  rules-kept : line_fits k.fields ≡ true → Ruled l k p → not (is_none (bad l.sender (shared_set l) k p)) ≡ false
  unfolding bad
  rules-kept w r =
      false-not (is_none (bad l.sender (shared_set l) k p))
      (none_both x (or_else y z) (good-fields l.sender (shared_set l) (endpoint_byte k p) k.fields p.fields 0 w r.there r.rules)
      (none_both y z ((ending-is k.tail p.rest (size (shared (shared_set l)) k.fields)).1 r.ending) ((id-is k.id p.id).1 r.id)))

-- ---- 13

alone-is : (a b : Bool) → ((a && not b) ≡ false) ↔ (a ≡ true → b ≡ true)
alone-is a b = (λ e t. not-false b (fails a (not b) e t), λ h. failing a (not b) (λ t. false-not b (h t)))

streams-is : (t : Tail) (s : List ℕ) → (streams_alone t s ≡ false) ↔ (t ≡ words → has_bit (le 4 s 0) 0 ≡ true → has_bit (le 4 s 0) 4 ≡ true)
streams-is nothing s = (λ e q. absurd (no_words nothing refl q), λ h. refl)
streams-is words s =
    let b = alone-is (has_bit (le 4 s 0) 0) (has_bit (le 4 s 0) 4) in
    (λ e q. b.0 e, λ h. b.1 (h refl))
streams-is string s = (λ e q. absurd (no_words string refl q), λ h. refl)
streams-is payload s = (λ e q. absurd (no_words payload refl q), λ h. refl)
streams-is payload-onward s = (λ e q. absurd (no_words payload-onward refl q), λ h. refl)

-- ---- the number

-- which test is the first that fails
none-fails : (a b c d e : Bool) → in_order a b c d e ≡ 0 → (a ≡ false) × (b ≡ false) × (c ≡ false) × (d ≡ false) × (e ≡ false)
none-fails true b c d e q = absurd (omega (arith, q))
none-fails false true c d e q = absurd (omega (arith, q))
none-fails false false true d e q = absurd (omega (arith, q))
none-fails false false false true e q = absurd (omega (arith, q))
none-fails false false false false true q = absurd (omega (arith, q))
none-fails false false false false false q = (refl, refl, refl, refl, refl)

is-20 : (a b c d e : Bool) → in_order a b c d e ≡ 20 → ⊥
is-20 true b c d e q = absurd (omega (arith, q))
is-20 false true c d e q = absurd (omega (arith, q))
is-20 false false true d e q = absurd (omega (arith, q))
is-20 false false false true e q = absurd (omega (arith, q))
is-20 false false false false true q = absurd (omega (arith, q))
is-20 false false false false false q = absurd (omega (arith, q))

is-21 : (a b c d e : Bool) → in_order a b c d e ≡ 21 → a ≡ true
is-21 true b c d e q = refl
is-21 false true c d e q = absurd (omega (arith, q))
is-21 false false true d e q = absurd (omega (arith, q))
is-21 false false false true e q = absurd (omega (arith, q))
is-21 false false false false true q = absurd (omega (arith, q))
is-21 false false false false false q = absurd (omega (arith, q))

is-22 : (a b c d e : Bool) → in_order a b c d e ≡ 22 → (a ≡ false) × (b ≡ true)
is-22 true b c d e q = absurd (omega (arith, q))
is-22 false true c d e q = (refl, refl)
is-22 false false true d e q = absurd (omega (arith, q))
is-22 false false false true e q = absurd (omega (arith, q))
is-22 false false false false true q = absurd (omega (arith, q))
is-22 false false false false false q = absurd (omega (arith, q))

is-23 : (a b c d e : Bool) → in_order a b c d e ≡ 23 → (a ≡ false) × (b ≡ false) × (c ≡ true)
is-23 true b c d e q = absurd (omega (arith, q))
is-23 false true c d e q = absurd (omega (arith, q))
is-23 false false true d e q = (refl, refl, refl)
is-23 false false false true e q = absurd (omega (arith, q))
is-23 false false false false true q = absurd (omega (arith, q))
is-23 false false false false false q = absurd (omega (arith, q))

is-24 : (a b c d e : Bool) → in_order a b c d e ≡ 24 → (a ≡ false) × (b ≡ false) × (c ≡ false) × (d ≡ true)
is-24 true b c d e q = absurd (omega (arith, q))
is-24 false true c d e q = absurd (omega (arith, q))
is-24 false false true d e q = absurd (omega (arith, q))
is-24 false false false true e q = (refl, refl, refl, refl)
is-24 false false false false true q = absurd (omega (arith, q))
is-24 false false false false false q = absurd (omega (arith, q))

is-13 : (a b c d e : Bool) → in_order a b c d e ≡ 13 → (a ≡ false) × (b ≡ false) × (c ≡ false) × (d ≡ false) × (e ≡ true)
is-13 true b c d e q = absurd (omega (arith, q))
is-13 false true c d e q = absurd (omega (arith, q))
is-13 false false true d e q = absurd (omega (arith, q))
is-13 false false false true e q = absurd (omega (arith, q))
is-13 false false false false true q = (refl, refl, refl, refl, refl)
is-13 false false false false false q = absurd (omega (arith, q))

-- a test that fails is one that does not hold
refuted : (b : Bool) {A : Type 0} → (b ≡ false) ↔ A → b ≡ true → A → ⊥
refuted b q e x = true≢false (sym e ∙ q.1 x)

refuting : (b : Bool) {A : Type 0} → (b ≡ false) ↔ A → (A → ⊥) → b ≡ true
refuting true q n = refl
refuting false q n = absurd (n (q.0 refl))

module _ (l : Link) (p : Content) where
  -- of a packet with a line the number is that of the line
  by-line : (k : Kind) → Line p k → wire_number l p ≡ kind_number l k p
  unfolding wire_number
  by-line k h = ap (λ (o : Option Kind). by_kind l o p) (of-line p k h)

  -- and any number but 20 is one of a line
  some-line : (n : ℕ) → (n ≡ 20 → ⊥) → wire_number l p ≡ n → (k : Kind) × Line p k × (kind_number l k p ≡ n)
  unfolding wire_number
  some-line n z e = go (find p.kind kinds) refl e
    where
      go : (o : Option Kind) → find p.kind kinds ≡ o → by_kind l o p ≡ n → (k : Kind) × Line p k × (kind_number l k p ≡ n)
      go None f q = absurd (z (sym q))
      go (Some k) f q = (k, line_of p k f, q)

  without-line : ((k : Kind) → Line p k → ⊥) → wire_number l p ≡ 20
  unfolding wire_number
  without-line n = go (find p.kind kinds) refl
    where
      go : (o : Option Kind) → find p.kind kinds ≡ o → by_kind l o p ≡ 20
      go None f = refl
      go (Some k) f = absurd (n k (line_of p k f))

  module _ (k : Kind) where
    abbrev a : Bool
    a = not (sends k.sender l.sender)

    abbrev b : Bool
    b = unshared l k p

    abbrev c : Bool
    c = not (size_ok l.sender k p)

    abbrev d : Bool
    d = not (is_none (bad l.sender (shared_set l) k p))

    abbrev e : Bool
    e = streams_alone k.tail p.rest

    sent : (a ≡ false) ↔ Sends k.sender l.sender
    sent = sends-is k.sender l.sender

    shares : (b ≡ false) ↔ Sharing l k p
    shares = sharing-is l k p

    sizes : Line p k → Sharing l k p → (c ≡ false) ↔ Sized l k p
    sizes = sized-is l k p

    rules : Line p k → Sized l k p → (d ≡ false) ↔ Ruled l k p
    rules w s = (keeps-rules l k p (line-fits p k w) s.all, rules-kept l k p (line-fits p k w))

    streams : (e ≡ false) ↔ StreamsToo k p
    streams = streams-is k.tail p.rest

  no_line : wire_number l p ≡ 20 → (k : Kind) → Line p k → ⊥
  unfolding kind_number
  no_line q k h = is-20 (a k) (b k) (c k) (d k) (e k) (sym (by-line k h) ∙ q)

  exactly : (wire_number l p ≡ 0) ↔ Formed l p
  unfolding kind_number
  exactly = (formed, unformed)
    where
      formed : wire_number l p ≡ 0 → Formed l p
      formed z =
          let h = some-line 0 (λ q. omega (arith, q)) z in
          let k = h.0 in
          let t = none-fails (a k) (b k) (c k) (d k) (e k) h.2 in
          let r = (shares k).0 t.1 in
          let s = (sizes k h.1 r).0 t.2 in
          record { kind = k; line = h.1; sender = (sent k).0 t.0; sharing = r; sized = s; ruled = (rules k h.1 s).0 t.3; streams = (streams k).0 t.4 }

      unformed : Formed l p → wire_number l p ≡ 0
      unformed f =
          let k = f.kind in
          by-line k f.line ∙ rw ((sent k).1 f.sender, (shares k).1 f.sharing, (sizes k f.line f.sharing).1 f.sized, (rules k f.line f.sized).1 f.ruled, (streams k).1 f.streams) refl

  numbered : Numbered l p (wire_number l p)
  unfolding kind_number
  numbered =
      record {
        unknown = (no_line, without-line);
        wrong-sender = (
          λ z.
              let h = some-line 21 (λ q. omega (arith, q)) z in
              let k = h.0 in
              let t = is-21 (a k) (b k) (c k) (d k) (e k) h.2 in
              (k, h.1, refuted (a k) (sent k) t),
          λ h.
              let k = h.0 in
              by-line k h.1 ∙ rw (refuting (a k) (sent k) h.2) refl,
        );
        not-shared = (
          λ z.
              let h = some-line 22 (λ q. omega (arith, q)) z in
              let k = h.0 in
              let t = is-22 (a k) (b k) (c k) (d k) (e k) h.2 in
              (k, h.1, (sent k).0 t.0, refuted (b k) (shares k) t.1),
          λ h.
              let k = h.0 in
              by-line k h.1 ∙ rw ((sent k).1 h.2, refuting (b k) (shares k) h.3) refl,
        );
        wrong_size = (
          λ z.
              let h = some-line 23 (λ q. omega (arith, q)) z in
              let k = h.0 in
              let t = is-23 (a k) (b k) (c k) (d k) (e k) h.2 in
              let r = (shares k).0 t.1 in
              (k, h.1, (sent k).0 t.0, r, refuted (c k) (sizes k h.1 r) t.2),
          λ h.
              let k = h.0 in
              by-line k h.1 ∙ rw ((sent k).1 h.2, (shares k).1 h.3, refuting (c k) (sizes k h.1 h.3) h.4) refl,
        );
        rule-broken = (
          λ z.
              let h = some-line 24 (λ q. omega (arith, q)) z in
              let k = h.0 in
              let t = is-24 (a k) (b k) (c k) (d k) (e k) h.2 in
              let r = (shares k).0 t.1 in
              let s = (sizes k h.1 r).0 t.2 in
              (k, h.1, (sent k).0 t.0, r, s, refuted (d k) (rules k h.1 s) t.3),
          λ h.
              let k = h.0 in
              by-line k h.1 ∙ rw ((sent k).1 h.2, (shares k).1 h.3, (sizes k h.1 h.3).1 h.4, refuting (d k) (rules k h.1 h.4) h.5) refl,
        );
        streams-alone = (
          λ z.
              let h = some-line 13 (λ q. omega (arith, q)) z in
              let k = h.0 in
              let t = is-13 (a k) (b k) (c k) (d k) (e k) h.2 in
              let r = (shares k).0 t.1 in
              let s = (sizes k h.1 r).0 t.2 in
              (k, h.1, (sent k).0 t.0, r, s, (rules k h.1 s).0 t.3, refuted (e k) (streams k) t.4),
          λ h.
              let k = h.0 in
              by-line k h.1 ∙ rw ((sent k).1 h.2, (shares k).1 h.3, (sizes k h.1 h.3).1 h.4, (rules k h.1 h.4).1 h.5, refuting (e k) (streams k) h.6) refl,
        );
      }

pub wire-exactly : WireExactly
wire-exactly l p = exactly l p

pub wire-number-is : WireNumberIs
wire-number-is l p = numbered l p

-- ---- the shared bits

-- a bit of both is a bit of each
bit-and : (a b j : ℕ) → bit_and a b / 2 ^ j % 2 ≡ bit_and (a / 2 ^ j % 2) (b / 2 ^ j % 2)
bit-and a b j = ap (λ (x : ℕ). x % 2) (and_shr a b j) ∙ and_mod (a / 2 ^ j) (b / 2 ^ j) 1

bit-of-both : (x y : ℕ) → x < 2 → y < 2 → (eqb (bit_and x y) 1 ≡ true) ↔ ((eqb x 1 ≡ true) × (eqb y 1 ≡ true))
bit-of-both zero y h g = (λ e. absurd (false≢true e), λ e. absurd (false≢true e.0))
bit-of-both (suc zero) zero h g = (λ e. absurd (false≢true e), λ e. absurd (false≢true e.1))
bit-of-both (suc zero) (suc zero) h g = (λ e. (refl, refl), λ e. refl)
bit-of-both (suc zero) (suc (suc y)) h g = absurd (not-suc-le-zero (le_of_suc-le-suc (le_of_suc-le-suc g)))
bit-of-both (suc (suc x)) y h g = absurd (not-suc-le-zero (le_of_suc-le-suc (le_of_suc-le-suc h)))

has_both : (a b j : ℕ) → (has_bit (bit_and a b) j ≡ true) ↔ ((has_bit a j ≡ true) × (has_bit b j ≡ true))
has_both a b j = subst (λ (n : ℕ). (eqb n 1 ≡ true) ↔ ((has_bit a j ≡ true) × (has_bit b j ≡ true))) (sym (bit-and a b j)) (bit-of-both (a / 2 ^ j % 2) (b / 2 ^ j % 2) (below (a / 2 ^ j)) (below (b / 2 ^ j)))
  where
    below : (n : ℕ) → n % 2 < 2
    below n = omega arith

-- 255 has bits 0 to 7 alone
low_bit : (j : ℕ) → has_bit 255 j ≡ true → j ≤ 7
low_bit j e = cases (leb j 7) (λ t. leb-true j 7 t) (λ t. absurd (false≢true (sym (none-there (leb-false j 7 t)) ∙ e)))
  where
    none-there : 7 < j → has_bit 255 j ≡ false
    none-there h = ap (λ (n : ℕ). eqb (n % 2) 1) (div-eq_of_lt (lt_of_lt_of_le (lit< tt) (pow_mono h)))

has-low : (j : ℕ) → j ≤ 7 → has_bit 255 j ≡ true
has-low zero h = refl
has-low (suc zero) h = refl
has-low (suc (suc zero)) h = refl
has-low (suc (suc (suc zero))) h = refl
has-low (suc (suc (suc (suc zero)))) h = refl
has-low (suc (suc (suc (suc (suc zero))))) h = refl
has-low (suc (suc (suc (suc (suc (suc zero)))))) h = refl
has-low (suc (suc (suc (suc (suc (suc (suc zero))))))) h = refl
has-low (suc (suc (suc (suc (suc (suc (suc (suc j)))))))) h = absurd (omega (arith, h))

-- a bit of what a hello offers is one of a hello that has passed
offering : (h : Option ℕ) (j : ℕ) → has_bit (offered h) j ≡ true → (word : ℕ) × (h ≡ Some word) × (has_bit word j ≡ true)
offering None j e = absurd (false≢true (sym (none-of-zero j) ∙ e))
  where
    none-of-zero : (i : ℕ) → has_bit 0 i ≡ false
    none-of-zero i = ap (λ (n : ℕ). eqb (n % 2) 1) (div-eq_of_lt (pow_pos i))
offering (Some word) j e = (word, refl, e)

pub shared-bits : SharedBits
unfolding shared_set
shared-bits l j = (words_of, of_words)
  where
    words_of : has_bit (shared_set l) j ≡ true → SharedBit l j
    words_of e =
        let a = (has_both (bit_and (offered l.guest) (offered l.host)) 255 j).0 e in
        let b = (has_both (offered l.guest) (offered l.host) j).0 a.0 in
        let g = offering l.guest j b.0 in
        let h = offering l.host j b.1 in
        record { low = low_bit j a.1; guest_word = g.0; host_word = h.0; guest-passed = g.1; host-passed = h.1; in-guest = g.2; in-host = h.2 }

    of_words : SharedBit l j → has_bit (shared_set l) j ≡ true
    of_words s =
        (has_both (bit_and (offered l.guest) (offered l.host)) 255 j).1 (
          (has_both (offered l.guest) (offered l.host) j).1
              (ap (λ (h : Option ℕ). has_bit (offered h) j) s.guest-passed ∙ s.in-guest, ap (λ (h : Option ℕ). has_bit (offered h) j) s.host-passed ∙ s.in-host),
          has-low j s.low,
        )
