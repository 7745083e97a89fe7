-- The number of a body that lacks a field (`lacks`), or has bytes behind its fields where nothing may follow them, is `missized` (`misfits`);
-- any other body of a kind below 100 fits (`fits`).
-- In either case `size_ok` fails (`too_short`, `too_long`), so that only 21 and 22 can come before 23, and what is behind it is not asked. What is
-- read off the wire has no field that is not shared, by induction over the fields (`none-surplus`): 22 is left for the kind's bit and the id.
-- Assumes nothing.
use Rattle.std.specs.Prelude.{Some, None}
use mathlib.Core.Path.{◌≡◌, refl, sym, ap, ◌∙◌}
use mathlib.Core.Bool.{Bool, true, false, cond, not, ◌&&◌, ◌||◌, or-false, false≢true}
use mathlib.Core.List.{List, [], ◌∷◌}
use Prim.Native.Nat.{ℕ, ◌-◌, ◌^◌, ◌≤◌, ◌<◌}
use native.Mathlib.Omega.{arith}
use lib.ListN.{length, drop, length-drop}
use lib.Dec.{eqb, leb, ltb}
use borrow.Author.Tests.{lt-leb, ltb-true, ltb-false, ne_eqb, not-true, not-false}
use borrow.Table.Steps.{cases}
use Rattle.octets.specs.Bits.{has_bit}
use Rattle.octets.proofs.Logic.{and_parts, or_parts, failing}
use Rattle.header.specs.declared.Link.{Link}
use Rattle.header.specs.declared.Side.{Side}
use Rattle.header.specs.Link.{shared_set, id_width}
use Rattle.kinds.specs.Table.{Field, Tail, nothing, words, string, payload, payload-onward, Kind, kind_at}
use Rattle.kinds.specs.Content.{Value, Content, shared, size_of, size, whole, split, fields_of}
use Rattle.kinds.specs.Number.{sends, surplus, wide_id, complete, tail_ok, size_ok, bad, is_none, streams_alone, in_order, kind_number, by_kind, wire_number}
use Rattle.kinds.specs.Codec.{layout, content_at}
use Rattle.kinds.proofs.FieldBytes.{wide-id, complete-split}
use Rattle.decoder.specs.Reading.{is_nothing, carries}
use Rattle.rules.specs.Findings.{missized}
use Rattle.decoder.specs.Body.{Fits}
use Rattle.kinds.specs.Slots.{found, only-hello}

-- what is read off the wire has no field that is not shared
none-surplus : (caps : ℕ) (fs : List Field) (s : List ℕ) → surplus caps fs (split (shared caps) fs s) ≡ false
none-surplus caps [] s = refl
none-surplus caps (f ∷ fs) s = go (shared caps f.there) refl (none-surplus caps fs (drop (size_of (shared caps) f) s))
  where
    rest : List Value
    rest = split (shared caps) fs (drop (size_of (shared caps) f) s)

    go : (b : Bool) → shared caps f.there ≡ b → surplus caps fs rest ≡ false → surplus caps (f ∷ fs) (cond b (Some (whole f s)) None ∷ rest) ≡ false
    go true e ih = ap (λ (t : Bool). not t || surplus caps fs rest) e ∙ ih
    go false e ih = ih

no-tail : (t : Tail) (from : Side) (fs : List Field) (vs : List Value) (n : ℕ) → is_nothing t ≡ true → (n ≡ 0 → ⊥) → tail_ok t from fs vs n ≡ false
no-tail nothing from fs vs n e z = ne_eqb n 0 z
no-tail words from fs vs n e z = absurd (false≢true e)
no-tail string from fs vs n e z = absurd (false≢true e)
no-tail payload from fs vs n e z = absurd (false≢true e)
no-tail payload-onward from fs vs n e z = absurd (false≢true e)

module _ (l : Link) (slot id : ℕ) (body : List ℕ) (small : slot < 33) (fits : id < 256 ^ 8) where
  -- the number where the size is wrong
  of_size : size_ok l.sender (kind_at slot) (content_at (shared_set l) (kind_at slot).number id body) ≡ false
      → wire_number l (content_at (shared_set l) (kind_at slot).number id body) ≡ missized l slot id
  unfolding wire_number kind_number content_at layout id_width
  of_size e =
      let caps : ℕ = shared_set l in
      let k : Kind = kind_at slot in
      let q : Content = content_at caps k.number id body in
      let n : Bool = not (shared caps k.needs) in
      let f : layout k.number ≡ k.fields = ap fields_of (found slot small) in
      let s : surplus caps k.fields q.fields ≡ false = (λ i. surplus caps k.fields (split (shared caps) (f i) body)) ∙ none-surplus caps k.fields body in
      let v : Bool = not (eqb slot 0) && not (has_bit caps 5) && leb 4294967296 id in
      let w : wide_id l q ≡ v =
      ap (λ (b : Bool). not b && leb (256 ^ cond (not b && has_bit caps 5) 8 4) id) (only-hello slot small) ∙ wide-id (eqb slot 0) (has_bit caps 5) id fits in
      (λ i. by_kind l (found slot small i) q)
      ∙ (λ i. in_order (not (sends k.sender l.sender)) (n || s i || w i) (not (e i)) (not (is_none (bad l.sender caps k q))) (streams_alone k.tail q.rest))
      ∙ (λ i. in_order (not (sends k.sender l.sender)) (or-false n i || v) true false false)

  -- a body that is shorter than its fields lacks one of them
  too_short : length body < size (shared (shared_set l)) (kind_at slot).fields
      → size_ok l.sender (kind_at slot) (content_at (shared_set l) (kind_at slot).number id body) ≡ false
  unfolding content_at layout
  too_short h =
      let caps : ℕ = shared_set l in
      let k : Kind = kind_at slot in
      let q : Content = content_at caps k.number id body in
      let f : layout k.number ≡ k.fields = ap fields_of (found slot small) in
      let c : complete k.fields q.fields ≡ false =
      (λ i. complete k.fields (split (shared caps) (f i) body)) ∙ complete-split (shared caps) k.fields body ∙ lt-leb (size (shared caps) k.fields) (length body) h in
      λ i. c i && tail_ok k.tail l.sender k.fields q.fields (length q.rest)

  -- a body that is longer has bytes behind its fields, where its kind has none
  too_long : carries (kind_at slot) ≡ false → size (shared (shared_set l)) (kind_at slot).fields < length body
      → size_ok l.sender (kind_at slot) (content_at (shared_set l) (kind_at slot).number id body) ≡ false
  unfolding content_at layout
  too_long c h =
      let caps : ℕ = shared_set l in
      let k : Kind = kind_at slot in
      let q : Content = content_at caps k.number id body in
      let f : layout k.number ≡ k.fields = ap fields_of (found slot small) in
      let t : is_nothing k.tail ≡ true = not-false (is_nothing k.tail) c in
      let r : length q.rest ≡ length body - size (shared caps) k.fields =
      (λ i. length (drop (size (shared caps) (f i)) body)) ∙ length-drop (size (shared caps) k.fields) body in
      failing (complete k.fields q.fields) _
      (λ _. no-tail k.tail l.sender k.fields q.fields (length q.rest) t (λ z. let y : length body - size (shared caps) k.fields ≡ 0 = sym r ∙ z in omega arith))

  pub lacks : length body < size (shared (shared_set l)) (kind_at slot).fields
      → wire_number l (content_at (shared_set l) (kind_at slot).number id body) ≡ missized l slot id
  lacks h = of_size (too_short h)

  pub misfits : (ltb (length body) (size (shared (shared_set l)) (kind_at slot).fields) || (not (carries (kind_at slot)) && ltb (size (shared (shared_set l)) (kind_at slot).fields) (length body))) ≡ true
      → wire_number l (content_at (shared_set l) (kind_at slot).number id body) ≡ missized l slot id
  misfits h =
      let n : ℕ = length body in
      let m : ℕ = size (shared (shared_set l)) (kind_at slot).fields in
      of_size (cases (ltb n m) (λ e. too_short (ltb-true n m e))
      (λ e. let b : (not (carries (kind_at slot)) && ltb m n) ≡ true = ap (λ (t : Bool). t || (not (carries (kind_at slot)) && ltb m n)) (sym e) ∙ h in
      too_long (not-true (carries (kind_at slot)) (and_parts (not (carries (kind_at slot))) (ltb m n) b).0) (ltb-true m n (and_parts (not (carries (kind_at slot))) (ltb m n) b).1)))

-- ---- a body that fits

-- neither holds: all fields are there, and nothing behind them where nothing may follow
pub fits : (caps slot : ℕ) (body : List ℕ) → slot < 28
    → (ltb (length body) (size (shared caps) (kind_at slot).fields) || (not (carries (kind_at slot)) && ltb (size (shared caps) (kind_at slot).fields) (length body))) ≡ false
    → Fits caps slot body
fits caps slot body small h =
    let n : ℕ = length body in
    let m : ℕ = size (shared caps) (kind_at slot).fields in
    let c : Bool = carries (kind_at slot) in
    let l : m ≤ n = ltb-false n m (or_parts (ltb n m) (not c && ltb m n) h).0 in
    record {
      small = small;
      there = l;
      exact = λ e.
          let t : ltb m n ≡ false = rw e at (or_parts (ltb n m) (not c && ltb m n) h).1 in
          let r : n ≤ m = ltb-false m n t in
          omega arith;
    }
