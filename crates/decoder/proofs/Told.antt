-- What a reading tells, step by step: a body of a known kind (`size-refused`, `packet-refused`, `packet-read`), a body behind a header
-- (`behind-unknown`, `behind-known`), then the bytes of one packet, in the code's order (`short-refused`, `header_refused_lem`, `length-refused`,
-- `body-read`).
-- What is to be told is a number, and something handed on where that is 0. So a refusal owes its number alone (`not-handed`), and a packet that
-- passed also that it says what the body says (`is-handed`). The steps decide the tests of `read_number` one after the other.
-- Assumes nothing.
use Rattle.std.specs.Prelude.{Option, Some, None, Ok, Err}
use mathlib.Core.Path.{◌≡◌, sym, ap, ◌∙◌}
use mathlib.Core.Bool.{true, false, cond}
use mathlib.Core.List.{List}
use Prim.Native.Nat.{ℕ, ◌+◌, ◌-◌, ◌≤◌, ◌<◌}
use lib.ListN.{length, take, drop}
use lib.Dec.{eqb, ltb}
use borrow.Author.Tests.{eq-eqb, ne_eqb, lt-ltb, le-ltb}
use borrow.Author.Rules.{part_to_end}
use Rattle.header.specs.declared.Header.{Header}
use Rattle.header.specs.declared.Link.{Link}
use Rattle.header.specs.declared.Refusal.{Refusal}
use Rattle.header.specs.declared.Refusal.TheVariants.{UnknownKind, WrongSize}
use Rattle.header.specs.Refusal.{number_of}
use Rattle.header.proofs.Refusals.{refused}
use Rattle.header.specs.Link.{shared_set}
use Rattle.header.specs.Header.{header_of, kind_of, length_of, header_size, header_number}
use Rattle.header.proofs.Widths.{narrow}
use Rattle.kinds.specs.Table.{kinds, kind_at}
use Rattle.kinds.specs.Content.{find}
use Rattle.kinds.specs.Number.{wire_number, by_kind}
use Rattle.kinds.specs.Codec.{content_at, read_number}
use Rattle.packet.specs.declared.Packet.{Packet}
use Rattle.packet.specs.Packet.{content_of}
use Rattle.decoder.specs.Reading.{Reading, PacketTold, Told, numbered, told_behind, told, rows_at, rest_at, kind_or, content_behind, behind_of, read_of}
use Rattle.rules.specs.Findings.{missized}
use Rattle.decoder.specs.Body.{ReadsBody, ReadsKind, content_in}
use Rattle.decoder.proofs.Decoded.{behind-told}
use Rattle.kinds.specs.Slots.{found}

abbrev telling : ℕ → Option PacketTold → Told
telling n o = record { number = n; handed = o }

not-handed : (r : Refusal) (w : ℕ) (x : PacketTold) → number_of r ≡ w → telling (number_of r) None ≡ numbered w x
not-handed r w x e =
    let f : eqb w 0 ≡ false = ne_eqb w 0 (λ y. refused r (e ∙ y)) in
    λ i. telling (e i) (cond (sym f i) (Some x) None)

is-handed : (w : ℕ) (x y : PacketTold) → w ≡ 0 → x ≡ y → telling 0 (Some x) ≡ numbered w y
is-handed w x y e p =
    let t : eqb w 0 ≡ true = eq-eqb w 0 e in
    λ i. telling (sym e i) (cond (sym t i) (Some (p i)) None)

-- ---- a body of a known kind

kind-refused : {l : Link} {h : Header} {slot : ℕ} {body : List ℕ} {r : Refusal} → number_of r ≡ wire_number l (content_in l h slot body)
    → ReadsKind l h slot body (Err r)
kind-refused {l} {h} {slot} {body} {r} e = record { tells = not-handed r (wire_number l (content_in l h slot body)) _ e }

-- one of a wrong size has the number that `missized` gives
pub size-refused : (l : Link) (h : Header) {slot : ℕ} {body : List ℕ} {r : Refusal} → number_of r ≡ missized l slot h.id
    → wire_number l (content_in l h slot body) ≡ missized l slot h.id → ReadsKind l h slot body (Err r)
size-refused l h e w = kind-refused (e ∙ sym w)

-- a packet that was read has the body's number
module _ (l : Link) (h : Header) {slot : ℕ} {body : List ℕ} {p : Packet} (r : ReadsBody (shared_set l) slot body p) where
  numbered-alike : wire_number l (content_of (shared_set l) h.id p body) ≡ wire_number l (content_in l h slot body)
  numbered-alike = ap (wire_number l) (r.content h.id)

  pub packet-refused : {x : Refusal} → number_of x ≡ wire_number l (content_of (shared_set l) h.id p body) → ReadsKind l h slot body (Err x)
  packet-refused e = kind-refused (e ∙ numbered-alike)

  pub packet-read : 0 ≡ wire_number l (content_of (shared_set l) h.id p body) → ReadsKind l h slot body (Ok (h, p))
  packet-read e =
      record {
        tells =
            is-handed (wire_number l (content_in l h slot body)) _ _ (sym (e ∙ numbered-alike))
            (λ i. record { header = h; content = r.content h.id i; rows = r.rows i; rest = r.rest i });
      }

-- ---- a body behind a header

module _ (l : Link) (h : Header) (body : List ℕ) where
  -- 20
  pub behind-unknown : find h.kind kinds ≡ None → told_behind l body (Err UnknownKind) ≡ behind_of l h body
  unfolding behind_of wire_number content_at
  behind-unknown f = not-handed UnknownKind (wire_number l (content_behind l h body)) _ (sym (λ i. by_kind l (f i) (content_behind l h body)))

  pub behind-known : {slot : ℕ} (r : Reading) → slot < 33 → (kind_at slot).number ≡ h.kind → ReadsKind l h slot body r → told_behind l body r ≡ behind_of l h body
  unfolding behind_of
  behind-known {slot} r s n t =
      let caps : ℕ = shared_set l in
      let f : Some (kind_at slot) ≡ find h.kind kinds = sym (found slot s) ∙ ap (λ (m : ℕ). find m kinds) n in
      let q : content_in l h slot body ≡ content_behind l h body = ap (λ (m : ℕ). content_at caps m h.id body) n in
      t.tells ∙ (λ i. numbered (wire_number l (q i)) (record { header = h; content = q i; rows = rows_at caps (kind_or (f i)); rest = rest_at caps (kind_or (f i)) (length body) }))

-- ---- the bytes of one packet

-- g is the header that was read
module _ (l : Link) (b : List ℕ) {g : Header} (same : g ≡ header_of l b) where
  pub small : g.size ≤ 16
  small = rw same (narrow l (kind_of b))

  -- no whole header
  pub short-refused : length b < g.size → told l b (Err WrongSize) ≡ read_of l b
  unfolding read_of read_number
  short-refused h = not-handed WrongSize (read_number l b) _ (rw (lt-ltb (length b) (header_size l (kind_of b)) (rw same at h)))

-- and the bytes hold it
module _ (l : Link) (b : List ℕ) {g : Header} (same : g ≡ header_of l b) (long : g.size ≤ length b) where
  held : ltb (length b) (header_size l (kind_of b)) ≡ false
  held = le-ltb (length b) (header_size l (kind_of b)) (rw same at long)

  -- 10, 11 or 12
  pub header_refused_lem : (r : Refusal) → number_of r ≡ header_number l g.kind g.length → told l b (Err r) ≡ read_of l b
  unfolding read_of read_number
  header_refused_lem r e =
      let w : ℕ = header_number l (kind_of b) (length_of b) in
      let k : number_of r ≡ w = rw same at e in
      not-handed r (read_number l b) _ (rw (held, ne_eqb w 0 (λ y. refused r (k ∙ y))) k)

  module _ (e : 0 ≡ header_number l g.kind g.length) where
    no_number : header_number l (kind_of b) (length_of b) ≡ 0
    no_number = rw same at (sym e)

    -- 23
    pub length-refused : (length b ≡ g.size + g.length → ⊥) → told l b (Err WrongSize) ≡ read_of l b
    unfolding read_of read_number
    length-refused d =
        not-handed WrongSize (read_number l b) _ (rw (held, no_number, ne_eqb (length b) (header_size l (kind_of b) + length_of b) (rw same at d)))

    -- the body is what stands behind the header
    pub body-read : (r : Reading) → length b ≡ g.size + g.length → told_behind l (take (length b - g.size) (drop g.size b)) r ≡ behind_of l g (take (length b - g.size) (drop g.size b))
        → told l b r ≡ read_of l b
    body-read r s t = behind-told l b (rw same at s) no_number r same (rw same (part_to_end b (header_size l (kind_of b)))) t
