-- What a reading tells a caller of `read`, from `told l bytes r ≡ read_of l bytes`: of bytes that were refused, and of bytes that passed. A caller of
-- `read_behind` who has the header of whole bytes has that too (`behind-told`): there, reading the bytes is reading the body behind their header
-- (`read_behind`).
-- The tests before the wire checks are decided by what the caller knows of the header. A packet that passed was handed the header that was given.
-- Assumes nothing.
use Rattle.std.specs.Prelude.{Some, None, Ok, Err}
use mathlib.Core.Path.{◌≡◌, refl, sym, ap, ◌∙◌}
use mathlib.Core.Bool.{Bool, true, false, cond}
use mathlib.Core.List.{List}
use Rattle.std.proofs.lemmas.Option.{same_Some}
use Prim.Native.Nat.{ℕ, ◌+◌, ◌≤◌}
use native.Mathlib.Omega.{arith}
use lib.ListN.{length, drop}
use lib.Dec.{eqb}
use borrow.Author.Tests.{eq-eqb, le-ltb}
use Rattle.header.specs.declared.Header.{Header}
use Rattle.header.specs.declared.Link.{Link}
use Rattle.header.specs.declared.Refusal.{Refusal}
use Rattle.header.specs.Refusal.{number_of}
use Rattle.header.specs.Link.{shared_set}
use Rattle.header.specs.Header.{kind_of, length_of, header_of, header_size, header_number}
use Rattle.kinds.specs.Number.{wire_number}
use Rattle.kinds.specs.Codec.{decode, read_number}
use Rattle.packet.specs.declared.Packet.{Packet}
use Rattle.packet.specs.Packet.{shown_of, content_of}
use Rattle.decoder.specs.Reading.{Reading, PacketTold, Told, numbered, told_behind, told, rows_at, rest_at, kind_of_bytes, body_size, content_behind, behind_of, read_of}

pub record Refusing (l : Link) (bytes : List ℕ) (n : ℕ) : Type 0 where
  pub number : n ≡ read_number l bytes
  pub nonzero : eqb (read_number l bytes) 0 ≡ false

pub record Passing (l : Link) (bytes : List ℕ) (h : Header) (p : Packet) : Type 0 where
  pub number : read_number l bytes ≡ 0
  pub header : h ≡ header_of l bytes
  pub content : content_of (shared_set l) h.id p (drop h.size bytes) ≡ decode l bytes
  pub rows : (shown_of (shared_set l) p).rows ≡ rows_at (shared_set l) (kind_of_bytes bytes)
  pub rest : (shown_of (shared_set l) p).rest ≡ rest_at (shared_set l) (kind_of_bytes bytes) (body_size l bytes)

handed-none : (t : Bool) (b : PacketTold) → None ≡ cond t (Some b) None → t ≡ false
handed-none true b e =
    let z : ◌≡◌ {A = ℕ} 0 1 = cc in
    absurd (omega arith)
handed-none false b e = refl

module _ {l : Link} {bytes : List ℕ} {r : Reading} (t : told l bytes r ≡ read_of l bytes) where
  pub refusing : {x : Refusal} → r ≡ Err x → Refusing l bytes (number_of x)
  unfolding read_of
  refusing e =
      let s = rw e at t in
      record { number = ap (λ (x : Told). x.number) s; nonzero = handed-none _ _ (ap (λ (x : Told). x.handed) s) }

  pub passing : {h : Header} {p : Packet} → r ≡ Ok (h, p) → Passing l bytes h p
  unfolding read_of
  passing e =
      let s = rw e at t in
      let z : read_number l bytes ≡ 0 = sym (ap (λ (x : Told). x.number) s) in
      let g = same_Some _ _ (rw z at (ap (λ (x : Told). x.handed) s)) in
      record { number = z; header = ap (λ (x : PacketTold). x.header) g; content = ap (λ (x : PacketTold). x.content) g; rows = ap (λ (x : PacketTold). x.rows) g; rest = ap (λ (x : PacketTold). x.rest) g }

-- ---- the body behind a header

-- what is handed on has the header that was to be handed on
same-header : (b : Bool) (x y : PacketTold) → Some x ≡ cond b (Some y) None → x.header ≡ y.header
same-header true x y e = let f : x ≡ y = cc in ap (λ (z : PacketTold). z.header) f
same-header false x y e = let z : ◌≡◌ {A = ℕ} 0 1 = cc in absurd (omega arith)

-- a reading behind a header tells the same of the bytes that the body ends
of-body : (l : Link) (bytes : List ℕ) (h : Header) (r : Reading) → told_behind l (drop h.size bytes) r ≡ behind_of l h (drop h.size bytes)
    → told l bytes r ≡ told_behind l (drop h.size bytes) r
unfolding behind_of
of-body l bytes h (Err x) e = refl
of-body l bytes h (Ok (g, p)) e =
    let w : ℕ = wire_number l (content_behind l h (drop h.size bytes)) in
    let s : g ≡ h = same-header (eqb w 0) _ _ (ap (λ (t : Told). t.handed) e) in
    λ i. told_behind l (drop (s i).size bytes) (Ok (g, p))

-- the bytes are as many as their header says, and nothing refuses it
module _ (l : Link) (bytes : List ℕ) (whole : length bytes ≡ header_size l (kind_of bytes) + length_of bytes) (passes : header_number l (kind_of bytes) (length_of bytes) ≡ 0) where
  wire : read_number l bytes ≡ wire_number l (decode l bytes)
  unfolding read_number
  wire =
      let h : header_size l (kind_of bytes) ≤ length bytes = omega (arith, whole) in
      rw (le-ltb (length bytes) (header_size l (kind_of bytes)) h, passes, eq-eqb (length bytes) (header_size l (kind_of bytes) + length_of bytes) whole)

  pub read_behind : read_of l bytes ≡ behind_of l (header_of l bytes) (drop (header_size l (kind_of bytes)) bytes)
  unfolding read_of behind_of decode
  read_behind = λ i. numbered (wire i)
      (record {
        header = header_of l bytes;
        content = decode l bytes;
        rows = rows_at (shared_set l) (kind_of_bytes bytes);
        rest = rest_at (shared_set l) (kind_of_bytes bytes) (body_size l bytes);
      })

  pub behind-told : {h : Header} {body : List ℕ} (r : Reading) → h ≡ header_of l bytes → body ≡ drop (header_size l (kind_of bytes)) bytes
      → told_behind l body r ≡ behind_of l h body → told l bytes r ≡ read_of l bytes
  behind-told {h} {body} r eh eb t =
      let u : told_behind l (drop (header_size l (kind_of bytes)) bytes) r ≡ behind_of l (header_of l bytes) (drop (header_size l (kind_of bytes)) bytes) = rw (eh, eb) at t in
      of-body l bytes (header_of l bytes) r u ∙ u ∙ sym read_behind
