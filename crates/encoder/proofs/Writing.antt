-- What `encoder::write` knows on its way, over what its calls give it: by the header (`headed`, `passed`), and where nothing is wrong (`Right`).
-- Assumes nothing.
use Prim.Native.Nat.{ℕ, ◌+◌, ◌≤◌, ◌<◌, ◌^◌, min}
use native.Mathlib.Nat.{min-eq_left}
use native.Mathlib.Omega.{arith}
use mathlib.Core.Path.{◌≡◌, sym, ◌∙◌}
use mathlib.Core.List.{List}
use lib.ListN.{length}
use Rattle.header.specs.declared.Link.{Link}
use Rattle.header.specs.Link.{shared_set}
use Rattle.header.specs.Header.{header_number}
use Rattle.header.proofs.Widths.{short}
use Rattle.kinds.specs.Table.{kind_at}
use Rattle.kinds.specs.Content.{shared, size}
use Rattle.kinds.specs.Number.{wire_number}
use Rattle.kinds.specs.Codec.{body_length, packet_number, Accepted}
use Rattle.kinds.proofs.Again.{Octets}
use Rattle.packet.specs.declared.Packet.{Packet}
use Rattle.packet.specs.declared.Fields.{Fields}
use Rattle.packet.specs.Packet.{in_part, content_of}
use Rattle.packet.specs.Fields.{Lists}
use Rattle.encoder.proofs.Body.{counted, header, short-rest, short-rows}
use Rattle.encoder.proofs.Accept.{accept}
use Rattle.encoder.proofs.Outcome.{by-wire}

-- the packet's fields, its rest, its kind and the two parts of its length, as the calls gave them
pub record Given (l : Link) (id : ℕ) (p : Packet) (body : List ℕ) (caps : ℕ) (f : Fields) (rest : List ℕ) (kind fields least : ℕ) : Type 0 where
  pub caps-is : caps ≡ shared_set l
  pub lists : Lists caps p f
  pub rest-is : rest ≡ in_part f.rest body
  pub kind-is : kind ≡ (kind_at f.slot).number
  pub fields-is : fields ≡ size (shared caps) (kind_at f.slot).fields
  pub least-is : least ≡ min (length rest) 65536

pub given : (l : Link) (id : ℕ) {p : Packet} (body : List ℕ) {caps : ℕ} {f : Fields} {rest : List ℕ} {kind fields least : ℕ}
    → caps ≡ shared_set l → Lists caps p f → rest ≡ in_part f.rest body → kind ≡ (kind_at f.slot).number → fields ≡ size (shared caps) (kind_at f.slot).fields
    → least ≡ min (length rest) 65536 → Given l id p body caps f rest kind fields least
given l id body c s r k e m = record { caps-is = c; lists = s; rest-is = r; kind-is = k; fields-is = e; least-is = m }

module _ {l : Link} {id : ℕ} {p : Packet} {body : List ℕ} {caps : ℕ} {f : Fields} {rest : List ℕ} {kind fields least : ℕ}
    (k : Given l id p body caps f rest kind fields least) where
  abbrev pub listed : Lists (shared_set l) p f
  listed = rw k.caps-is at k.lists

  -- the number by the header is the content's
  pub headed : header_number l kind (fields + least) ≡ header_number l (content_of (shared_set l) id p body).kind (body_length l (content_of (shared_set l) id p body))
  headed = rw (k.least-is, k.fields-is, k.kind-is, k.rest-is, k.caps-is) (header l id p body f listed)

  pub passed : 0 ≡ header_number l kind (fields + least) → header_number l (content_of (shared_set l) id p body).kind (body_length l (content_of (shared_set l) id p body)) ≡ 0
  passed z = sym (z ∙ headed)

  -- the length as the code has it is the body's, which is short
  pub long : 0 ≡ header_number l kind (fields + least) → fields + least ≡ size (shared (shared_set l)) (kind_at f.slot).fields + length (in_part f.rest body)
  long z =
      let r = short-rest l id p body f listed (passed z) in
      let e : min (length (in_part f.rest body)) 65536 ≡ length (in_part f.rest body) = min-eq_left (omega (arith, r)) in
      rw (k.least-is, k.fields-is, k.rest-is, k.caps-is, e)

  pub small : 0 ≡ header_number l kind (fields + least) → fields + least ≤ 32768
  small z =
      let q = content_of (shared_set l) id p body in
      omega (arith, long z, sym (counted l id p body f listed), short l q.kind (body_length l q) (passed z))

  -- the header and the wire checks find nothing
  module _ (z : 0 ≡ header_number l kind (fields + least)) (w : 0 ≡ wire_number l (content_of (shared_set l) id p body)) where
    pub right : packet_number l (content_of (shared_set l) id p body) ≡ 0
    right = by-wire l (content_of (shared_set l) id p body) 0 (passed z) w

    pub accepting : Octets body → id < 256 ^ 8 → Accepted l (content_of (shared_set l) id p body)
    accepting o i = accept l id p body listed.fits o i right

    pub rows_short : Octets body → id < 256 ^ 8 → length (in_part f.rows body) ≤ 65536
    rows_short o i = omega (arith, short-rows l id p body f listed (sym w) o (accepting o i) (passed z))
