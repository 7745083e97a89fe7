-- What `gate::body_of` lends is the packet's bytes behind its header, as many as the header says (`BodyLent`), and nothing where no packet is
-- handed out (`NothingLent`). What `gate::data_of` lends of it is what follows the packet's fields, the rest of the content that demand 3 speaks of
-- (`DataLent`); the tables are read off the body row by row (`RowsLent`).
-- Assumes nothing: these are definitions and statements.
use Rattle.std.specs.Bool.{then_some}
use Rattle.std.specs.Prelude.{ℕ, List, [], ◌++◌, ◌≡◌, drop, length, take, Some}
use Rattle.header.specs.declared.Side.{Side}
use Rattle.header.specs.Link.{shared_set}
use Rattle.header.specs.Header.{length_of, header_of}
use Rattle.header.specs.declared.Header.{Header}
use Rattle.kinds.specs.Content.{Value}
use Rattle.kinds.specs.Codec.{layout}
use Rattle.frame.specs.Frame.{head_size, bytes_at}
use Rattle.packet.specs.Rows.{element, interface_row, endpoint_row}
use Rattle.packet.specs.declared.InterfaceTable.{InterfaceTable as InterfaceTableFields}
use Rattle.packet.specs.declared.EndpointTable.{EndpointTable as EndpointTableFields}
use Rattle.packet.specs.declared.Packet.{Packet}
use Rattle.packet.specs.declared.Packet.TheVariants.{InterfaceTable, EndpointTable}
use Rattle.packet.specs.Packet.{content_of}
use Rattle.session.specs.declared.Session.{Session}
use Rattle.session.specs.Session.{link_of}
use Rattle.gate.specs.Offer.{held_bytes, offer_of, outcome, body_in, data_in}
use Rattle.gate.specs.Verdict.{Handed}
use Rattle.gate.specs.declared.Offered.{Offered}
use Rattle.demands.specs.Demand2.{packet_at}

-- ---- the body

-- of a whole packet of n bytes: what was handed out, with the bytes where they lie
pub record LendsBody (from : Side) (s : Session) (hold piece : List ℕ) (n : ℕ) (c : Handed) (bytes : List ℕ) : Type 0 where
  pub header : Header
  pub packet : Packet
  pub passed : c ≡ Some (header, packet)
  pub begins : header ≡ header_of (link_of from s) (take n (held_bytes from s hold ++ piece))
  -- "The packet's data is handed out as a part of the piece or of the holding buffer, wherever it lies.": all that stands behind the header
  pub body : body_in c bytes ≡ drop (head_size (link_of from s) (held_bytes from s hold ++ piece)) (take n (held_bytes from s hold ++ piece))
  pub body-size : length (body_in c bytes) ≡ length_of (held_bytes from s hold ++ piece)
  -- "It is the reading of the bytes taken for it, and at 0 what the reader hands out is that reading."
  pub reading : content_of (shared_set (link_of from s)) header.id packet (body_in c bytes) ≡ packet_at from s hold piece n

-- of every call of `gate::offer` that answers 0, whatever the packet's kind
abbrev pub BodyLent : Type 0
BodyLent =
    (from : Side) (s : Session) (hold piece after : List ℕ) (r : Offered) → outcome (link_of from s) r piece after ≡ offer_of from s hold piece → r.answer.number ≡ 0
    → LendsBody from s hold piece r.answer.size r.answer.handed (bytes_at r.answer.location r.answer.size piece after)

-- "All other refusals take the whole packet, drop it and go on."; nor is anything handed out at 1, 2, 3, 10 to 12, 41 and 43
abbrev pub NothingLent : Type 0
NothingLent =
    (from : Side) (s : Session) (hold piece after : List ℕ) (r : Offered) → outcome (link_of from s) r piece after ≡ offer_of from s hold piece → (r.answer.number ≡ 0 → ⊥)
    → (bytes : List ℕ) → (body_in r.answer.handed bytes ≡ []) × (data_in r.answer.handed bytes ≡ [])

-- ---- the data

-- "The packet's data is handed out": what follows the fields, of every packet with its header and its bytes, whatever is shared (`data-lent`)
abbrev pub DataLent : Type 0
DataLent = (caps : ℕ) (h : Header) (bytes : List ℕ) (p : Packet) → data_in (Some (h, p)) bytes ≡ (content_of caps h.id p (body_in (Some (h, p)) bytes)).rest

-- ---- the rows of a table

-- what a packet says, with its header and the bytes that are lent
abbrev said_fields : ℕ → Header → List ℕ → Packet → List Value
said_fields caps h bytes p = (content_of caps h.id p (body_in (Some (h, p)) bytes)).fields

-- "tables are read by row": row i of the body that is lent is element i of each field
pub record RowsLent (caps : ℕ) (h : Header) (bytes : List ℕ) : Type 0 where
  pub interface-row : (t : InterfaceTableFields) (i : ℕ)
      → interface_row t (body_in (Some (h, InterfaceTable t)) bytes) i
      ≡ record {
        interface = element "interface" (layout 4) (said_fields caps h bytes (InterfaceTable t)) i;
        class = element "class" (layout 4) (said_fields caps h bytes (InterfaceTable t)) i;
        subclass = element "subclass" (layout 4) (said_fields caps h bytes (InterfaceTable t)) i;
        protocol = element "protocol" (layout 4) (said_fields caps h bytes (InterfaceTable t)) i;
      }
  pub endpoint-row : (t : EndpointTableFields) (i : ℕ)
      → endpoint_row t (body_in (Some (h, EndpointTable t)) bytes) i
      ≡ record {
        ty = element "type" (layout 5) (said_fields caps h bytes (EndpointTable t)) i;
        interval = element "interval" (layout 5) (said_fields caps h bytes (EndpointTable t)) i;
        interface = element "interface" (layout 5) (said_fields caps h bytes (EndpointTable t)) i;
        maxpacket = then_some t.maxpacket (element "max packet" (layout 5) (said_fields caps h bytes (EndpointTable t)) i);
        maxstreams = then_some t.maxstreams (element "max streams" (layout 5) (said_fields caps h bytes (EndpointTable t)) i);
      }

-- whatever is shared, and of any header and bytes (`rows-lent`)
abbrev pub AlwaysRowsLent : Type 0
AlwaysRowsLent = (caps : ℕ) (h : Header) (bytes : List ℕ) → RowsLent caps h bytes
