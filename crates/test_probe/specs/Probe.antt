-- What the functions for host programs answer: the library's definitions, by plain numbers.
-- Assumes nothing: these are definitions.
use Rattle.std.specs.Prelude.{ℕ, ◌≡◌, cond, not, List, [], ◌∷◌, map, length, get_or, take, eqb, ltb, Option, Some, None}
use Rattle.endpoint.specs.declared.Row.{Row}
use Rattle.endpoint.specs.Endpoint.{row_of}
use Rattle.header.specs.declared.Link.{Link}
use Rattle.header.specs.Link.{shared_set, side_of}
use Rattle.kinds.specs.Content.{Value, Content, first_number}
use Rattle.kinds.specs.Codec.{layout, decode, read_number, write_number, written_size, written}
use Rattle.packet.specs.declared.Part.{Part}
use Rattle.packet.specs.declared.Packet.TheVariants.{Bulk}
use Rattle.packet.specs.Packet.{content_of}
use Rattle.packet.specs.Fields.{or_zero}
use Rattle.packet.specs.Rows.{interface_row, endpoint_row}
use Rattle.decoder.specs.Reading.{front_fields, rest_at, kind_of_bytes, body_size}

abbrev pub hello_of : ℕ → Option ℕ
hello_of word = cond (ltb word 4294967296) (Some word) None

abbrev pub link_of : ℕ → ℕ → ℕ → Link
link_of sender guest host = record { sender = side_of sender; guest = hello_of guest; host = hello_of host }

-- the fields that are one number each
abbrev pub front_of : Content → List Value
front_of q = take (length (front_fields (layout q.kind))) q.fields

-- field i of a packet that passes
abbrev pub field_in : Link → List ℕ → ℕ → ℕ
field_in l bytes i = cond (eqb (read_number l bytes) 0) (get_or (map first_number (front_of (decode l bytes))) i 0) 0

-- the part of the body that follows the fields
abbrev pub rest_part : Link → List ℕ → Part
rest_part l bytes = rest_at (shared_set l) (kind_of_bytes bytes) (body_size l bytes)

-- an end of it, of a packet that passes
abbrev pub part_in : Link → List ℕ → ℕ → ℕ
part_in l bytes end = cond (eqb (read_number l bytes) 0) (cond (eqb end 0) (rest_part l bytes).start (rest_part l bytes).end) 0

abbrev pub row_number : Option Row → ℕ
row_number (Some r) = r.0
row_number None = 255

abbrev pub row_in : ℕ → ℕ
row_in b = row_number (row_of (record { 0 = b }))

-- a packet that passes is written again; one that does not changes nothing
pub record Rewrites (l : Link) (bytes out : List ℕ) (n : ℕ) (after : List ℕ) : Type 0 where
  pub size : n ≡ cond (eqb (read_number l bytes) 0) (written_size l (decode l bytes) (length out)) 0
  pub output : after ≡ cond (eqb (read_number l bytes) 0) (written l (decode l bytes) out) out

-- a bulk packet with this count and all of s as data
abbrev pub bulk_of : Link → ℕ → ℕ → ℕ → List ℕ → Content
bulk_of l id e n s =
    content_of (shared_set l) id (Bulk (record { endpoint = record { 0 = e }; status = 0; length = n; stream = 0; payload = record { start = 0; end = length s } })) s

pub record WritesBulk (l : Link) (id e n : ℕ) (s out : List ℕ) (r : ℕ) (after : List ℕ) : Type 0 where
  pub number : r ≡ write_number l (bulk_of l id e n s) (length out)
  pub output : after ≡ written l (bulk_of l id e n s) out

-- a column of a row of a table whose rows are this part of a body
abbrev pub interface_cell : Part → List ℕ → ℕ → ℕ → ℕ
interface_cell rows body row column =
    let r = interface_row (record { count = 32; rows = rows }) body row in
    get_or (r.interface ∷ r.class ∷ r.subclass ∷ r.protocol ∷ 0 ∷ 0 ∷ 0 ∷ []) column 0

abbrev pub endpoint_cell : Part → List ℕ → ℕ → ℕ → ℕ → ℕ → ℕ
endpoint_cell rows body packets streams row column =
    let r = endpoint_row (record { rows = rows; maxpacket = not (eqb packets 0); maxstreams = not (eqb streams 0) }) body row in
    get_or (r.ty ∷ r.interval ∷ r.interface ∷ or_zero r.maxpacket ∷ or_zero r.maxstreams ∷ 0 ∷ 0 ∷ []) column 0
