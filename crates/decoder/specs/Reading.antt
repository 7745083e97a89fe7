-- What a reading tells, for each of its cases: the number and, where it passed, the header, what the packet says,
-- and the parts of the body that it names.
-- Assumes nothing: these are definitions.
use Rattle.std.specs.Prelude.{ℕ, Bool, true, false, cond, not, List, [], ◌∷◌, length, drop, eqb, Option, Some, None, Result, Ok, Err}
use Rattle.header.specs.declared.Header.{Header}
use Rattle.header.specs.declared.Link.{Link}
use Rattle.header.specs.declared.Refusal.{Refusal}
use Rattle.header.specs.Refusal.{number_of}
use Rattle.header.specs.Link.{shared_set}
use Rattle.header.specs.Header.{header_of, kind_of, header_size}
use Rattle.kinds.specs.Table.{Field, Tail, nothing, words, string, payload, payload-onward, Kind, kinds, none_such}
use Rattle.kinds.specs.Content.{Content, shared, size, find}
use Rattle.kinds.specs.Number.{wire_number}
use Rattle.kinds.specs.Codec.{content_at, decode, read_number}
use Rattle.packet.specs.declared.Packet.{Packet}
use Rattle.packet.specs.declared.Part.{Part}
use Rattle.packet.specs.Packet.{no_part, shown_of, content_of}

-- the header and the packet that the bytes are, or why they are refused
abbrev pub Reading : Type 0
Reading = Result (Header × Packet) Refusal

-- a packet that passed
pub record PacketTold : Type 0 where
  pub header : Header
  pub content : Content
  pub rows : Part
  pub rest : Part

pub record Told : Type 0 where
  pub number : ℕ
  pub handed : Option PacketTold

-- a number, with what is handed on where it is 0
abbrev pub numbered : ℕ → PacketTold → Told
numbered n x = record { number = n; handed = cond (eqb n 0) (Some x) None }

-- of a body behind a header
abbrev pub told_behind : Link → List ℕ → Reading → Told
told_behind l body (Err r) = record { number = number_of r; handed = None }
told_behind l body (Ok (h, p)) =
    record {
      number = 0;
      handed = Some (record { header = h; content = content_of (shared_set l) h.id p body; rows = (shown_of (shared_set l) p).rows; rest = (shown_of (shared_set l) p).rest });
    }

-- of a packet's bytes: its body stands behind its header
abbrev pub told : Link → List ℕ → Reading → Told
told l bytes (Err r) = record { number = number_of r; handed = None }
told l bytes (Ok (h, p)) = told_behind l (drop h.size bytes) (Ok (h, p))

-- ---- the parts of the body that a packet of a kind names

-- the fields that are one number each, before those that are many
abbrev pub front_fields : List Field → List Field
front_fields [] = []
front_fields (f ∷ fs) = cond (eqb f.times 1) (f ∷ front_fields fs) []

abbrev pub is_nothing : Tail → Bool
is_nothing nothing = true
is_nothing words = false
is_nothing string = false
is_nothing payload = false
is_nothing payload-onward = false

-- something may follow the fields: words, a string or data
abbrev pub carries : Kind → Bool
carries k = not (is_nothing k.tail)

-- the fields behind the front ones: a version or the rows of a table; an empty part where the kind has none
abbrev pub rows_at : ℕ → Kind → Part
rows_at caps k =
    cond (eqb (length (front_fields k.fields)) (length k.fields)) no_part
    (record { start = size (shared caps) (front_fields k.fields); end = size (shared caps) k.fields })

-- what follows the fields, up to the end of a body of n bytes
abbrev pub rest_at : ℕ → Kind → ℕ → Part
rest_at caps k n = cond (carries k) (record { start = size (shared caps) k.fields; end = n }) no_part

abbrev pub kind_or : Option Kind → Kind
kind_or None = none_such
kind_or (Some k) = k

-- the kind of a packet's bytes, and how long its body is
abbrev pub kind_of_bytes : List ℕ → Kind
kind_of_bytes bytes = kind_or (find (kind_of bytes) kinds)

abbrev pub body_size : Link → List ℕ → ℕ
body_size l bytes = length (drop (header_size l (kind_of bytes)) bytes)

-- ---- what reading has to tell

-- of a body behind a header, whose kind and id it goes by
abbrev pub content_behind : Link → Header → List ℕ → Content
content_behind l h body = content_at (shared_set l) h.kind h.id body

unfoldable pub behind_of : Link → Header → List ℕ → Told
behind_of l h body =
    numbered (wire_number l (content_behind l h body))
    (record {
      header = h;
      content = content_behind l h body;
      rows = rows_at (shared_set l) (kind_or (find h.kind kinds));
      rest = rest_at (shared_set l) (kind_or (find h.kind kinds)) (length body);
    })

-- of a packet's bytes
unfoldable pub read_of : Link → List ℕ → Told
read_of l bytes =
    numbered (read_number l bytes)
    (record {
      header = header_of l bytes;
      content = decode l bytes;
      rows = rows_at (shared_set l) (kind_of_bytes bytes);
      rest = rest_at (shared_set l) (kind_of_bytes bytes) (body_size l bytes);
    })
