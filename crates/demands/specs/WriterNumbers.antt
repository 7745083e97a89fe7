-- Two sentences of document 01 about the writer, with the exact number: "For it a field that the shared set leaves out (connect version, max
-- packet, max streams) but is present, a bulk count over 65,535 without bit 6, or a non-hello's id over 32 bits without bit 5, is 22; such a
-- field missing where shared is 24 and not 23." First of what a packet says (`Content`), then of the packets of the code.
-- Assumes nothing: these are definitions, and the statements that `proofs/WriterNumbers.antt` proves.
use Rattle.std.specs.Prelude.{ℕ, ◌^◌, ◌≤◌, ◌<◌, Bool, true, false, cond, List, [], ◌∷◌, ◌++◌, ◌≡◌, length, Some, None}
use Prim.Native.String.{String}
use Rattle.octets.specs.Bits.{has_bit}
use Rattle.header.specs.declared.Side.{Side}
use Rattle.header.specs.declared.Side.TheVariants.{Host}
use Rattle.header.specs.Link.{shared_set, id_width}
use Rattle.kinds.specs.Table.{Bits, always, bit, bits, Field, Kind, kinds, kind_at, u16, u32, ◌times◌, ◌with◌}
use Rattle.kinds.specs.Content.{Value, one, Content, packet_of, named}
use Rattle.kinds.specs.Formed.{Line, field_at, There, Sends, Sharing, Onward, count_with, Sized}
use Rattle.packet.specs.declared.Connect.{Connect as ConnectFields}
use Rattle.packet.specs.declared.EndpointTable.{EndpointTable as EndpointTableFields}
use Rattle.packet.specs.declared.Bulk.{Bulk as BulkFields}
use Rattle.packet.specs.declared.Packet.{Packet}
use Rattle.packet.specs.declared.Packet.TheVariants.{Connect, EndpointTable, Bulk}
use Rattle.packet.specs.Packet.{in_part, content_of}
use Rattle.packet.specs.Rows.{table_size}
use Rattle.session.specs.declared.Session.{Session}
use Rattle.session.specs.Session.{link_of}
use Rattle.gate.specs.Write.{write_by}
use Rattle.demands.specs.PassesInWords.{Reaches}

-- ---- the fields that the shared set may leave out

-- their places in the lines of kinds 1, 5 and 101, which stand at slots 1, 5 and 29
abbrev pub connect_version : ℕ
connect_version = 6

abbrev pub max_packet : ℕ
max_packet = 3

abbrev pub max_streams : ℕ
max_streams = 4

abbrev pub length_high : ℕ
length_high = 4

-- fields that are there only with some bit, by kind and name
abbrev pub wants_bit : Bits → Bool
wants_bit always = false
wants_bit (bit j) = true
wants_bit (bits j k) = true

abbrev pub optional_of : ℕ → List Field → List (ℕ × String)
optional_of n [] = []
optional_of n (f ∷ fs) = cond (wants_bit f.there) ((n, f.name) ∷ optional_of n fs) (optional_of n fs)

abbrev pub optional_in : List Kind → List (ℕ × String)
optional_in [] = []
optional_in (k ∷ ks) = optional_of k.number k.fields ++ optional_in ks

-- The fields that the shared set may leave out are these four; here they stand, and with these bits.
pub record OptionalFields : Type 0 where
  pub only : optional_in kinds ≡ ((1, "version") ∷ (5, "max packet") ∷ (5, "max streams") ∷ (101, "length high") ∷ [])
  pub connect-version : field_at (kind_at 1) connect_version ≡ (u16 "version" with bit 1)
  pub max-packet : field_at (kind_at 5) max_packet ≡ (u16 "max packet" times 32 with bit 4)
  pub max-streams : field_at (kind_at 5) max_streams ≡ (u32 "max streams" times 32 with bits 4 0)
  pub length-high : field_at (kind_at 29) length_high ≡ (u16 "length high" with bit 6)

-- ---- 22

-- what the shared set leaves out, in a packet of a side that may send it; the number is 22 whatever else is wrong with the packet
pub record LeftOut (from : Side) (s : Session) (p : Content) (n : ℕ) : Type 0 where
  pub connect-version : p.kind ≡ 1 → from ≡ Host → has_bit (shared_set (link_of from s)) 1 ≡ false → (xs : List ℕ) → There p connect_version xs → n ≡ 22
  pub max-packet : p.kind ≡ 5 → from ≡ Host → has_bit (shared_set (link_of from s)) 4 ≡ false → (xs : List ℕ) → There p max_packet xs → n ≡ 22
  pub max-streams : p.kind ≡ 5 → from ≡ Host → (has_bit (shared_set (link_of from s)) 4 ≡ true → has_bit (shared_set (link_of from s)) 0 ≡ true → ⊥)
      → (xs : List ℕ) → There p max_streams xs → n ≡ 22
  -- the low part is a u16
  pub bulk-count : p.kind ≡ 101 → has_bit (shared_set (link_of from s)) 6 ≡ false → named "length" (kind_at 29).fields p.fields ≤ 65535 → 65535 < count_with true (named "length" (kind_at 29).fields p.fields) (named "length high" (kind_at 29).fields p.fields) → n ≡ 22
  pub wide-id : (k : Kind) → Line p k → Sends k.sender from → (p.kind ≡ 0 → ⊥) → has_bit (shared_set (link_of from s)) 5 ≡ false → 4294967296 ≤ p.id → n ≡ 22

-- A writer call that reaches the wire checks answers 22 to what the shared set leaves out.
abbrev pub LeftOutIs22 : Type 0
LeftOutIs22 = (from : Side) (s : Session) (p : Content) (space : ℕ) → Reaches from s p → LeftOut from s p (write_by from s p space)

-- ---- 24

-- a shared field is missing in a packet whose wire checks up to 23 hold. In a bulk packet of the code the high part of the count is always there
-- where bit 6 is shared (`high`, packet/specs/Packet.antt): `length-high` speaks of contents that no such packet says.
pub record Missing (from : Side) (s : Session) (p : Content) (n : ℕ) : Type 0 where
  pub connect-version : p.kind ≡ 1 → from ≡ Host → Sharing (link_of from s) (kind_at 1) p → Sized (link_of from s) (kind_at 1) p
      → has_bit (shared_set (link_of from s)) 1 ≡ true → ((xs : List ℕ) → There p connect_version xs → ⊥) → n ≡ 24
  pub max-packet : p.kind ≡ 5 → from ≡ Host → Sharing (link_of from s) (kind_at 5) p → Sized (link_of from s) (kind_at 5) p
      → has_bit (shared_set (link_of from s)) 4 ≡ true → ((xs : List ℕ) → There p max_packet xs → ⊥) → n ≡ 24
  pub max-streams : p.kind ≡ 5 → from ≡ Host → Sharing (link_of from s) (kind_at 5) p → Sized (link_of from s) (kind_at 5) p
      → has_bit (shared_set (link_of from s)) 4 ≡ true → has_bit (shared_set (link_of from s)) 0 ≡ true → ((xs : List ℕ) → There p max_streams xs → ⊥) → n ≡ 24
  pub length-high : p.kind ≡ 101 → Sharing (link_of from s) (kind_at 29) p → Sized (link_of from s) (kind_at 29) p
      → has_bit (shared_set (link_of from s)) 6 ≡ true → ((xs : List ℕ) → There p length_high xs → ⊥) → n ≡ 24

-- A writer call that reaches the wire checks answers 24 to such a packet.
abbrev pub MissingIs24 : Type 0
MissingIs24 = (from : Side) (s : Session) (p : Content) (space : ℕ) → Reaches from s p → Missing from s p (write_by from s p space)

-- ---- a connect, whatever its other fields say

abbrev pub connect : ℕ → ℕ → ℕ → ℕ → ℕ → ℕ → ℕ → Value → Content
connect id speed class subclass protocol vendor product version = packet_of 1 id (one speed ∷ one class ∷ one subclass ∷ one protocol ∷ one vendor ∷ one product ∷ version ∷ []) []

-- With a version and without bit 1 it is 22. Without a version and with bit 1 it is 24, where its id fits.
pub record ConnectNumbers (s : Session) (id speed class subclass protocol vendor product space : ℕ) : Type 0 where
  pub present : (version : ℕ) → Reaches Host s (connect id speed class subclass protocol vendor product (one version)) → has_bit (shared_set (link_of Host s)) 1 ≡ false
      → write_by Host s (connect id speed class subclass protocol vendor product (one version)) space ≡ 22
  pub absent : Reaches Host s (connect id speed class subclass protocol vendor product None) → has_bit (shared_set (link_of Host s)) 1 ≡ true → id < 256 ^ id_width (link_of Host s) 1
      → write_by Host s (connect id speed class subclass protocol vendor product None) space ≡ 24

abbrev pub ConnectIs : Type 0
ConnectIs = (s : Session) (id speed class subclass protocol vendor product space : ℕ) → ConnectNumbers s id speed class subclass protocol vendor product space

-- ---- an endpoint table of 32 rows, whatever they say

abbrev pub table : ℕ → List ℕ → List ℕ → List ℕ → Value → Value → Content
table id types intervals interfaces packets streams = packet_of 5 id (Some types ∷ Some intervals ∷ Some interfaces ∷ packets ∷ streams ∷ []) []

-- a field of 32 numbers, or none
abbrev pub Rows32 : Value → Type 0
Rows32 v = (xs : List ℕ) → v ≡ Some xs → length xs ≡ 32

-- With max packet and without bit 4, or with max streams and not both of bits 4 and 0, it is 22. Without one that is shared it is 24, where nothing is
-- there that is not shared, its id fits, and each field that is there has 32 numbers.
pub record TableNumbers (s : Session) (id : ℕ) (types intervals interfaces : List ℕ) (packets streams : Value) (n : ℕ) : Type 0 where
  pub packets-present : has_bit (shared_set (link_of Host s)) 4 ≡ false → (xs : List ℕ) → packets ≡ Some xs → n ≡ 22
  pub streams-present : (has_bit (shared_set (link_of Host s)) 4 ≡ true → has_bit (shared_set (link_of Host s)) 0 ≡ true → ⊥) → (xs : List ℕ) → streams ≡ Some xs → n ≡ 22
  pub packets-absent : Rows32 (Some types) → Rows32 (Some intervals) → Rows32 (Some interfaces) → Rows32 streams → id < 256 ^ id_width (link_of Host s) 5
      → has_bit (shared_set (link_of Host s)) 4 ≡ true → ((xs : List ℕ) → streams ≡ Some xs → has_bit (shared_set (link_of Host s)) 0 ≡ true) → packets ≡ None → n ≡ 24
  pub streams-absent : Rows32 (Some types) → Rows32 (Some intervals) → Rows32 (Some interfaces) → Rows32 packets → id < 256 ^ id_width (link_of Host s) 5
      → has_bit (shared_set (link_of Host s)) 4 ≡ true → has_bit (shared_set (link_of Host s)) 0 ≡ true → streams ≡ None → n ≡ 24

abbrev pub TableIs : Type 0
TableIs = (s : Session) (id : ℕ) (types intervals interfaces : List ℕ) (packets streams : Value) (space : ℕ) → Reaches Host s (table id types intervals interfaces packets streams)
    → TableNumbers s id types intervals interfaces packets streams (write_by Host s (table id types intervals interfaces packets streams) space)

-- ---- a bulk packet, whatever its other fields say

abbrev pub bulk : ℕ → ℕ → ℕ → ℕ → ℕ → Value → List ℕ → Content
bulk id e status low stream high rest = packet_of 101 id (one e ∷ one status ∷ one low ∷ one stream ∷ high ∷ []) rest

-- With a high part and without bit 6 it is 22. Without one and with bit 6 it is 24, where its id fits and its data is of the size of the low part;
-- no packet of the code says that.
pub record BulkNumbers (from : Side) (s : Session) (id e status low stream : ℕ) (high : Value) (rest : List ℕ) (n : ℕ) : Type 0 where
  pub high-present : has_bit (shared_set (link_of from s)) 6 ≡ false → (xs : List ℕ) → high ≡ Some xs → n ≡ 22
  pub high-absent : has_bit (shared_set (link_of from s)) 6 ≡ true → high ≡ None → id < 256 ^ id_width (link_of from s) 101
      → (Onward from e → length rest ≡ low) → ((Onward from e → ⊥) → length rest ≡ 0) → n ≡ 24

abbrev pub BulkIs : Type 0
BulkIs = (from : Side) (s : Session) (id e status low stream : ℕ) (high : Value) (rest : List ℕ) (space : ℕ) → Reaches from s (bulk id e status low stream high rest)
    → BulkNumbers from s id e status low stream high rest (write_by from s (bulk id e status low stream high rest) space)

-- ---- the packets of the code

-- what a packet that is handed to `gate::write` says, with its id and its body
abbrev pub said_by : Side → Session → ℕ → Packet → List ℕ → Content
said_by from s id x body = content_of (shared_set (link_of from s)) id x body

-- A connect whose version is present is 22 without bit 1. One whose version is absent is 24 with bit 1, where its id fits.
pub record ConnectPacket (s : Session) (id : ℕ) (x : ConnectFields) (n : ℕ) : Type 0 where
  pub present : (version : ℕ) → x.version ≡ Some version → has_bit (shared_set (link_of Host s)) 1 ≡ false → n ≡ 22
  pub absent : x.version ≡ None → has_bit (shared_set (link_of Host s)) 1 ≡ true → id < 256 ^ id_width (link_of Host s) 1 → n ≡ 24

abbrev pub ConnectPacketIs : Type 0
ConnectPacketIs = (s : Session) (id : ℕ) (x : ConnectFields) (body : List ℕ) (space : ℕ) → Reaches Host s (said_by Host s id (Connect x) body)
    → ConnectPacket s id x (write_by Host s (said_by Host s id (Connect x) body) space)

-- An endpoint table with max packet is 22 without bit 4, and one with max streams is 22 without both of bits 4 and 0. One without a column that is
-- shared is 24, where it has none that is not shared, its id fits, and the part that it names has all bytes of its rows.
pub record TablePacket (s : Session) (id : ℕ) (x : EndpointTableFields) (body : List ℕ) (n : ℕ) : Type 0 where
  pub packets-present : has_bit (shared_set (link_of Host s)) 4 ≡ false → x.maxpacket ≡ true → n ≡ 22
  pub streams-present : (has_bit (shared_set (link_of Host s)) 4 ≡ true → has_bit (shared_set (link_of Host s)) 0 ≡ true → ⊥) → x.maxstreams ≡ true → n ≡ 22
  pub packets-absent : length (in_part x.rows body) ≡ table_size x.maxpacket x.maxstreams → id < 256 ^ id_width (link_of Host s) 5
      → has_bit (shared_set (link_of Host s)) 4 ≡ true → (x.maxstreams ≡ true → has_bit (shared_set (link_of Host s)) 0 ≡ true) → x.maxpacket ≡ false → n ≡ 24
  pub streams-absent : length (in_part x.rows body) ≡ table_size x.maxpacket x.maxstreams → id < 256 ^ id_width (link_of Host s) 5
      → has_bit (shared_set (link_of Host s)) 4 ≡ true → has_bit (shared_set (link_of Host s)) 0 ≡ true → x.maxstreams ≡ false → n ≡ 24

abbrev pub TablePacketIs : Type 0
TablePacketIs = (s : Session) (id : ℕ) (x : EndpointTableFields) (body : List ℕ) (space : ℕ) → Reaches Host s (said_by Host s id (EndpointTable x) body)
    → TablePacket s id x body (write_by Host s (said_by Host s id (EndpointTable x) body) space)

-- A bulk packet whose count is over 65,535 is 22 without bit 6.
abbrev pub BulkPacketIs : Type 0
BulkPacketIs = (from : Side) (s : Session) (id : ℕ) (x : BulkFields) (body : List ℕ) (space : ℕ) → Reaches from s (said_by from s id (Bulk x) body)
    → has_bit (shared_set (link_of from s)) 6 ≡ false → 65535 < x.length → write_by from s (said_by from s id (Bulk x) body) space ≡ 22
