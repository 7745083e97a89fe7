-- The packet of the code and what it says: for each variant its kind's number and its fields by name, in body order.
-- Assumes nothing: these are definitions.
use Rattle.std.specs.Prelude.{ℕ, ◌/◌, ◌%◌, Bool, true, cond, ◌||◌, List, [], ◌∷◌, ◌++◌, map, length, drop, eqb, ltb, Option, Some, None}
use Rattle.std.proofs.Math.Seq.{slice}
use Rattle.octets.specs.Bits.{has_bit}
use Rattle.kinds.specs.Table.{Bits, always, bit, bits, Field}
use Rattle.kinds.specs.Content.{Value, one, Content, size, split}
use Rattle.kinds.specs.Codec.{layout}
use Rattle.packet.specs.declared.Part.{Part}
use Rattle.packet.specs.declared.Packet.{Packet}
use Rattle.packet.specs.declared.Packet.TheVariants.{Hello, Connect, Disconnect, Reset, InterfaceTable, EndpointTable, SetConfiguration, GetConfiguration, ConfigurationStatus, SetAlt, GetAlt, AltStatus, StartIso, StopIso, IsoStatus, StartInterrupt, StopInterrupt, InterruptStatus, AllocStreams, FreeStreams, StreamsStatus, Cancel, FilterReject, Filter, DisconnectAck, StartBulkReceiving, StopBulkReceiving, BulkReceivingStatus, Control, Bulk, Iso, Interrupt, BufferedBulk}

-- the bytes that a part names
abbrev pub in_part : Part → List ℕ → List ℕ
in_part p body = slice p.start p.end body

abbrev pub no_part : Part
no_part = record { start = 0; end = 0 }

-- a variant: its kind, the fields that it holds as numbers, each there or not, the part of the body that holds the fields of many numbers,
-- which of these are there, and the part that follows the fields
pub record Shown : Type 0 where
  pub kind : ℕ
  pub front : List (Option ℕ)
  pub rows : Part
  pub columns : Bits → Bool
  pub rest : Part

-- a variant whose fields are numbers, with data or a string behind them
abbrev pub carrying : ℕ → List (Option ℕ) → Part → Shown
carrying k vs p = record { kind = k; front = vs; rows = no_part; columns = λ b. true; rest = p }

-- a variant that has none
abbrev pub plain : ℕ → List (Option ℕ) → Shown
plain k vs = carrying k vs no_part

-- "The bulk count is low + 65,536 times high, or low without bit 6": the high part is there where bit 6 is shared,
-- and in a count that is too large for the low part
abbrev pub high : ℕ → ℕ → Option ℕ
high caps n = cond (has_bit caps 6 || ltb 65535 n) (Some (n / 65536)) None

-- an endpoint table has max packet and max streams, or not
abbrev pub columns_of : Bool → Bool → Bits → Bool
columns_of packets streams always = true
columns_of packets streams (bit j) = packets
columns_of packets streams (bits j k) = streams

abbrev pub shown_of : ℕ → Packet → Shown
shown_of caps (Hello x) = record { kind = 0; front = []; rows = x.version; columns = λ b. true; rest = x.words }
shown_of caps (Connect x) = plain 1 (Some x.speed ∷ Some x.class ∷ Some x.subclass ∷ Some x.protocol ∷ Some x.vendor ∷ Some x.product ∷ x.version ∷ [])
shown_of caps Disconnect = plain 2 []
shown_of caps Reset = plain 3 []
shown_of caps (InterfaceTable x) = record { kind = 4; front = (Some x.count ∷ []); rows = x.rows; columns = λ b. true; rest = no_part }
shown_of caps (EndpointTable x) = record { kind = 5; front = []; rows = x.rows; columns = columns_of x.maxpacket x.maxstreams; rest = no_part }
shown_of caps (SetConfiguration x) = plain 6 (Some x.configuration ∷ [])
shown_of caps GetConfiguration = plain 7 []
shown_of caps (ConfigurationStatus x) = plain 8 (Some x.status ∷ Some x.configuration ∷ [])
shown_of caps (SetAlt x) = plain 9 (Some x.interface ∷ Some x.alt ∷ [])
shown_of caps (GetAlt x) = plain 10 (Some x.interface ∷ [])
shown_of caps (AltStatus x) = plain 11 (Some x.status ∷ Some x.interface ∷ Some x.alt ∷ [])
shown_of caps (StartIso x) = plain 12 (Some x.endpoint.0 ∷ Some x.packets ∷ Some x.urbs ∷ [])
shown_of caps (StopIso x) = plain 13 (Some x.endpoint.0 ∷ [])
shown_of caps (IsoStatus x) = plain 14 (Some x.status ∷ Some x.endpoint.0 ∷ [])
shown_of caps (StartInterrupt x) = plain 15 (Some x.endpoint.0 ∷ [])
shown_of caps (StopInterrupt x) = plain 16 (Some x.endpoint.0 ∷ [])
shown_of caps (InterruptStatus x) = plain 17 (Some x.status ∷ Some x.endpoint.0 ∷ [])
shown_of caps (AllocStreams x) = plain 18 (Some x.mask ∷ Some x.count ∷ [])
shown_of caps (FreeStreams x) = plain 19 (Some x.mask ∷ [])
shown_of caps (StreamsStatus x) = plain 20 (Some x.mask ∷ Some x.count ∷ Some x.status ∷ [])
shown_of caps Cancel = plain 21 []
shown_of caps FilterReject = plain 22 []
shown_of caps (Filter x) = carrying 23 [] x.string
shown_of caps DisconnectAck = plain 24 []
shown_of caps (StartBulkReceiving x) = plain 25 (Some x.stream ∷ Some x.bytes ∷ Some x.endpoint.0 ∷ Some x.transfers ∷ [])
shown_of caps (StopBulkReceiving x) = plain 26 (Some x.stream ∷ Some x.endpoint.0 ∷ [])
shown_of caps (BulkReceivingStatus x) = plain 27 (Some x.stream ∷ Some x.endpoint.0 ∷ Some x.status ∷ [])
shown_of caps (Control x) = carrying 100 (Some x.endpoint.0 ∷ Some x.request ∷ Some x.requesttype ∷ Some x.status ∷ Some x.value ∷ Some x.index ∷ Some x.length ∷ []) x.payload
shown_of caps (Bulk x) = carrying 101 (Some x.endpoint.0 ∷ Some x.status ∷ Some (x.length % 65536) ∷ Some x.stream ∷ high caps x.length ∷ []) x.payload
shown_of caps (Iso x) = carrying 102 (Some x.endpoint.0 ∷ Some x.status ∷ Some x.length ∷ []) x.payload
shown_of caps (Interrupt x) = carrying 103 (Some x.endpoint.0 ∷ Some x.status ∷ Some x.length ∷ []) x.payload
shown_of caps (BufferedBulk x) = carrying 104 (Some x.stream ∷ Some x.length ∷ Some x.endpoint.0 ∷ Some x.status ∷ []) x.payload

-- the part that follows a packet's fields, whatever is shared
abbrev pub rest_of : Packet → Part
rest_of p = (shown_of 0 p).rest

abbrev pub is_hello : Packet → Bool
is_hello p = eqb (shown_of 0 p).kind 0

-- ---- what a packet with its body says

-- a field that is one number, there or not
abbrev pub single : Option ℕ → Value
single None = None
single (Some x) = one x

-- the rows of a table of that many bytes; none where the part is not as long
abbrev pub rows_in : ℕ → List ℕ → List ℕ
rows_in n s = cond (eqb (length s) n) s []

-- the fields that stand in a part of the body: cut short where the part is not as long as they are
abbrev pub columns_in : (Bits → Bool) → List Field → List ℕ → List Value
columns_in has fs s = split has fs (rows_in (size has fs) s)

abbrev pub said : ℕ → Shown → List ℕ → List ℕ → Content
said id s rows rest =
    record {
      kind = s.kind;
      id = id;
      fields = map single s.front ++ columns_in s.columns (drop (length s.front) (layout s.kind)) rows;
      rest = rest;
    }

unfoldable pub content_of : ℕ → ℕ → Packet → List ℕ → Content
content_of caps id p body = said id (shown_of caps p) (in_part (shown_of caps p).rows body) (in_part (shown_of caps p).rest body)
