-- What a packet says, with the parts of the body that it names, decides the packet: no two say the same (`same-packet`). Its kind and its parts are
-- the same whatever is shared (`shown-same`).
-- A packet is made of a kind, numbers and parts again (`packet_from`); made of what a packet says, it is that packet, a line for each variant, by
-- computation (`packet-back`). A bulk packet's count comes back from its two parts (`bulk-count`).
-- Assumes nothing.
use Rattle.std.specs.Prelude.{Option, Some, None}
use Prim.Native.Nat.{ℕ, ◌+◌, ◌*◌, ◌/◌, ◌%◌, ◌≤◌}
use native.Mathlib.Omega.{arith}
use mathlib.Core.Path.{◌≡◌, refl, sym, ap, ◌∙◌}
use mathlib.Core.Bool.{Bool, true, false, cond, ◌||◌}
use mathlib.Core.List.{List}
use lib.ListN.{get_or}
use lib.Dec.{eqb, ltb}
use borrow.Author.Tests.{ltb-false}
use Rattle.octets.specs.Bits.{has_bit}
use Rattle.endpoint.specs.declared.Endpoint.{Endpoint}
use Rattle.kinds.specs.Table.{kinds}
use Rattle.kinds.specs.Content.{Value, first_number}
use Rattle.kinds.specs.Codec.{layout}
use Rattle.packet.specs.declared.Part.{Part}
use Rattle.packet.specs.declared.Packet.{Packet}
use Rattle.packet.specs.declared.Packet.TheVariants.{Hello, Connect, Disconnect, Reset, InterfaceTable, EndpointTable, SetConfiguration, GetConfiguration, ConfigurationStatus, SetAlt, GetAlt, AltStatus, StartIso, StopIso, IsoStatus, StartInterrupt, StopInterrupt, InterruptStatus, AllocStreams, FreeStreams, StreamsStatus, Cancel, FilterReject, Filter, DisconnectAck, StartBulkReceiving, StopBulkReceiving, BulkReceivingStatus, Control, Bulk, Iso, Interrupt, BufferedBulk}
use Rattle.packet.specs.Packet.{high, shown_of, single, content_of}
use Rattle.packet.specs.Fields.{or_zero}
use Rattle.packet.specs.Same.{SamePacket, ShownSame}

-- ---- a bulk packet's count from its two parts: the high one is there, or the count fits into the low one

count-back : (b c : Bool) (n : ℕ) → (c ≡ false → n ≤ 65535) → n % 65536 + 65536 * or_zero (cond (b || c) (Some (n / 65536)) None) ≡ n
count-back true c n h = omega arith
count-back false true n h = omega arith
count-back false false n h = let l : n ≤ 65535 = h refl in omega arith

pub bulk-count : (caps n : ℕ) → n % 65536 + 65536 * or_zero (high caps n) ≡ n
bulk-count caps n = count-back (has_bit caps 6) (ltb 65535 n) n (ltb-false 65535 n)

-- ---- a packet made again

abbrev is_there : Value → Bool
is_there None = false
is_there (Some xs) = true

abbrev optional_from : Value → Option ℕ
optional_from None = None
optional_from (Some xs) = Some (first_number (Some xs))

-- the number of field i, and an endpoint of it
abbrev num : List Value → ℕ → ℕ
num vs i = first_number (get_or vs i None)

abbrev end : List Value → ℕ → Endpoint
end vs i = record { 0 = num vs i }

abbrev packet_from : ℕ → List Value → Part → Part → Packet
packet_from k vs rows rest =
    cond (eqb k 0) (Hello (record { version = rows; words = rest }))
    (cond (eqb k 1) (Connect (record { speed = num vs 0; class = num vs 1; subclass = num vs 2; protocol = num vs 3; vendor = num vs 4; product = num vs 5; version = optional_from (get_or vs 6 None) }))
    (cond (eqb k 2) Disconnect
    (cond (eqb k 3) Reset
    (cond (eqb k 4) (InterfaceTable (record { count = num vs 0; rows = rows }))
    (cond (eqb k 5) (EndpointTable (record { rows = rows; maxpacket = is_there (get_or vs 3 None); maxstreams = is_there (get_or vs 4 None) }))
    (cond (eqb k 6) (SetConfiguration (record { configuration = num vs 0 }))
    (cond (eqb k 7) GetConfiguration
    (cond (eqb k 8) (ConfigurationStatus (record { status = num vs 0; configuration = num vs 1 }))
    (cond (eqb k 9) (SetAlt (record { interface = num vs 0; alt = num vs 1 }))
    (cond (eqb k 10) (GetAlt (record { interface = num vs 0 }))
    (cond (eqb k 11) (AltStatus (record { status = num vs 0; interface = num vs 1; alt = num vs 2 }))
    (cond (eqb k 12) (StartIso (record { endpoint = end vs 0; packets = num vs 1; urbs = num vs 2 }))
    (cond (eqb k 13) (StopIso (record { endpoint = end vs 0 }))
    (cond (eqb k 14) (IsoStatus (record { status = num vs 0; endpoint = end vs 1 }))
    (cond (eqb k 15) (StartInterrupt (record { endpoint = end vs 0 }))
    (cond (eqb k 16) (StopInterrupt (record { endpoint = end vs 0 }))
    (cond (eqb k 17) (InterruptStatus (record { status = num vs 0; endpoint = end vs 1 }))
    (cond (eqb k 18) (AllocStreams (record { mask = num vs 0; count = num vs 1 }))
    (cond (eqb k 19) (FreeStreams (record { mask = num vs 0 }))
    (cond (eqb k 20) (StreamsStatus (record { mask = num vs 0; count = num vs 1; status = num vs 2 }))
    (cond (eqb k 21) Cancel
    (cond (eqb k 22) FilterReject
    (cond (eqb k 23) (Filter (record { string = rest }))
    (cond (eqb k 24) DisconnectAck
    (cond (eqb k 25) (StartBulkReceiving (record { stream = num vs 0; bytes = num vs 1; endpoint = end vs 2; transfers = num vs 3 }))
    (cond (eqb k 26) (StopBulkReceiving (record { stream = num vs 0; endpoint = end vs 1 }))
    (cond (eqb k 27) (BulkReceivingStatus (record { stream = num vs 0; endpoint = end vs 1; status = num vs 2 }))
    (cond (eqb k 100) (Control (record { endpoint = end vs 0; request = num vs 1; requesttype = num vs 2; status = num vs 3; value = num vs 4; index = num vs 5; length = num vs 6; payload = rest }))
    (cond (eqb k 101) (Bulk (record { endpoint = end vs 0; status = num vs 1; length = num vs 2 + 65536 * num vs 4; stream = num vs 3; payload = rest }))
    (cond (eqb k 102) (Iso (record { endpoint = end vs 0; status = num vs 1; length = num vs 2; payload = rest }))
    (cond (eqb k 103) (Interrupt (record { endpoint = end vs 0; status = num vs 1; length = num vs 2; payload = rest }))
    (BufferedBulk (record { stream = num vs 0; length = num vs 1; endpoint = end vs 2; status = num vs 3; payload = rest })))))))))))))))))))))))))))))))))

packet-back : (caps id : ℕ) (p : Packet) (body : List ℕ)
    → packet_from (content_of caps id p body).kind (content_of caps id p body).fields (shown_of caps p).rows (shown_of caps p).rest ≡ p
unfolding content_of layout kinds
packet-back caps id (Hello x) body = refl
packet-back caps id (Connect x) body = version-back x.version
  where
    version-back : (v : Option ℕ) → Connect (record { speed = x.speed; class = x.class; subclass = x.subclass; protocol = x.protocol; vendor = x.vendor; product = x.product; version = optional_from (single v) }) ≡ Connect (record { speed = x.speed; class = x.class; subclass = x.subclass; protocol = x.protocol; vendor = x.vendor; product = x.product; version = v })
    version-back None = refl
    version-back (Some n) = refl
packet-back caps id Disconnect body = refl
packet-back caps id Reset body = refl
packet-back caps id (InterfaceTable x) body = refl
packet-back caps id (EndpointTable x) body = columns-back x.maxpacket x.maxstreams
  where
    columns-back : (m s : Bool) → packet_from 5 (content_of caps id (EndpointTable (record { rows = x.rows; maxpacket = m; maxstreams = s })) body).fields x.rows (record { start = 0; end = 0 })
        ≡ EndpointTable (record { rows = x.rows; maxpacket = m; maxstreams = s })
    columns-back true true = refl
    columns-back true false = refl
    columns-back false true = refl
    columns-back false false = refl
packet-back caps id (SetConfiguration x) body = refl
packet-back caps id GetConfiguration body = refl
packet-back caps id (ConfigurationStatus x) body = refl
packet-back caps id (SetAlt x) body = refl
packet-back caps id (GetAlt x) body = refl
packet-back caps id (AltStatus x) body = refl
packet-back caps id (StartIso x) body = refl
packet-back caps id (StopIso x) body = refl
packet-back caps id (IsoStatus x) body = refl
packet-back caps id (StartInterrupt x) body = refl
packet-back caps id (StopInterrupt x) body = refl
packet-back caps id (InterruptStatus x) body = refl
packet-back caps id (AllocStreams x) body = refl
packet-back caps id (FreeStreams x) body = refl
packet-back caps id (StreamsStatus x) body = refl
packet-back caps id Cancel body = refl
packet-back caps id FilterReject body = refl
packet-back caps id (Filter x) body = refl
packet-back caps id DisconnectAck body = refl
packet-back caps id (StartBulkReceiving x) body = refl
packet-back caps id (StopBulkReceiving x) body = refl
packet-back caps id (BulkReceivingStatus x) body = refl
packet-back caps id (Control x) body = refl
packet-back caps id (Bulk x) body = ap (λ (m : ℕ). Bulk (record { endpoint = x.endpoint; status = x.status; length = m; stream = x.stream; payload = x.payload })) (high-back (high caps x.length) (x.length % 65536) ∙ bulk-count caps x.length)
  where
    high-back : (v : Option ℕ) (low : ℕ) → low + 65536 * first_number (single v) ≡ low + 65536 * or_zero v
    high-back None low = refl
    high-back (Some y) low = refl
packet-back caps id (Iso x) body = refl
packet-back caps id (Interrupt x) body = refl
packet-back caps id (BufferedBulk x) body = refl

-- ---- the theorem

pub same-packet : SamePacket
same-packet caps i j p q b c e f g =
    sym (packet-back caps i p b) ∙ (λ n. packet_from (e n).kind (e n).fields (f n) (g n)) ∙ packet-back caps j q c

-- ---- kind and rest are the same whatever is shared

pub shown-same : ShownSame
shown-same caps (Hello x) = (refl, refl)
shown-same caps (Connect x) = (refl, refl)
shown-same caps Disconnect = (refl, refl)
shown-same caps Reset = (refl, refl)
shown-same caps (InterfaceTable x) = (refl, refl)
shown-same caps (EndpointTable x) = (refl, refl)
shown-same caps (SetConfiguration x) = (refl, refl)
shown-same caps GetConfiguration = (refl, refl)
shown-same caps (ConfigurationStatus x) = (refl, refl)
shown-same caps (SetAlt x) = (refl, refl)
shown-same caps (GetAlt x) = (refl, refl)
shown-same caps (AltStatus x) = (refl, refl)
shown-same caps (StartIso x) = (refl, refl)
shown-same caps (StopIso x) = (refl, refl)
shown-same caps (IsoStatus x) = (refl, refl)
shown-same caps (StartInterrupt x) = (refl, refl)
shown-same caps (StopInterrupt x) = (refl, refl)
shown-same caps (InterruptStatus x) = (refl, refl)
shown-same caps (AllocStreams x) = (refl, refl)
shown-same caps (FreeStreams x) = (refl, refl)
shown-same caps (StreamsStatus x) = (refl, refl)
shown-same caps Cancel = (refl, refl)
shown-same caps FilterReject = (refl, refl)
shown-same caps (Filter x) = (refl, refl)
shown-same caps DisconnectAck = (refl, refl)
shown-same caps (StartBulkReceiving x) = (refl, refl)
shown-same caps (StopBulkReceiving x) = (refl, refl)
shown-same caps (BulkReceivingStatus x) = (refl, refl)
shown-same caps (Control x) = (refl, refl)
shown-same caps (Bulk x) = (refl, refl)
shown-same caps (Iso x) = (refl, refl)
shown-same caps (Interrupt x) = (refl, refl)
shown-same caps (BufferedBulk x) = (refl, refl)
