-- Worked examples of the code's packets: the number that a packet with its body has, and its bytes.
-- Assumes nothing: all by computation.
use Rattle.std.specs.Prelude.{ℕ, Bool, true, false, List, [], ◌∷◌, ◌≡◌, refl, replicate, Option, Some, None}
use Rattle.header.specs.declared.Side.{Side}
use Rattle.header.specs.declared.Side.TheVariants.{Guest, Host}
use Rattle.header.specs.declared.Link.{Link}
use Rattle.header.specs.Link.{shared_set, id_width}
use Rattle.header.specs.Header.{header_size, header_bytes}
use Rattle.kinds.specs.Table.{kinds}
use Rattle.kinds.specs.Number.{bad, kind_number, wire_number}
use Rattle.kinds.specs.Codec.{layout, encode}
use Rattle.packet.specs.declared.Part.{Part}
use Rattle.packet.specs.declared.Packet.{Packet}
use Rattle.packet.specs.declared.Packet.TheVariants.{Connect, EndpointTable, Control, Bulk}
use Rattle.packet.specs.Packet.{content_of}

-- both hellos have passed and offered these
abbrev link : Side → ℕ → Link
link from caps = record { sender = from; guest = Some caps; host = Some caps }

abbrev number : Side → ℕ → Packet → List ℕ → ℕ
number from caps p body = wire_number (link from caps) (content_of caps 0 p body)

abbrev sent : Side → ℕ → ℕ → Packet → List ℕ → List ℕ
sent from caps id p body = encode (link from caps) (content_of caps id p body)

abbrev front : ℕ → Part
front n = record { start = 0; end = n }

abbrev bulk : ℕ → ℕ → Packet
bulk n size = Bulk (record { endpoint = record { 0 = 2 }; status = 0; length = n; stream = 0; payload = front size })

abbrev connect : Option ℕ → Packet
connect version = Connect (record { speed = 2; class = 9; subclass = 0; protocol = 1; vendor = 7531; product = 2; version = version })

abbrev table : ℕ → Bool → Bool → Packet
table size packets streams = EndpointTable (record { rows = front size; maxpacket = packets; maxstreams = streams })

-- "a bulk count over 65,535 without bit 6 .. is 22", also where no data follows; with bit 6 its high part counts
pub counts : (number Guest 0 (bulk 2 2) (170 ∷ 187 ∷ []) ≡ 0)
    × (number Guest 0 (bulk 65538 2) (170 ∷ 187 ∷ []) ≡ 22)
    × (number Guest 64 (bulk 65537 2) (170 ∷ 187 ∷ []) ≡ 23)
    × (number Guest 64 (bulk 65538 2) (170 ∷ 187 ∷ []) ≡ 23)
    × (number Host 0 (bulk 65538 0) [] ≡ 22)
    × (number Host 64 (bulk 65538 0) [] ≡ 0)
unfolding shared_set id_width layout content_of wire_number kind_number bad kinds
counts = (refl, refl, refl, refl, refl, refl)

-- a field that is there and not shared is 22, one that is missing and shared 24
pub presence : (number Host 0 (connect None) [] ≡ 0)
    × (number Host 0 (connect (Some 256)) [] ≡ 22)
    × (number Host 2 (connect None) [] ≡ 24)
    × (number Host 2 (connect (Some 256)) [] ≡ 0)
    × (number Host 0 (table 96 false false) (replicate 96 0) ≡ 0)
    × (number Host 0 (table 160 true false) (replicate 160 0) ≡ 22)
    × (number Host 16 (table 96 false false) (replicate 96 0) ≡ 24)
    × (number Host 16 (table 288 true true) (replicate 288 0) ≡ 22)
    × (number Host 17 (table 160 true false) (replicate 160 0) ≡ 24)
    × (number Host 17 (table 288 true true) (replicate 288 0) ≡ 0)
unfolding shared_set id_width layout content_of wire_number kind_number bad kinds
presence = (refl, refl, refl, refl, refl, refl, refl, refl, refl, refl)

-- bytes as a real peer sends them: a guest asks for 18 bytes of the device descriptor; a bulk answer of 65,538 bytes written
pub bytes : (sent Guest 0 3 (Control (record { endpoint = record { 0 = 128 }; request = 6; requesttype = 128; status = 0; value = 256; index = 0; length = 18; payload = front 0 })) [] ≡ (100 ∷ 0 ∷ 0 ∷ 0 ∷ 10 ∷ 0 ∷ 0 ∷ 0 ∷ 3 ∷ 0 ∷ 0 ∷ 0 ∷ 128 ∷ 6 ∷ 128 ∷ 0 ∷ 0 ∷ 1 ∷ 0 ∷ 0 ∷ 18 ∷ 0 ∷ []))
    × (sent Host 64 9 (bulk 65538 0) [] ≡ (101 ∷ 0 ∷ 0 ∷ 0 ∷ 10 ∷ 0 ∷ 0 ∷ 0 ∷ 9 ∷ 0 ∷ 0 ∷ 0 ∷ 2 ∷ 0 ∷ 2 ∷ 0 ∷ 0 ∷ 0 ∷ 0 ∷ 0 ∷ 1 ∷ 0 ∷ []))
unfolding shared_set id_width header_size header_bytes layout encode content_of kinds
bytes = (refl, refl)
