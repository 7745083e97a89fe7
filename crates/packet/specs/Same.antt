-- What a packet says, with the parts of the body that it names, decides the packet: no two say the same (`same-packet`). Its kind and what follows
-- its fields are the same whatever is shared (`shown-same`). proofs/Same.antt shows both.
-- Assumes nothing: these are statements.
use Rattle.std.specs.Prelude.{ℕ, ◌≡◌, List}
use Rattle.packet.specs.declared.Packet.{Packet}
use Rattle.packet.specs.Packet.{shown_of, rest_of, content_of}

abbrev pub SamePacket : Type 0
SamePacket =
    (caps i j : ℕ) (p q : Packet) (b c : List ℕ) → content_of caps i p b ≡ content_of caps j q c
    → (shown_of caps p).rows ≡ (shown_of caps q).rows → (shown_of caps p).rest ≡ (shown_of caps q).rest → p ≡ q

abbrev pub ShownSame : Type 0
ShownSame = (caps : ℕ) (p : Packet) → ((shown_of caps p).kind ≡ (shown_of 0 p).kind) × ((shown_of caps p).rest ≡ rest_of p)
