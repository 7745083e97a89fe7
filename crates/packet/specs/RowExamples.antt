-- Worked examples, each by computation: a hello's version and words, and rows of the two tables.
-- Assumes nothing.
use Rattle.std.specs.Prelude.{ℕ, zero, suc, ◌+◌, ◌*◌, ◌%◌, ◌≡◌, refl, true, false, List, [], ◌∷◌, ◌++◌, Option, Some, None}
use Rattle.packet.specs.declared.Part.{Part}
use Rattle.packet.specs.Packet.{in_part}
use Rattle.kinds.specs.Table.{kinds}
use Rattle.kinds.specs.Codec.{layout}
use Rattle.packet.specs.declared.InterfaceRow.{InterfaceRow}
use Rattle.packet.specs.Rows.{interface_row, endpoint_row, word_of}

-- n bytes, each one more than the last, from i on
abbrev run : ℕ → ℕ → List ℕ
run zero i = []
run (suc n) i = i % 256 ∷ run n (suc i)

-- ---- "0: version of 64 bytes, words u32."; "64 + 4n, n 0..8"

-- a hello whose version is the bytes 100 to 163 and whose words are these bytes
abbrev hello : List ℕ → List ℕ
hello words = run 64 100 ++ words

abbrev part : ℕ → ℕ → Part
part a e = record { start = a; end = e }

-- the version and word i, as a hello of n bytes is read
abbrev version : ℕ → List ℕ → List ℕ
version n body = in_part (part 0 64) body

abbrev word : ℕ → List ℕ → ℕ → Option ℕ
word n body i = word_of (in_part (part 64 n) body) i

-- with 8 words of the bytes 1 to 32, with 9, with one, with none
pub hellos : (version 96 (hello (run 32 1)) ≡ run 64 100)
    × (word 96 (hello (run 32 1)) 0 ≡ Some (1 + 256 * 2 + 65536 * 3 + 16777216 * 4))
    × (word 96 (hello (run 32 1)) 1 ≡ Some (5 + 256 * 6 + 65536 * 7 + 16777216 * 8))
    × (word 96 (hello (run 32 1)) 7 ≡ Some (29 + 256 * 30 + 65536 * 31 + 16777216 * 32))
    × (word 96 (hello (run 32 1)) 8 ≡ None)
    × (word 100 (hello (run 36 1)) 8 ≡ None)
    × (version 68 (hello (run 4 1)) ≡ run 64 100)
    × (word 68 (hello (run 4 1)) 0 ≡ Some (1 + 256 * 2 + 65536 * 3 + 16777216 * 4))
    × (word 68 (hello (run 4 1)) 1 ≡ None)
    × (version 64 (hello []) ≡ run 64 100)
    × (word 64 (hello []) 0 ≡ None)
hellos = (refl, refl, refl, refl, refl, refl, refl, refl, refl, refl, refl)

-- ---- "4: count u32, then 32 each of number, class, subclass, protocol."

abbrev interface : ℕ → ℕ → ℕ → ℕ → InterfaceRow
interface number class subclass protocol = record { interface = number; class = class; subclass = subclass; protocol = protocol }

pub interfaces : (interface_row (record { count = 32; rows = part 0 128 }) (run 128 0) 0 ≡ interface 0 32 64 96)
    × (interface_row (record { count = 32; rows = part 0 128 }) (run 128 0) 31 ≡ interface 31 63 95 127)
    × (interface_row (record { count = 32; rows = part 0 128 }) (run 128 0) 32 ≡ interface 0 0 0 0)
    × (interface_row (record { count = 32; rows = part 0 127 }) (run 128 0) 1 ≡ interface 0 0 0 0)
unfolding interface_row layout kinds
interfaces = (refl, refl, refl, refl)

-- ---- "5: 32 each of type, interval, interface, then max packet u16, max streams u32."

-- row 17 of a table of n bytes; a table with max streams has max packet too
pub endpoints : (endpoint_row (record { rows = part 0 96; maxpacket = false; maxstreams = false }) (run 96 0) 17 ≡ record { ty = 17; interval = 49; interface = 81; maxpacket = None; maxstreams = None })
    × (endpoint_row (record { rows = part 0 160; maxpacket = true; maxstreams = false }) (run 160 0) 17 ≡ record { ty = 17; interval = 49; interface = 81; maxpacket = Some (130 + 256 * 131); maxstreams = None })
    × (endpoint_row (record { rows = part 0 288; maxpacket = true; maxstreams = true }) (run 288 0) 17 ≡ record { ty = 17; interval = 49; interface = 81; maxpacket = Some (130 + 256 * 131); maxstreams = Some (228 + 256 * 229 + 65536 * 230 + 16777216 * 231) })
    × (endpoint_row (record { rows = part 0 288; maxpacket = true; maxstreams = true }) (run 288 0) 32 ≡ record { ty = 0; interval = 0; interface = 0; maxpacket = Some 0; maxstreams = Some 0 })
unfolding endpoint_row layout kinds
endpoints = (refl, refl, refl, refl)
