-- Worked examples, each by computation: sizes, names, numbers and places.
-- Assumes nothing.
use Rattle.std.specs.Prelude.{◌≡◌, refl, Bool, true, false, cond, ◌&&◌, ◌||◌, List, [], ◌∷◌, map, ℕ, ◌+◌, ◌*◌, replicate, set, leb, Some, None}
use Prim.Native.String.{String}
use lib.Text.{eqt}
use Rattle.header.specs.declared.Side.{Side}
use Rattle.header.specs.declared.Side.TheVariants.{Guest, Host}
use Rattle.octets.specs.Bits.{has_bit}
use Rattle.header.specs.Link.{shared_set, id_width}
use Rattle.kinds.specs.Table.{Bits, always, bit, bits, Field, Tail, nothing, words, string, payload, payload-onward, Kind, kinds, kind_at}
use Rattle.kinds.specs.Content.{Value, one, Content, shared, size, packet_of}
use Rattle.header.specs.Header.{header_size, header_bytes, header_number}
use Rattle.kinds.specs.Number.{data_length, bad, kind_number, wire_number}
use Rattle.kinds.specs.Codec.{layout, encode, packet_number, write_number}

-- ---- sizes

-- document 01's "body bytes" of all kinds, without what follows the fields: of connect, endpoint table and bulk as given
abbrev body_bytes : ℕ → ℕ → ℕ → List ℕ
body_bytes connect table bulk =
    64 ∷ connect ∷ 0 ∷ 0 ∷ 132 ∷ table
    ∷ 1 ∷ 0 ∷ 2 ∷ 2 ∷ 1 ∷ 3 ∷ 3 ∷ 1 ∷ 2 ∷ 1 ∷ 1 ∷ 2
    ∷ 8 ∷ 4 ∷ 9 ∷ 0 ∷ 0 ∷ 0 ∷ 0 ∷ 10 ∷ 5 ∷ 6
    ∷ 10 ∷ bulk ∷ 4 ∷ 4 ∷ 10 ∷ []

abbrev sizes_under : ℕ → List ℕ
sizes_under caps = map (λ (k : Kind). size (shared caps) k.fields) kinds

-- "8; 10 with bit 1", "96; 160 with bit 4; 288 with bits 4 and 0", "8, or 10 with bit 6": under every shared set
pub sizes : (caps : ℕ) → sizes_under caps ≡ body_bytes (cond (has_bit caps 1) 10 8) (cond (has_bit caps 4) (cond (has_bit caps 0) 288 160) 96) (cond (has_bit caps 6) 10 8)
unfolding kinds
sizes caps = go (has_bit caps 1) refl (has_bit caps 4) refl (has_bit caps 0) refl (has_bit caps 6) refl
  where
    go : (a : Bool) → has_bit caps 1 ≡ a → (b : Bool) → has_bit caps 4 ≡ b → (c : Bool) → has_bit caps 0 ≡ c → (d : Bool) → has_bit caps 6 ≡ d
        → sizes_under caps ≡ body_bytes (cond (has_bit caps 1) 10 8) (cond (has_bit caps 4) (cond (has_bit caps 0) 288 160) 96) (cond (has_bit caps 6) 10 8)
    go true ea true eb true ec true ed = simp (ea, eb, ec, ed)
    go true ea true eb true ec false ed = simp (ea, eb, ec, ed)
    go true ea true eb false ec true ed = simp (ea, eb, ec, ed)
    go true ea true eb false ec false ed = simp (ea, eb, ec, ed)
    go true ea false eb c ec true ed = simp (ea, eb, ed)
    go true ea false eb c ec false ed = simp (ea, eb, ed)
    go false ea true eb true ec true ed = simp (ea, eb, ec, ed)
    go false ea true eb true ec false ed = simp (ea, eb, ec, ed)
    go false ea true eb false ec true ed = simp (ea, eb, ec, ed)
    go false ea true eb false ec false ed = simp (ea, eb, ec, ed)
    go false ea false eb c ec true ed = simp (ea, eb, ed)
    go false ea false eb c ec false ed = simp (ea, eb, ed)

-- ---- bits: "Other bits and words are ignored": the table asks for bits 0 to 7 alone

abbrev low : Bits → Bool
low always = true
low (bit j) = leb j 7
low (bits j k) = leb j 7 && leb k 7

abbrev low_fields : List Field → Bool
low_fields [] = true
low_fields (f ∷ fs) = low f.there && low_fields fs

abbrev low_kinds : List Kind → Bool
low_kinds [] = true
low_kinds (k ∷ ks) = low k.needs && low_fields k.fields && low_kinds ks

pub low_bits : low_kinds kinds ≡ true
unfolding kinds
low_bits = refl

-- ---- names

abbrev has : String → List Field → Bool
has n [] = false
has n (f ∷ fs) = eqt n f.name || has n fs

-- what follows the fields is sized by fields that are spelt as the definitions look them up
abbrev tail_spelt : Tail → List Field → Bool
tail_spelt nothing fs = true
tail_spelt words fs = true
tail_spelt string fs = true
tail_spelt payload fs = has "length" fs
tail_spelt payload-onward fs = has "length" fs && has "endpoint" fs

abbrev all_spelt : List Kind → Bool
all_spelt [] = true
all_spelt (k ∷ ks) = tail_spelt k.tail k.fields && all_spelt ks

-- the numbers of the kinds that have a field of this name
abbrev kinds_with : String → List Kind → List ℕ
kinds_with n [] = []
kinds_with n (k ∷ ks) = cond (has n k.fields) (k.number ∷ kinds_with n ks) (kinds_with n ks)

pub spelt : (all_spelt kinds ≡ true)
    × (kinds_with "length" kinds ≡ (100 ∷ 101 ∷ 102 ∷ 103 ∷ 104 ∷ []))
    × (kinds_with "length high" kinds ≡ (101 ∷ []))
unfolding kinds
spelt = (refl, refl, refl)

-- ---- numbers

-- the number of a packet where both hellos have passed and offered these
abbrev number : Side → ℕ → Content → ℕ
number from caps p = wire_number (record { sender = from; guest = Some caps; host = Some caps }) p

-- where no hello has passed
abbrev first : Content → ℕ
first p = wire_number (record { sender = Guest; guest = None; host = None }) p

-- where only the guest's has
abbrev lone : ℕ → Content → ℕ
lone caps p = wire_number (record { sender = Guest; guest = Some caps; host = None }) p

-- a hello whose version is 64 times x
abbrev hello : ℕ → List ℕ → Content
hello x s = packet_of 0 0 (Some (replicate 64 x) ∷ []) s

abbrev connect : ℕ → Value → Content
connect speed version = packet_of 1 0 (one speed ∷ one 0 ∷ one 0 ∷ one 0 ∷ one 0 ∷ one 0 ∷ version ∷ []) []

abbrev rows : Value
rows = Some (replicate 32 0)

-- an endpoint table with this type in row 17
abbrev table : ℕ → Value → Value → Content
table type packets streams = packet_of 5 0 (Some (set (replicate 32 0) 17 type) ∷ rows ∷ rows ∷ packets ∷ streams ∷ []) []

abbrev control : ℕ → ℕ → Content
control requesttype status = packet_of 100 3 (one 0 ∷ one 6 ∷ one requesttype ∷ one status ∷ one 0 ∷ one 0 ∷ one 0 ∷ []) []

abbrev bulk : ℕ → Value → List ℕ → Content
bulk stream high s = packet_of 101 9 (one 2 ∷ one 0 ∷ one 2 ∷ one stream ∷ high ∷ []) s

pub passing : (number Guest 0 (packet_of 7 7 [] []) ≡ 0)
    × (number Guest 0 (bulk 0 None (170 ∷ 187 ∷ [])) ≡ 0)
    × (number Host 0 (bulk 0 None []) ≡ 0)
    × (first (hello 0 (17 ∷ 0 ∷ 0 ∷ 0 ∷ [])) ≡ 0)
    × (number Host 0 (packet_of 8 1 (one 7 ∷ one 1 ∷ []) []) ≡ 0)  -- any status, from either end
    × (number Host 0 (control 0 255) ≡ 0)
    × (number Guest 0 (control 0 255) ≡ 0)
    × (number Host 2 (connect 255 (one 0)) ≡ 0)
    × (number Host 17 (table 255 rows rows) ≡ 0)
    × (number Guest 1 (bulk 5 None (170 ∷ 187 ∷ [])) ≡ 0)
    × (number Guest 32 (packet_of 7 4294967296 [] []) ≡ 0)
unfolding shared_set id_width wire_number kind_number bad kinds
passing = (refl, refl, refl, refl, refl, refl, refl, refl, refl, refl, refl)

pub refused : (number Guest 0 (packet_of 28 0 [] []) ≡ 20)
    × (number Host 0 (packet_of 7 0 [] []) ≡ 21)
    × (number Guest 0 (packet_of 22 0 [] []) ≡ 22)
    × (number Host 0 (connect 0 (one 0)) ≡ 22)
    × (number Host 16 (table 0 rows rows) ≡ 22)
    × (number Guest 0 (bulk 0 (one 1) (170 ∷ 187 ∷ [])) ≡ 22)
    × (lone 32 (packet_of 7 4294967296 [] []) ≡ 22)
    × (number Guest 0 (packet_of 7 7 [] (1 ∷ [])) ≡ 23)
    × (number Guest 0 (bulk 0 None (170 ∷ [])) ≡ 23)
    × (number Host 0 (bulk 0 None (170 ∷ 187 ∷ [])) ≡ 23)
    × (number Guest 64 (packet_of 101 9 (one 2 ∷ one 0 ∷ one 65535 ∷ one 0 ∷ one 65535 ∷ []) []) ≡ 23)  -- a count of 4,294,967,295
    × (number Guest 4 (packet_of 23 0 [] []) ≡ 23)
    × (number Host 2 (connect 4 (one 0)) ≡ 24)
    × (number Host 0 (control 128 0) ≡ 24)
    × (number Guest 0 (packet_of 12 5 (one 18 ∷ one 1 ∷ one 1 ∷ []) []) ≡ 24)
    × (number Guest 1 (packet_of 18 1 (one 0 ∷ one 0 ∷ []) []) ≡ 24)
    × (number Guest 0 (bulk 5 None (170 ∷ 187 ∷ [])) ≡ 24)
    × (number Guest 4 (packet_of 23 0 [] (0 ∷ 48 ∷ [])) ≡ 24)
    × (first (hello 1 []) ≡ 24)
    × (first (hello 0 (1 ∷ 0 ∷ 0 ∷ 0 ∷ [])) ≡ 13)
unfolding shared_set id_width wire_number kind_number bad kinds
refused = (refl, refl, refl, refl, refl, refl, refl, refl, refl, refl, refl, refl, refl, refl, refl, refl, refl, refl, refl, refl)

-- a filter reject that breaks the rule of the id, and one byte too long
abbrev reject : Content
reject = packet_of 22 1 [] (1 ∷ [])

-- "Where several hold, the lowest from 20 up is given"; "A hello refused with 23, 24 or 13 (that order)"
pub lowest : (number Host 0 reject ≡ 21)
    × (number Guest 0 reject ≡ 22)
    × (number Guest 4 reject ≡ 23)
    × (number Guest 4 (packet_of 22 1 [] []) ≡ 24)
    × (number Guest 4 (packet_of 22 0 [] []) ≡ 0)
    × (first (hello 1 (1 ∷ 0 ∷ 0 ∷ 0 ∷ 0 ∷ [])) ≡ 23)
    × (first (hello 1 (1 ∷ 0 ∷ 0 ∷ 0 ∷ [])) ≡ 24)
    × (first (hello 0 (replicate 32 0)) ≡ 0)
    × (first (hello 0 (replicate 36 0)) ≡ 23)
unfolding shared_set id_width wire_number kind_number bad kinds
lowest = (refl, refl, refl, refl, refl, refl, refl, refl, refl)

-- ---- places: of the first bad field, and of an id only where no field is bad

pub places : (bad Host 17 (kind_at 5) (table 4 rows rows) ≡ Some 17)
    × (bad Host 0 (kind_at 28) (control 128 7) ≡ Some 2)
    × (bad Host 0 (kind_at 28) (control 0 7) ≡ None)
    × (bad Host 0 (kind_at 2) (packet_of 2 1 [] []) ≡ Some 65535)
    × (bad Host 0 (kind_at 2) (packet_of 2 0 [] []) ≡ None)
    × (bad Host 2 (kind_at 1) (connect 0 None) ≡ Some 8)
    × (bad Host 0 (kind_at 1) (packet_of 1 1 (one 4 ∷ one 0 ∷ one 0 ∷ one 0 ∷ one 0 ∷ one 0 ∷ None ∷ []) []) ≡ Some 0)
    × (bad Guest 0 (kind_at 0) (packet_of 0 1 (Some (replicate 64 1) ∷ []) []) ≡ Some 0)
    × (bad Host 16 (kind_at 5) (table 0 None None) ≡ Some 96)
    × (bad Host 17 (kind_at 5) (table 0 rows None) ≡ Some 160)
unfolding bad kinds
places = (refl, refl, refl, refl, refl, refl, refl, refl, refl, refl)

-- ---- the writer: the presence rules, 10 first and 40 last

-- the number of a packet to be written into so many bytes, where both hellos have passed and offered these
abbrev writing : Side → ℕ → ℕ → Content → ℕ
writing from caps room p = write_number (record { sender = from; guest = Some caps; host = Some caps }) p room

pub writer : (writing Guest 0 12 (packet_of 7 7 [] []) ≡ 0)
    × (writing Guest 0 11 (packet_of 7 7 [] []) ≡ 40)
    × (writing Guest 32 15 (packet_of 7 7 [] []) ≡ 40)  -- 64-bit ids
    × (writing Host 0 0 (connect 0 (one 0)) ≡ 22)  -- and no room: 22 before 40
    × (writing Host 2 0 (connect 0 None) ≡ 24)  -- missing though shared: 24 and not 23
    × (writing Guest 0 0 (bulk 0 (one 1) (170 ∷ 187 ∷ [])) ≡ 22)  -- a count of 65,538
    × (writing Guest 0 0 (packet_of 7 4294967296 [] []) ≡ 22)
    × (writing Guest 0 0 (packet_of 22 4294967296 [] []) ≡ 22)
    × (writing Guest 0 0 (hello 0 []) ≡ 12)
    × (first (packet_of 0 4294967296 (Some (replicate 64 0) ∷ []) []) ≡ 24)  -- a hello's id has to be 0, however wide it is
    × (writing Guest 0 0 (bulk 0 None (replicate 32760 0)) ≡ 23)
    × (writing Guest 0 0 (bulk 0 None (replicate 32761 0)) ≡ 10)
unfolding shared_set id_width header_size header_bytes header_number layout encode packet_number write_number wire_number kind_number bad kinds
writer = (refl, refl, refl, refl, refl, refl, refl, refl, refl, refl, refl, refl)

-- "The bulk count is low + 65,536 times high"
pub count : (low high : ℕ) → data_length (layout 101) (one 2 ∷ one 0 ∷ one low ∷ one 0 ∷ one high ∷ []) ≡ low + 65536 * high
unfolding layout kinds
count low high = refl
