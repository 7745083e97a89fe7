-- The table of kinds against the lists of document 01, and what each rule allows against its sentences. All by computation.
-- Assumes nothing.
use Rattle.std.specs.Prelude.{ℕ, suc, ◌+◌, ◌-◌, ◌≡◌, refl, Bool, true, false, cond, not, ◌&&◌, ◌||◌, List, [], ◌∷◌, ◌++◌, replicate, set, eqb}
use Prim.Native.String.{String}
use lib.Text.{eqt}
use Rattle.header.specs.declared.Side.{Side}
use Rattle.header.specs.declared.Side.TheVariants.{Guest, Host}
use Rattle.kinds.specs.Table.{Bits, always, bit, bits, Rule, any, holding-zero, speed, at-most-32, endpoint-type, endpoint, endpoint-in, endpoint-onward, endpoint-out-of-guest, as-endpoint, nonzero, zero-without, Field, Tail, nothing, words, string, payload, payload-onward, Id, id-any, id-zero, Kind, u8, u16, kinds}
use Rattle.kinds.specs.Content.{one}
use Rattle.kinds.specs.Number.{sends, holds, tail_ok, bad_tail, is_none, streams_alone}
use Rattle.kinds.specs.Slots.{from}

-- ---- kinds by what their line says

-- the numbers of the kinds that pass the test
abbrev those : (Kind → Bool) → List Kind → List ℕ
those p [] = []
those p (k ∷ ks) = cond (p k) (k.number ∷ those p ks) (those p ks)

infix 65 ◌to◌
abbrev ◌to◌ : ℕ → ℕ → List ℕ
i to j = from (suc j - i) i

-- a number for each rule, to compare them by
abbrev tag : Rule → ℕ
tag any = 0
tag holding-zero = 1
tag speed = 2
tag at-most-32 = 3
tag endpoint-type = 4
tag endpoint = 5
tag endpoint-in = 6
tag endpoint-onward = 7
tag endpoint-out-of-guest = 8
tag as-endpoint = 9
tag nonzero = 10
tag (zero-without j) = 11 + j

-- the field that each rule is about
abbrev about : Rule → String
about any = ""
about holding-zero = "version"
about speed = "speed"
about at-most-32 = "count"
about endpoint-type = "type"
about endpoint = "endpoint"
about endpoint-in = "endpoint"
about endpoint-onward = "endpoint"
about endpoint-out-of-guest = "endpoint"
about as-endpoint = "requesttype"
about nonzero = "mask"
about (zero-without j) = "stream"

-- every rule stands at the field that it is about
abbrev in_place : List Field → Bool
in_place [] = true
in_place (f ∷ fs) = (eqb (tag f.rule) 0 || eqt (about f.rule) f.name) && in_place fs

abbrev all_in_place : List Kind → Bool
all_in_place [] = true
all_in_place (k ∷ ks) = in_place k.fields && all_in_place ks

-- some field has that rule
abbrev ruled : Rule → List Field → Bool
ruled r [] = false
ruled r (f ∷ fs) = eqb (tag r) (tag f.rule) || ruled r fs

abbrev under : Rule → List ℕ
under r = those (λ (k : Kind). ruled r k.fields) kinds

-- some field is an endpoint byte
abbrev on_endpoint : List Field → Bool
on_endpoint [] = false
on_endpoint (f ∷ fs) = eqt "endpoint" (about f.rule) || on_endpoint fs

-- some field is a stream that a rule is about
abbrev on_stream : List Field → Bool
on_stream [] = false
on_stream (f ∷ fs) = eqt "stream" (about f.rule) || on_stream fs

-- some field is a status that has a rule
abbrev status_ruled : List Field → Bool
status_ruled [] = false
status_ruled (f ∷ fs) = (eqt "status" f.name && not (eqb (tag f.rule) 0)) || status_ruled fs

abbrev wants_zero : Id → Bool
wants_zero id-any = false
wants_zero id-zero = true

pub rules-by-kind : (all_in_place kinds ≡ true)
    -- "Id is 0 in kinds 0, 1, 2, 4, 5, 22, 23, 24."
    × (those (λ (k : Kind). wants_zero k.id) kinds ≡ (0 ∷ 1 ∷ 2 ∷ 4 ∷ 5 ∷ 22 ∷ 23 ∷ 24 ∷ []))
    -- "A hello's version has a zero byte."
    × (under holding-zero ≡ (0 ∷ []))
    -- "Speed is 0 to 3 or 255.", in a connect
    × (under speed ≡ (1 ∷ []))
    -- "Interface count is at most 32.", in an interface table
    × (under at-most-32 ≡ (4 ∷ []))
    -- "Endpoint types are ..", in an endpoint table
    × (under endpoint-type ≡ (5 ∷ []))
    -- C-12: "every status byte is allowed": no kind has a rule for it
    × (those (λ (k : Kind). status_ruled k.fields) kinds ≡ [])
    -- "An endpoint byte .. bits 4 to 6 are zero", in all kinds that have one
    × (those (λ (k : Kind). on_endpoint k.fields) kinds ≡ (12 ∷ 13 ∷ 14 ∷ 15 ∷ 16 ∷ 17 ∷ 25 ∷ 26 ∷ 27 ∷ 100 ∷ 101 ∷ 102 ∷ 103 ∷ 104 ∷ []))
    -- "Kinds 15, 16, 25 to 27 and 104 name an IN endpoint."
    × (under endpoint-in ≡ (15 ∷ 16 ∷ 25 ∷ 26 ∷ 27 ∷ 104 ∷ []))
    -- "Iso from the guest is OUT, from the host IN"
    × (under endpoint-onward ≡ (102 ∷ []))
    -- "interrupt data from the guest is OUT."
    × (under endpoint-out-of-guest ≡ (103 ∷ []))
    -- "In kind 100, bit 7 of requesttype equals the endpoint's."
    × (under as-endpoint ≡ (100 ∷ []))
    -- "Masks aren't 0 in 18 and 19."
    × (under nonzero ≡ (18 ∷ 19 ∷ []))
    -- "Stream is 0 in kind 101 without bit 0."
    × (under (zero-without 0) ≡ (101 ∷ []))
    × (those (λ (k : Kind). on_stream k.fields) kinds ≡ (101 ∷ []))
unfolding kinds
rules-by-kind = (refl, refl, refl, refl, refl, refl, refl, refl, refl, refl, refl, refl, refl, refl, refl)

-- a kind needs that bit, and it alone
abbrev needing : ℕ → Bits → Bool
needing j always = false
needing j (bit i) = eqb i j
needing j (bits i k) = false

abbrev free : Bits → Bool
free always = true
free (bit j) = false
free (bits j k) = false

-- the column "needs bit": the last list are the kinds that need none
pub bits-by-kind : (those (λ (k : Kind). needing 0 k.needs) kinds ≡ (18 ∷ 19 ∷ 20 ∷ []))
    × (those (λ (k : Kind). needing 2 k.needs) kinds ≡ (22 ∷ 23 ∷ []))
    × (those (λ (k : Kind). needing 3 k.needs) kinds ≡ (24 ∷ []))
    × (those (λ (k : Kind). needing 7 k.needs) kinds ≡ (25 ∷ 26 ∷ 27 ∷ 104 ∷ []))
    × (those (λ (k : Kind). free k.needs) kinds ≡ ((0 to 17) ++ (21 ∷ 100 ∷ 101 ∷ 102 ∷ 103 ∷ [])))
unfolding kinds
bits-by-kind = (refl, refl, refl, refl, refl)

abbrev by_guest : Kind → Bool
by_guest k = sends k.sender Guest

abbrev by_host : Kind → Bool
by_host k = sends k.sender Host

-- "G = guest sends, H = host sends, B = both."
pub senders : (those (λ (k : Kind). by_guest k && not (by_host k)) kinds ≡ (3 ∷ 6 ∷ 7 ∷ 9 ∷ 10 ∷ 12 ∷ 13 ∷ 15 ∷ 16 ∷ 18 ∷ 19 ∷ 21 ∷ 22 ∷ 24 ∷ 25 ∷ 26 ∷ []))
    × (those (λ (k : Kind). by_host k && not (by_guest k)) kinds ≡ (1 ∷ 2 ∷ 4 ∷ 5 ∷ 8 ∷ 11 ∷ 14 ∷ 17 ∷ 20 ∷ 27 ∷ 104 ∷ []))
    × (those (λ (k : Kind). by_guest k && by_host k) kinds ≡ (0 ∷ 23 ∷ 100 ∷ 101 ∷ 102 ∷ 103 ∷ []))
unfolding kinds
senders = (refl, refl, refl)

-- a number for each thing that follows the fields
abbrev tail_tag : Tail → ℕ
tail_tag nothing = 0
tail_tag words = 1
tail_tag string = 2
tail_tag payload = 3
tail_tag payload-onward = 4

abbrev ending : Tail → List ℕ
ending t = those (λ (k : Kind). eqb (tail_tag k.tail) (tail_tag t)) kinds

-- "0: version of 64 bytes, words u32. 23: its string."
-- "Data follows a 100, 101 or 103 packet only if guest sends on an OUT endpoint or host on an IN one; always for 102 and 104."
pub tails-by-kind : (ending words ≡ (0 ∷ []))
    × (ending string ≡ (23 ∷ []))
    × (ending payload ≡ (102 ∷ 104 ∷ []))
    × (ending payload-onward ≡ (100 ∷ 101 ∷ 103 ∷ []))
    × (ending nothing ≡ ((1 to 22) ++ (24 to 27)))
unfolding kinds
tails-by-kind = (refl, refl, refl, refl, refl)

-- ---- "Fields in order."

-- the fields that pass the test, each with its kind's number
abbrev places : (Field → Bool) → ℕ → List Field → List (ℕ × String)
places p n [] = []
places p n (f ∷ fs) = cond (p f) ((n, f.name) ∷ places p n fs) (places p n fs)

abbrev fields : (Field → Bool) → List Kind → List (ℕ × String)
fields p [] = []
fields p (k ∷ ks) = places p k.number k.fields ++ fields p ks

pub fields-in-order : fields (λ f. true) kinds
    ≡ ((0, "version") ∷ (1, "speed") ∷ (1, "class") ∷ (1, "subclass") ∷ (1, "protocol") ∷ (1, "vendor") ∷ (1, "product") ∷ (1, "version")
    ∷ (4, "count") ∷ (4, "interface") ∷ (4, "class") ∷ (4, "subclass") ∷ (4, "protocol")
    ∷ (5, "type") ∷ (5, "interval") ∷ (5, "interface") ∷ (5, "max packet") ∷ (5, "max streams") ∷ (6, "configuration")
    ∷ (8, "status") ∷ (8, "configuration") ∷ (9, "interface") ∷ (9, "alt") ∷ (10, "interface") ∷ (11, "status") ∷ (11, "interface") ∷ (11, "alt")
    ∷ (12, "endpoint") ∷ (12, "packets") ∷ (12, "urbs") ∷ (13, "endpoint") ∷ (14, "status") ∷ (14, "endpoint") ∷ (15, "endpoint") ∷ (16, "endpoint")
    ∷ (17, "status") ∷ (17, "endpoint") ∷ (18, "mask") ∷ (18, "count") ∷ (19, "mask") ∷ (20, "mask") ∷ (20, "count") ∷ (20, "status")
    ∷ (25, "stream") ∷ (25, "bytes") ∷ (25, "endpoint") ∷ (25, "transfers") ∷ (26, "stream") ∷ (26, "endpoint")
    ∷ (27, "stream") ∷ (27, "endpoint") ∷ (27, "status")
    ∷ (100, "endpoint") ∷ (100, "request") ∷ (100, "requesttype") ∷ (100, "status") ∷ (100, "value") ∷ (100, "index") ∷ (100, "length")
    ∷ (101, "endpoint") ∷ (101, "status") ∷ (101, "length") ∷ (101, "stream") ∷ (101, "length high")
    ∷ (102, "endpoint") ∷ (102, "status") ∷ (102, "length") ∷ (103, "endpoint") ∷ (103, "status") ∷ (103, "length")
    ∷ (104, "stream") ∷ (104, "length") ∷ (104, "endpoint") ∷ (104, "status") ∷ [])
unfolding kinds
fields-in-order = refl

-- "vendor u16", "count u32" and so on; the others are bytes
pub wide-fields : (fields (λ (f : Field). eqb f.width 2) kinds
    ≡ ((1, "vendor") ∷ (1, "product") ∷ (1, "version") ∷ (5, "max packet") ∷ (100, "value") ∷ (100, "index") ∷ (100, "length")
    ∷ (101, "length") ∷ (101, "length high") ∷ (102, "length") ∷ (103, "length") ∷ []))
    × (fields (λ (f : Field). eqb f.width 4) kinds
    ≡ ((4, "count") ∷ (5, "max streams") ∷ (18, "mask") ∷ (18, "count") ∷ (19, "mask") ∷ (20, "mask") ∷ (20, "count") ∷ (25, "stream") ∷ (25, "bytes")
    ∷ (26, "stream") ∷ (27, "stream") ∷ (101, "stream") ∷ (104, "stream") ∷ (104, "length") ∷ []))
    × (fields (λ (f : Field). not (eqb f.width 1 || eqb f.width 2 || eqb f.width 4)) kinds ≡ [])
unfolding kinds
wide-fields = (refl, refl, refl)

-- ---- what each rule allows

-- the numbers that pass the test
abbrev allowed : (ℕ → Bool) → List ℕ → List ℕ
allowed p [] = []
allowed p (x ∷ xs) = cond (p x) (x ∷ allowed p xs) (allowed p xs)

abbrev bytes : List ℕ
bytes = 0 to 255

-- some that take more than a byte
abbrev larger : List ℕ
larger = 256 ∷ 65536 ∷ 16777216 ∷ 2147483648 ∷ 4294967295 ∷ []

-- the numbers that keep a rule, for a sender, under these bits, in a packet with that endpoint byte
abbrev keeping : Rule → Side → ℕ → ℕ → List ℕ → List ℕ
keeping r from caps e xs = allowed (λ (x : ℕ). holds r from caps e (x ∷ []) 0) xs

-- the bytes that may be the type of a row, and the rows that may have a type
abbrev types : ℕ → ℕ → List ℕ
types caps row = allowed (λ (x : ℕ). holds endpoint-type Host caps 0 (set (replicate 32 0) row x) row) bytes

abbrev rows_of : ℕ → ℕ → List ℕ
rows_of caps x = allowed (λ (row : ℕ). holds endpoint-type Host caps 0 (set (replicate 32 0) row x) row) (0 to 31)

-- "the number in bits 0 to 3 and IN in bit 7"
abbrev outs : List ℕ
outs = 0 to 15

abbrev ins : List ℕ
ins = 128 to 143

-- "Speed is 0 to 3 or 255. Interface count is at most 32. Endpoint types are 0 .. 3 .. or 255 ..; rows 0 and 16 are control.";
-- "bits 4 to 6 are zero"; ".. name an IN endpoint. Iso from the guest is OUT, from the host IN; interrupt data from the guest is OUT.";
-- "bit 7 of requesttype equals the endpoint's"; "Masks aren't 0"; "Stream is 0 .. without bit 0."; "A hello's version has a zero byte."
abbrev Borders : ℕ → Type 0
Borders caps =
    (keeping speed Host caps 0 bytes ≡ (0 ∷ 1 ∷ 2 ∷ 3 ∷ 255 ∷ []))
    × (keeping at-most-32 Host caps 0 (bytes ++ larger) ≡ (0 to 32))
    × (types caps 1 ≡ (0 ∷ 1 ∷ 2 ∷ 3 ∷ 255 ∷ []))
    × (types caps 0 ≡ (0 ∷ []))
    × (types caps 16 ≡ (0 ∷ []))
    × (rows_of caps 2 ≡ ((1 to 15) ++ (17 to 31)))
    × (keeping endpoint Guest caps 0 bytes ≡ (outs ++ ins))
    × (keeping endpoint Host caps 0 bytes ≡ (outs ++ ins))
    × (keeping endpoint-in Guest caps 0 bytes ≡ ins)
    × (keeping endpoint-in Host caps 0 bytes ≡ ins)
    × (keeping endpoint-onward Guest caps 0 bytes ≡ outs)
    × (keeping endpoint-onward Host caps 0 bytes ≡ ins)
    × (keeping endpoint-out-of-guest Guest caps 0 bytes ≡ outs)
    × (keeping endpoint-out-of-guest Host caps 0 bytes ≡ (outs ++ ins))
    × (keeping as-endpoint Guest caps 2 bytes ≡ (0 to 127))
    × (keeping as-endpoint Host caps 130 bytes ≡ (128 to 255))
    × (keeping nonzero Guest caps 0 (bytes ++ larger) ≡ ((1 to 255) ++ larger))
    × (holds holding-zero Guest caps 0 (set (replicate 64 1) 63 0) 0 ≡ true)
    × (holds holding-zero Guest caps 0 (replicate 64 1) 0 ≡ false)
    × (holds holding-zero Host caps 0 (replicate 64 1) 0 ≡ false)

-- with nothing shared and with everything; "Stream is 0 .. without bit 0", with bits 1 to 7 and with bit 0
pub rule-borders : Borders 0 × Borders 255
    × (keeping (zero-without 0) Guest 254 0 (bytes ++ larger) ≡ (0 ∷ []))
    × (keeping (zero-without 0) Guest 1 0 (bytes ++ larger) ≡ (bytes ++ larger))
rule-borders = (
  (refl, refl, refl, refl, refl, refl, refl, refl, refl, refl, refl, refl, refl, refl, refl, refl, refl, refl, refl, refl),
  (refl, refl, refl, refl, refl, refl, refl, refl, refl, refl, refl, refl, refl, refl, refl, refl, refl, refl, refl, refl),
  refl,
  refl,
)

-- ---- what may follow the fields

-- the counts of bytes, 0 to 40, that may follow fields with that endpoint byte and a length of 5
abbrev following : Tail → Side → ℕ → List ℕ
following t from e = allowed (λ (n : ℕ). tail_ok t from (u8 "endpoint" ∷ u16 "length" ∷ []) (one e ∷ one 5 ∷ []) n) (0 to 40)

-- "64 + 4n, n 0..8"; "1 or more"
-- "Where data follows, its size equals the length field; elsewhere there is none"
pub tail-borders : (following nothing Guest 2 ≡ (0 ∷ []))
    × (following words Guest 2 ≡ (0 ∷ 4 ∷ 8 ∷ 12 ∷ 16 ∷ 20 ∷ 24 ∷ 28 ∷ 32 ∷ []))
    × (following string Guest 2 ≡ (1 to 40))
    × (following payload Guest 2 ≡ (5 ∷ []))
    × (following payload Host 130 ≡ (5 ∷ []))
    × (following payload-onward Guest 2 ≡ (5 ∷ []))
    × (following payload-onward Guest 130 ≡ (0 ∷ []))
    × (following payload-onward Host 2 ≡ (0 ∷ []))
    × (following payload-onward Host 130 ≡ (5 ∷ []))
tail-borders = (refl, refl, refl, refl, refl, refl, refl, refl, refl)

abbrev filter_ok : List ℕ → Bool
filter_ok s = is_none (bad_tail string s 0)

-- "A filter's one zero byte is its last."
pub filter-borders : (filter_ok (0 ∷ []) ≡ true)
    × (filter_ok (48 ∷ 124 ∷ 0 ∷ []) ≡ true)
    × (filter_ok (48 ∷ []) ≡ false)
    × (filter_ok (0 ∷ 48 ∷ []) ≡ false)
    × (filter_ok (48 ∷ 0 ∷ 0 ∷ []) ≡ false)
filter-borders = (refl, refl, refl, refl, refl)

-- "hello has bit 0 without bit 4": of the words 0 to 63; and it is the first word that counts
pub streams-borders : (allowed (λ (x : ℕ). streams_alone words (x ∷ 0 ∷ 0 ∷ 0 ∷ [])) (0 to 63)
    ≡ (1 ∷ 3 ∷ 5 ∷ 7 ∷ 9 ∷ 11 ∷ 13 ∷ 15 ∷ 33 ∷ 35 ∷ 37 ∷ 39 ∷ 41 ∷ 43 ∷ 45 ∷ 47 ∷ []))
    × (streams_alone words [] ≡ false)
    × (streams_alone words (0 ∷ 0 ∷ 0 ∷ 0 ∷ 1 ∷ 0 ∷ 0 ∷ 0 ∷ []) ≡ false)
    × (streams_alone words (1 ∷ 0 ∷ 0 ∷ 0 ∷ 16 ∷ 0 ∷ 0 ∷ 0 ∷ []) ≡ true)
streams-borders = (refl, refl, refl, refl)
