-- The wire checks a second time, in document 01's words and in relations: a packet that they pass is one that is formed so (`Formed`).
-- It goes by the same table, by the same lookup of a field's number by its name (`named`) and by the same shared set, which stands here in words
-- too (`SharedBit`). Fields are spoken of by their place in the kind's line of the table. None of the tests of `wire_number` is used: a rule that
-- is changed there together with its code is seen here.
-- Assumes nothing: these are definitions, and the statements that `proofs/Formed.antt` proves.
use Rattle.std.specs.Prelude.{ℕ, suc, ◌+◌, ◌*◌, ◌/◌, ◌≤◌, ◌<◌, Bool, true, false, List, ◌↔◌, ◌⊎◌, ◌≡◌, length, get_or, Some, None}
use Rattle.octets.specs.Little.{le}
use Rattle.octets.specs.Bits.{has_bit}
use Rattle.header.specs.declared.Side.{Side}
use Rattle.header.specs.declared.Side.TheVariants.{Guest, Host}
use Rattle.header.specs.declared.Link.{Link}
use Rattle.header.specs.Link.{shared_set}
use Rattle.kinds.specs.Table.{Sender, G, H, B, Bits, always, bit, bits, Rule, any, holding-zero, speed, at-most-32, endpoint-type, endpoint, endpoint-in, endpoint-onward, endpoint-out-of-guest, as-endpoint, nonzero, zero-without, Field, Tail, nothing, words, string, payload, payload-onward, id-zero, Kind, kind_at, u8}
use Rattle.kinds.specs.Content.{Content, named}
use Rattle.kinds.specs.Number.{wire_number}

-- ---- 20: "kind unknown"

-- the packet's kind stands in the table, and this is its line
pub record Line (p : Content) (k : Kind) : Type 0 where
  pub slot : ℕ
  pub listed : slot < 33
  pub line : kind_at slot ≡ k
  pub number : k.number ≡ p.kind

-- field i of a line; and the packet has it, with these numbers
abbrev pub field_at : Kind → ℕ → Field
field_at k i = get_or k.fields i (u8 "")

abbrev pub There : Content → ℕ → List ℕ → Type 0
There p i xs = get_or p.fields i None ≡ Some xs

-- ---- 21: "wrong sender"

-- "G = guest sends, H = host sends, B = both."
abbrev pub Sends : Sender → Side → Type 0
Sends G from = from ≡ Guest
Sends H from = from ≡ Host
Sends B from = Unit {0}

-- ---- 22: "needed bit not shared"

-- "Shared set: bits set in both hellos' first capability word.", of bits 0 to 7: both hellos have passed
pub record SharedBit (l : Link) (j : ℕ) : Type 0 where
  pub low : j ≤ 7
  pub guest_word : ℕ
  pub host_word : ℕ
  pub guest-passed : l.guest ≡ Some guest_word
  pub host-passed : l.host ≡ Some host_word
  pub in-guest : has_bit guest_word j ≡ true
  pub in-host : has_bit host_word j ≡ true

abbrev pub Shared : ℕ → Bits → Type 0
Shared caps always = Unit {0}
Shared caps (bit j) = has_bit caps j ≡ true
Shared caps (bits j k) = (has_bit caps j ≡ true) × (has_bit caps k ≡ true)

pub record Sharing (l : Link) (k : Kind) (p : Content) : Type 0 where
  -- the bit that the kind needs is shared
  pub needed : Shared (shared_set l) k.needs
  -- every field that is there is one that is shared
  pub fields : (i : ℕ) → i < length k.fields → (xs : List ℕ) → There p i xs → Shared (shared_set l) (field_at k i).there
  -- "a non-hello's id over 32 bits without bit 5"
  pub narrow : (p.kind ≡ 0 → ⊥) → has_bit (shared_set l) 5 ≡ false → p.id < 4294967296
  -- with bit 5 it is a u64: no id of the code is larger
  pub wide : (p.kind ≡ 0 → ⊥) → p.id < 18446744073709551616

-- ---- 23: "body size wrong"

-- the endpoint byte
abbrev pub endpoint_byte : Kind → Content → ℕ
endpoint_byte k p = named "endpoint" k.fields p.fields

-- "The bulk count is low + 65,536 times high, or low without bit 6.": with bit 6 or without it, of these two parts
abbrev pub count_with : Bool → ℕ → ℕ → ℕ
count_with true low high = low + 65536 * high
count_with false low high = low

-- the count of a packet with data; one that has no high part has it 0
abbrev pub data_count : Link → Kind → Content → ℕ
data_count l k p = count_with (has_bit (shared_set l) 6) (named "length" k.fields p.fields) (named "length high" k.fields p.fields)

-- "guest sends on an OUT endpoint or host on an IN one"
abbrev pub Onward : Side → ℕ → Type 0
Onward Guest e = e / 128 ≡ 0
Onward Host e = e / 128 ≡ 1

-- n bytes follow the fields, in a packet with that endpoint byte and that count
abbrev pub Follow : Tail → Side → ℕ → ℕ → ℕ → Type 0
Follow nothing from e c n = n ≡ 0
Follow words from e c n = (m : ℕ) × (m ≤ 8) × (n ≡ 4 * m)  -- "64 + 4n, n 0..8"
Follow string from e c n = 1 ≤ n  -- "1 or more"
Follow payload from e c n = n ≡ c  -- "Where data follows, its size equals the length field"
Follow payload-onward from e c n = (Onward from e → n ≡ c) × ((Onward from e → ⊥) → n ≡ 0)  -- "elsewhere there is none"

pub record Sized (l : Link) (k : Kind) (p : Content) : Type 0 where
  -- every field of the line has its place in the packet, there or not; values behind these are no fields, and no check asks for them
  pub all : length k.fields ≤ length p.fields
  -- every field that is there has all its numbers
  pub whole : (i : ℕ) → i < length k.fields → (xs : List ℕ) → There p i xs → length xs ≡ (field_at k i).times
  -- what follows the fields is of the size that the kind says
  pub tail : Follow k.tail l.sender (endpoint_byte k p) (data_count l k p) (length p.rest)

-- ---- 24: "field rule broken"

-- "bits 4 to 6 are zero"
abbrev pub Address : ℕ → Type 0
Address x = (has_bit x 4 ≡ false) × (has_bit x 5 ≡ false) × (has_bit x 6 ≡ false)

-- number i of a field's numbers xs keeps the rule; e is the packet's endpoint byte
abbrev pub Keeps : Rule → Side → ℕ → ℕ → List ℕ → ℕ → Type 0
Keeps any from caps e xs i = Unit {0}
-- "A hello's version has a zero byte."
Keeps holding-zero from caps e xs i = (j : ℕ) × (j < length xs) × (get_or xs j 0 ≡ 0)
-- "Speed is 0 to 3 or 255."
Keeps speed from caps e xs i = (get_or xs i 0 ≤ 3) ⊎ (get_or xs i 0 ≡ 255)
-- "Interface count is at most 32."
Keeps at-most-32 from caps e xs i = get_or xs i 0 ≤ 32
-- "Endpoint types are 0 control, 1 iso, 2 bulk, 3 interrupt or 255 invalid; rows 0 and 16 are control."
Keeps endpoint-type from caps e xs i = ((get_or xs i 0 ≤ 3) ⊎ (get_or xs i 0 ≡ 255)) × ((i ≡ 0) ⊎ (i ≡ 16) → get_or xs i 0 ≡ 0)
Keeps endpoint from caps e xs i = Address (get_or xs i 0)
-- "Kinds 15, 16, 25 to 27 and 104 name an IN endpoint."
Keeps endpoint-in from caps e xs i = Address (get_or xs i 0) × (get_or xs i 0 / 128 ≡ 1)
-- "Iso from the guest is OUT, from the host IN"
Keeps endpoint-onward from caps e xs i = Address (get_or xs i 0) × Onward from (get_or xs i 0)
-- "interrupt data from the guest is OUT."
Keeps endpoint-out-of-guest from caps e xs i = Address (get_or xs i 0) × (from ≡ Guest → get_or xs i 0 / 128 ≡ 0)
-- "In kind 100, bit 7 of requesttype equals the endpoint's."
Keeps as-endpoint from caps e xs i = get_or xs i 0 / 128 ≡ e / 128
-- "Masks aren't 0 in 18 and 19."
Keeps nonzero from caps e xs i = get_or xs i 0 ≡ 0 → ⊥
-- "Stream is 0 in kind 101 without bit 0."
Keeps (zero-without j) from caps e xs i = has_bit caps j ≡ false → get_or xs i 0 ≡ 0

-- "A filter's one zero byte is its last."
pub record EndsInZero (s : List ℕ) : Type 0 where
  pub last : ℕ
  pub is_last : suc last ≡ length s
  pub zero-there : get_or s last 0 ≡ 0
  pub none_before : (j : ℕ) → j < last → get_or s j 0 ≡ 0 → ⊥

pub record Ruled (l : Link) (k : Kind) (p : Content) : Type 0 where
  -- every shared field is there: "such a field missing where shared is 24 and not 23"
  pub there : (i : ℕ) → i < length k.fields → Shared (shared_set l) (field_at k i).there → (xs : List ℕ) × There p i xs
  -- each number of each field keeps the field's rule
  pub rules : (i : ℕ) → i < length k.fields → (xs : List ℕ) → There p i xs → (j : ℕ) → j < (field_at k i).times → Keeps (field_at k i).rule l.sender (shared_set l) (endpoint_byte k p) xs j
  pub ending : k.tail ≡ string → EndsInZero p.rest
  -- "Id is 0 in kinds 0, 1, 2, 4, 5, 22, 23, 24."
  pub id : k.id ≡ id-zero → p.id ≡ 0

-- ---- 13: "hello has bit 0 without bit 4"

abbrev pub StreamsToo : Kind → Content → Type 0
StreamsToo k p = k.tail ≡ words → has_bit (le 4 p.rest 0) 0 ≡ true → has_bit (le 4 p.rest 0) 4 ≡ true

-- ---- all of them

pub record Formed (l : Link) (p : Content) : Type 0 where
  pub kind : Kind
  pub line : Line p kind
  pub sender : Sends kind.sender l.sender
  pub sharing : Sharing l kind p
  pub sized : Sized l kind p
  pub ruled : Ruled l kind p
  pub streams : StreamsToo kind p

-- ---- the statements

-- The wire checks find nothing exactly in a packet that is formed so.
abbrev pub WireExactly : Type 0
WireExactly = (l : Link) (p : Content) → (wire_number l p ≡ 0) ↔ Formed l p

-- A number of a packet is that of the wire checks exactly where the checks before it hold and its own fails: 20 to 24 in their order, then 13.
pub record Numbered (l : Link) (p : Content) (n : ℕ) : Type 0 where
  pub unknown : (n ≡ 20) ↔ ((k : Kind) → Line p k → ⊥)
  pub wrong-sender : (n ≡ 21) ↔ ((k : Kind) × Line p k × (Sends k.sender l.sender → ⊥))
  pub not-shared : (n ≡ 22) ↔ ((k : Kind) × Line p k × Sends k.sender l.sender × (Sharing l k p → ⊥))
  pub wrong_size : (n ≡ 23) ↔ ((k : Kind) × Line p k × Sends k.sender l.sender × Sharing l k p × (Sized l k p → ⊥))
  pub rule-broken : (n ≡ 24) ↔ ((k : Kind) × Line p k × Sends k.sender l.sender × Sharing l k p × Sized l k p × (Ruled l k p → ⊥))
  pub streams-alone : (n ≡ 13)
      ↔ ((k : Kind) × Line p k × Sends k.sender l.sender × Sharing l k p × Sized l k p × Ruled l k p × (StreamsToo k p → ⊥))

-- So it is with the number of the wire checks.
abbrev pub WireNumberIs : Type 0
WireNumberIs = (l : Link) (p : Content) → Numbered l p (wire_number l p)

-- A packet has one line of the table: no two kinds have one number.
abbrev pub OneTableLine : Type 0
OneTableLine = (p : Content) (k m : Kind) → Line p k → Line p m → k ≡ m

-- The shared set has exactly the shared bits.
abbrev pub SharedBits : Type 0
SharedBits = (l : Link) (j : ℕ) → (has_bit (shared_set l) j ≡ true) ↔ SharedBit l j
