-- The table of kinds: a line for each kind of document 01, in its order. Sizes, reading, writing and the wire checks are read off it.
-- Assumes nothing: these are definitions.
use Rattle.std.specs.Prelude.{ℕ, List, [], ◌∷◌, get_or}
use Prim.Native.String.{String}

-- who sends: the guest, the host, both
pub data Sender : Type 0 where
  G H B : Sender

-- the bits that have to be shared
pub data Bits : Type 0 where
  always : Bits
  bit : ℕ → Bits
  bits : ℕ → ℕ → Bits

-- what a field's numbers have to be: document 01's "Field rules (24)"
pub data Rule : Type 0 where
  any : Rule  -- no rule; a status has this one: C-12, "every status byte is allowed"
  holding-zero : Rule  -- "A hello's version has a zero byte."
  speed : Rule  -- "Speed is 0 to 3 or 255."
  at-most-32 : Rule  -- "Interface count is at most 32."
  endpoint-type : Rule  -- "Endpoint types are 0 .. 3 .. or 255 ..; rows 0 and 16 are control."
  endpoint : Rule  -- "bits 4 to 6 are zero"
  endpoint-in : Rule  -- and "Kinds 15, 16, 25 to 27 and 104 name an IN endpoint."
  endpoint-onward : Rule  -- and "Iso from the guest is OUT, from the host IN"
  endpoint-out-of-guest : Rule  -- and "interrupt data from the guest is OUT."
  as-endpoint : Rule  -- "In kind 100, bit 7 of requesttype equals the endpoint's."
  nonzero : Rule  -- "Masks aren't 0 in 18 and 19."
  zero-without : ℕ → Rule  -- "Stream is 0 in kind 101 without bit 0."

-- a field: so many numbers (one, but for the version and the tables) of so many bytes each, there where the bits are shared
pub record Field : Type 0 where
  pub name : String
  pub width : ℕ
  pub times : ℕ
  pub there : Bits
  pub rule : Rule

-- what follows the fields
pub data Tail : Type 0 where
  nothing : Tail
  words : Tail  -- "64 + 4n, n 0..8": a hello's capability words
  string : Tail  -- "1 or more"; "A filter's one zero byte is its last."
  payload : Tail  -- data, "always for 102 and 104"
  payload-onward : Tail  -- data, "only if guest sends on an OUT endpoint or host on an IN one"

-- "Id is 0 in kinds 0, 1, 2, 4, 5, 22, 23, 24."
pub data Id : Type 0 where
  id-any id-zero : Id

pub record Kind : Type 0 where
  pub number : ℕ
  pub sender : Sender
  pub needs : Bits
  pub id : Id
  pub fields : List Field
  pub tail : Tail

-- ---- how a line is written: what is left out is the default

-- any id, no bit needed, nothing after the fields
abbrev pub kind : ℕ → Sender → List Field → Kind
kind n s fs = record { number = n; sender = s; needs = always; id = id-any; fields = fs; tail = nothing }

-- the same with an id that has to be 0
abbrev pub idless : ℕ → Sender → List Field → Kind
idless n s fs = record { number = n; sender = s; needs = always; id = id-zero; fields = fs; tail = nothing }

infixl 70 ◌needs◌
abbrev pub ◌needs◌ : Kind → Bits → Kind
k needs b = record { number = k.number; sender = k.sender; needs = b; id = k.id; fields = k.fields; tail = k.tail }

infixl 70 ◌then◌
abbrev pub ◌then◌ : Kind → Tail → Kind
k then t = record { number = k.number; sender = k.sender; needs = k.needs; id = k.id; fields = k.fields; tail = t }

abbrev number_of : ℕ → String → Field
number_of w n = record { name = n; width = w; times = 1; there = always; rule = any }

abbrev pub u8 : String → Field
u8 n = number_of 1 n

abbrev pub u16 : String → Field
u16 n = number_of 2 n

abbrev pub u32 : String → Field
u32 n = number_of 4 n

infixl 80 ◌times◌
abbrev pub ◌times◌ : Field → ℕ → Field
f times n = record { name = f.name; width = f.width; times = n; there = f.there; rule = f.rule }

infixl 80 ◌with◌
abbrev pub ◌with◌ : Field → Bits → Field
f with b = record { name = f.name; width = f.width; times = f.times; there = b; rule = f.rule }

infixl 80 ◌is◌
abbrev pub ◌is◌ : Field → Rule → Field
f is r = record { name = f.name; width = f.width; times = f.times; there = f.there; rule = r }

-- ---- the table

unfoldable pub kinds : List Kind
kinds =
    idless 0 B (u8 "version" times 64 is holding-zero ∷ []) then words
    ∷ idless 1 H (u8 "speed" is speed ∷ u8 "class" ∷ u8 "subclass" ∷ u8 "protocol" ∷ u16 "vendor" ∷ u16 "product" ∷ u16 "version" with bit 1 ∷ [])
    ∷ idless 2 H []
    ∷ kind 3 G []
    ∷ idless 4 H (u32 "count" is at-most-32 ∷ u8 "interface" times 32 ∷ u8 "class" times 32 ∷ u8 "subclass" times 32 ∷ u8 "protocol" times 32 ∷ [])
    ∷ idless 5 H (u8 "type" times 32 is endpoint-type ∷ u8 "interval" times 32 ∷ u8 "interface" times 32 ∷ u16 "max packet" times 32 with bit 4 ∷ u32 "max streams" times 32 with bits 4 0 ∷ [])
    ∷ kind 6 G (u8 "configuration" ∷ [])
    ∷ kind 7 G []
    ∷ kind 8 H (u8 "status" ∷ u8 "configuration" ∷ [])
    ∷ kind 9 G (u8 "interface" ∷ u8 "alt" ∷ [])
    ∷ kind 10 G (u8 "interface" ∷ [])
    ∷ kind 11 H (u8 "status" ∷ u8 "interface" ∷ u8 "alt" ∷ [])
    ∷ kind 12 G (u8 "endpoint" is endpoint ∷ u8 "packets" ∷ u8 "urbs" ∷ [])
    ∷ kind 13 G (u8 "endpoint" is endpoint ∷ [])
    ∷ kind 14 H (u8 "status" ∷ u8 "endpoint" is endpoint ∷ [])
    ∷ kind 15 G (u8 "endpoint" is endpoint-in ∷ [])
    ∷ kind 16 G (u8 "endpoint" is endpoint-in ∷ [])
    ∷ kind 17 H (u8 "status" ∷ u8 "endpoint" is endpoint ∷ [])
    ∷ kind 18 G (u32 "mask" is nonzero ∷ u32 "count" ∷ []) needs bit 0
    ∷ kind 19 G (u32 "mask" is nonzero ∷ []) needs bit 0
    ∷ kind 20 H (u32 "mask" ∷ u32 "count" ∷ u8 "status" ∷ []) needs bit 0
    ∷ kind 21 G []
    ∷ idless 22 G [] needs bit 2
    ∷ idless 23 B [] needs bit 2 then string
    ∷ idless 24 G [] needs bit 3
    ∷ kind 25 G (u32 "stream" ∷ u32 "bytes" ∷ u8 "endpoint" is endpoint-in ∷ u8 "transfers" ∷ []) needs bit 7
    ∷ kind 26 G (u32 "stream" ∷ u8 "endpoint" is endpoint-in ∷ []) needs bit 7
    ∷ kind 27 H (u32 "stream" ∷ u8 "endpoint" is endpoint-in ∷ u8 "status" ∷ []) needs bit 7
    ∷ kind 100 B (u8 "endpoint" is endpoint ∷ u8 "request" ∷ u8 "requesttype" is as-endpoint ∷ u8 "status" ∷ u16 "value" ∷ u16 "index" ∷ u16 "length" ∷ []) then payload-onward
    ∷ kind 101 B (u8 "endpoint" is endpoint ∷ u8 "status" ∷ u16 "length" ∷ u32 "stream" is zero-without 0 ∷ u16 "length high" with bit 6 ∷ []) then payload-onward
    ∷ kind 102 B (u8 "endpoint" is endpoint-onward ∷ u8 "status" ∷ u16 "length" ∷ []) then payload
    ∷ kind 103 B (u8 "endpoint" is endpoint-out-of-guest ∷ u8 "status" ∷ u16 "length" ∷ []) then payload-onward
    ∷ kind 104 H (u32 "stream" ∷ u32 "length" ∷ u8 "endpoint" is endpoint-in ∷ u8 "status" ∷ []) needs bit 7 then payload
    ∷ []

-- ---- places in it

-- no kind of the protocol
abbrev pub none_such : Kind
none_such = kind 4294967296 B []

-- kinds 0 to 27 stand at their number, 100 to 104 at 28 to 32
abbrev pub kind_at : ℕ → Kind
kind_at slot = get_or kinds slot none_such
