-- The two ends and what they share.
-- Assumes nothing: these are definitions.
use Rattle.std.specs.Prelude.{ℕ, Bool, true, false, cond, not, ◌&&◌, eqb, Option, Some, None}
use Rattle.std.specs.Int.Bits.{bit_and}
use Rattle.octets.specs.Bits.{has_bit}
use Rattle.header.specs.declared.Side.{Side}
use Rattle.header.specs.declared.Side.TheVariants.{Guest, Host}
use Rattle.header.specs.declared.Link.{Link}

-- a side as a number: 0 for the guest, any other for the host
abbrev pub is_guest : Side → Bool
is_guest Guest = true
is_guest Host = false

abbrev pub side_of : ℕ → Side
side_of n = cond (eqb n 0) Guest Host

abbrev pub opposite : Side → Side
opposite Guest = Host
opposite Host = Guest

-- the first capability word of a hello that has passed; one that has not offers nothing
abbrev pub offered : Option ℕ → ℕ
offered None = 0
offered (Some word) = word

abbrev pub passed : Option ℕ → Bool
passed None = false
passed (Some word) = true

-- the sender's own hello
abbrev pub hello_of : Side → Link → Option ℕ
hello_of Guest l = l.guest
hello_of Host l = l.host

abbrev pub own : Link → Option ℕ
own l = hello_of l.sender l

-- document 01: "Shared set: bits set in both hellos' first capability word."
-- It holds bits 0 to 7 alone: "Other bits and words are ignored."
unfoldable pub shared_set : Link → ℕ
shared_set l = bit_and (bit_and (offered l.guest) (offered l.host)) 255

-- document 01: "id u32; id is u64 once both hellos have passed and bit 5 is shared. Hellos always use the 12-byte header."
unfoldable pub id_width : Link → ℕ → ℕ
id_width l kind = cond (not (eqb kind 0) && has_bit (shared_set l) 5) 8 4
