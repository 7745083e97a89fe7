-- The header: type u32, length u32, id; and the numbers that it alone decides.
-- Assumes nothing: these are definitions.
use Rattle.std.specs.Prelude.{ℕ, ◌+◌, cond, List, ◌++◌, eqb, ltb}
use Rattle.octets.specs.Little.{le, bytes_of}
use Rattle.header.specs.declared.Link.{Link}
use Rattle.header.specs.declared.Header.{Header}
use Rattle.header.specs.Link.{passed, own, id_width}

-- the header's size in bytes, 12 or 16
unfoldable pub header_size : Link → ℕ → ℕ
header_size l kind = 8 + id_width l kind

abbrev pub kind_of : List ℕ → ℕ
kind_of bytes = le 4 bytes 0

abbrev pub length_of : List ℕ → ℕ
length_of bytes = le 4 bytes 4

abbrev pub id_of : Link → List ℕ → ℕ
id_of l bytes = le (id_width l (kind_of bytes)) bytes 8

-- the header that the bytes begin with
abbrev pub header_of : Link → List ℕ → Header
header_of l bytes = record { kind = kind_of bytes; length = length_of bytes; id = id_of l bytes; size = header_size l (kind_of bytes) }

-- the bytes of a header
unfoldable pub header_bytes : Link → ℕ → ℕ → ℕ → List ℕ
header_bytes l kind length id = bytes_of 4 kind ++ (bytes_of 4 length ++ bytes_of (id_width l kind) id)

-- document 01, 10: "length over 32,768"
abbrev pub max_length : ℕ
max_length = 32768

-- document 01, 41: "holding buffer under 32,784 bytes", which a header of 16 and the longest body fill
abbrev pub hold_size : ℕ
hold_size = 16 + max_length

-- document 01: 10 "length over 32,768", 11 "first packet isn't a hello", 12 "second hello", "(that order)"
unfoldable pub header_number : Link → ℕ → ℕ → ℕ
header_number l kind length =
    cond (ltb max_length length) 10
    (cond (passed (own l)) (cond (eqb kind 0) 12 0)
    (cond (eqb kind 0) 0 11))
