-- What a packet says, whichever way it is held: its kind, its id, its fields in body order, and what follows them.
-- Reader and writer are stated over it. How it stands in a body's bytes is read off the table.
-- Assumes nothing: these are definitions.
use Rattle.std.specs.Prelude.{ℕ, zero, suc, ◌+◌, ◌*◌, Bool, true, cond, ◌&&◌, List, [], ◌∷◌, ◌++◌, map, length, drop, eqb, leb, Option, Some, None}
use Prim.Native.String.{String}
use lib.Text.{eqt}
use Rattle.octets.specs.Little.{le, bytes_of}
use Rattle.octets.specs.Bits.{has_bit}
use Rattle.kinds.specs.Table.{Bits, always, bit, bits, Field, Kind}

-- a field's numbers; none where the field is not there
abbrev pub Value : Type 0
Value = Option (List ℕ)

-- one number
abbrev pub one : ℕ → Value
one x = Some (x ∷ [])

pub record Content : Type 0 where
  pub kind : ℕ
  pub id : ℕ
  pub fields : List Value
  pub rest : List ℕ

abbrev pub packet_of : ℕ → ℕ → List Value → List ℕ → Content
packet_of kind id fields rest = record { kind = kind; id = id; fields = fields; rest = rest }

-- ---- the layout of a body

-- bits that are in a set of capabilities
abbrev pub shared : ℕ → Bits → Bool
shared caps always = true
shared caps (bit j) = has_bit caps j
shared caps (bits j k) = has_bit caps j && has_bit caps k

-- a bit that is needed; no kind of the table needs two
abbrev pub needed_bit : Bits → Option ℕ
needed_bit always = None
needed_bit (bit j) = Some j
needed_bit (bits j k) = None

-- a field's bytes: none where it is not there. `has` says which are there: for bytes off the wire, those that are shared.
abbrev pub size_of : (Bits → Bool) → Field → ℕ
size_of has f = cond (has f.there) (f.width * f.times) 0

abbrev pub size : (Bits → Bool) → List Field → ℕ
size has [] = 0
size has (f ∷ fs) = size_of has f + size has fs

-- n numbers of w bytes each, from place `at` on
abbrev pub numbers : ℕ → ℕ → List ℕ → ℕ → List ℕ
numbers w zero s at = []
numbers w (suc n) s at = le w s at ∷ numbers w n s (at + w)

-- a field's numbers where all its bytes stand in s, and no number where they are cut short
abbrev pub whole : Field → List ℕ → List ℕ
whole f s = cond (leb (f.width * f.times) (length s)) (numbers f.width f.times s 0) []

-- the fields that stand in s, one after the other
abbrev pub split : (Bits → Bool) → List Field → List ℕ → List Value
split has [] s = []
split has (f ∷ fs) s = cond (has f.there) (Some (whole f s)) None ∷ split has fs (drop (size_of has f) s)

-- the bytes of fields
abbrev pub bytes_of_all : ℕ → List ℕ → List ℕ
bytes_of_all w [] = []
bytes_of_all w (x ∷ xs) = bytes_of w x ++ bytes_of_all w xs

abbrev pub bytes_of_value : ℕ → Value → List ℕ
bytes_of_value w None = []
bytes_of_value w (Some xs) = bytes_of_all w xs

abbrev pub bytes : List Field → List Value → List ℕ
bytes [] vs = []
bytes (f ∷ fs) [] = []
bytes (f ∷ fs) (v ∷ vs) = bytes_of_value f.width v ++ bytes fs vs

-- the widths of the first seven fields, 0 for those that are not there: no kind has more that are one number each
abbrev pub padded : ℕ → List ℕ → List ℕ
padded zero xs = []
padded (suc n) [] = 0 ∷ padded n []
padded (suc n) (x ∷ xs) = x ∷ padded n xs

abbrev pub widths : List Field → List ℕ
widths fs = padded 7 (map (λ (f : Field). f.width) fs)

-- ---- a field by its name: its first number, 0 where it is not there

abbrev pub first_number : Value → ℕ
first_number None = 0
first_number (Some []) = 0
first_number (Some (x ∷ xs)) = x

abbrev pub named : String → List Field → List Value → ℕ
named n [] vs = 0
named n (f ∷ fs) [] = 0
named n (f ∷ fs) (v ∷ vs) = cond (eqt n f.name) (first_number v) (named n fs vs)

-- ---- a kind by its number

abbrev pub find : ℕ → List Kind → Option Kind
find n [] = None
find n (k ∷ ks) = cond (eqb n k.number) (Some k) (find n ks)

abbrev pub fields_of : Option Kind → List Field
fields_of None = []
fields_of (Some k) = k.fields
