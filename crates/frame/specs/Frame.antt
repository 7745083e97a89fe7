-- What the bytes at hand are, what of a piece goes into the holding buffer, and where a packet's bytes lie.
-- Assumes nothing: these are definitions.
use Rattle.std.specs.Prelude.{ℕ, ◌-◌, ◌≡◌, Bool, true, false, cond, List, [], take, eqb, leb}
use Rattle.std.proofs.lemmas.List.Edits.{sets}
use Rattle.header.specs.declared.Link.{Link}
use Rattle.header.specs.Refusal.{number_of}
use Rattle.header.specs.Header.{kind_of, length_of, header_size, header_number}
use Rattle.frame.specs.Cut.{Cut, more, bad, whole, cut_of}
use Rattle.frame.specs.declared.Cut.{Cut as CutFound}
use Rattle.frame.specs.declared.Cut.TheVariants.{More, BadHeader, WholePacket}
use Rattle.frame.specs.declared.Location.{Location}
use Rattle.frame.specs.declared.Location.TheVariants.{Nowhere, Piece, Buffer}

-- the size of the header that the bytes begin with, and the number that refuses it: 10, 11 or 12, else 0
abbrev pub head_size : Link → List ℕ → ℕ
head_size l b = header_size l (kind_of b)

abbrev pub head_number : Link → List ℕ → ℕ
head_number l b = header_number l (kind_of b) (length_of b)

-- "then 1 for an incomplete packet .. But 10, 11, 12 (that order) fall when the header is whole": what the bytes from a packet's
-- first on are under a link
abbrev pub cut_at : Link → List ℕ → Cut
cut_at l all = cut_of (head_size l) (head_number l) length_of all

-- what the code tells of it: a refused header by its number and its size, a whole packet with its kind and its header's size too
pub data CutTold : Type 0 where
  more_bytes : CutTold
  bad_header : ℕ → ℕ → CutTold
  whole_packet : ℕ → ℕ → ℕ → CutTold

abbrev pub told : CutFound → CutTold
told More = more_bytes
told (BadHeader refusal size) = bad_header (number_of refusal) size
told (WholePacket kind header size) = whole_packet kind header size

abbrev pub cut_told : ℕ → ℕ → Cut → CutTold
cut_told kind size more = more_bytes
cut_told kind size (bad n) = bad_header n size
cut_told kind size (whole n) = whole_packet kind size n

unfoldable pub cut_for : Link → List ℕ → CutTold
cut_for l all = cut_told (kind_of all) (head_size l all) (cut_at l all)

-- the packet, or the header that is refused, is whole within the first n bytes
abbrev pub ends_within : CutTold → ℕ → Bool
ends_within more_bytes n = false
ends_within (bad_header m size) n = leb size n
ends_within (whole_packet kind size m) n = leb m n

abbrev pub is_more : Cut → Bool
is_more more = true
is_more (bad n) = false
is_more (whole n) = false

-- "a packet begun there, or a header that 10 to 12 refuse, is completed there .. the rest of that buffer is unchanged. A packet that
-- lies whole in the piece isn't copied."
abbrev pub completed : List ℕ → ℕ → List ℕ → ℕ → List ℕ
completed hold held piece size = cond (eqb held 0) hold (sets hold held (take (size - held) piece))

-- so with nothing held it lies in the piece, and else in the buffer
abbrev pub location_for : ℕ → Location
location_for held = cond (eqb held 0) Piece Buffer

-- "a part of the piece or of the holding buffer, wherever it lies"
abbrev pub bytes_at : Location → ℕ → List ℕ → List ℕ → List ℕ
bytes_at Nowhere size piece hold = []
bytes_at Piece size piece hold = take size piece
bytes_at Buffer size piece hold = take size hold

-- a whole packet of n bytes at the front, with its kind and its header's size
pub record Cuts (l : Link) (all : List ℕ) (k w n : ℕ) : Type 0 where
  pub cut : cut_at l all ≡ whole n
  pub kind : kind_of all ≡ k
  pub size : head_size l all ≡ w
