-- A wire layer: one direction's packets and their bytes; and the laws that the theorems of this crate want of it.
-- Assumes nothing: these are definitions.
use Rattle.std.specs.Prelude.{ℕ, ◌+◌, ◌≤◌, ◌≡◌, List, [], ◌∷◌, ◌++◌, ◌⊎◌, length}
use Rattle.frame.specs.Cut.{Cut, cut_of}

-- n is a number of the list
abbrev pub OneOf : List ℕ → ℕ → Type 0
OneOf [] n = ⊥
OneOf (m ∷ ms) n = (n ≡ m) ⊎ OneOf ms n

pub record Wire : Type 1 where
  -- what the wire checks of a direction depend on: who sends, and both hellos
  pub K : Type 0
  -- packets: kind, id, fields and data
  pub P : Type 0
  -- of bytes from a packet's start: the header's width, the length of the body that it says, and the number that it is refused with, or 0
  pub width : K → List ℕ → ℕ
  pub length_of : List ℕ → ℕ
  pub head_no : K → List ℕ → ℕ
  -- of a whole packet's bytes: their number in the wire checks, and the packet that they are read as
  pub wire_no : K → List ℕ → ℕ
  pub decode : K → List ℕ → P
  -- a packet's bytes
  pub encode : K → P → List ℕ
  -- a packet that the writer accepts
  pub Accepted : K → P → Type 0
  -- a packet of which "each field not shared is shown as absent"
  pub Absent : K → P → Type 0
  -- "what the shared set doesn't allow": a packet that has something which is not shared, and one with a field that does not suit what is
  -- shared; and the numbers of each
  pub Unshared : K → P → Type 0
  pub unshared_numbers : List ℕ
  pub Unsuited : K → P → Type 0
  pub unsuited_numbers : List ℕ

-- what the bytes `all` from a packet's start are
abbrev pub cut : (N : Wire) → N.K → List ℕ → Cut
cut N k all = cut_of (N.width k) (N.head_no k) N.length_of all

-- the round trip of one packet: its bytes are as many as their header says, the header is not refused, their number in the wire
-- checks is 0, and they are read as that packet
pub record Good (N : Wire) (k : N.K) (p : N.P) : Type 0 where
  pub size : length (N.encode k p) ≡ N.width k (N.encode k p) + N.length_of (N.encode k p)
  pub header : N.head_no k (N.encode k p) ≡ 0
  pub wire : N.wire_no k (N.encode k p) ≡ 0
  pub back : N.decode k (N.encode k p) ≡ p

pub record WireLaws (N : Wire) : Type 0 where
  -- a header has 12 to 16 bytes, and one that is not refused says a body of at most 32,768
  pub wide : (k : N.K) (b : List ℕ) → 12 ≤ N.width k b
  pub narrow : (k : N.K) (b : List ℕ) → N.width k b ≤ 16
  pub short : (k : N.K) (b : List ℕ) → N.head_no k b ≡ 0 → N.length_of b ≤ 32768
  -- the first 12 bytes decide the header's width, and a whole header its number and its length: what follows changes nothing
  pub same_width : (k : N.K) (a b : List ℕ) → 12 ≤ length a → N.width k (a ++ b) ≡ N.width k a
  pub same_number : (k : N.K) (a b : List ℕ) → N.width k a ≤ length a → N.head_no k (a ++ b) ≡ N.head_no k a
  pub same_length : (k : N.K) (a b : List ℕ) → N.width k a ≤ length a → N.length_of (a ++ b) ≡ N.length_of a
  -- an accepted packet makes the round trip
  pub good : (k : N.K) (p : N.P) → N.Accepted k p → Good N k p
  -- and has no field that is not shared
  pub absent : (k : N.K) (p : N.P) → N.Accepted k p → N.Absent k p
