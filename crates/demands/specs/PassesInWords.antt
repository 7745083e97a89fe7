-- Demand 2 in document 01's words throughout: when the reader passes a packet, when the writer accepts one, and which number from 10 to 34 a
-- packet gets that is refused, in relations. No test of the gate is run here: the wire checks are `Formed`, the session checks `Allowed`, and what
-- comes before them stands below.
-- Assumes nothing: these are definitions, and the statements that `proofs/PassesInWords.antt` proves.
use Rattle.std.specs.Prelude.{ℕ, ◌+◌, ◌≤◌, ◌<◌, true, false, List, ◌++◌, ◌↔◌, ◌⊎◌, ◌≡◌, length}
use Rattle.header.specs.declared.Side.{Side}
use Rattle.header.specs.declared.Link.{Link}
use Rattle.header.specs.Link.{passed, own}
use Rattle.header.specs.Header.{kind_of, length_of}
use Rattle.kinds.specs.Content.{Content}
use Rattle.kinds.specs.Codec.{encode, body_length}
use Rattle.kinds.specs.Formed.{Formed, Numbered}
use Rattle.device.specs.Device.{control, row_at}
use Rattle.requests.specs.Requests.{place_at}
use Rattle.session.specs.declared.Session.{Session}
use Rattle.session.specs.Session.{link_of}
use Rattle.claims.specs.Allowed.{Allowed, SessionNumbered}
use Rattle.frame.specs.Frame.{head_size}
use Rattle.gate.specs.Offer.{held_bytes, offer_of}
use Rattle.gate.specs.Write.{write_by}
use Rattle.gate.specs.Ready.{FitCount}
use Rattle.demands.specs.EachCall.{own_passed, other_passed}
use Rattle.demands.specs.Demand2.{packet_at}

-- ---- before the wire checks of a packet

-- 43 does not hold of the session itself
pub record Leavable (s : Session) : Type 0 where
  -- "a held count over 32,783 or, own hello passed and other's not, over 0"
  pub guest : FitCount s.head.guest s.head.host s.head.held.guest
  pub host : FitCount s.head.host s.head.guest s.head.held.host
  -- "two live requests with one id"
  pub ids : (i j : ℕ) → (place_at s.requests i).live ≡ true → (place_at s.requests j).live ≡ true → (place_at s.requests i).request.id ≡ (place_at s.requests j).request.id → i ≡ j
  -- "row 0 or 16 not control"
  pub control-rows : ((row_at s.rows 0).ty ≡ control) × ((row_at s.rows 16).ty ≡ control)

-- a header of that kind and length is not refused
pub record HeaderAllowed (l : Link) (kind n : ℕ) : Type 0 where
  -- 10: "length over 32,768"
  pub short : n ≤ 32768
  -- 11: "first packet isn't a hello"
  pub first : passed (own l) ≡ false → kind ≡ 0
  -- 12: "second hello"
  pub once : passed (own l) ≡ true → kind ≡ 0 → ⊥

-- the size of the packet that bytes begin with, by its header
abbrev pub size_of_packet : Link → List ℕ → ℕ
size_of_packet l b = head_size l b + length_of b

-- "held bytes .. already a whole packet or a header for 10 to 12" does not hold of them
abbrev pub NotWhole : Link → List ℕ → Type 0
NotWhole l b = (length b < head_size l b) ⊎ (HeaderAllowed l (kind_of b) (length_of b) × (length b < size_of_packet l b))

-- what the call has at hand: the held bytes with the piece behind them; and the packet in front
abbrev pub at_hand : Side → Session → List ℕ → List ℕ → List ℕ
at_hand from s hold piece = held_bytes from s hold ++ piece

abbrev pub packet_in : Side → Session → List ℕ → List ℕ → Content
packet_in from s hold piece = packet_at from s hold piece (size_of_packet (link_of from s) (at_hand from s hold piece))

-- a reader call that gets to the bytes at hand
pub record Opens (from : Side) (s : Session) (hold : List ℕ) : Type 0 where
  -- 41: "holding buffer under 32,784 bytes"
  pub room : 32784 ≤ length hold
  -- 43
  pub leavable : Leavable s
  pub not-before : NotWhole (link_of from s) (held_bytes from s hold)
  -- 3: "session stopped"
  pub running : s.head.stopped ≡ false
  -- 2: "own hello passed, other's not"
  pub answered : own_passed from s ≡ true → other_passed from s ≡ true

-- a reader call by which a packet becomes whole
pub record Arrives (from : Side) (s : Session) (hold piece : List ℕ) : Type 0 where
  -- 41, 43, 3 and 2
  pub opens : Opens from s hold
  -- 10 to 12
  pub header : HeaderAllowed (link_of from s) (kind_of (at_hand from s hold piece)) (length_of (at_hand from s hold piece))
  -- 1: "packet not whole"
  pub whole : size_of_packet (link_of from s) (at_hand from s hold piece) ≤ length (at_hand from s hold piece)

-- a writer call that gets to its packet: "It gives 43 (held bytes untested), 3, 2 (for a non-hello) as the reader does, then makes the wire checks,
-- 10 to 12 included"
pub record OpensWriter (from : Side) (s : Session) (p : Content) : Type 0 where
  pub leavable : Leavable s
  pub running : s.head.stopped ≡ false
  pub answered : (p.kind ≡ 0 → ⊥) → own_passed from s ≡ true → other_passed from s ≡ true

-- one that gets to the wire checks from 20 on
pub record Reaches (from : Side) (s : Session) (p : Content) : Type 0 where
  pub opens : OpensWriter from s p
  pub header : HeaderAllowed (link_of from s) p.kind (body_length (link_of from s) p)

-- ---- the packet

-- "A packet passes exactly when protocol version 0.7, as document 01 narrows it, allows it"
pub record PassesInWords (from : Side) (s : Session) (hold piece : List ℕ) : Type 0 where
  pub arrives : Arrives from s hold piece
  -- "form, shared capabilities, direction": 20 to 24 and 13
  pub formed : Formed (link_of from s) (packet_in from s hold piece)
  -- "device and endpoint state, and for a reply an outstanding request": 25 to 34
  pub allowed : Allowed s from (packet_in from s hold piece)

-- "Reader and writer follow the same definition."
pub record WritesInWords (from : Side) (s : Session) (p : Content) (space : ℕ) : Type 0 where
  pub reaches : Reaches from s p
  pub formed : Formed (link_of from s) p
  -- 40: "output shorter than the packet"
  pub room : length (encode (link_of from s) p) ≤ space

-- ---- the statements

-- A reader call answers 0 exactly when a packet becomes whole by it that is formed and allowed.
abbrev pub PassesExactly : Type 0
PassesExactly = (from : Side) (s : Session) (hold piece : List ℕ) → ((offer_of from s hold piece).number ≡ 0) ↔ PassesInWords from s hold piece

-- A writer call answers 0 exactly when it reaches the wire checks with a packet that is formed, and the output has room.
abbrev pub WritesExactly : Type 0
WritesExactly = (from : Side) (s : Session) (p : Content) (space : ℕ) → (write_by from s p space ≡ 0) ↔ WritesInWords from s p space

-- ---- which number, of 10 to 12

-- the number of a header of that kind and length
pub record HeaderNumbered (l : Link) (kind n number : ℕ) : Type 0 where
  -- "length over 32,768"
  pub long : (number ≡ 10) ↔ (32768 < n)
  -- "first packet isn't a hello"
  pub not-hello : (number ≡ 11) ↔ ((n ≤ 32768) × (passed (own l) ≡ false) × (kind ≡ 0 → ⊥))
  -- "second hello"
  pub second-hello : (number ≡ 12) ↔ ((n ≤ 32768) × (passed (own l) ≡ true) × (kind ≡ 0))

-- "10, 11, 12 (that order) fall when the header is whole": a reader call with a whole header at hand gets one of them exactly where it says so.
abbrev pub HeaderNumberIs : Type 0
HeaderNumberIs = (from : Side) (s : Session) (hold piece : List ℕ) → Opens from s hold → head_size (link_of from s) (at_hand from s hold piece) ≤ length (at_hand from s hold piece)
    → HeaderNumbered (link_of from s) (kind_of (at_hand from s hold piece)) (length_of (at_hand from s hold piece)) (offer_of from s hold piece).number

-- So does a writer call, by the header of its packet.
abbrev pub WriterHeaderNumberIs : Type 0
WriterHeaderNumberIs = (from : Side) (s : Session) (p : Content) (space : ℕ) → OpensWriter from s p
    → HeaderNumbered (link_of from s) p.kind (body_length (link_of from s) p) (write_by from s p space)

-- ---- which number, of 20 to 24 and 13

-- A packet that becomes whole gets a number of the wire checks exactly where its own check is the first that fails.
abbrev pub ReaderNumberIs : Type 0
ReaderNumberIs = (from : Side) (s : Session) (hold piece : List ℕ) → Arrives from s hold piece → Numbered (link_of from s) (packet_in from s hold piece) (offer_of from s hold piece).number

-- So does a packet to be written.
abbrev pub WriterNumberIs : Type 0
WriterNumberIs = (from : Side) (s : Session) (p : Content) (space : ℕ) → Reaches from s p → Numbered (link_of from s) p (write_by from s p space)

-- ---- which number, of 25 to 34

-- A packet that becomes whole and is formed gets a number of the session checks exactly so.
abbrev pub SessionNumberIs : Type 0
SessionNumberIs = (from : Side) (s : Session) (hold piece : List ℕ) → Arrives from s hold piece → Formed (link_of from s) (packet_in from s hold piece)
    → SessionNumbered s from (packet_in from s hold piece) (offer_of from s hold piece).number
