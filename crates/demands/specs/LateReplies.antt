-- A late reply, over reader calls: once the request that waited under an id was answered or ended, a reply with that id, but for an unsolicited
-- status, is refused until a request takes the id again (`NeverAnotherCall`). Of the judge alone `claims/specs/PacketLists.antt` says it.
-- Assumes nothing: these are definitions and statements.
use Rattle.std.specs.Prelude.{ℕ, true, false, List, [], ◌∷◌, ◌++◌, ◌≡◌, take}
use Rattle.header.specs.declared.Side.{Side}
use Rattle.requests.specs.Requests.{place_at}
use Rattle.kinds.specs.Content.{Content}
use Rattle.kinds.specs.Codec.{decode}
use Rattle.kinds.specs.Number.{wire_number}
use Rattle.frame.specs.Cut.{whole}
use Rattle.frame.specs.Frame.{cut_at}
use Rattle.wire.specs.Reader.{comes_out}
use Rattle.session.specs.declared.Session.{Session}
use Rattle.session.specs.Session.{link_of}
use Rattle.gate.specs.Offer.{held_bytes, offer_of}
use Rattle.gate.specs.Ready.{Ready}
use Rattle.claims.specs.Allowed.{is_request, is_reply, inward_of, Unsolicited}
use Rattle.demands.specs.Demand2.{packet_at, contents}
use Rattle.demands.specs.CallLists.{Both, ReaderCall, answer_to, next, held_by, final}

-- ---- a packet that came out of the wire checks

-- "A packet comes out of the wire checks when a call answers 0 or a session check's number": then 41, 43, 3 and 2 do not hold, a packet is whole,
-- and the wire checks find nothing
pub record CameOut (from : Side) (s : Session) (hold piece : List ℕ) : Type 0 where
  pub ready : Ready from s hold
  pub size : ℕ
  pub whole : cut_at (link_of from s) (held_bytes from s hold ++ piece) ≡ whole size
  pub form : wire_number (link_of from s) (packet_at from s hold piece size) ≡ 0

-- of every reader call (`came-out`)
abbrev pub CameOutWhole : Type 0
CameOutWhole =
    (from : Side) (s : Session) (hold piece : List ℕ) → comes_out (offer_of from s hold piece).number ≡ true → CameOut from s hold piece

-- "It is the reading of the bytes taken for it": of those held, and of those taken of the piece
abbrev pub packet_read : Both → ReaderCall → Content
packet_read x c = decode (link_of c.from x.session) (held_by x c.from ++ take (answer_to x c).taken c.piece)

-- ---- which requests are handed out

-- none of the packets that a call hands out is a request with this id
abbrev pub NotAsked : ℕ → Side → List Content → Type 0
NotAsked n from [] = Unit {0}
NotAsked n from (p ∷ ps) = (is_request from p.kind ≡ true → p.id ≡ n → ⊥) × NotAsked n from ps

-- nor of those that a list of calls does
abbrev pub NoneAsks : ℕ → Both → List ReaderCall → Type 0
NoneAsks n x [] = Unit {0}
NoneAsks n x (c ∷ cs) = NotAsked n c.from (contents (answer_to x c).handed) × NoneAsks n (next x c) cs

-- ---- a late reply

-- it is refused, but for an unsolicited status, and no request is freed by it
pub record LateCall (x : Both) (c : ReaderCall) (p : Content) : Type 0 where
  pub without-device : x.session.head.present ≡ false → (answer_to x c).number ≡ 25
  pub refused : x.session.head.present ≡ true → (Unsolicited x.session.requests p → ⊥) → (answer_to x c).number ≡ 33
  pub kept : (next x c).session.requests ≡ x.session.requests

-- a request waits at place i; the call c ends it, by its reply or otherwise; the calls cs follow, none of which hands out a request with its
-- id; then a packet that comes out of the wire checks and is a reply with its id is a late one
abbrev pub NeverAnotherCall : Type 0
NeverAnotherCall =
    (x : Both) (c : ReaderCall) (cs : List ReaderCall) (i : ℕ) (d : ReaderCall)
    → (place_at x.session.requests i).live ≡ true
    → (place_at (next x c).session.requests i).live ≡ false
    → NoneAsks (place_at x.session.requests i).request.id (next x c) cs
    → comes_out (answer_to (final (next x c) cs) d).number ≡ true
    → is_reply d.from (packet_read (final (next x c) cs) d).kind (inward_of (packet_read (final (next x c) cs) d)) ≡ true
    → (packet_read (final (next x c) cs) d).id ≡ (place_at x.session.requests i).request.id
    → LateCall (final (next x c) cs) d (packet_read (final (next x c) cs) d)
