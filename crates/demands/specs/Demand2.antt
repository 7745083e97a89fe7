-- Demand 2, over the whole gate: a reader call answers 0 exactly when a packet becomes whole with its piece that the wire checks and the session
-- allow (`Demand2`); which number a whole packet gets (`NumberInGate`); a reply that passes consumes the one request that it answers
-- (`ReplyInGate`); a packet that passes does what the judge says (`MovesInGate`), and is handed out (`HandedInGate`). A packet is written exactly
-- when the same checks allow it (`WriterExactly`).
-- Assumes nothing: these are definitions and statements.
use Rattle.std.specs.Prelude.{ℕ, ◌≤◌, true, List, [], ◌∷◌, ◌++◌, ◌≡◌, ◌⊎◌, ◌↔◌, eqb, length, take, Option, Some, None}
use Rattle.header.specs.declared.Side.{Side}
use Rattle.header.specs.declared.Link.{Link}
use Rattle.header.specs.Header.{header_number}
use Rattle.kinds.specs.Content.{Content}
use Rattle.kinds.specs.Codec.{decode, read_number, encode, or_next, body_length}
use Rattle.kinds.specs.Number.{wire_number}
use Rattle.frame.specs.Cut.{whole}
use Rattle.frame.specs.Frame.{cut_at}
use Rattle.decoder.specs.Reading.{PacketTold}
use Rattle.events.specs.Event.{event_of}
use Rattle.checks.specs.Checks.{first_of}
use Rattle.session.specs.declared.Session.{Session}
use Rattle.session.specs.Session.{link_of}
use Rattle.session.specs.Step.{judged}
use Rattle.gate.specs.Verdict.{held_as}
use Rattle.gate.specs.Offer.{held_bytes, offer_of}
use Rattle.gate.specs.Write.{shut, write_by}
use Rattle.gate.specs.Ready.{Ready}
use Rattle.claims.specs.Allowed.{is_reply, inward_of, Unsolicited, Allowed}
use Rattle.claims.specs.NumberByKind.{checks_by}
use Rattle.claims.specs.Exchange.{Consumes}

-- the packet that is whole with the piece: the first n of the held bytes and the piece behind them
abbrev pub packet_at : Side → Session → List ℕ → List ℕ → ℕ → Content
packet_at from s hold piece n = decode (link_of from s) (take n (held_bytes from s hold ++ piece))

-- "A packet passes exactly when protocol version 0.7, as document 01 narrows it, allows it"
pub record Passes (from : Side) (s : Session) (hold piece : List ℕ) : Type 0 where
  -- the call can go on: 41, 43, 3 and 2 do not hold
  pub ready : Ready from s hold
  -- a packet is whole, and 10 to 12 do not refuse its header
  pub size : ℕ
  pub whole : cut_at (link_of from s) (held_bytes from s hold ++ piece) ≡ whole size
  -- "form, shared capabilities, direction": 13 and 20 to 24
  pub form : wire_number (link_of from s) (packet_at from s hold piece size) ≡ 0
  -- "device and endpoint state, and for a reply an outstanding request": 25 to 34
  pub allowed : Allowed s from (packet_at from s hold piece size)

-- a reader call answers 0 if and only if a packet passes
abbrev pub Demand2 : Type 0
Demand2 = (from : Side) (s : Session) (hold piece : List ℕ) → ((offer_of from s hold piece).number ≡ 0) ↔ Passes from s hold piece

-- "Where several hold, the lowest from 20 up is given. 10 to 24 are the wire checks, 25 to 34 the session checks.": of a call that can go on with
-- a whole packet, the number of the wire checks, and where they find nothing, that of the first session check that does
abbrev pub NumberInGate : Type 0
NumberInGate =
    (from : Side) (s : Session) (hold piece : List ℕ) → Ready from s hold → (n : ℕ) → cut_at (link_of from s) (held_bytes from s hold ++ piece) ≡ whole n
    → (offer_of from s hold piece).number ≡ or_next (wire_number (link_of from s) (packet_at from s hold piece n)) (first_of (checks_by s from (packet_at from s hold piece n)))

-- "10 to 24 are the wire checks": bytes that are a whole packet get the number of what they say
abbrev pub WholeNumber : Type 0
WholeNumber =
    (l : Link) (b : List ℕ) (n : ℕ) → cut_at l b ≡ whole n → read_number l (take n b) ≡ wire_number l (decode l (take n b))

-- "for a reply an outstanding request which it consumes": the reply frees the place of the one live request that it answers; an
-- unsolicited status frees none
abbrev pub ReplyInGate : Type 0
ReplyInGate =
    (from : Side) (s : Session) (hold piece : List ℕ) (h : Passes from s hold piece)
    → is_reply from (packet_at from s hold piece h.size).kind (inward_of (packet_at from s hold piece h.size)) ≡ true
    → ((i : ℕ) × Consumes (held_as from 0 s) (packet_at from s hold piece h.size) (offer_of from s hold piece).session i)
    ⊎ (Unsolicited s.requests (packet_at from s hold piece h.size) × ((offer_of from s hold piece).session.requests ≡ s.requests))

-- what a packet that passes does to the session is what the judge says of it (`moves`, `request-keeps` and the others of `claims`); "After any
-- answer but 1, 2, 3, 41 or 43 the held count is 0"
abbrev pub MovesInGate : Type 0
MovesInGate =
    (from : Side) (s : Session) (hold piece : List ℕ) (h : Passes from s hold piece)
    → (offer_of from s hold piece).session ≡ (judged (held_as from 0 s) (event_of from (packet_at from s hold piece h.size))).session

-- the packet that is handed out, as a list of at most one
abbrev pub contents : Option PacketTold → List Content
contents None = []
contents (Some h) = h.content ∷ []

-- "at 0 what the reader hands out is that reading"
abbrev pub HandedInGate : Type 0
HandedInGate =
    (from : Side) (s : Session) (hold piece : List ℕ) (h : Passes from s hold piece) → contents (offer_of from s hold piece).handed ≡ packet_at from s hold piece h.size ∷ []

-- ---- the writer

-- "Reader and writer follow the same definition": a packet is written exactly when the call is not shut by 43, 3 or 2, the same wire checks
-- find nothing, and the output has room
pub record Writable (from : Side) (s : Session) (p : Content) (space : ℕ) : Type 0 where
  pub going : shut from s (eqb p.kind 0) ≡ 0
  pub header : header_number (link_of from s) p.kind (body_length (link_of from s) p) ≡ 0
  pub form : wire_number (link_of from s) p ≡ 0
  pub room : length (encode (link_of from s) p) ≤ space

-- the writer accepts what is writable, and nothing else
abbrev pub WriterExactly : Type 0
WriterExactly =
    (from : Side) (s : Session) (p : Content) (room : ℕ) → (write_by from s p room ≡ 0) ↔ Writable from s p room
