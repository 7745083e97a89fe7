-- Packets one after the other, each out of the wire checks of the session as it then is: what 43 tests of a session, but for the held counts,
-- holds throughout (`RunSound`), and free places are as at the start throughout (`RunClean`). Once the request that waited under an id was
-- answered or ended, a reply with that id, but for an unsolicited status, is refused until a request takes the id again (`NeverAnother`).
-- Assumes nothing: these are definitions and statements.
use Rattle.std.specs.Prelude.{ℕ, true, false, List, [], ◌∷◌, ◌≡◌}
use Rattle.header.specs.declared.Side.{Side}
use Rattle.device.specs.Device.{control_rows}
use Rattle.requests.specs.Requests.{place_at, ids_differ}
use Rattle.requests.specs.Clean.{Clean}
use Rattle.kinds.specs.Content.{Content}
use Rattle.kinds.specs.Number.{wire_number}
use Rattle.events.specs.Event.{event_of}
use Rattle.session.specs.declared.Session.{Session}
use Rattle.session.specs.Session.{fresh_session, link_of}
use Rattle.session.specs.Step.{judged}
use Rattle.claims.specs.Allowed.{is_request, is_reply, inward_of}
use Rattle.claims.specs.Exchange.{LateReply}

-- a packet and who sent it
pub record SentPacket : Type 0 where
  pub from : Side
  pub packet : Content

abbrev pub next_by : Session → SentPacket → Session
next_by s x = (judged s (event_of x.from x.packet)).session

abbrev pub after_packets : Session → List SentPacket → Session
after_packets s [] = s
after_packets s (x ∷ xs) = after_packets (next_by s x) xs

-- the packet came out of the wire checks
abbrev pub OutOfWire : Session → SentPacket → Type 0
OutOfWire s x = wire_number (link_of x.from s) x.packet ≡ 0

-- so did each of the list
abbrev pub AllOutOfWire : Session → List SentPacket → Type 0
AllOutOfWire s [] = Unit {0}
AllOutOfWire s (x ∷ xs) = OutOfWire s x × AllOutOfWire (next_by s x) xs

-- ---- what 43 tests of a session, but for the held counts, which are the gate's

pub record Sound (s : Session) : Type 0 where
  pub ids : ids_differ s.requests ≡ true
  pub control : control_rows s.rows ≡ true

-- it holds at the start
abbrev pub StartSound : Type 0
StartSound = Sound fresh_session

-- a packet keeps it
abbrev pub StepSound : Type 0
StepSound = (s : Session) (x : SentPacket) → Sound s → OutOfWire s x → Sound (next_by s x)

-- and so does a list of packets
abbrev pub RunSound : Type 0
RunSound = (s : Session) (xs : List SentPacket) → Sound s → AllOutOfWire s xs → Sound (after_packets s xs)

-- ---- "A freed place is as at the start and used again."

-- where the places that are not live are as at the start, they are so throughout
abbrev pub RunClean : Type 0
RunClean = (s : Session) (xs : List SentPacket) → Clean s.requests → Clean (after_packets s xs).requests

-- ---- a late reply

-- no packet of the list is a request with this id
abbrev pub NoneRequests : ℕ → List SentPacket → Type 0
NoneRequests n [] = Unit {0}
NoneRequests n (x ∷ xs) = (is_request x.from x.packet.kind ≡ true → x.packet.id ≡ n → ⊥) × NoneRequests n xs

-- a request waits at place i; a packet x ends it, by its reply or otherwise; packets follow, none of them a request with its id;
-- then a reply with its id is a late one: it is refused, but for an unsolicited status, and no request is freed by it
abbrev pub NeverAnother : Type 0
NeverAnother =
    (s : Session) (i : ℕ) (x : SentPacket) (xs : List SentPacket) (from : Side) (p : Content)
    → ids_differ s.requests ≡ true
    → (place_at s.requests i).live ≡ true
    → OutOfWire s x
    → (place_at (next_by s x).requests i).live ≡ false
    → AllOutOfWire (next_by s x) xs
    → NoneRequests (place_at s.requests i).request.id xs
    → wire_number (link_of from (after_packets (next_by s x) xs)) p ≡ 0
    → is_reply from p.kind (inward_of p) ≡ true
    → p.id ≡ (place_at s.requests i).request.id
    → LateReply (after_packets (next_by s x) xs) from p
