-- What a packet keeps of a session. A refused one keeps all; every packet keeps that the ids of live requests differ, free places are as at the
-- start, rows 0 and 16 are control, a hello that has passed stays, and with both the shared set, and so do whether it is stopped and what it
-- holds; and the start is fit.
-- Assumes nothing: these are definitions and statements.
use Rattle.std.specs.Prelude.{true, false, ◌≡◌}
use Rattle.header.specs.declared.Side.{Side}
use Rattle.header.specs.Link.{shared_set, passed}
use Rattle.header.specs.declared.Link.{Link}
use Rattle.device.specs.Device.{control_rows}
use Rattle.requests.specs.Requests.{ids_differ}
use Rattle.requests.specs.Clean.{Clean}
use Rattle.kinds.specs.Content.{Content}
use Rattle.kinds.specs.Number.{wire_number}
use Rattle.events.specs.Event.{Event, event_of}
use Rattle.session.specs.declared.Session.{Session}
use Rattle.session.specs.Session.{fresh_session, link_of, unfit}
use Rattle.session.specs.Step.{judged}
use Rattle.claims.specs.Exchange.{after_event}

-- a refused packet changes nothing
abbrev pub RefusedKeeps : Type 0
RefusedKeeps = (s : Session) (e : Event) → ((judged s e).number ≡ 0 → ⊥) → (judged s e).session ≡ s

-- ---- the requests

-- where the ids of live requests differ, they still do
abbrev pub KeptIds : Type 0
KeptIds =
    (s : Session) (e : Event) → ids_differ s.requests ≡ true → ids_differ (after_event s e).requests ≡ true

-- "A freed place is as at the start and used again.": where the places that are not live are as at the start, they still are
abbrev pub KeptClean : Type 0
KeptClean = (s : Session) (e : Event) → Clean s.requests → Clean (after_event s e).requests

-- ---- the rows

-- where rows 0 and 16 are control, they still are, if they are so in the rows that the packet announces
abbrev pub KeptControl : Type 0
KeptControl =
    (s : Session) (e : Event) → control_rows s.rows ≡ true → control_rows e.rows ≡ true → control_rows (after_event s e).rows ≡ true

-- every packet that the wire checks pass announces such rows: an endpoint table its own, any other those of the start
abbrev pub EventControl : Type 0
EventControl = (l : Link) (p : Content) → wire_number l p ≡ 0 → control_rows (event_of l.sender p).rows ≡ true

-- ---- the hellos

pub record HellosKept (s : Session) (e : Event) : Type 0 where
  -- a hello that has passed stays as it is
  pub guest : passed s.head.guest ≡ true → (after_event s e).head.guest ≡ s.head.guest
  pub host : passed s.head.host ≡ true → (after_event s e).head.host ≡ s.head.host

-- of every packet
abbrev pub KeptHellos : Type 0
KeptHellos = (s : Session) (e : Event) → HellosKept s e

-- once both have passed, the shared set stays as it is
abbrev pub KeptShared : Type 0
KeptShared =
    (s : Session) (e : Event) (from : Side) → passed s.head.guest ≡ true → passed s.head.host ≡ true → shared_set (link_of from (after_event s e)) ≡ shared_set (link_of from s)

-- ---- what no packet touches

pub record PlainKept (s : Session) (e : Event) : Type 0 where
  -- whether it is stopped
  pub stopped : (after_event s e).head.stopped ≡ s.head.stopped
  -- what each direction holds
  pub held : (after_event s e).head.held ≡ s.head.held

-- of every packet
abbrev pub KeptPlain : Type 0
KeptPlain = (s : Session) (e : Event) → PlainKept s e

-- ---- the start

-- its places are as at the start
abbrev pub StartClean : Type 0
StartClean = Clean fresh_session.requests

-- a session at its start is fit
abbrev pub StartFit : Type 0
StartFit = unfit fresh_session ≡ false
