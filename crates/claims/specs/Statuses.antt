-- C-12 of a session, by kind numbers: "every status byte is allowed, 0 is success and everything else an error". The judge tells statuses apart by
-- success and stall alone (`ToldApart`), and those of replies alone (`StatusUnread`). A reply with an error frees the place of its own request and
-- no other (`ErrorFrees`). "Unsolicited statuses are still those with status 4; another one that matches nothing stays 33." (`StallAlone`).
-- Assumes nothing: these are definitions and statements.
use Rattle.std.specs.Prelude.{ℕ, ◌<◌, true, false, cond, ◌&&◌, [], ◌∷◌, ◌⊎◌, ◌≡◌, eqb}
use Rattle.header.specs.declared.Side.{Side}
use Rattle.device.specs.Device.{row_at}
use Rattle.requests.specs.Requests.{place_at, free_place, ids_differ}
use Rattle.kinds.specs.Content.{Content}
use Rattle.kinds.specs.Number.{wire_number}
use Rattle.kinds.specs.AnyStatus.{with_status}
use Rattle.events.specs.Event.{event_of}
use Rattle.session.specs.declared.Session.{Session}
use Rattle.session.specs.Session.{link_of}
use Rattle.session.specs.Step.{judged}
use Rattle.claims.specs.Allowed.{among, is_reply, inward_of, AnsweredBy, Unsolicited, succeeded, stalled}
use Rattle.claims.specs.Movements.{reports_on}

-- ---- "Every test for success or stall reads the mended definition."

-- with two statuses of which both or neither is 0, and both or neither is 4, a packet gets the same number and leaves the same session
-- (`told-apart`)
abbrev pub ToldApart : Type 0
ToldApart =
    (s : Session) (from : Side) (p : Content) (x y : ℕ) → eqb x 0 ≡ eqb y 0 → eqb x 4 ≡ eqb y 4
    → judged s (event_of from (with_status x p)) ≡ judged s (event_of from (with_status y p))

-- the status of a packet that is no reply is not looked at: of a guest's, and of data on a stream (`status-unread`)
abbrev pub StatusUnread : Type 0
StatusUnread =
    (s : Session) (from : Side) (p : Content) (x : ℕ) → wire_number (link_of from s) p ≡ 0 → is_reply from p.kind (inward_of p) ≡ false
    → judged s (event_of from (with_status x p)) ≡ judged s (event_of from p)

-- ---- an error

-- the place of the request that it answers is free, every other place is as it was
pub record FreesOwn (s : Session) (p : Content) (next : Session) : Type 0 where
  pub place : ℕ
  pub answers : AnsweredBy s.requests p place
  pub freed : place_at next.requests place ≡ free_place
  pub others : (j : ℕ) → (j ≡ place → ⊥) → place_at next.requests j ≡ place_at s.requests j

pub record Errs (s : Session) (p : Content) (next : Session) : Type 0 where
  -- an unsolicited one answers no request and frees no place
  pub places : FreesOwn s p next ⊎ (Unsolicited s.requests p × (next.requests ≡ s.requests))
  -- no stream opens; that of which a 14, 17 or 27 speaks closes, and no other moves
  pub streams : (r : ℕ) → r < 32 → (row_at next.rows r).streaming ≡ cond (reports_on s p r) false (row_at s.rows r).streaming

-- of a reply that came out of the wire checks, passes, and has any status but 0, to a session whose live requests have different ids (43 refuses
-- others); what becomes of the device and of the watch is `Moved` and `WatchMoved`
abbrev pub ErrorFrees : Type 0
ErrorFrees =
    (s : Session) (from : Side) (p : Content) → wire_number (link_of from s) p ≡ 0 → is_reply from p.kind (inward_of p) ≡ true
    → ids_differ s.requests ≡ true → (judged s (event_of from p)).number ≡ 0 → succeeded p ≡ false
    → Errs s p (judged s (event_of from p)).session

-- ---- a status that answers no request

-- with a device, a 14, 17 or 27 passes exactly with id 0 and status 4; every other one is 33
abbrev pub StallAlone : Type 0
StallAlone =
    (s : Session) (from : Side) (p : Content) → wire_number (link_of from s) p ≡ 0 → among (14 ∷ 17 ∷ 27 ∷ []) p.kind ≡ true
    → s.head.present ≡ true → ((i : ℕ) → AnsweredBy s.requests p i → ⊥)
    → (judged s (event_of from p)).number ≡ cond (eqb p.id 0 && stalled p) 0 33
