-- What is said of requests and replies: a request that passes takes the lowest free place (`RequestKeeps`). With a device, a reply passes exactly
-- when a live request matches it and asked for at least its length, or it is unsolicited (`ReplyPasses`); it consumes that one request
-- (`ReplyConsumes`), and none with its id waits then (`AnsweredAbsent`); where none waits, it is refused, if not unsolicited, and frees nothing (`Late`).
-- Assumes nothing: these are definitions and statements.
use Rattle.std.specs.Prelude.{ℕ, ◌≤◌, ◌<◌, true, false, List, ◌≡◌, ◌⊎◌, ◌↔◌}
use Rattle.header.specs.declared.Side.{Side}
use Rattle.header.specs.declared.Side.TheVariants.{Guest}
use Rattle.device.specs.Device.{touched}
use Rattle.device.specs.declared.Scope.TheVariants.{OfInterface}
use Rattle.requests.specs.declared.Requests.{Requests}
use Rattle.requests.specs.Requests.{place_at, free_place, taken, is_data, ids_differ}
use Rattle.requests.specs.Clean.{Zeroed}
use Rattle.kinds.specs.Content.{Value, Content}
use Rattle.kinds.specs.Number.{wire_number}
use Rattle.events.specs.Event.{Event, event_of}
use Rattle.session.specs.declared.Session.{Session}
use Rattle.session.specs.Session.{link_of}
use Rattle.session.specs.Step.{judged}
use Rattle.claims.specs.Allowed.{is_request, is_reply, inward_of, count_of, request_of, AnsweredBy, Unsolicited, succeeded}

-- ---- what is said of a request

-- it takes the lowest free place, and no other place changes
pub record TakesPlace (s : Session) (p : Content) (next : Session) : Type 0 where
  pub place : ℕ
  pub within : place < 96
  pub free : (place_at s.requests place).live ≡ false
  pub lower : (j : ℕ) → j < place → (place_at s.requests j).live ≡ true
  pub holds : place_at next.requests place ≡ taken (request_of p)
  pub others : (j : ℕ) → (j ≡ place → ⊥) → place_at next.requests j ≡ place_at s.requests j

-- of a packet that came out of the wire checks
abbrev pub RequestKeeps : Type 0
RequestKeeps =
    (s : Session) (from : Side) (p : Content) → wire_number (link_of from s) p ≡ 0
    → is_request from p.kind ≡ true → (judged s (event_of from p)).number ≡ 0 → TakesPlace s p (judged s (event_of from p)).session

-- ---- what is said of a reply

-- the data request at place j ends with the one at place i: "8 with status 0 to a 6 frees every data request (kind 100, 101 or 103) ..
-- 11 with status 0 to a 9 does so for rows other than 0 and 16 of that interface"
pub record EndsWith (s : Session) (p : Content) (i j : ℕ) : Type 0 where
  pub live : (place_at s.requests j).live ≡ true
  pub kind : is_data (place_at s.requests j).request.kind ≡ true
  pub status : succeeded p ≡ true
  pub scope : ((place_at s.requests i).request.kind ≡ 6)
      ⊎ (((place_at s.requests i).request.kind ≡ 9)
      × (touched s.rows (OfInterface (place_at s.requests i).request.target) (record { 0 = (place_at s.requests j).request.target }) ≡ true))

-- the reply is handed to the request at place i
pub record Consumes (s : Session) (p : Content) (next : Session) (i : ℕ) : Type 0 where
  -- a live one with its id, of a kind that it answers, on its endpoint or interface; and the reply is not longer
  pub answers : AnsweredBy s.requests p i
  pub short : count_of p ≤ (place_at s.requests i).request.length
  -- no other live request has that id
  pub only : (j : ℕ) → j < 96 → (place_at s.requests j).live ≡ true → (place_at s.requests j).request.id ≡ p.id → j ≡ i
  -- its place is free, as at the start; every other place stays as it was, but for the data requests that end with a setting
  pub freed : place_at next.requests i ≡ free_place
  pub others : (j : ℕ) → (j ≡ i → ⊥) → (place_at next.requests j ≡ place_at s.requests j) ⊎ (EndsWith s p i j × (place_at next.requests j ≡ free_place))
  -- and those are freed
  pub ended : (j : ℕ) → (j ≡ i → ⊥) → EndsWith s p i j → place_at next.requests j ≡ free_place
  -- "A freed place is as at the start": nothing is left of the request that was there
  pub zeroed : Zeroed next.requests i
  pub ended-zeroed : (j : ℕ) → EndsWith s p i j → Zeroed next.requests j

-- with a device, of a reply no check asks but 33 and 34
abbrev pub ReplyPasses : Type 0
ReplyPasses =
    (s : Session) (from : Side) (p : Content) → wire_number (link_of from s) p ≡ 0 → is_reply from p.kind (inward_of p) ≡ true
    → ids_differ s.requests ≡ true → s.head.present ≡ true
    → ((judged s (event_of from p)).number ≡ 0) ↔ (((i : ℕ) × AnsweredBy s.requests p i × (count_of p ≤ (place_at s.requests i).request.length)) ⊎ Unsolicited s.requests p)

-- a reply that passes is handed to the one request that it answers, or it is unsolicited and handed to none
abbrev pub ReplyConsumes : Type 0
ReplyConsumes =
    (s : Session) (from : Side) (p : Content) → wire_number (link_of from s) p ≡ 0 → is_reply from p.kind (inward_of p) ≡ true
    → ids_differ s.requests ≡ true → (judged s (event_of from p)).number ≡ 0
    → ((i : ℕ) × Consumes s p (judged s (event_of from p)).session i) ⊎ (Unsolicited s.requests p × ((judged s (event_of from p)).session.requests ≡ s.requests))

-- ---- no request waits under an id

-- no live request has this id
abbrev pub NoLive : Requests → ℕ → Type 0
NoLive t n = (j : ℕ) → j < 96 → (place_at t j).live ≡ true → (place_at t j).request.id ≡ n → ⊥

-- the session after a packet
abbrev pub after_event : Session → Event → Session
after_event s e = (judged s e).session

-- once a reply has been handed to a request, no request with its id waits
abbrev pub AnsweredAbsent : Type 0
AnsweredAbsent =
    (s : Session) (from : Side) (p : Content) → wire_number (link_of from s) p ≡ 0 → is_reply from p.kind (inward_of p) ≡ true
    → ids_differ s.requests ≡ true → (judged s (event_of from p)).number ≡ 0 → (Unsolicited s.requests p → ⊥)
    → NoLive (judged s (event_of from p)).session.requests p.id

-- whatever ended the one request that waited under an id, none waits under it then
abbrev pub EndedAbsent : Type 0
EndedAbsent =
    (s : Session) (e : Event) (i : ℕ) → ids_differ s.requests ≡ true → (place_at s.requests i).live ≡ true → (place_at (after_event s e).requests i).live ≡ false → NoLive (after_event s e).requests (place_at s.requests i).request.id

-- a reply to a session in which no request with its id waits
pub record LateReply (s : Session) (from : Side) (p : Content) : Type 0 where
  pub without-device : s.head.present ≡ false → (judged s (event_of from p)).number ≡ 25
  pub refused : s.head.present ≡ true → (Unsolicited s.requests p → ⊥) → (judged s (event_of from p)).number ≡ 33
  pub kept : (judged s (event_of from p)).session.requests ≡ s.requests

-- where no request with its id waits, a reply is refused, but for an unsolicited status, and it frees nothing
abbrev pub Late : Type 0
Late =
    (s : Session) (from : Side) (p : Content) → wire_number (link_of from s) p ≡ 0 → is_reply from p.kind (inward_of p) ≡ true
    → NoLive s.requests p.id → LateReply s from p

-- "Cancel passes with any id and changes nothing."
abbrev pub CancelPasses : Type 0
CancelPasses =
    (s : Session) (id : ℕ) (fields : List Value) (rest : List ℕ) → s.head.present ≡ true
    → judged s (event_of Guest (record { kind = 21; id = id; fields = fields; rest = rest })) ≡ record { session = s; number = 0 }
