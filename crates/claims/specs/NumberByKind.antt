-- The number of a packet, by kind numbers: the first of document 01's sentences that refuses it, in the order of their numbers but for 27 before
-- 26. `NumberBy` says that the judge gives this number. Some tests of head, rows and table are those of `checks`; `Allowed.antt` has them in words.
-- Assumes nothing: these are definitions and a statement.
use Rattle.std.specs.Prelude.{ℕ, Bool, false, cond, not, ◌&&◌, ◌||◌, List, [], ◌∷◌, ◌≡◌, eqb, leb, ltb, Option, Some, None, is_some}
use Rattle.scan.specs.Scan.{first_at}
use Rattle.header.specs.declared.Side.{Side}
use Rattle.device.specs.declared.Head.{Head}
use Rattle.device.specs.Device.{bulk, state_at}
use Rattle.requests.specs.declared.Request.{Request}
use Rattle.requests.specs.declared.Requests.{Requests}
use Rattle.requests.specs.Requests.{Place, places_of, place_at, lowest, Free, Id, Settling}
use Rattle.header.specs.Link.{is_guest}
use Rattle.kinds.specs.Content.{Content}
use Rattle.kinds.specs.Number.{wire_number}
use Rattle.events.specs.declared.Typed.{Typed}
use Rattle.events.specs.declared.Typed.TheVariants.{Untyped, OfEndpoint, OfMask}
use Rattle.events.specs.Event.{event_of}
use Rattle.checks.specs.Checks.{is_begun, is_done, mistyped_by, Check, ◌when◌, first_of}
use Rattle.session.specs.declared.Session.{Session}
use Rattle.session.specs.Session.{link_of}
use Rattle.session.specs.Step.{judged}
use Rattle.claims.specs.Allowed.{among, is_request, is_reply, answers_kind, carries_target, wants, comes_on_stream, endpoint_named, inward_of, reply_target, count_of, stalled, said}

-- ---- what the sentences ask

-- 26: "1 needs two .. With a device, 1 gets 26"; "4 needs one or two"; "24 clears it; when none is owed, 26"
abbrev pub disordered : ℕ → Head → Bool
disordered kind h =
    cond (eqb kind 1) (h.present || not (is_done h.introduction))
    (cond (eqb kind 4) (not h.present && not (is_begun h.introduction)) (cond (eqb kind 24) (not h.owed) false))

-- 28: the row of its endpoint, with the type that it wants of it; or the rows of a mask, all of them bulk
abbrev pub row_by : Option ℕ → Content → Typed
row_by None p = Untyped
row_by (Some k) p = OfEndpoint (endpoint_named p) k

abbrev pub typed_by : Side → Content → Typed
typed_by from p = cond (among (18 ∷ 19 ∷ []) p.kind) (OfMask (said "mask" p) bulk) (row_by (wants from p.kind (inward_of p)) p)

-- a request is one that the reply answers: its id, its kind and, where both carry one, its endpoint or interface
abbrev pub answers_by : Content → Request → Bool
answers_by p q = eqb q.id p.id && answers_kind p.kind q.kind && (not (carries_target p.kind) || eqb q.target (reply_target p))

-- the lowest place whose live request the reply answers
abbrev pub answered_at : Requests → Content → Option ℕ
answered_at t p = first_at (λ (q : Place). q.live && answers_by p q.request) 0 (places_of t)

-- 34: the reply is longer than the request that was found asked for
abbrev pub longer_than : Requests → Content → Option ℕ → Bool
longer_than t p None = false
longer_than t p (Some i) = ltb (place_at t i).request.length (count_of p)

-- ---- the sentences

-- each sentence with its number, in the order in which they are asked
unfoldable pub checks_by : Session → Side → Content → List Check
checks_by s from p =
    25 when (not (among (0 ∷ 1 ∷ 4 ∷ 5 ∷ 22 ∷ 23 ∷ 24 ∷ []) p.kind) && not s.head.present)
    ∷ 27 when (among (1 ∷ 4 ∷ 5 ∷ []) p.kind && s.head.owed)
    ∷ 26 when disordered p.kind s.head
    ∷ 28 when mistyped_by s.rows (typed_by from p)
    ∷ 29 when (is_guest from && leb 100 p.kind && leb p.kind 103 && is_some (lowest s.requests Settling))
    ∷ 30 when (comes_on_stream from p.kind (inward_of p) && not (state_at s.rows (endpoint_named p)).streaming)
    ∷ 31 when (is_request from p.kind && is_some (lowest s.requests (Id p.id)))
    ∷ 32 when (is_request from p.kind && not (is_some (lowest s.requests Free)))
    ∷ 33 when (is_reply from p.kind (inward_of p) && not (is_some (answered_at s.requests p)) && not (among (14 ∷ 17 ∷ 27 ∷ []) p.kind && eqb p.id 0 && stalled p))
    ∷ 34 when (is_reply from p.kind (inward_of p) && longer_than s.requests p (answered_at s.requests p))
    ∷ []

-- of a packet that came out of the wire checks
abbrev pub NumberBy : Type 0
NumberBy =
    (s : Session) (from : Side) (p : Content) → wire_number (link_of from s) p ≡ 0 → (judged s (event_of from p)).number ≡ first_of (checks_by s from p)
