-- C-12 of the gate's calls: "every status byte is allowed, 0 is success and everything else an error". No status decides a wire check, of the
-- reader (`any-status-read`) or of the writer (`any-status-put`); a reply to a request that waits passes whatever its status (`answer-in-gate`), and
-- with an error it frees the place of that request (`error-in-gate`); a 14, 17 or 27 that answers none passes exactly as a stall with id 0
-- (`stall-in-gate`).
-- Assumes nothing: these are the statements that `proofs/Statuses.antt` proves.
use Rattle.std.specs.Prelude.{ℕ, ◌≤◌, true, false, cond, ◌&&◌, List, [], ◌∷◌, ◌≡◌, eqb}
use Rattle.header.specs.declared.Side.{Side}
use Rattle.kinds.specs.Content.{Content}
use Rattle.kinds.specs.Number.{wire_number}
use Rattle.kinds.specs.Formed.{Formed}
use Rattle.kinds.specs.Codec.{or_next}
use Rattle.kinds.specs.AnyStatus.{with_status}
use Rattle.requests.specs.Requests.{place_at}
use Rattle.checks.specs.Checks.{first_of}
use Rattle.session.specs.declared.Session.{Session}
use Rattle.session.specs.Session.{link_of}
use Rattle.claims.specs.Allowed.{among, is_reply, inward_of, count_of, AnsweredBy, succeeded, stalled}
use Rattle.claims.specs.NumberByKind.{checks_by}
use Rattle.claims.specs.Statuses.{Errs}
use Rattle.gate.specs.Verdict.{held_as}
use Rattle.gate.specs.Offer.{offer_of}
use Rattle.gate.specs.Write.{write_by}
use Rattle.demands.specs.PassesInWords.{packet_in, Arrives}

-- A packet that becomes whole gets the number that the wire checks give it with any other status in its place; where that is 0, the first of the
-- session checks that holds.
abbrev pub AnyStatusRead : Type 0
AnyStatusRead = (from : Side) (s : Session) (hold piece : List ℕ) (x : ℕ) → Arrives from s hold piece
    → (offer_of from s hold piece).number ≡ or_next (wire_number (link_of from s) (with_status x (packet_in from s hold piece))) (first_of (checks_by s from (packet_in from s hold piece)))

-- A packet is written, or refused by the same number, whatever its status.
abbrev pub AnyStatusPut : Type 0
AnyStatusPut = (from : Side) (s : Session) (p : Content) (x room : ℕ) → write_by from s (with_status x p) room ≡ write_by from s p room

-- With a device, a reply passes that is formed, answers a request that waits and is no longer than it asked for, whatever its status.
abbrev pub AnswerInGate : Type 0
AnswerInGate = (from : Side) (s : Session) (hold piece : List ℕ) → Arrives from s hold piece → Formed (link_of from s) (packet_in from s hold piece)
    → is_reply from (packet_in from s hold piece).kind (inward_of (packet_in from s hold piece)) ≡ true → s.head.present ≡ true
    → (i : ℕ) → AnsweredBy s.requests (packet_in from s hold piece) i → count_of (packet_in from s hold piece) ≤ (place_at s.requests i).request.length
    → (offer_of from s hold piece).number ≡ 0

-- A reply that passes with any status but 0: what becomes of places and streams in the session that the call gives back.
abbrev pub ErrorInGate : Type 0
ErrorInGate = (from : Side) (s : Session) (hold piece : List ℕ) → (offer_of from s hold piece).number ≡ 0
    → is_reply from (packet_in from s hold piece).kind (inward_of (packet_in from s hold piece)) ≡ true → succeeded (packet_in from s hold piece) ≡ false
    → Errs (held_as from 0 s) (packet_in from s hold piece) (offer_of from s hold piece).session

-- With a device, a 14, 17 or 27 that is formed and answers no request passes exactly with id 0 and status 4, and every other one is 33.
abbrev pub StallInGate : Type 0
StallInGate = (from : Side) (s : Session) (hold piece : List ℕ) → Arrives from s hold piece → Formed (link_of from s) (packet_in from s hold piece)
    → among (14 ∷ 17 ∷ 27 ∷ []) (packet_in from s hold piece).kind ≡ true → s.head.present ≡ true
    → ((i : ℕ) → AnsweredBy s.requests (packet_in from s hold piece) i → ⊥)
    → (offer_of from s hold piece).number ≡ cond (eqb (packet_in from s hold piece).id 0 && stalled (packet_in from s hold piece)) 0 33
