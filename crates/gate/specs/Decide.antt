-- A call decided over a session, before its change is made.
-- Assumes nothing: these are definitions.
use Rattle.std.specs.Prelude.{ℕ, Bool, cond, List, ◌++◌, ◌≡◌, take, eqb, Result, Ok, Err, Some, None}
use Rattle.header.specs.declared.Side.{Side}
use Rattle.header.specs.declared.Header.{Header}
use Rattle.header.specs.declared.Refusal.{Refusal}
use Rattle.header.specs.Link.{shared_set}
use Rattle.kinds.specs.Codec.{decode, read_number}
use Rattle.packet.specs.declared.Packet.{Packet}
use Rattle.packet.specs.Packet.{content_of}
use Rattle.frame.specs.declared.Location.{Location}
use Rattle.frame.specs.Cut.{Cut, more, bad, whole}
use Rattle.frame.specs.Frame.{cut_at, bytes_at}
use Rattle.device.specs.declared.Rows.{Rows}
use Rattle.device.specs.Device.{start_rows}
use Rattle.events.specs.Event.{event_of, case_of}
use Rattle.checks.specs.declared.Change.{Change}
use Rattle.checks.specs.declared.Change.TheVariants.{NoChange}
use Rattle.checks.specs.Ruled.{ruled}
use Rattle.session.specs.declared.Session.{Session}
use Rattle.session.specs.Session.{link_of, held_to}
use Rattle.session.specs.Step.{applied}
use Rattle.gate.specs.declared.Decided.{Decided}
use Rattle.gate.specs.Verdict.{Handed}
use Rattle.gate.specs.Offer.{Outcome, held_bytes, barred, offer_of, outcome, body_in}

-- ---- a decision

-- a call by which no packet passes
abbrev pub ended_with : ℕ → ℕ → Location → ℕ → ℕ → Bool → Decided
ended_with n taken location size held stopped =
    record { answer = record { number = n; taken = taken; location = location; size = size; handed = None }; held = held; stopped = stopped; change = NoChange }

-- a call by which a packet passes
abbrev pub passed_with : ℕ → Location → ℕ → Header → Packet → Bool → Change → Decided
passed_with taken location size h p stopped c =
    record { answer = record { number = 0; taken = taken; location = location; size = size; handed = Some (h, p) }; held = 0; stopped = stopped; change = c }

-- ---- the call that a decision comes to

-- the rows that a packet which is handed out announces, by its body
abbrev pub rows_handed : Side → ℕ → ℕ → Handed → List ℕ → Rows
rows_handed from caps id None body = start_rows
rows_handed from caps id (Some (h, p)) body = (event_of from (content_of caps id p body)).rows

abbrev pub id_in : Handed → ℕ
id_in None = 0
id_in (Some (h, p)) = h.id

-- and by its bytes
abbrev pub rows_in : Side → Session → Handed → List ℕ → Rows
rows_in from s handed bytes = rows_handed from (shared_set (link_of from s)) (id_in handed) handed (body_in handed bytes)

abbrev pub session_after : Side → Session → Decided → Rows → Session
session_after from s d new = applied (record { head = held_to from d.held d.stopped s.head; rows = s.rows; requests = s.requests; watch = s.watch }) from d.change new

unfoldable pub outcome_by : Side → Session → Decided → List ℕ → List ℕ → Outcome
outcome_by from s d piece hold =
    outcome (link_of from s) (record { session = session_after from s d (rows_in from s d.answer.handed (bytes_at d.answer.location d.answer.size piece hold)); answer = d.answer }) piece hold

-- ---- the change of a call

-- a packet that is refused changes nothing
abbrev pub change_in : Result Change Refusal → Change
change_in (Err r) = NoChange
change_in (Ok c) = c

-- a whole packet that the wire checks let through is ruled on by its case
abbrev pub packet_change : Side → Session → List ℕ → Change
packet_change from s bytes =
    cond (eqb (read_number (link_of from s) bytes) 0)
    (change_in (ruled s.head s.rows s.requests (case_of (event_of from (decode (link_of from s) bytes)))))
    NoChange

abbrev pub change_by_cut : Side → Session → List ℕ → Cut → Change
change_by_cut from s bytes more = NoChange
change_by_cut from s bytes (bad n) = NoChange
change_by_cut from s bytes (whole n) = packet_change from s (take n bytes)

unfoldable pub change_at : Side → Session → List ℕ → List ℕ → Change
change_at from s hold piece =
    cond (eqb (barred from s hold) 0)
    (change_by_cut from s (held_bytes from s hold ++ piece) (cut_at (link_of from s) (held_bytes from s hold ++ piece)))
    NoChange

-- ---- what a decision is

-- with its change made, the decision comes to the call's outcome; and its change is the call's
pub record Decides (from : Side) (s : Session) (d : Decided) (hold piece after : List ℕ) : Type 0 where
  pub comes : outcome_by from s d piece after ≡ offer_of from s hold piece
  pub change : d.change ≡ change_at from s hold piece
