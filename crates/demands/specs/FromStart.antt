-- 43 is "session not one the gate can leave": from a session at its start, with two holding buffers that 41 allows, no list of reader calls meets
-- 41 or 43 (`NeverRefused`), nor does a writer call meet 43 (`NeverRefusedWrite`). So demand 3 starts from every session that the gate leads to
-- (`BegunStarts`). In each of them the free places are as at the start (`BegunClean`), so that a 2 or 3 leaves the requests as at the start (`BegunEmptied`).
-- Assumes nothing: these are definitions and statements.
use Rattle.std.specs.Prelude.{ℕ, ◌≤◌, Bool, true, false, List, [], ◌∷◌, ◌≡◌, length}
use Rattle.header.specs.declared.Side.{Side}
use Rattle.header.specs.Link.{passed, opposite}
use Rattle.requests.specs.Requests.{fresh_requests}
use Rattle.requests.specs.Clean.{Clean}
use Rattle.kinds.specs.Content.{Content}
use Rattle.session.specs.Session.{fresh_session}
use Rattle.gate.specs.Verdict.{held_of}
use Rattle.gate.specs.Write.{write_by}
use Rattle.claims.specs.Allowed.{among}
use Rattle.demands.specs.Demand3.{GateState, Starts}
use Rattle.demands.specs.CallLists.{Both, ReaderCall, answer_to, next, final}
use Rattle.demands.specs.LateReplies.{packet_read}

-- a session at its start, with two holding buffers
abbrev pub at_start : (Side → List ℕ) → Both
at_start hold = record { session = fresh_session; hold = hold }

-- ---- no call meets 41 or 43

abbrev pub refused_state : ℕ → Bool
refused_state n = among (41 ∷ 43 ∷ []) n

-- no reader call does, after any calls
abbrev pub NeverRefused : Type 0
NeverRefused =
    (hold : Side → List ℕ) → ((d : Side) → 32784 ≤ length (hold d)) → (cs : List ReaderCall) (c : ReaderCall)
    → refused_state (answer_to (final (at_start hold) cs) c).number ≡ false

-- nor does a writer call meet 43
abbrev pub NeverRefusedWrite : Type 0
NeverRefusedWrite =
    (hold : Side → List ℕ) → ((d : Side) → 32784 ≤ length (hold d)) → (cs : List ReaderCall) (d : Side) (p : Content) (room : ℕ)
    → write_by d (final (at_start hold) cs).session p room ≡ 43 → ⊥

-- ---- demand 3 starts from every such session

-- the session and the buffers as a direction sees them
abbrev pub state_of : Side → Both → GateState
state_of d x = record { session = x.session; hold = x.hold d; other = x.hold (opposite d) }

-- after any calls, where the session isn't stopped, both hellos have passed and the direction is "at a packet's start"
abbrev pub BegunStarts : Type 0
BegunStarts =
    (hold : Side → List ℕ) → ((d : Side) → 32784 ≤ length (hold d)) → (cs : List ReaderCall) (d : Side)
    → (final (at_start hold) cs).session.head.stopped ≡ false → passed (final (at_start hold) cs).session.head.guest ≡ true → passed (final (at_start hold) cs).session.head.host ≡ true
    → held_of d (final (at_start hold) cs).session ≡ 0 → Starts d (state_of d (final (at_start hold) cs))

-- ---- "A freed place is as at the start and used again."

-- after any calls, the places that are not live are as at the start
abbrev pub BegunClean : Type 0
BegunClean = (hold : Side → List ℕ) (cs : List ReaderCall) → Clean (final (at_start hold) cs).session.requests

-- "2 .. frees every place, returns to the start", "3 frees every place": a call that passes one leaves the table of the start
abbrev pub BegunEmptied : Type 0
BegunEmptied =
    (hold : Side → List ℕ) (cs : List ReaderCall) (c : ReaderCall) → (answer_to (final (at_start hold) cs) c).number ≡ 0
    → among (2 ∷ 3 ∷ []) (packet_read (final (at_start hold) cs) c).kind ≡ true → (next (final (at_start hold) cs) c).session.requests ≡ fresh_requests
