-- What a packet that passes does, as a change: by its class and, for a reply, by the request that it answers.
-- Assumes nothing: these are definitions.
use Rattle.std.specs.Prelude.{ℕ, Bool, true, false, cond, ◌&&◌, eqb, Option, Some, None, Result, Ok, Err}
use Rattle.header.specs.declared.Refusal.{Refusal}
use Rattle.header.specs.Refusal as refusals
use Rattle.device.specs.declared.Head.{Head}
use Rattle.device.specs.declared.Rows.{Rows}
use Rattle.device.specs.declared.Scope.{Scope}
use Rattle.device.specs.declared.Scope.TheVariants.{NoRow, EveryRow, OfInterface}
use Rattle.requests.specs.declared.Requests.{Requests}
use Rattle.requests.specs.Requests.{places, Free, lowest}
use Rattle.events.specs.Meaning.{Class, Hello, Connect, Interfaces, Endpoints, Disconnect, Reset, Ack, Cancel, Filter, StartRequest, PlainRequest, StreamStatus, PlainReply, StreamOut, StreamIn}
use Rattle.events.specs.Event.{Event, endpoint_in}
use Rattle.events.specs.Status.{is_success, is_stall}
use Rattle.checks.specs.declared.Change.{Change}
use Rattle.checks.specs.declared.Change.TheVariants as changes
use Rattle.checks.specs.declared.StreamMove.{StreamMove}
use Rattle.checks.specs.declared.StreamMove.TheVariants.{Opens, Closes, Stalls}
use Rattle.checks.specs.Checks.{Match, Unmatched, Matched, match_of, number_of}

-- "a status opens if it answers a start with 0 and otherwise closes"; at a stall the row's ids begin anew besides. A plain reply names no row that
-- it could move.
abbrev pub move_by : ℕ → Bool → StreamMove
move_by status start = cond (is_stall status) Stalls (cond (is_success status && start) Opens Closes)

abbrev pub answers_start : Event → Match → Bool
answers_start e Unmatched = false
answers_start e (Matched i q) = eqb q.kind e.answers.first

abbrev pub move_of : Event → Match → StreamMove
move_of e m = move_by e.status (answers_start e m)

abbrev pub is_opening : StreamMove → Bool
is_opening Opens = true
is_opening Closes = false
is_opening Stalls = false

-- it closes by a stall
abbrev pub is_stalling : StreamMove → Bool
is_stalling Opens = false
is_stalling Closes = false
is_stalling Stalls = true

-- "8 with status 0 to a 6 frees every data request .. and closes all streams. 11 with status 0 to a 9 does so for rows other than 0
-- and 16 of that interface."
abbrev pub scope_of : Event → Match → Scope
scope_of e Unmatched = NoRow
scope_of e (Matched i q) =
    cond (is_success e.status) (cond (eqb q.kind 6) EveryRow (cond (eqb q.kind 9) (OfInterface e.request.target) NoRow)) NoRow

-- a place of the table, 96 where there is none
abbrev pub place_or : Option ℕ → ℕ
place_or None = places
place_or (Some i) = i

-- the place of the request that a reply answers: "A passed reply frees the place"
abbrev pub place_in : Match → Option ℕ
place_in Unmatched = None
place_in (Matched i q) = Some i

-- "take the lowest free place, with id, kind, endpoint or interface byte, and length"; "a passed start opens"
abbrev pub change_by : Class → Requests → Event → Match → Change
change_by Hello t e m = changes.Hello e.word
change_by Connect t e m = changes.Connect
change_by Interfaces t e m = changes.Interfaces
change_by Endpoints t e m = changes.Endpoints
change_by Disconnect t e m = changes.Disconnect
change_by Reset t e m = changes.Reset
change_by Ack t e m = changes.Acknowledge
change_by Cancel t e m = changes.NoChange
change_by Filter t e m = changes.NoChange
change_by StartRequest t e m = changes.TakeAndOpen (place_or (lowest t Free)) e.request e.typed
change_by PlainRequest t e m = changes.Take (place_or (lowest t Free)) e.request
change_by StreamStatus t e m = changes.Release (place_in m) e.typed (move_of e m) (scope_of e m)
change_by PlainReply t e m = changes.Release (place_in m) e.typed (move_of e m) (scope_of e m)
change_by StreamOut t e m = changes.NoChange
-- "watch the ids of passed host packets of kinds 102, 103 IN and 104"
change_by StreamIn t e m = changes.Seen (endpoint_in e.typed) e.request.id

abbrev pub change_for : Requests → Event → Match → Change
change_for t e m = change_by e.class t e m

-- a ruling, with the number for why it is refused
abbrev pub numbered : Result Change Refusal → Result Change ℕ
numbered (Ok c) = Ok c
numbered (Err r) = Err (refusals.number_of r)

-- a packet is refused by its number, or passes with its change
abbrev pub ruled_by : ℕ → Change → Result Change ℕ
ruled_by n c = cond (eqb n 0) (Ok c) (Err n)

unfoldable pub ruling_of : Head → Rows → Requests → Event → Result Change ℕ
ruling_of h rows t e = ruled_by (number_of h rows t e) (change_for t e (match_of t e))
