-- What a change does to the session, and what the judge answers.
-- Assumes nothing: these are definitions.
use Rattle.std.specs.Prelude.{ℕ, Bool, true, false, cond, eqb, ltb, Option, Some, None}
use Rattle.header.specs.Link.{is_guest}
use Rattle.header.specs.declared.Side.{Side}
use Rattle.device.specs.declared.Introduction.{Introduction}
use Rattle.device.specs.declared.Introduction.TheVariants.{Unintroduced, One, Two}
use Rattle.device.specs.declared.Head.{Head}
use Rattle.device.specs.declared.Rows.{Rows}
use Rattle.device.specs.declared.Scope.{Scope}
use Rattle.device.specs.declared.Scope.TheVariants.{EveryRow}
use Rattle.device.specs.Device.{start_rows, replaced, stream_to, closed}
use Rattle.requests.specs.declared.Requests.{Requests}
use Rattle.requests.specs.Requests.{places, with_request, released, cleared}
use Rattle.watch.specs.declared.Watch.{Watch}
use Rattle.watch.specs.Watch.{seen_on, begun_on, forgotten}
use Rattle.events.specs.declared.Typed.{Typed}
use Rattle.events.specs.declared.Typed.TheVariants.{Untyped, OfEndpoint, OfMask}
use Rattle.events.specs.Event.{Event}
use Rattle.checks.specs.declared.Change.{Change}
use Rattle.checks.specs.declared.Change.TheVariants.{NoChange, Seen, Hello as Greet, Connect, Interfaces, Endpoints, Disconnect, Reset, Acknowledge, Take, TakeAndOpen, Release}
use Rattle.checks.specs.Checks.{Match, match_of, number_for}
use Rattle.checks.specs.Change.{is_opening, is_stalling, change_for}
use Rattle.session.specs.declared.Session.{Session}
use Rattle.session.specs.Session.{shared_in, is_wide}

-- ---- the head

-- the first capability word of a side's hello; one that has passed stays as it is
abbrev pub kept_hello : Option ℕ → ℕ → Option ℕ
kept_hello None word = Some word
kept_hello (Some w) word = Some w

abbrev pub hellos_to : Head → Option ℕ → Option ℕ → Head
hellos_to h guest host =
    record { guest = guest; host = host; stopped = h.stopped; held = h.held; present = h.present; introduction = h.introduction; owed = h.owed }

abbrev pub hello_to : Head → Side → ℕ → Head
hello_to h from word =
    hellos_to h (cond (is_guest from) (kept_hello h.guest word) h.guest) (cond (is_guest from) h.host (kept_hello h.host word))

abbrev pub device_to : Head → Bool → Introduction → Bool → Head
device_to h present i owed =
    record { guest = h.guest; host = h.host; stopped = h.stopped; held = h.held; present = present; introduction = i; owed = owed }

-- "With no device" the introduction goes on; with one it stays
abbrev pub introduced : Introduction → Head → Head
introduced i h = device_to h h.present (cond h.present h.introduction i) h.owed

abbrev pub head_after : Head → Side → Change → Head
head_after h from NoChange = h
head_after h from (Seen e id) = h
head_after h from (Greet word) = hello_to h from word
-- "1 needs two and makes the device present"
head_after h from Connect = device_to h true h.introduction h.owed
-- "5 sets the introduction to one; 4 .. sets two"
head_after h from Interfaces = introduced Two h
head_after h from Endpoints = introduced One h
-- "2 .. returns to the start, and with bit 3 an ack is owed"
head_after h from Disconnect = device_to h false Unintroduced (shared_in h 3)
head_after h from Reset = h
-- "24 clears it"
head_after h from Acknowledge = device_to h h.present h.introduction false
head_after h from (Take i q) = h
head_after h from (TakeAndOpen i q typed) = h
head_after h from (Release i typed stream scope) = h

-- ---- the rows

-- a stream opened or closed: "only where the row's type is that kind's"
abbrev pub stream_by : Rows → Typed → Bool → Rows
stream_by rows Untyped b = rows
stream_by rows (OfEndpoint e ty) b = stream_to rows e ty b
stream_by rows (OfMask m ty) b = rows

-- new: the rows that the packet announces
abbrev pub rows_after : Rows → Change → Rows → Rows
rows_after rows NoChange new = rows
rows_after rows (Seen e id) new = rows
rows_after rows (Greet word) new = rows
rows_after rows Connect new = rows
rows_after rows Interfaces new = rows
-- "5 replaces the rows and closes streams whose row changes type."
rows_after rows Endpoints new = replaced new rows
rows_after rows Disconnect new = start_rows
-- "3 .. closes all streams"
rows_after rows Reset new = closed rows EveryRow
rows_after rows Acknowledge new = rows
rows_after rows (Take i q) new = rows
-- "a passed start opens; a status opens .. and otherwise closes"
rows_after rows (TakeAndOpen i q typed) new = stream_by rows typed true
rows_after rows (Release i typed stream scope) new = closed (stream_by rows typed (is_opening stream)) scope

-- ---- the requests

-- the request at a place ends, and so do the data requests on the rows in scope; none where there is no such place
abbrev pub released_at : Requests → Option ℕ → Rows → Scope → Requests
released_at t None rows scope = t
released_at t (Some i) rows scope = cond (ltb i places) (released t i rows scope) t

abbrev pub requests_after : Requests → Rows → Change → Requests
requests_after t rows NoChange = t
requests_after t rows (Seen e id) = t
requests_after t rows (Greet word) = t
requests_after t rows Connect = t
requests_after t rows Interfaces = t
requests_after t rows Endpoints = t
-- "2 .. frees every place", "3 frees every place"
requests_after t rows Disconnect = cleared t
requests_after t rows Reset = cleared t
requests_after t rows Acknowledge = t
requests_after t rows (Take i q) = with_request t i q
requests_after t rows (TakeAndOpen i q typed) = with_request t i q
-- "A passed reply frees the place", and the data requests that end with it
requests_after t rows (Release place typed stream scope) = released_at t place rows scope

-- ---- the watch

-- the ids of an endpoint begin anew
abbrev pub begun_by : Watch → Typed → Watch
begun_by w Untyped = w
begun_by w (OfEndpoint e ty) = begun_on w e
begun_by w (OfMask m ty) = w

-- wide: ids have 64 bits
abbrev pub watch_after : Watch → Bool → Change → Watch
watch_after w wide NoChange = w
-- "watch the ids of passed host packets of kinds 102, 103 IN and 104"
watch_after w wide (Seen e id) = seen_on wide id w e
watch_after w wide (Greet word) = w
watch_after w wide Connect = w
watch_after w wide Interfaces = w
watch_after w wide Endpoints = w
-- "2 .. returns to the start", but "counts and gaps .. outlast a disconnect"
watch_after w wide Disconnect = forgotten w
watch_after w wide Reset = w
watch_after w wide Acknowledge = w
watch_after w wide (Take i q) = w
-- "after each passed start, or 14, 17 or 27 with status 4, on the row, 0 is expected"
watch_after w wide (TakeAndOpen i q typed) = begun_by w typed
watch_after w wide (Release i typed stream scope) = cond (is_stalling stream) (begun_by w typed) w

-- ---- the session after a packet that passed, and the judge's answer

unfoldable pub applied : Session → Side → Change → Rows → Session
applied s from c new =
    record {
      head = head_after s.head from c;
      rows = rows_after s.rows c new;
      requests = requests_after s.requests s.rows c;
      watch = watch_after s.watch (is_wide s.head) c;
    }

unfoldable pub next_for : Session → Event → Match → Session
next_for s e m = applied s e.sender (change_for s.requests e m) e.rows

-- the session after a packet, and the packet's number: 0 where it passed
pub record Judged : Type 0 where
  pub session : Session
  pub number : ℕ

-- "A refused packet changes no endpoint, stream or outstanding request": it leaves the session as it was
abbrev pub judged_by : Session → Event → Match → ℕ → Judged
judged_by s e m n = cond (eqb n 0) (record { session = next_for s e m; number = 0 }) (record { session = s; number = n })

unfoldable pub judged : Session → Event → Judged
judged s e = judged_by s e (match_of s.requests e) (number_for s.head s.rows s.requests e (match_of s.requests e))
