-- What 43 tests of a session, at its borders; and what a fresh session is, field by field, row by row and place by place.
-- Assumes nothing: these are definitions and statements. The proofs are by computation.
use Rattle.std.specs.Prelude.{ℕ, Bool, true, false, [], ◌∷◌, ◌≡◌, replicate, set, Option, Some, None}
use Rattle.device.specs.Device.{rows_of, start_rows, closed_row}
use Rattle.device.specs.declared.Introduction.TheVariants.{Unintroduced}
use Rattle.device.specs.declared.Rows.{Rows}
use Rattle.requests.specs.declared.Request.{Request}
use Rattle.requests.specs.declared.Requests.{Requests}
use Rattle.requests.specs.Requests.{places_of, fresh_requests, with_request, free_place}
use Rattle.watch.specs.Watch.{start_watch}
use Rattle.session.specs.declared.Session.{Session}
use Rattle.session.specs.Session.{fresh_session, unfit}

-- a session with these hellos and held counts, rows and requests
abbrev session_with : Option ℕ → Option ℕ → ℕ → ℕ → Rows → Requests → Session
session_with a b g h rows t =
    record { head = record { guest = a; host = b; stopped = false; held = record { guest = g; host = h }; present = true; introduction = Unintroduced; owed = false }; rows = rows; requests = t; watch = start_watch }

abbrev holding : Option ℕ → Option ℕ → ℕ → ℕ → Bool
holding a b g h = unfit (session_with a b g h start_rows fresh_requests)

-- "a held count over 32,783 or, own hello passed and other's not, over 0", of either direction
abbrev pub HeldCounts : Type 0
HeldCounts =
    (holding None None 32783 32783 ≡ false)
    × (holding None None 32784 0 ≡ true)
    × (holding None None 0 32784 ≡ true)
    × (holding (Some 0) (Some 0) 32783 32783 ≡ false)
    × (holding (Some 0) None 0 32783 ≡ false)
    × (holding (Some 0) None 1 0 ≡ true)
    × (holding None (Some 0) 32783 0 ≡ false)
    × (holding None (Some 0) 0 1 ≡ true)

-- a request of a kind with an id
abbrev request_with : ℕ → ℕ → Request
request_with kind id = record { id = id; kind = kind; target = 0; length = 0 }

-- a session with these requests is unfit
abbrev unfit_with : Requests → Bool
unfit_with t = unfit (session_with (Some 0) (Some 0) 0 0 start_rows t)

-- one waits at place 2, and the other at place 95
abbrev two_waiting : Request → Request → Bool
two_waiting p q = unfit_with (with_request (with_request fresh_requests 2 p) 95 q)

-- "two live requests with one id", whatever their kinds
abbrev pub IdBorders : Type 0
IdBorders =
    (two_waiting (request_with 7 5) (request_with 7 6) ≡ false)
    × (two_waiting (request_with 7 5) (request_with 100 5) ≡ true)
    × (two_waiting (request_with 7 0) (request_with 7 0) ≡ true)
    × (unfit_with (with_request fresh_requests 2 (request_with 7 0)) ≡ false)

-- requests with one id at places 0 and 95, both marked live, with this `used`
abbrev used_to : ℕ → Bool
used_to n =
    let t = with_request (with_request fresh_requests 0 (request_with 7 5)) 95 (request_with 7 5) in
    unfit_with (record { used = n; live = t.live; kinds = t.kinds; ids = t.ids; slots = t.slots })

-- places are live below `used`, and more than 96 is read as 96
abbrev pub LiveBelowUsed : Type 0
LiveBelowUsed = (used_to 0 ≡ false) × (used_to 95 ≡ false) × (used_to 96 ≡ true) × (used_to 97 ≡ true)

abbrev row_typed : ℕ → ℕ → Bool
row_typed r k = unfit (session_with (Some 0) (Some 0) 0 0 (record { types = set start_rows.types r k; interfaces = start_rows.interfaces; streams = start_rows.streams }) fresh_requests)

-- "row 0 or 16 not control", and no other row is asked
abbrev pub ControlRows : Type 0
ControlRows =
    (row_typed 0 2 ≡ true) × (row_typed 16 255 ≡ true) × (row_typed 0 0 ≡ false) × (row_typed 1 0 ≡ false) × (row_typed 31 7 ≡ false)

-- no hello has passed, nothing is stopped or held; no device, no introduction, no ack owed; rows and places as "Start" says; of the watch all is 0
abbrev pub FreshIs : Type 0
FreshIs =
    fresh_session
    ≡ record {
      head = record { guest = None; host = None; stopped = false; held = record { guest = 0; host = 0 }; present = false; introduction = Unintroduced; owed = false };
      rows =
          record {
            types =
                0 ∷ 255 ∷ 255 ∷ 255 ∷ 255 ∷ 255 ∷ 255 ∷ 255 ∷ 255 ∷ 255 ∷ 255 ∷ 255 ∷ 255 ∷ 255 ∷ 255 ∷ 255
                ∷ 0 ∷ 255 ∷ 255 ∷ 255 ∷ 255 ∷ 255 ∷ 255 ∷ 255 ∷ 255 ∷ 255 ∷ 255 ∷ 255 ∷ 255 ∷ 255 ∷ 255 ∷ 255
                ∷ [];
            interfaces = replicate 32 0;
            streams = replicate 32 false;
          };
      requests = record { used = 0; live = replicate 96 false; kinds = replicate 96 0; ids = replicate 96 0; slots = replicate 96 (record { length = 0; target = 0 }) };
      watch = record { rows = replicate 16 (record { expected = 0; gap = 0; breaks = 0 }) };
    }

-- its rows and places, one by one
abbrev pub FreshRows : Type 0
FreshRows =
    rows_of fresh_session.rows
    ≡ (closed_row 0 ∷ closed_row 255 ∷ closed_row 255 ∷ closed_row 255 ∷ closed_row 255 ∷ closed_row 255 ∷ closed_row 255 ∷ closed_row 255
    ∷ closed_row 255 ∷ closed_row 255 ∷ closed_row 255 ∷ closed_row 255 ∷ closed_row 255 ∷ closed_row 255 ∷ closed_row 255 ∷ closed_row 255
    ∷ closed_row 0 ∷ closed_row 255 ∷ closed_row 255 ∷ closed_row 255 ∷ closed_row 255 ∷ closed_row 255 ∷ closed_row 255 ∷ closed_row 255
    ∷ closed_row 255 ∷ closed_row 255 ∷ closed_row 255 ∷ closed_row 255 ∷ closed_row 255 ∷ closed_row 255 ∷ closed_row 255 ∷ closed_row 255
    ∷ [])

-- and its places
abbrev pub FreshPlaces : Type 0
FreshPlaces = places_of fresh_session.requests ≡ replicate 96 free_place
