-- The session checks 25 to 34: each beside its sentence of document 01, and the number, which is the first of them that holds.
-- Assumes nothing: these are definitions.
use Rattle.std.specs.Prelude.{ℕ, Bool, true, false, cond, not, ◌&&◌, ◌||◌, List, [], ◌∷◌, eqb, ltb, Option, Some, None, is_some}
use Rattle.device.specs.declared.Introduction.{Introduction}
use Rattle.device.specs.declared.Introduction.TheVariants.{Unintroduced, One, Two}
use Rattle.device.specs.declared.Head.{Head}
use Rattle.device.specs.declared.Rows.{Rows}
use Rattle.device.specs.Device.{state_at, mask_mistyped}
use Rattle.requests.specs.declared.Request.{Request}
use Rattle.requests.specs.declared.Requests.{Requests}
use Rattle.requests.specs.Requests.{Free, Id, Settling, Answered, lowest, place_at}
use Rattle.events.specs.Meaning.{Class, Hello, Connect, Interfaces, Endpoints, Disconnect, Reset, Ack, Cancel, Filter, StartRequest, PlainRequest, StreamStatus, PlainReply, StreamOut, StreamIn}
use Rattle.events.specs.declared.Typed.{Typed}
use Rattle.events.specs.declared.Typed.TheVariants.{Untyped, OfEndpoint, OfMask}
use Rattle.events.specs.Event.{Event, is_transfer}
use Rattle.events.specs.Status.{is_stall}

-- ---- what the checks ask of a class

pub record Traits : Type 0 where
  -- it needs a device
  pub device : Bool
  -- it introduces a device
  pub introduces : Bool
  -- its endpoint's row, or every row of its mask, has to have the type that its kind wants
  pub typed : Bool
  -- the stream of its row has to be open
  pub streamed : Bool
  -- it takes a place
  pub request : Bool
  -- it answers a request
  pub reply : Bool
  -- it may come without one
  pub unsolicited : Bool

abbrev bare : Traits
bare = record { device = false; introduces = false; typed = false; streamed = false; request = false; reply = false; unsolicited = false }

abbrev introducing : Traits
introducing = record { device = false; introduces = true; typed = false; streamed = false; request = false; reply = false; unsolicited = false }

abbrev of_device : Traits
of_device = record { device = true; introduces = false; typed = false; streamed = false; request = false; reply = false; unsolicited = false }

abbrev requesting : Traits
requesting = record { device = true; introduces = false; typed = true; streamed = false; request = true; reply = false; unsolicited = false }

abbrev replying : Traits
replying = record { device = true; introduces = false; typed = false; streamed = false; request = false; reply = true; unsolicited = false }

abbrev reporting : Traits
reporting = record { device = true; introduces = false; typed = false; streamed = false; request = false; reply = true; unsolicited = true }

abbrev streaming : Traits
streaming = record { device = true; introduces = false; typed = true; streamed = true; request = false; reply = false; unsolicited = false }

abbrev pub traits_of : Class → Traits
traits_of Hello = bare
traits_of Connect = introducing
traits_of Interfaces = introducing
traits_of Endpoints = introducing
traits_of Disconnect = of_device
traits_of Reset = of_device
traits_of Ack = bare
traits_of Cancel = of_device
traits_of Filter = bare
traits_of StartRequest = requesting
traits_of PlainRequest = requesting
traits_of StreamStatus = reporting
traits_of PlainReply = replying
traits_of StreamOut = streaming
traits_of StreamIn = streaming

-- ---- 25: "All kinds but 0, 1, 4, 5, 22, 23, 24 get 25 without a device."

abbrev pub no_device : Head → Event → Bool
no_device h e = (traits_of e.class).device && not h.present

-- ---- 27: "Kinds 1, 4, 5 get 27 while an ack is owed, 26 untested."

abbrev pub ack_owed : Head → Event → Bool
ack_owed h e = (traits_of e.class).introduces && h.owed

-- ---- 26: "With no device, 5 sets the introduction to one; 4 needs one or two and sets two; 1 needs two and makes the device present;
-- else 26. With a device, 1 gets 26; 4 and 5 pass." "24 clears it; when none is owed, 26."

abbrev pub is_begun : Introduction → Bool
is_begun Unintroduced = false
is_begun One = true
is_begun Two = true

abbrev pub is_done : Introduction → Bool
is_done Unintroduced = false
is_done One = false
is_done Two = true

abbrev pub out_of_order : Head → Class → Bool
out_of_order h Hello = false
out_of_order h Connect = h.present || not (is_done h.introduction)
out_of_order h Interfaces = not h.present && not (is_begun h.introduction)
out_of_order h Endpoints = false
out_of_order h Disconnect = false
out_of_order h Reset = false
out_of_order h Ack = not h.owed
out_of_order h Cancel = false
out_of_order h Filter = false
out_of_order h StartRequest = false
out_of_order h PlainRequest = false
out_of_order h StreamStatus = false
out_of_order h PlainReply = false
out_of_order h StreamOut = false
out_of_order h StreamIn = false

-- ---- 28: "kinds 12, 13 and 102 want iso, ..": the row of its endpoint, or a row of its mask, has another type

abbrev pub mistyped_by : Rows → Typed → Bool
mistyped_by rows Untyped = false
mistyped_by rows (OfEndpoint e ty) = not (eqb (state_at rows e).ty ty)
mistyped_by rows (OfMask m ty) = mask_mistyped rows m ty

abbrev pub wrong_type : Rows → Event → Bool
wrong_type rows e = (traits_of e.class).typed && mistyped_by rows e.typed

-- ---- 29: "guest kinds 100 to 103 while a kind 6 or 9 waits."

abbrev pub settling : Requests → Event → Bool
settling t e = is_transfer e && is_some (lowest t Settling)

-- ---- 30: "kind 102, host 103 IN and 104 on a closed stream."

abbrev pub is_open : Rows → Typed → Bool
is_open rows Untyped = false
is_open rows (OfEndpoint e ty) = (state_at rows e).streaming
is_open rows (OfMask m ty) = false

abbrev pub stream_closed : Rows → Event → Bool
stream_closed rows e = (traits_of e.class).streamed && not (is_open rows e.typed)

-- ---- 31, 32: "31 if any live request has that id, else 32 if full."

abbrev pub id_in_use : Requests → Event → Bool
id_in_use t e = (traits_of e.class).request && is_some (lowest t (Id e.request.id))

abbrev pub is_full : Requests → Event → Bool
is_full t e = (traits_of e.class).request && not (is_some (lowest t Free))

-- ---- 33, 34: the request that a reply answers

-- the request that a reply answers, with its place
pub data Match : Type 0 where
  Unmatched : Match
  Matched : ℕ → Request → Match

abbrev pub match_in : Requests → Option ℕ → Match
match_in t None = Unmatched
match_in t (Some i) = Matched i (place_at t i).request

unfoldable pub match_of : Requests → Event → Match
match_of t e = cond (traits_of e.class).reply (match_in t (lowest t (Answered e.request e.answers))) Unmatched

abbrev pub is_unmatched : Match → Bool
is_unmatched Unmatched = true
is_unmatched (Matched i q) = false

-- "Kinds 14, 17, 27 with id 0 and status 4 that match nothing pass as unsolicited."
abbrev pub is_unsolicited : Event → Bool
is_unsolicited e = (traits_of e.class).unsolicited && eqb e.request.id 0 && is_stall e.status

-- "Id and, where both carry one, the endpoint or interface must match; else 33."
abbrev pub no_such_request : Event → Match → Bool
no_such_request e m = (traits_of e.class).reply && is_unmatched m && not (is_unsolicited e)

-- "Length over the request's is 34."
abbrev pub too_long : Event → Match → Bool
too_long e Unmatched = false
too_long e (Matched i q) = ltb q.length e.request.length

-- ---- the number: "Where several hold, the lowest from 20 up is given", but 27 for kinds 1, 4, 5 with 26 untested

pub record Check : Type 0 where
  pub number : ℕ
  pub holds : Bool

infix 70 ◌when◌
abbrev pub ◌when◌ : ℕ → Bool → Check
n when b = record { number = n; holds = b }

abbrev pub first_of : List Check → ℕ
first_of [] = 0
first_of (c ∷ cs) = cond c.holds c.number (first_of cs)

abbrev pub checks : Head → Rows → Requests → Event → Match → List Check
checks h rows t e m =
    25 when no_device h e
    ∷ 27 when ack_owed h e
    ∷ 26 when out_of_order h e.class
    ∷ 28 when wrong_type rows e
    ∷ 29 when settling t e
    ∷ 30 when stream_closed rows e
    ∷ 31 when id_in_use t e
    ∷ 32 when is_full t e
    ∷ 33 when no_such_request e m
    ∷ 34 when too_long e m
    ∷ []

unfoldable pub number_for : Head → Rows → Requests → Event → Match → ℕ
number_for h rows t e m = first_of (checks h rows t e m)

unfoldable pub number_of : Head → Rows → Requests → Event → ℕ
number_of h rows t e = number_for h rows t e (match_of t e)
