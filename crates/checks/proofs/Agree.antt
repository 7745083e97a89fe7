-- A packet ruled on case by case (`ruled`) gets what the rules give its event (`ruling_of`): the number and the change, where no two live requests
-- have one id.
-- For each class the checks that cannot hold drop out by computation, and what is left are the tests of its case in the same order. A reply's
-- request is the one with its id (`answered-by-id`): so the kind, the endpoint or interface and the length of that one decide.
-- Assumes nothing.
use Rattle.std.specs.Prelude.{Option, Some, None, is_some, Ok, Err}
use Prim.Native.Nat.{ℕ}
use mathlib.Core.Path.{◌≡◌, refl, sym, ap, ◌∙◌}
use mathlib.Core.Bool.{Bool, true, false, cond, not, ◌&&◌, ◌||◌, true≢false}
use mathlib.Core.Logic.{◌⊎◌, inl, inr}
use lib.Dec.{eqb, ltb}
use borrow.Author.Tests.{eqb-true, eq-eqb}
use borrow.Table.Steps.{cases}
use Rattle.octets.proofs.Logic.{and_parts}
use Rattle.header.specs.declared.Side.{Side}
use Rattle.header.specs.declared.Refusal.TheVariants.{NoDevice, OutOfOrder, AckOwed, WrongType, StreamClosed, IdInUse, TableFull, NoSuchRequest, ReplyTooLong}
use Rattle.header.specs.declared.Refusal.TheVariants as refusals
use Rattle.endpoint.specs.declared.Endpoint.{Endpoint}
use Rattle.device.specs.declared.Head.{Head}
use Rattle.device.specs.declared.Rows.{Rows}
use Rattle.device.specs.declared.Scope.TheVariants.{NoRow}
use Rattle.device.specs.Device.{state_at}
use Rattle.requests.specs.declared.Request.{Request}
use Rattle.requests.specs.declared.Answerable.{Answerable}
use Rattle.requests.specs.declared.Requests.{Requests}
use Rattle.requests.specs.Requests.{places, request_at, Free, Id, Settling, Answered, place_at, lowest, ids_differ}
use Rattle.requests.proofs.Places.{place-live, lowest-found, answered-by-id, answered_by}
use Rattle.events.specs.declared.Typed.{Typed}
use Rattle.events.specs.declared.Typed.TheVariants.{OfEndpoint}
use Rattle.events.specs.Meaning.{Class, Hello, Connect, Interfaces, Endpoints, Disconnect, Reset, Ack, Cancel, Filter, StartRequest, PlainRequest, StreamStatus, PlainReply, StreamOut, StreamIn}
use Rattle.events.specs.Event.{Event, is_transfer, case_of, reply_of}
use Rattle.events.specs.Proper.{is_stream}
use Rattle.events.specs.Status.{is_stall}
use Rattle.checks.specs.declared.Change.{Change}
use Rattle.checks.specs.declared.Change.TheVariants as changes
use Rattle.checks.specs.declared.StreamMove.TheVariants.{Stalls}
use Rattle.checks.specs.Checks.{Match, Unmatched, Matched, match_in, match_of, is_unmatched, too_long, mistyped_by, is_done, is_begun, number_for, number_of}
use Rattle.checks.specs.Change.{numbered, ruled_by, ruling_of, move_by, move_of, scope_of, place_or, place_in}
use Rattle.checks.specs.Ruled.{ruled, taking, replied_in, unmatched, alone, scope_to, Ruling}

-- what an event is that its packet's table of meanings gives: a transfer is a request or stream data of the guest, and stream data is on an endpoint
pub record Proper (e : Event) : Type 0 where
  pub transfer : is_transfer e ≡ true → (e.class ≡ PlainRequest) ⊎ (e.class ≡ StreamOut)
  pub streamed : is_stream e.class ≡ true → (x : Endpoint) × (k : ℕ) × (e.typed ≡ OfEndpoint x k)

-- an event of a class that is neither is no transfer
no-transfer : (e : Event) → Proper e → (e.class ≡ PlainRequest → ⊥) → (e.class ≡ StreamOut → ⊥) → is_transfer e ≡ false
no-transfer e p f g = cases (is_transfer e) (λ t. absurd (either (p.transfer t))) (λ t. t)
  where
    either : (e.class ≡ PlainRequest) ⊎ (e.class ≡ StreamOut) → ⊥
    either (inl x) = f x
    either (inr x) = g x

-- a number for each class, to tell them apart
abbrev tag : Class → ℕ
tag Hello = 0
tag Connect = 1
tag Interfaces = 2
tag Endpoints = 3
tag Disconnect = 4
tag Reset = 5
tag Ack = 6
tag Cancel = 7
tag Filter = 8
tag StartRequest = 9
tag PlainRequest = 10
tag StreamStatus = 11
tag PlainReply = 12
tag StreamOut = 13
tag StreamIn = 14

apart : (c d : Class) → eqb (tag c) (tag d) ≡ false → c ≡ d → ⊥
apart c d h e = true≢false (sym (eq-eqb (tag c) (tag d) (ap tag e)) ∙ h)

-- ---- the shape of each group of cases, in numbers

-- a request: 25, 28, 29, 31, 32
request-shape : (a b c d : Bool) (o : Option ℕ) (take : ℕ → Change) (taking : Option ℕ → Ruling) → taking None ≡ Err TableFull → ((i : ℕ) → taking (Some i) ≡ Ok (take i))
    → numbered (cond a (cond b (Err WrongType) (cond c (Err refusals.Settling) (cond d (Err IdInUse) (taking o)))) (Err NoDevice))
    ≡ ruled_by (cond (not a) 25 (cond b 28 (cond c 29 (cond d 31 (cond (not (is_some o)) 32 0))))) (take (place_or o))
request-shape false b c d o take taking n s = refl
request-shape true true c d o take taking n s = refl
request-shape true false true d o take taking n s = refl
request-shape true false false true o take taking n s = refl
request-shape true false false false None take taking n s = ap numbered n
request-shape true false false false (Some i) take taking n s = ap numbered (s i)

-- data on a stream: 25, 28, 29, 30
stream-shape : (a b c d : Bool) (x : Change) → numbered (cond a (cond b (cond c (Err refusals.Settling) (cond d (Ok x) (Err StreamClosed))) (Err WrongType)) (Err NoDevice))
    ≡ ruled_by (cond (not a) 25 (cond (not b) 28 (cond c 29 (cond (not d) 30 0)))) x
stream-shape false b c d x = refl
stream-shape true false c d x = refl
stream-shape true true true d x = refl
stream-shape true true false true x = refl
stream-shape true true false false x = refl

-- an introduction: 27, 26
order-shape : (a b : Bool) (x : Change) → numbered (cond a (Err AckOwed) (cond b (Err OutOfOrder) (Ok x))) ≡ ruled_by (cond a 27 (cond b 26 0)) x
order-shape true b x = refl
order-shape false true x = refl
order-shape false false x = refl

-- what needs a device: 25
device-shape : (a : Bool) (x : Change) → numbered (cond a (Ok x) (Err NoDevice)) ≡ ruled_by (cond (not a) 25 0) x
device-shape true x = refl
device-shape false x = refl

-- an ack: 26
ack-shape : (a : Bool) (x : Change) → numbered (cond a (Ok x) (Err OutOfOrder)) ≡ ruled_by (cond (not a) 26 0) x
ack-shape true x = refl
ack-shape false x = refl

-- ---- a reply

-- by the request that it answers: 33 and 34
abbrev match_number : Event → Bool → Match → ℕ
match_number e unasked Unmatched = cond (unasked && eqb e.request.id 0 && is_stall e.status) 0 33
match_number e unasked (Matched i q) = cond (ltb q.length e.request.length) 34 0

module _ (t : Requests) (e : Event) (unasked : Bool) where
  abbrev wanted : Match → Change
  wanted Unmatched = changes.Release None e.typed Stalls NoRow
  wanted (Matched i q) = changes.Release (Some i) e.typed (move_of e (Matched i q)) (scope_of e (Matched i q))

  none-matched : numbered (unmatched e.typed (alone (reply_of e) unasked)) ≡ ruled_by (match_number e unasked Unmatched) (wanted Unmatched)
  none-matched = cases (unasked && eqb e.request.id 0 && is_stall e.status) (λ x. rw x) (λ x. rw x)

  -- the live request with its id, as the columns have it
  there : (i : ℕ) → lowest t (Id e.request.id) ≡ Some i → ((place_at t i).request ≡ request_at t i) × ((request_at t i).id ≡ e.request.id)
  unfolding place_at
  there i f = (shown, sym (ap (λ (q : Request). q.id) shown) ∙ eqb-true (place_at t i).request.id e.request.id met.1)
    where
      met : ((place_at t i).live ≡ true) × (eqb (place_at t i).request.id e.request.id ≡ true)
      met = and_parts (place_at t i).live (eqb (place_at t i).request.id e.request.id) (lowest-found t (Id e.request.id) i f).1

      shown : (place_at t i).request ≡ request_at t i
      shown = rw (sym (place-live t i) ∙ met.0)

  -- that request is of a kind that the reply answers, and of its endpoint or interface
  matched-is : (i : ℕ) → (place_at t i).request ≡ request_at t i
      → numbered (cond (ltb (request_at t i).length e.request.length) (Err ReplyTooLong)
      (Ok (changes.Release (Some i) e.typed (move_by e.status (eqb (request_at t i).kind e.answers.first)) (scope_to (reply_of e) (request_at t i).kind))))
      ≡ ruled_by (match_number e unasked (Matched i (place_at t i).request)) (wanted (Matched i (place_at t i).request))
  matched-is i w = rw w (cases (ltb (request_at t i).length e.request.length) (λ y. rw y) (λ y. rw y))

  -- place i decides: its kind, its endpoint or interface, its length
  settled_is : (i : ℕ) → lowest t (Id e.request.id) ≡ Some i
      → numbered (replied_in t (reply_of e) e.typed unasked (Some i))
      ≡ ruled_by (match_number e unasked (match_in t (answered_by e.request e.answers t (Some i)))) (wanted (match_in t (answered_by e.request e.answers t (Some i))))
  settled_is i f =
      let w = there i f in
      let q : Request = request_at t i in
      rw (w.0, eq-eqb q.id e.request.id w.1)
      (cases ((eqb q.kind e.answers.first || eqb q.kind e.answers.second) && (not e.answers.targeted || eqb q.target e.request.target))
      (λ x. rw x (matched-is i w.0))
      (λ x. rw x none-matched))

  reply-is : ids_differ t ≡ true
      → numbered (replied_in t (reply_of e) e.typed unasked (lowest t (Id e.request.id)))
      ≡ ruled_by (match_number e unasked (match_in t (lowest t (Answered e.request e.answers)))) (wanted (match_in t (lowest t (Answered e.request e.answers))))
  reply-is u = rw (answered-by-id t u e.request e.answers) (go (lowest t (Id e.request.id)) refl)
    where
      go : (o : Option ℕ) → lowest t (Id e.request.id) ≡ o
          → numbered (replied_in t (reply_of e) e.typed unasked o)
          ≡ ruled_by (match_number e unasked (match_in t (answered_by e.request e.answers t o))) (wanted (match_in t (answered_by e.request e.answers t o)))
      go None f = none-matched
      go (Some i) f = settled_is i f

  -- and by the checks: 25, 33, 34
  reply-shape : (a : Bool) (r : Ruling) (m : Match) → numbered r ≡ ruled_by (match_number e unasked m) (wanted m)
      → numbered (cond a r (Err NoDevice))
      ≡ ruled_by (cond (not a) 25 (cond (is_unmatched m && not (unasked && eqb e.request.id 0 && is_stall e.status)) 33 (cond (too_long e m) 34 0))) (changes.Release (place_in m) e.typed (move_of e m) (scope_of e m))
  reply-shape false r m h = refl
  reply-shape true r Unmatched h = h ∙ cases (unasked && eqb e.request.id 0 && is_stall e.status) (λ x. rw (x, stalled x)) (λ x. rw x)
    where
      -- what may come unasked is a stall
      stalled : (unasked && eqb e.request.id 0 && is_stall e.status) ≡ true → is_stall e.status ≡ true
      stalled x = (and_parts (unasked && eqb e.request.id 0) (is_stall e.status) x).1
  reply-shape true r (Matched i q) h = h

-- ---- every class

module _ (h : Head) (d : Rows) (t : Requests) (u : ids_differ t ≡ true) where
  abbrev Agrees : Event → Type 0
  Agrees e = numbered (ruled h d t (case_of e)) ≡ ruling_of h d t e

  module _ (from : Side) (r : Request) (a : Answerable) (ty : Typed) (st w : ℕ) (rows : Rows) where
    abbrev of : Class → Event
    of c = record { sender = from; class = c; request = r; answers = a; typed = ty; status = st; word = w; rows = rows }

    calm : (c : Class) → Proper (of c) → eqb (tag c) 10 ≡ false → eqb (tag c) 13 ≡ false → is_transfer (of c) ≡ false
    calm c p x y = no-transfer (of c) p (apart c PlainRequest x) (apart c StreamOut y)

    by-class : (c : Class) → Proper (of c) → Agrees (of c)
    unfolding ruled ruling_of number_of number_for match_of
    by-class Hello p = rw (calm Hello p refl refl)
    by-class Connect p = rw (calm Connect p refl refl) (order-shape h.owed (h.present || not (is_done h.introduction)) changes.Connect)
    by-class Interfaces p = rw (calm Interfaces p refl refl) (order-shape h.owed (not h.present && not (is_begun h.introduction)) changes.Interfaces)
    by-class Endpoints p = rw (calm Endpoints p refl refl) (order-shape h.owed false changes.Endpoints)
    by-class Disconnect p = rw (calm Disconnect p refl refl) (device-shape h.present changes.Disconnect)
    by-class Reset p = rw (calm Reset p refl refl) (device-shape h.present changes.Reset)
    by-class Ack p = rw (calm Ack p refl refl) (ack-shape h.owed changes.Acknowledge)
    by-class Cancel p = rw (calm Cancel p refl refl) (device-shape h.present changes.NoChange)
    by-class Filter p = rw (calm Filter p refl refl)
    by-class StartRequest p =
        request-shape h.present (mistyped_by d ty) (is_transfer (of StartRequest) && is_some (lowest t Settling)) (is_some (lowest t (Id r.id))) (lowest t Free)
        (λ (i : ℕ). changes.TakeAndOpen i r ty) (taking r ty true) refl (λ i. refl)
    by-class PlainRequest p =
        request-shape h.present (mistyped_by d ty) (is_transfer (of PlainRequest) && is_some (lowest t Settling)) (is_some (lowest t (Id r.id))) (lowest t Free)
        (λ (i : ℕ). changes.Take i r) (taking r ty false) refl (λ i. refl)
    by-class StreamStatus p =
        rw (calm StreamStatus p refl refl)
        (reply-shape t (of StreamStatus) true h.present _ (match_in t (lowest t (Answered r a))) (reply-is t (of StreamStatus) true u))
    by-class PlainReply p =
        rw (calm PlainReply p refl refl)
        (reply-shape t (of PlainReply) false h.present _ (match_in t (lowest t (Answered r a))) (reply-is t (of PlainReply) false u))
    by-class StreamOut p =
        let x = p.streamed refl in
        rw x.2 (stream-shape h.present (eqb (state_at d x.0).ty x.1) (is_transfer (of StreamOut) && is_some (lowest t Settling)) (state_at d x.0).streaming changes.NoChange)
    by-class StreamIn p =
        let x = p.streamed refl in
        rw (x.2, calm StreamIn p refl refl) (stream-shape h.present (eqb (state_at d x.0).ty x.1) false (state_at d x.0).streaming (changes.Seen x.0 r.id))

  pub ruled-is : (e : Event) → Proper e → Agrees e
  ruled-is e p = by-class e.sender e.request e.answers e.typed e.status e.word e.rows e.class p
