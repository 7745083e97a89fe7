-- What a packet does to a session: a refused one changes nothing; a request takes the lowest free place; a reply frees the place of
-- the request that it answers, and no second reply finds it; a late reply answers nothing; any other packet leaves the requests as
-- they were or ends them all.
-- The judge's number is 0 only where no check holds, and then the session is the next one. What that does to the requests goes by
-- four roles of a class, and what stands at a place afterwards by the laws of the table.
-- Assumes nothing.
use Rattle.std.specs.Prelude.{Option, Some, None, is_some}
use Rattle.std.proofs.lemmas.Option.{same_Some}
use Prim.Native.Nat.{ℕ, ◌≤◌, ◌<◌}
use mathlib.Core.Bool.{Bool, true, false, cond, not, ◌&&◌, ◌||◌, false≢true, true≢false}
use mathlib.Core.List.{List, [], ◌∷◌}
use mathlib.Core.Path.{◌≡◌, refl, sym, ap, ◌∙◌}
use mathlib.Core.Logic.{◌⊎◌, inl, inr}
use lib.Dec.{eqb}
use borrow.Author.Tests.{eqb-true, eq-eqb, ne_eqb, ltb-false, not-true, not-false, eqb-false, lt-ltb}
use borrow.Table.Steps.{cases}
use Rattle.octets.proofs.Logic.{and_parts, and-whole, fails}
use Rattle.header.specs.declared.Side.{Side}
use Rattle.header.specs.declared.Side.TheVariants.{Guest, Host}
use Rattle.header.specs.declared.Link.{Link}
use Rattle.device.specs.declared.Head.{Head}
use Rattle.device.specs.declared.Rows.{Rows}
use Rattle.requests.specs.declared.Request.{Request}
use Rattle.requests.specs.declared.Requests.{Requests}
use Rattle.requests.specs.Requests.{Place, no_request, answers, place_at, lowest, with_request, released, cleared, Query, Free, Id, Answered, free_place, taken, ends, ids_differ, meets}
use Rattle.requests.proofs.Places.{differ-when, live-within, cleared_at, lowest-found, lowest-none, place-taken, released-at, lowest-lower, lowest-some}
use Rattle.requests.specs.Clean.{Zeroed}
use Rattle.requests.proofs.KeptClean.{released-zero}
use Rattle.header.specs.Link.{is_guest}
use Rattle.kinds.specs.Table.{Kind, kinds}
use Rattle.kinds.specs.Content.{Content, find}
use Rattle.kinds.specs.Number.{sends, wire_number}
use Rattle.kinds.proofs.RoundTrip.{clean, Clean}
use Rattle.events.specs.Meaning.{Class, Hello, Connect, Interfaces, Endpoints, Disconnect, Reset, Ack, Cancel, Filter, StartRequest, PlainRequest, StreamStatus, PlainReply, StreamOut, StreamIn}
use Rattle.events.specs.Event.{Event, event_of}
use Rattle.checks.specs.Checks.{traits_of, out_of_order, match_of, number_for, Matched, match_in, is_unsolicited, number_of, Match, Unmatched, is_unmatched, too_long}
use Rattle.checks.specs.Change.{scope_of, place_or, place_in, move_of, change_by}
use Rattle.checks.specs.declared.Change.TheVariants.{Take, Release}
use Rattle.session.specs.declared.Session.{Session}
use Rattle.session.specs.Step.{applied, next_for, judged, requests_after}
use Rattle.claims.specs.Allowed.{among, is_reply, inward_of}
use Rattle.claims.specs.Grounds.{Grounds}
use Rattle.claims.specs.Exchange.{NoLive, after_event, EndedAbsent}
use Rattle.claims.specs.KeptByPacket.{RefusedKeeps}
use Rattle.claims.proofs.Grounds.{agrees}
use Rattle.claims.proofs.EventChecks.{NoneHolds, no-check-holds, number_is}

-- ---- the judge

pub refused-keeps : RefusedKeeps
unfolding judged
refused-keeps s e h = cases (eqb (number_for s.head s.rows s.requests e (match_of s.requests e)) 0) (λ t. absurd (h (rw t))) (λ t. rw t)

module _ (s : Session) (e : Event) where
  -- one that passes does what the rules say of it
  pub passed : (judged s e).number ≡ 0 → (judged s e).session ≡ next_for s e (match_of s.requests e)
  unfolding judged number_of
  passed z =
      let n = number_for s.head s.rows s.requests e (match_of s.requests e) in
      cases (eqb n 0) (λ t. rw t) (λ t. absurd (eqb-false n 0 t (sym (number_is s e) ∙ z)))

  -- so what holds before a packet, and after it where it passes, holds after it
  pub step : (P : Session → Type 0) → P s → ((judged s e).number ≡ 0 → P (next_for s e (match_of s.requests e))) → P (judged s e).session
  step P here next =
      let n = (judged s e).number in
      cases (eqb n 0) (λ t. let z = eqb-true n 0 t in rw (passed z) (next z)) (λ t. rw (refused-keeps s e (eqb-false n 0 t)) here)

-- ---- what a packet of a class does with the requests

-- it leaves them, takes a place, frees one, or ends them all
pub data Role : Type 0 where
  leaving asking answering ending : Role

abbrev pub role_of : Class → Role
role_of Hello = leaving
role_of Connect = leaving
role_of Interfaces = leaving
role_of Endpoints = leaving
role_of Disconnect = ending
role_of Reset = ending
role_of Ack = leaving
role_of Cancel = leaving
role_of Filter = leaving
role_of StartRequest = asking
role_of PlainRequest = asking
role_of StreamStatus = answering
role_of PlainReply = answering
role_of StreamOut = leaving
role_of StreamIn = leaving

-- it takes a place
abbrev pub is_asking : Role → Bool
is_asking leaving = false
is_asking asking = true
is_asking answering = false
is_asking ending = false

-- it answers a request
abbrev pub is_answering : Role → Bool
is_answering leaving = false
is_answering asking = false
is_answering answering = true
is_answering ending = false

-- the requests after a reply
abbrev pub answered_with : Session → Event → Match → Requests
answered_with s e m = requests_after s.requests s.rows (Release (place_in m) e.typed (move_of e m) (scope_of e m))

-- the requests after a packet of this role
abbrev pub requests_by : Role → Session → Event → Match → Requests
requests_by leaving s e m = s.requests
requests_by asking s e m = requests_after s.requests s.rows (Take (place_or (lowest s.requests Free)) e.request)
requests_by answering s e m = answered_with s e m
requests_by ending s e m = cleared s.requests

-- a reply needs a device; of its order, type, row and stream nothing is asked
abbrev pub Unasked : Class → Role → Type 0
Unasked c leaving = Unit {0}
Unasked c asking = Unit {0}
Unasked c answering =
    (h : Head) → ((traits_of c).device ≡ true) × ((traits_of c).introduces ≡ false) × (out_of_order h c ≡ false) × ((traits_of c).typed ≡ false) × ((traits_of c).streamed ≡ false)
Unasked c ending = Unit {0}

-- what the checks ask of a class of this role, and what it does
abbrev pub Does : Class → Role → Type 0
Does c r =
    ((traits_of c).request ≡ is_asking r) × ((traits_of c).reply ≡ is_answering r) × Unasked c r × ((s : Session) (e : Event) (m : Match) → requests_after s.requests s.rows (change_by c s.requests e m) ≡ requests_by r s e m)

pub does : (c : Class) → Does c (role_of c)
does Hello = (refl, refl, tt, λ s e m. refl)
does Connect = (refl, refl, tt, λ s e m. refl)
does Interfaces = (refl, refl, tt, λ s e m. refl)
does Endpoints = (refl, refl, tt, λ s e m. refl)
does Disconnect = (refl, refl, tt, λ s e m. refl)
does Reset = (refl, refl, tt, λ s e m. refl)
does Ack = (refl, refl, tt, λ s e m. refl)
does Cancel = (refl, refl, tt, λ s e m. refl)
does Filter = (refl, refl, tt, λ s e m. refl)
does StartRequest = (refl, refl, tt, λ s e m. refl)
does PlainRequest = (refl, refl, tt, λ s e m. refl)
does StreamStatus = (refl, refl, λ h. (refl, refl, refl, refl, refl), λ s e m. refl)
does PlainReply = (refl, refl, λ h. (refl, refl, refl, refl, refl), λ s e m. refl)
does StreamOut = (refl, refl, tt, λ s e m. refl)
does StreamIn = (refl, refl, tt, λ s e m. refl)

-- so a class that takes a place has that role, and the same for the other two
request-does : (c : Class) → (traits_of c).request ≡ true → Does c asking
request-does c h = go (role_of c) (does c)
  where
    go : (r : Role) → Does c r → Does c asking
    go leaving d = absurd (true≢false (sym h ∙ d.0))
    go asking d = d
    go answering d = absurd (true≢false (sym h ∙ d.0))
    go ending d = absurd (true≢false (sym h ∙ d.0))

pub reply-does : (c : Class) → (traits_of c).reply ≡ true → Does c answering
reply-does c h = go (role_of c) (does c)
  where
    go : (r : Role) → Does c r → Does c answering
    go leaving d = absurd (true≢false (sym h ∙ d.1))
    go asking d = absurd (true≢false (sym h ∙ d.1))
    go answering d = d
    go ending d = absurd (true≢false (sym h ∙ d.1))

module _ (s : Session) (e : Event) (r : Role) (d : Does e.class r) where
  -- the requests after a packet, by the role of its class
  pub next-requests : (next_for s e (match_of s.requests e)).requests ≡ requests_by r s e (match_of s.requests e)
  unfolding next_for applied
  next-requests = d.3 s e (match_of s.requests e)

  -- the same of the session that the judge answers with
  requests-passed : (judged s e).number ≡ 0 → (after_event s e).requests ≡ requests_by r s e (match_of s.requests e)
  requests-passed z = ap (λ (x : Session). x.requests) (passed s e z) ∙ next-requests

  -- where they stay as they are by its role, they do so whether it passes or not
  requests-kept : requests_by r s e (match_of s.requests e) ≡ s.requests → (after_event s e).requests ≡ s.requests
  requests-kept k = step s e (λ (x : Session). x.requests ≡ s.requests) refl (λ z. next-requests ∙ k)

-- no check holds of a packet that passes
pub none-held : (s : Session) (e : Event) → (judged s e).number ≡ 0 → NoneHolds s.head s.rows s.requests e (match_of s.requests e)
unfolding number_of
none-held s e z = no-check-holds s.head s.rows s.requests e (match_of s.requests e) (sym (number_is s e) ∙ z)

-- ---- a request

pub record EventTakes (s : Session) (e : Event) : Type 0 where
  -- a place of the table
  pub place : ℕ
  pub within : place < 96
  -- it was free
  pub free : (place_at s.requests place).live ≡ false
  -- every lower place was taken
  pub lower : (j : ℕ) → j < place → (place_at s.requests j).live ≡ true
  -- now it holds the request
  pub holds : place_at (after_event s e).requests place ≡ taken e.request
  -- every other place is as before
  pub others : (j : ℕ) → (j ≡ place → ⊥) → place_at (after_event s e).requests j ≡ place_at s.requests j

-- a request that passes takes the lowest free place
pub request-takes : (s : Session) (e : Event) → (traits_of e.class).request ≡ true → (judged s e).number ≡ 0 → EventTakes s e
request-takes s e h z = go (lowest t Free) refl room (requests-passed s e asking (request-does e.class h) z)
  where
    t : Requests
    t = s.requests

    room : is_some (lowest t Free) ≡ true
    room = not-false (is_some (lowest t Free)) (fails (traits_of e.class).request (not (is_some (lowest t Free))) (none-held s e z).room h)

    go : (o : Option ℕ) → lowest t Free ≡ o → is_some o ≡ true → (after_event s e).requests ≡ requests_after t s.rows (Take (place_or o) e.request) → EventTakes s e
    go None f g a = absurd (false≢true g)
    go (Some i) f g a =
        let found = lowest-found t Free i f in
        let b : (after_event s e).requests ≡ with_request t i e.request = a in
        record {
          place = i;
          within = found.0;
          free = not-true (place_at t i).live found.1;
          lower = λ j l. not-false (place_at t j).live (lowest-lower t Free i f j l);
          holds = ap (λ (x : Requests). place_at x i) b ∙ place-taken t i e.request f i ∙ rw (eq-eqb i i refl);
          others = λ j n. ap (λ (x : Requests). place_at x j) b ∙ place-taken t i e.request f j ∙ rw (ne_eqb j i n);
        }

-- ---- a reply

-- the request of a match
abbrev request_in : Match → Request
request_in Unmatched = no_request
request_in (Matched i q) = q

-- a match is of the place that was found and the request there
match-in : (t : Requests) (o : Option ℕ) (i : ℕ) (q : Request) → match_in t o ≡ Matched i q → (o ≡ Some i) × ((place_at t i).request ≡ q)
match-in t None i q m = absurd (true≢false (ap is_unmatched m))
match-in t (Some j) i q m = let k : Some j ≡ Some i = ap place_in m in (k, ap (λ (n : ℕ). (place_at t n).request) (sym (same_Some j i k)) ∙ ap request_in m)

-- the place that a reply matches is of a live request, which it answers
record MatchFound (t : Requests) (e : Event) (i : ℕ) (q : Request) : Type 0 where
  reply : (traits_of e.class).reply ≡ true
  within : i < 96
  live : (place_at t i).live ≡ true
  request : (place_at t i).request ≡ q
  answered : answers e.request e.answers q ≡ true

match-found : (t : Requests) (e : Event) (i : ℕ) (q : Request) → match_of t e ≡ Matched i q → MatchFound t e i q
unfolding match_of
match-found t e i q m = cases (traits_of e.class).reply there (λ h. absurd (true≢false (ap is_unmatched (rw h at m))))
  where
    there : (traits_of e.class).reply ≡ true → MatchFound t e i q
    there h =
        let r = match-in t (lowest t (Answered e.request e.answers)) i q (rw h at m) in
        let f = lowest-found t (Answered e.request e.answers) i r.0 in
        let l = and_parts (place_at t i).live (answers e.request e.answers (place_at t i).request) f.1 in
        record { reply = h; within = f.0; live = l.0; request = r.1; answered = ap (answers e.request e.answers) (sym r.1) ∙ l.1 }

pub record Freed (s : Session) (e : Event) (i : ℕ) (q : Request) : Type 0 where
  -- the place is one of the table, and q was live there
  pub within : i < 96
  pub live : (place_at s.requests i).live ≡ true
  pub request : (place_at s.requests i).request ≡ q
  -- the reply answers it, and is not longer than it asked for
  pub answered : answers e.request e.answers q ≡ true
  pub short : e.request.length ≤ q.length
  -- now the place is free
  pub freed : place_at (after_event s e).requests i ≡ free_place
  -- any other place is free too where it ends the data request there, and else as before
  pub others : (j : ℕ) → (j ≡ i → ⊥) → place_at (after_event s e).requests j ≡ cond (ends s.rows (scope_of e (Matched i q)) (place_at s.requests j)) free_place (place_at s.requests j)
  -- nothing is left of the requests that it frees
  pub zeroed : (j : ℕ) → j < 96 → (eqb j i || ends s.rows (scope_of e (Matched i q)) (place_at s.requests j)) ≡ true → Zeroed (after_event s e).requests j

-- a reply has the id of a request that it answers
same_id : (e : Event) (q : Request) → answers e.request e.answers q ≡ true → q.id ≡ e.request.id
same_id e q h = eqb-true q.id e.request.id (and_parts _ _ (and_parts _ _ h).0).0

-- where no live request has its id it matches none
no-match : (t : Requests) (e : Event) → NoLive t e.request.id → match_of t e ≡ Unmatched
unfolding match_of
no-match t e n = cases (traits_of e.class).reply (λ h. rw h (ap (match_in t) (lowest-none t query unmet))) (λ h. rw h)
  where
    query : Query
    query = Answered e.request e.answers

    unmet : (j : ℕ) → j < 96 → meets query (place_at t j) ≡ false
    unmet j l =
        cases (meets query (place_at t j))
        (λ h. let r = and_parts (place_at t j).live _ h in absurd (n j l r.0 (same_id e (place_at t j).request r.1)))
        (λ h. h)

-- of a reply that passes and matches the request q at place i
module _ (s : Session) (e : Event) (i : ℕ) (q : Request) (z : (judged s e).number ≡ 0) (m : match_of s.requests e ≡ Matched i q) where
  found : MatchFound s.requests e i q
  found = match-found s.requests e i q m

  -- the table after it, and each place of it
  replied : (after_event s e).requests ≡ released s.requests i s.rows (scope_of e (Matched i q))
  replied = requests-passed s e answering (reply-does e.class found.reply) z ∙ ap (answered_with s e) m ∙ rw (lt-ltb i 96 found.within)

  place_after : (j : ℕ)
      → place_at (after_event s e).requests j ≡ cond (eqb j i || ends s.rows (scope_of e (Matched i q)) (place_at s.requests j)) free_place (place_at s.requests j)
  place_after j = ap (λ (x : Requests). place_at x j) replied ∙ released-at s.requests i s.rows (scope_of e (Matched i q)) j

  -- it frees that place
  pub reply-frees : Freed s e i q
  reply-frees =
      record {
        within = found.within;
        live = found.live;
        request = found.request;
        answered = found.answered;
        short = ltb-false q.length e.request.length (sym (ap (too_long e) m) ∙ (none-held s e z).short);
        freed = place_after i ∙ rw (eq-eqb i i refl);
        others = λ j n. place_after j ∙ rw (ne_eqb j i n);
        zeroed = λ j h k. rw replied (released-zero s.requests i s.rows (scope_of e (Matched i q)) j h k);
      }

  -- where the ids of live requests differ, none with its id is live after it
  pub answered-once : ids_differ s.requests ≡ true → NoLive (after_event s e).requests e.request.id
  answered-once d j l v n = cases (eqb j i) here there
    where
      t : Requests
      t = s.requests

      here : eqb j i ≡ true → ⊥
      here k =
          let w : place_at (after_event s e).requests j ≡ free_place = rw (eqb-true j i k) reply-frees.freed in
          false≢true (sym (ap (λ (x : Place). x.live) w) ∙ v)

      other : (b : Bool) → place_at (after_event s e).requests j ≡ cond b free_place (place_at t j) → i ≡ j
      other true w = absurd (false≢true (sym (ap (λ (x : Place). x.live) w) ∙ v))
      other false w =
          differ-when t d i j found.live (sym (ap (λ (x : Place). x.live) w) ∙ v)
          (ap (λ (x : Request). x.id) found.request ∙ same_id e q found.answered ∙ sym n ∙ ap (λ (x : Place). x.request.id) w)

      there : eqb j i ≡ false → ⊥
      there k = eqb-false j i k (sym (other (ends s.rows (scope_of e (Matched i q)) (place_at t j)) (reply-frees.others j (eqb-false j i k))))

-- a reply that matches nothing leaves the requests as they were
pub unmatched-keeps : (s : Session) (e : Event) → (traits_of e.class).reply ≡ true → match_of s.requests e ≡ Unmatched → (after_event s e).requests ≡ s.requests
unmatched-keeps s e h m = requests-kept s e answering (reply-does e.class h) (ap (answered_with s e) m)

-- ---- any packet: a place is then free, as it was, or taken by the packet's own request

abbrev pub PlaceAfter : Session → Event → ℕ → Type 0
PlaceAfter s e j =
    ((place_at (after_event s e).requests j).live ≡ false)
    ⊎ ((place_at (after_event s e).requests j ≡ place_at s.requests j)
    ⊎ (((traits_of e.class).request ≡ true) × ((judged s e).number ≡ 0) × (place_at (after_event s e).requests j ≡ taken e.request)))

place-after-any : (s : Session) (e : Event) (j : ℕ) → PlaceAfter s e j
place-after-any s e j = cases (eqb (judged s e).number 0) (λ z. by-role (role_of e.class) (does e.class) (eqb-true (judged s e).number 0 z)) unchanged
  where
    t : Requests
    t = s.requests

    unchanged : eqb (judged s e).number 0 ≡ false → PlaceAfter s e j
    unchanged z = inr (inl (ap (λ (x : Session). place_at x.requests j) (refused-keeps s e (eqb-false (judged s e).number 0 z))))

    at : (u : Requests) → (after_event s e).requests ≡ u → place_at (after_event s e).requests j ≡ place_at u j
    at u h = ap (λ (x : Requests). place_at x j) h

    freed-live : place_at (after_event s e).requests j ≡ free_place → (place_at (after_event s e).requests j).live ≡ false
    freed-live h = ap (λ (p : Place). p.live) h

    replying : (m : Match) → match_of t e ≡ m → (judged s e).number ≡ 0 → (after_event s e).requests ≡ answered_with s e (match_of t e) → PlaceAfter s e j
    replying Unmatched m z h = inr (inl (at t (h ∙ ap (answered_with s e) m)))
    replying (Matched i q) m z h =
        let f = reply-frees s e i q z m in
        cases (eqb j i)
        (λ k. inl (freed-live (rw (eqb-true j i k) f.freed)))
        (λ k.
        cases (ends s.rows (scope_of e (Matched i q)) (place_at t j))
        (λ x. inl (freed-live (f.others j (eqb-false j i k) ∙ rw x)))
        (λ x. inr (inl (f.others j (eqb-false j i k) ∙ rw x))))

    by-role : (r : Role) → Does e.class r → (judged s e).number ≡ 0 → PlaceAfter s e j
    by-role leaving d z = inr (inl (at t (requests-passed s e leaving d z)))
    by-role asking d z =
        let h = request-takes s e d.0 z in
        cases (eqb j h.place)
        (λ k. inr (inr (d.0, z, rw (eqb-true j h.place k) h.holds)))
        (λ k. inr (inl (h.others j (eqb-false j h.place k))))
    by-role answering d z = replying (match_of t e) refl z (requests-passed s e answering d z)
    by-role ending d z = inl (freed-live (at (cleared t) (requests-passed s e ending d z) ∙ cleared_at t j))

-- ---- an id under which no request waits

-- it stays so until a request with that id passes
pub absent-kept : (s : Session) (e : Event) (n : ℕ) → NoLive s.requests n → ((traits_of e.class).request ≡ true → e.request.id ≡ n → ⊥) → NoLive (after_event s e).requests n
absent-kept s e n h f j l v k = go (place-after-any s e j)
  where
    go : PlaceAfter s e j → ⊥
    go (inl x) = false≢true (sym x ∙ v)
    go (inr (inl x)) =
        let w : (place_at s.requests j).live ≡ true = sym (ap (λ (p : Place). p.live) x) ∙ v in
        h j (live-within s.requests j w) w (sym (ap (λ (p : Place). p.request.id) x) ∙ k)
    go (inr (inr x)) = f x.0 (sym (ap (λ (p : Place). p.request.id) x.2) ∙ k)

pub ended-absent : EndedAbsent
ended-absent s e i u a b j l v k = go (place-after-any s e j)
  where
    t : Requests
    t = s.requests

    go : PlaceAfter s e j → ⊥
    go (inl x) = false≢true (sym x ∙ v)
    go (inr (inl x)) =
        let w : (place_at t j).live ≡ true = sym (ap (λ (p : Place). p.live) x) ∙ v in
        let same : i ≡ j = differ-when t u i j a w (sym k ∙ ap (λ (p : Place). p.request.id) x) in
        false≢true (sym b ∙ ap (λ (m : ℕ). (place_at (after_event s e).requests m).live) same ∙ v)
    go (inr (inr x)) =
        let id : (place_at t i).request.id ≡ e.request.id = sym k ∙ ap (λ (p : Place). p.request.id) x.2 in
        let free : is_some (lowest t (Id e.request.id)) ≡ false = fails (traits_of e.class).request _ (none-held s e x.1).unused x.0 in
        let met : is_some (lowest t (Id e.request.id)) ≡ true = ap is_some (lowest-some t (Id e.request.id) i (live-within t i a) (and-whole (place_at t i).live _ a (eq-eqb (place_at t i).request.id e.request.id id))).1 in
        false≢true (sym free ∙ met)

-- ---- a late reply

-- of the checks only 25 and 33 are left for a host's reply that matches nothing
late-number : (h : Head) (rows : Rows) (t : Requests) (e : Event) → (traits_of e.class).reply ≡ true → is_guest e.sender ≡ false
    → number_for h rows t e Unmatched ≡ cond (not h.present) 25 (cond (not (is_unsolicited e)) 33 0)
unfolding number_for
late-number h rows t e w g =
    let r = reply-does e.class w in
    let u = r.2 h in
    rw (u.0, u.1, u.2, u.3, u.4, r.0, w, g)

pub record LateEvent (s : Session) (e : Event) : Type 0 where
  -- it matches no request
  pub unmatched : match_of s.requests e ≡ Unmatched
  -- without a device it is refused with 25
  pub absent : s.head.present ≡ false → (judged s e).number ≡ 25
  -- with one it is refused with 33, but for an unsolicited status, which passes
  pub unanswered : s.head.present ≡ true → is_unsolicited e ≡ false → (judged s e).number ≡ 33
  pub unsolicited : s.head.present ≡ true → is_unsolicited e ≡ true → (judged s e).number ≡ 0
  -- in any case the requests are as before
  pub kept : (after_event s e).requests ≡ s.requests

-- the number of a host's reply that matches nothing
pub unmatched-number : (s : Session) (e : Event) → (traits_of e.class).reply ≡ true → is_guest e.sender ≡ false → match_of s.requests e ≡ Unmatched
    → (judged s e).number ≡ cond (not s.head.present) 25 (cond (not (is_unsolicited e)) 33 0)
unfolding number_of
unmatched-number s e h g m = number_is s e ∙ ap (number_for s.head s.rows s.requests e) m ∙ late-number s.head s.rows s.requests e h g

-- a host's reply for which no request with its id is live
pub late-reply : (s : Session) (e : Event) → (traits_of e.class).reply ≡ true → is_guest e.sender ≡ false → NoLive s.requests e.request.id → LateEvent s e
late-reply s e h g n =
    let m : match_of s.requests e ≡ Unmatched = no-match s.requests e n in
    let w = unmatched-number s e h g m in
    record {
      unmatched = m;
      absent = λ a. w ∙ rw a;
      unanswered = λ a u. w ∙ rw (a, u);
      unsolicited = λ a u. w ∙ rw (a, u);
      kept = unmatched-keeps s e h m;
    }

-- ---- a packet that the wire checks pass

-- the guest may not send it
abbrev unsent : Option Kind → Bool
unsent None = true
unsent (Some k) = not (sends k.sender Guest)

-- what holds of each of these numbers holds of one that is among them
abbrev pub each_of : (ℕ → Bool) → List ℕ → Bool
each_of P [] = true
each_of P (n ∷ ns) = P n && each_of P ns

pub each-among : (P : ℕ → Bool) (ns : List ℕ) (n : ℕ) → each_of P ns ≡ true → among ns n ≡ true → P n ≡ true
each-among P [] n a h = absurd (false≢true h)
each-among P (k ∷ ns) n a h =
    let b = and_parts (P k) (each_of P ns) a in
    cases (eqb n k) (λ t. rw (eqb-true n k t) b.0) (λ t. each-among P ns n b.1 (rw t at h))

-- nor any kind that would be a guest's reply
replies-unsent : (n : ℕ) (inward : Bool) → is_reply Guest n inward ≡ true → unsent (find n kinds) ≡ true
unfolding kinds
replies-unsent n inward h = cases (among ns n) (λ a. each-among (λ (k : ℕ). unsent (find k kinds)) ns n refl a) (λ a. absurd (false≢true (rw a at h)))
  where
    ns : List ℕ
    ns = 8 ∷ 11 ∷ 14 ∷ 17 ∷ 20 ∷ 27 ∷ []

-- its replies are the host's
pub from-host : (l : Link) (p : Content) → wire_number l p ≡ 0 → (traits_of (event_of l.sender p).class).reply ≡ true → is_guest (event_of l.sender p).sender ≡ false
unfolding event_of
from-host l p z h =
    let c : Clean l p = clean l p z in
    go l.sender c.sender (sym (ap (λ (f : Grounds). f.reply) (agrees l.sender p c.kind c.found c.sender)) ∙ h)
  where
    go : (from : Side) → sends (clean l p z).kind.sender from ≡ true → is_reply from p.kind (inward_of p) ≡ true → is_guest from ≡ false
    go Guest a r =
        let c : Clean l p = clean l p z in
        let u : not (sends c.kind.sender Guest) ≡ true = sym (ap unsent c.found) ∙ replies-unsent p.kind (inward_of p) r in
        absurd (true≢false (sym a ∙ not-true (sends c.kind.sender Guest) u))
    go Host a r = refl
