-- The judge's next session is what `Moved` says (`moves`).
-- For each kind of the table all of it computes but the rows, and each change of the rows has a law of what stands in a row afterwards.
-- Assumes nothing.
use Rattle.std.specs.Prelude.{Option, Some, None}
use Prim.Native.Nat.{ℕ, ◌<◌}
use mathlib.Core.Bool.{Bool, true, false, cond, not, ◌&&◌, ◌||◌, false≢true, true≢false, and-true, and-false}
use mathlib.Core.List.{List, [], ◌∷◌}
use mathlib.Core.Path.{◌≡◌, refl, sym, ap, ◌∙◌}
use lib.Dec.{eqb}
use borrow.Author.Tests.{eqb-true}
use borrow.Table.Steps.{cases}
use Rattle.octets.proofs.Logic.{and_parts, or-none}
use Rattle.octets.specs.Little.{le}
use Rattle.scan.proofs.Searches.{first_found, tabulated-at}
use Rattle.endpoint.specs.declared.Endpoint.{Endpoint}
use Rattle.endpoint.specs.Endpoint.{row_of}
use Rattle.header.specs.declared.Side.{Side}
use Rattle.header.specs.declared.Side.TheVariants.{Guest, Host}
use Rattle.device.specs.declared.Head.{Head}
use Rattle.device.specs.Device.{bulk, iso, interrupt, row_at, is_row, stream_to, closed, RowState, touches}
use Rattle.device.specs.declared.Introduction.TheVariants.{Unintroduced, Two, One}
use Rattle.device.specs.declared.Scope.{Scope}
use Rattle.device.specs.declared.Scope.TheVariants.{OfInterface, EveryRow, NoRow}
use Rattle.device.specs.declared.Rows.{Rows}
use Rattle.device.specs.declared.Introduction.{Introduction}
use Rattle.device.proofs.RowChanges.{start-at, with_stream, closed_at, stream_at, replaced-at}
use Rattle.requests.specs.declared.Requests.{Requests}
use Rattle.requests.specs.Requests.{Place, places_of, place_at, fresh_requests, lowest, cleared, free_place}
use Rattle.requests.proofs.Places.{places-at, cleared_at}
use Rattle.requests.proofs.KeptClean.{cleared-fresh}
use Rattle.header.specs.Link.{is_guest}
use Rattle.kinds.specs.Table.{kinds, Field}
use Rattle.kinds.specs.Content.{Value, Content, packet_of}
use Rattle.kinds.specs.Codec.{layout}
use Rattle.kinds.proofs.RoundTrip.{clean}
use Rattle.packet.specs.Rows.{element}
use Rattle.events.specs.Meaning.{meanings}
use Rattle.events.specs.Event.{Event, meaning_of, event_of, announced_in}
use Rattle.checks.specs.Checks.{match_of, match_in, Match}
use Rattle.checks.specs.Change.{scope_of, move_by, answers_start, move_of, is_opening}
use Rattle.session.specs.declared.Session.{Session}
use Rattle.session.specs.Session.{link_of, shared_in}
use Rattle.session.specs.Step.{applied, next_for, kept_hello}
use Rattle.claims.specs.Allowed.{among, is_request, is_reply, answers_kind, endpoint_named, inward_of}
use Rattle.claims.specs.NumberByKind.{answers_by, answered_at}
use Rattle.claims.specs.Movements.{table_type, table_interface, start_type, kind_in, answered_kind, first_hello, stream_after, PacketMoves}
use Rattle.claims.proofs.Grounds.{◌also◌, Every, by-guest, by-host, by_both, found-kind}
use Rattle.claims.proofs.OnePacket.{passed}

-- ---- a row after a change of the rows

-- with the stream of an endpoint opened or closed
abbrev streamed_row : Rows → ℕ → Endpoint → ℕ → Bool → RowState
streamed_row d r x k b = with_stream (cond (is_row (row_of x) r && eqb (row_at d r).ty k) b (row_at d r).streaming) (row_at d r)

-- with the streams of a scope closed
abbrev closed_in : Scope → ℕ → RowState → RowState
closed_in c r w = with_stream (cond (touches c r w.interface) false w.streaming) w

closed-in : (d : Rows) (c : Scope) (r : ℕ) → r < 32 → row_at (closed d c) r ≡ closed_in c r (row_at d r)
closed-in d c r h = closed_at d c r h ∙ (λ j. with_stream (either (row_at d r).streaming (touches c r (row_at d r).interface) j) (row_at d r))
  where
    either : (x b : Bool) → (x && not b) ≡ cond b false x
    either x true = and-false x
    either x false = and-true x

-- with the row of a new endpoint table in its place
abbrev replaced_with : RowState → RowState → RowState
replaced_with old new = with_stream (old.streaming && eqb old.ty new.ty) new

announced-at : (fs : List Field) (vs : List Value) (r : ℕ) → r < 32 → row_at (announced_in fs vs) r ≡ record { ty = element "type" fs vs r; interface = element "interface" fs vs r; streaming = false }
announced-at fs vs r h =
    λ j.
    record {
      ty = tabulated-at (λ (i : ℕ). element "type" fs vs i) 32 r 0 h j;
      interface = tabulated-at (λ (i : ℕ). element "interface" fs vs i) 32 r 0 h j;
      streaming = (start-at r h j).streaming;
    }

-- ---- a row after a reply

-- that request is of a kind that the reply answers
other-kind : (t : Requests) (p : Content) (k : ℕ) → eqb 0 k ≡ false → answers_kind p.kind k ≡ false → eqb (answered_kind t p) k ≡ false
other-kind t p k z u = go (answered_at t p) refl
  where
    go : (o : Option ℕ) → answered_at t p ≡ o → eqb (kind_in t o) k ≡ false
    go None f = z
    go (Some i) f =
        let q = (place_at t i).request in
        let m : Place → Bool = λ (x : Place). x.live && answers_by p x.request in
        let a = and_parts (place_at t i).live (answers_by p q) (sym (ap m (places-at t i)) ∙ (first_found m (places_of t) i free_place f).1) in
        let b = and_parts (eqb q.id p.id && answers_kind p.kind q.kind) _ a.1 in
        let c = and_parts (eqb q.id p.id) (answers_kind p.kind q.kind) b.0 in
        cases (eqb q.kind k) (λ x. absurd (true≢false (sym c.1 ∙ ap (answers_kind p.kind) (eqb-true q.kind k x) ∙ u))) (λ x. x)

module _ (s : Session) (p : Content) where
  abbrev t : Requests
  t = s.requests

  abbrev e : Event
  e = event_of Host p

  abbrev match : Match
  match = match_in t (answered_at t p)

  abbrev opens : Bool
  opens = is_opening (move_of e match)

  opens-is : eqb 0 e.answers.first ≡ false → opens ≡ (eqb e.status 0 && eqb (answered_kind t p) e.answers.first)
  opens-is z = opening e.status (answers_start e match) ∙ ap (λ (b : Bool). eqb e.status 0 && b) (go (answered_at t p))
    where
      -- 0 is no stall
      opening : (status : ℕ) (start : Bool) → is_opening (move_by status start) ≡ (eqb status 0 && start)
      opening status start =
          cases (eqb status 4) (λ f. rw (eqb-true status 4 f)) (λ f. rw f (cases (eqb status 0 && start) (λ b. rw b) (λ b. rw b)))

      go : (o : Option ℕ) → answers_start e (match_in t o) ≡ eqb (kind_in t o) e.answers.first
      go None = sym z
      go (Some i) = refl

  -- the rows whose streams a reply to a request of this kind closes
  abbrev closing_scope : ℕ → Scope
  closing_scope kind = cond (eqb e.status 0) (cond (eqb kind 6) EveryRow (cond (eqb kind 9) (OfInterface e.request.target) NoRow)) NoRow

  scope-is : scope_of e match ≡ closing_scope (answered_kind t p)
  scope-is = go (answered_at t p)
    where
      go : (o : Option ℕ) → scope_of e (match_in t o) ≡ closing_scope (kind_in t o)
      go None = cases (eqb e.status 0) (λ x. rw x) (λ x. rw x)
      go (Some i) = refl

  module _ (d : Rows) (r : ℕ) (h : r < 32) where
    abbrev old : RowState
    old = row_at d r

    abbrev new : RowState
    new = row_at (closed d (scope_of e match)) r

    new_is : new ≡ closed_in (closing_scope (answered_kind t p)) r old
    new_is = closed-in d (scope_of e match) r h ∙ ap (λ (c : Scope). closed_in c r old) scope-is

    -- after one that answers no set alt
    configured : answers_kind p.kind 9 ≡ false → new ≡ with_stream (cond (eqb e.status 0 && eqb (answered_kind t p) 6) false old.streaming) old
    configured n = new_is ∙ rw (other-kind t p 9 refl n) (go (eqb e.status 0) (eqb (answered_kind t p) 6))
      where
        go : (a b : Bool) → closed_in (cond a (cond b EveryRow NoRow) NoRow) r old ≡ with_stream (cond (a && b) false old.streaming) old
        go true true = refl
        go true false = refl
        go false b = refl

    -- after one that answers no set configuration
    altered : answers_kind p.kind 6 ≡ false
        → new ≡ with_stream (cond (eqb e.status 0 && eqb (answered_kind t p) 9 && not (eqb r 0 || eqb r 16) && eqb old.interface e.request.target) false old.streaming) old
    altered n = new_is ∙ rw (other-kind t p 6 refl n) (go (eqb e.status 0) (eqb (answered_kind t p) 9))
      where
        go : (a b : Bool) → closed_in (cond a (cond b (OfInterface e.request.target) NoRow) NoRow) r old
            ≡ with_stream (cond (a && b && not (eqb r 0 || eqb r 16) && eqb old.interface e.request.target) false old.streaming) old
        go true true = refl
        go true false = refl
        go false b = refl

    -- after one that answers neither
    unchanged : answers_kind p.kind 6 ≡ false → answers_kind p.kind 9 ≡ false → new ≡ old
    unchanged n m = new_is ∙ rw (other-kind t p 6 refl n, other-kind t p 9 refl m) (cases (eqb e.status 0) (λ x. rw x) (λ x. rw x))

  -- after a status, which answers neither
  reported : (d : Rows) (r : ℕ) → r < 32 → (k : ℕ) → eqb 0 e.answers.first ≡ false → answers_kind p.kind 6 ≡ false → answers_kind p.kind 9 ≡ false
      → row_at (closed (stream_to d (endpoint_named p) k opens) (scope_of e match)) r ≡ streamed_row d r (endpoint_named p) k (eqb e.status 0 && eqb (answered_kind t p) e.answers.first)
  reported d r h k z n m =
      let x = endpoint_named p in
      unchanged (stream_to d x k opens) r h n m ∙ stream_at d x k opens r h ∙ ap (streamed_row d r x k) (opens-is z)

-- ---- for each kind of the table, from whoever may send it

-- a request or a reply
abbrev concerned : Side → Content → Bool
concerned from p = is_request from p.kind || is_reply from p.kind (inward_of p)

-- the head, and the requests where the packet is neither
record Heads : Type 0 where
  head : Head
  requests : Requests

abbrev heads_of : Bool → Session → Heads
heads_of b s = record { head = s.head; requests = cond b fresh_requests s.requests }

-- the same by kind numbers
abbrev head_by : Head → Side → Content → Head
head_by h from p =
    record {
      guest = cond (eqb p.kind 0 && is_guest from) (kept_hello h.guest (le 4 p.rest 0)) h.guest;
      host = cond (eqb p.kind 0 && not (is_guest from)) (kept_hello h.host (le 4 p.rest 0)) h.host;
      stopped = h.stopped;
      held = h.held;
      present = cond (eqb p.kind 1) true (cond (eqb p.kind 2) false h.present);
      introduction = cond (eqb p.kind 2) Unintroduced
          (cond (eqb p.kind 5) (cond h.present h.introduction One)
          (cond (eqb p.kind 4) (cond h.present h.introduction Two) h.introduction));
      owed = cond (eqb p.kind 2) (shared_in h 3) (cond (eqb p.kind 24) false h.owed);
    }

abbrev heads_by : Session → Side → Content → Heads
heads_by s from p =
    record {
      head = head_by s.head from p;
      requests = cond (concerned from p) fresh_requests (cond (among (2 ∷ 3 ∷ []) p.kind) (cleared s.requests) s.requests);
    }

-- row r
abbrev row_after : Session → Content → ℕ → RowState
row_after s p r =
    record {
      ty = cond (eqb p.kind 5) (table_type p r) (cond (eqb p.kind 2) (start_type r) (row_at s.rows r).ty);
      interface = cond (eqb p.kind 5) (table_interface p r) (cond (eqb p.kind 2) 0 (row_at s.rows r).interface);
      streaming = stream_after s p r;
    }

abbrev next_session : Session → Side → Content → Session
next_session s from p = next_for s (event_of from p) (match_of s.requests (event_of from p))

-- what a packet of a kind from one side does
abbrev KindMoves : Side → ℕ → Type 0
KindMoves from n =
    (s : Session) (id : ℕ) (vs : List Value) (rest : List ℕ)
    → (heads_of (concerned from (packet_of n id vs rest)) (next_session s from (packet_of n id vs rest)) ≡ heads_by s from (packet_of n id vs rest))
    × ((r : ℕ) → r < 32 → row_at (next_session s from (packet_of n id vs rest)).rows r ≡ row_after s (packet_of n id vs rest) r)

-- a host's packet on an interrupt endpoint is data on a stream or a reply
interrupts : KindMoves Host 103
unfolding next_for applied event_of meaning_of meanings layout kinds match_of lowest
interrupts s id vs rest =
    cases (inward_of (packet_of 103 id vs rest)) (λ t. rw t (refl, λ r h. refl)) (λ t. rw t (refl, λ r h. rw t at (unchanged s (packet_of 103 id vs rest) s.rows r h refl refl)))

every-kind-moves : Every KindMoves kinds
unfolding next_for applied event_of meaning_of meanings layout kinds match_of lowest
every-kind-moves =
    by_both KindMoves 0 (λ s id vs rest. (refl, λ r h. refl)) (λ s id vs rest. (refl, λ r h. refl))
    also by-host KindMoves 1 (λ s id vs rest. (refl, λ r h. refl))
    also by-host KindMoves 2 (λ s id vs rest. (refl, λ r h. start-at r h))
    also by-guest KindMoves 3 (λ s id vs rest. (refl, λ r h. closed-in s.rows EveryRow r h))
    also by-host KindMoves 4 (λ s id vs rest. (refl, λ r h. refl))
    also by-host KindMoves 5 (λ s id vs rest. (refl, λ r h. replaced-at (announced_in (layout 5) vs) s.rows r h ∙ ap (replaced_with (row_at s.rows r)) (announced-at (layout 5) vs r h)))
    also by-guest KindMoves 6 (λ s id vs rest. (refl, λ r h. refl))
    also by-guest KindMoves 7 (λ s id vs rest. (refl, λ r h. refl))
    also by-host KindMoves 8 (λ s id vs rest. (refl, λ r h. configured s (packet_of 8 id vs rest) s.rows r h refl))
    also by-guest KindMoves 9 (λ s id vs rest. (refl, λ r h. refl))
    also by-guest KindMoves 10 (λ s id vs rest. (refl, λ r h. refl))
    also by-host KindMoves 11 (λ s id vs rest. (refl, λ r h. altered s (packet_of 11 id vs rest) s.rows r h refl))
    also by-guest KindMoves 12 (λ s id vs rest. (refl, λ r h. stream_at s.rows (endpoint_named (packet_of 12 id vs rest)) iso true r h))
    also by-guest KindMoves 13 (λ s id vs rest. (refl, λ r h. refl))
    also by-host KindMoves 14 (λ s id vs rest. (refl, λ r h. reported s (packet_of 14 id vs rest) s.rows r h iso refl refl refl))
    also by-guest KindMoves 15 (λ s id vs rest. (refl, λ r h. stream_at s.rows (endpoint_named (packet_of 15 id vs rest)) interrupt true r h))
    also by-guest KindMoves 16 (λ s id vs rest. (refl, λ r h. refl))
    also by-host KindMoves 17 (λ s id vs rest. (refl, λ r h. reported s (packet_of 17 id vs rest) s.rows r h interrupt refl refl refl))
    also by-guest KindMoves 18 (λ s id vs rest. (refl, λ r h. refl))
    also by-guest KindMoves 19 (λ s id vs rest. (refl, λ r h. refl))
    also by-host KindMoves 20 (λ s id vs rest. (refl, λ r h. unchanged s (packet_of 20 id vs rest) s.rows r h refl refl))
    also by-guest KindMoves 21 (λ s id vs rest. (refl, λ r h. refl))
    also by-guest KindMoves 22 (λ s id vs rest. (refl, λ r h. refl))
    also by_both KindMoves 23 (λ s id vs rest. (refl, λ r h. refl)) (λ s id vs rest. (refl, λ r h. refl))
    also by-guest KindMoves 24 (λ s id vs rest. (refl, λ r h. refl))
    also by-guest KindMoves 25 (λ s id vs rest. (refl, λ r h. stream_at s.rows (endpoint_named (packet_of 25 id vs rest)) bulk true r h))
    also by-guest KindMoves 26 (λ s id vs rest. (refl, λ r h. refl))
    also by-host KindMoves 27 (λ s id vs rest. (refl, λ r h. reported s (packet_of 27 id vs rest) s.rows r h bulk refl refl refl))
    also by_both KindMoves 100 (λ s id vs rest. (refl, λ r h. refl)) (λ s id vs rest. (refl, λ r h. unchanged s (packet_of 100 id vs rest) s.rows r h refl refl))
    also by_both KindMoves 101 (λ s id vs rest. (refl, λ r h. refl)) (λ s id vs rest. (refl, λ r h. unchanged s (packet_of 101 id vs rest) s.rows r h refl refl))
    also by_both KindMoves 102 (λ s id vs rest. (refl, λ r h. refl)) (λ s id vs rest. (refl, λ r h. refl))
    also by_both KindMoves 103 (λ s id vs rest. (refl, λ r h. refl)) interrupts
    also by-host KindMoves 104 (λ s id vs rest. (refl, λ r h. refl))
    also tt

-- ---- the theorem

first-kept : (h : Option ℕ) (word : ℕ) → kept_hello h word ≡ first_hello h word
first-kept None word = refl
first-kept (Some w) word = refl

-- with a device the introduction stays, whatever the kind
introduction-is : (two five four present : Bool) (i : Introduction)
    → cond two Unintroduced (cond five (cond present i One) (cond four (cond present i Two) i)) ≡ cond two Unintroduced (cond present i (cond five One (cond four Two i)))
introduction-is true five four present i = refl
introduction-is false true four present i = refl
introduction-is false false true present i = refl
introduction-is false false false true i = refl
introduction-is false false false false i = refl

-- 2 and 3 are neither requests nor replies
neither-kind : (from : Side) (kind : ℕ) (inward : Bool) → among (2 ∷ 3 ∷ []) kind ≡ true → (is_request from kind || is_reply from kind inward) ≡ false
neither-kind from kind inward h = cases (eqb kind 2) (λ e. at 2 (eqb-true kind 2 e) (two from)) (λ e. cases (eqb kind 3) (λ f. at 3 (eqb-true kind 3 f) (three from)) (λ f. absurd (false≢true (rw (e, f) at h))))
  where
    at : (n : ℕ) → kind ≡ n → (is_request from n || is_reply from n inward) ≡ false → (is_request from kind || is_reply from kind inward) ≡ false
    at n e g = ap (λ (k : ℕ). is_request from k || is_reply from k inward) e ∙ g

    two : (from : Side) → (is_request from 2 || is_reply from 2 inward) ≡ false
    two Guest = refl
    two Host = refl

    three : (from : Side) → (is_request from 3 || is_reply from 3 inward) ≡ false
    three Guest = refl
    three Host = refl

pub moves : PacketMoves
moves s from p w n =
    let c = clean (link_of from s) p w in
    let m = found-kind KindMoves kinds p.kind c.kind c.found every-kind-moves from c.sender s p.id p.fields p.rest in
    let word = le 4 p.rest 0 in
    rw (passed s (event_of from p) n)
    (record {
      guest = (λ i. (m.0 i).head.guest) ∙ ap (λ (h : Option ℕ). cond (eqb p.kind 0 && is_guest from) h s.head.guest) (first-kept s.head.guest word);
      host = (λ i. (m.0 i).head.host) ∙ ap (λ (h : Option ℕ). cond (eqb p.kind 0 && not (is_guest from)) h s.head.host) (first-kept s.head.host word);
      present = λ i. (m.0 i).head.present;
      introduction = (λ i. (m.0 i).head.introduction) ∙ introduction-is (eqb p.kind 2) (eqb p.kind 5) (eqb p.kind 4) s.head.present s.head.introduction;
      owed = λ i. (m.0 i).head.owed;
      types = λ r h i. (m.1 r h i).ty;
      interfaces = λ r h i. (m.1 r h i).interface;
      streams = λ r h i. (m.1 r h i).streaming;
      emptied = λ a i. ap (λ (x : Requests). place_at x i) (ended m.0 a) ∙ cleared_at s.requests i;
      emptied-fresh = λ a c. ended m.0 a ∙ cleared-fresh s.requests c;
      requests = λ a b k.
          let neither : concerned from p ≡ false = or-none (is_request from p.kind) (is_reply from p.kind (inward_of p)) a b in
          rw (neither, k) at (ap (λ (h : Heads). h.requests) m.0);
      stopped = λ i. (m.0 i).head.stopped;
      held = λ i. (m.0 i).head.held;
    })
  where
    -- 2 and 3 clear the requests
    ended : heads_of (concerned from p) (next_session s from p) ≡ heads_by s from p → among (2 ∷ 3 ∷ []) p.kind ≡ true → (next_session s from p).requests ≡ cleared s.requests
    ended m a =
        let neither : concerned from p ≡ false = neither-kind from p.kind (inward_of p) a in
        rw (neither, a) at (ap (λ (h : Heads). h.requests) m)
