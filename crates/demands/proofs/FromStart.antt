-- No list of calls meets 41 or 43 (`never-refused`), and what else is said of every session that the gate leads to.
-- What 41 and 43 ask (`Left`) holds at the start and is kept by each way of a call, by induction over the calls. A hello that passes could change
-- what the other's held bytes are (`other-unfinished`): but where the other's own has not passed, nothing is shared before or after; where it has
-- and this one had not, nothing is held there; and where both had, no hello changes.
-- Assumes nothing.
use Rattle.std.specs.Prelude.{Option, Some, None}
use Prim.Native.Nat.{ℕ, ◌≤◌, ◌+◌}
use native.Mathlib.Omega.{arith}
use mathlib.Core.Bool.{Bool, true, false, cond, not, ◌&&◌, false≢true, true≢false, and-false}
use mathlib.Core.List.{List, [], ◌∷◌, ◌++◌}
use mathlib.Core.Path.{◌≡◌, refl, sym, ap, subst, ◌∙◌}
use lib.Dec.{eqb, ltb}
use lib.ListN.{length, take}
use lib.Bits.{bit_and, and_zero_l, and_zero_r}
use lib.Seq.{sets, length-sets}
use borrow.Author.Tests.{eqb-true, le-ltb, eqb-false}
use borrow.Table.Steps.{cases}
use Rattle.octets.specs.Bits.{has_bit}
use Rattle.octets.proofs.Integers.{take-sets}
use Rattle.header.specs.declared.Side.{Side}
use Rattle.header.specs.declared.Side.TheVariants.{Guest, Host}
use Rattle.header.specs.Link.{shared_set, id_width, passed, offered, own, opposite}
use Rattle.header.specs.declared.Link.{Link}
use Rattle.header.specs.Header.{kind_of, length_of, header_size, header_number}
use Rattle.device.specs.Device.{start_head, control_rows}
use Rattle.requests.specs.Requests.{fresh_requests, ids_differ}
use Rattle.requests.specs.Clean.{Clean}
use Rattle.kinds.specs.Content.{Content}
use Rattle.kinds.specs.Codec.{decode, read_number}
use Rattle.kinds.specs.Number.{wire_number}
use Rattle.frame.specs.Cut.{Cut, more, bad, whole, cut_of}
use Rattle.frame.specs.Frame.{cut_at, completed}
use Rattle.wire.proofs.Prefix.{cut-none}
use Rattle.wire.specs.Usbredir.{usbredir}
use Rattle.wire.proofs.Usbredir.{laws}
use Rattle.events.specs.Event.{Event, event_of}
use Rattle.session.specs.declared.Session.{Session}
use Rattle.session.specs.Session.{fresh_session, link_of, unfit}
use Rattle.session.specs.Step.{judged}
use Rattle.gate.specs.Verdict.{held_of, held_as, stopped_now, refused_as, verdict_of}
use Rattle.gate.specs.Offer.{Outcome, held_bytes, is_waiting, barred, by_cut, offer_of}
use Rattle.gate.specs.Write.{shut, write_by}
use Rattle.gate.specs.Ready.{FitCount, Fit, Ready}
use Rattle.gate.proofs.Ready.{fit_is, is-fit, completed-length, more-few, ready}
use Rattle.claims.specs.Allowed.{among}
use Rattle.claims.specs.Movements.{Moved}
use Rattle.claims.proofs.OnePacket.{refused-keeps}
use Rattle.claims.proofs.KeptByPacket.{kept-ids, kept-clean, kept-control, event-control, kept-hellos, kept-plain, start-clean, start-fit}
use Rattle.claims.proofs.Movements.{moves}
use Rattle.demands.specs.Demand2.{packet_at, Passes}
use Rattle.demands.specs.CallLists.{of_side, Both, ReaderCall, answer_to, next, held_by, ends_packet, final}
use Rattle.demands.specs.EachCall.{Unfinished}
use Rattle.demands.specs.LateReplies.{packet_read}
use Rattle.demands.specs.FromStart.{at_start, refused_state, NeverRefused, NeverRefusedWrite, BegunStarts, BegunClean, BegunEmptied}
use Rattle.demands.proofs.Numbers.{write-numbers}
use Rattle.demands.proofs.KeptByCall.{whole-number, held-as, same-held}
use Rattle.demands.proofs.Demand2.{judged-call, demand-2, moves-in-gate}
use Rattle.demands.proofs.CutsDontMatter.{verdict-ends}
use Rattle.demands.proofs.EachCall.{header-ends}
use Rattle.demands.proofs.LateReplies.{by_call, read_is}

abbrev pub hello_by : Side → Session → Option ℕ
hello_by Guest s = s.head.guest
hello_by Host s = s.head.host

-- what 41 and 43 ask
pub record Left (x : Both) : Type 0 where
  pub room : (d : Side) → 32784 ≤ length (x.hold d)
  pub fit : Fit x.session
  pub unfinished : (d : Side) → Unfinished d x.session (x.hold d)

-- ---- what a header is, where the sender's hello has not passed

is-awaited : (h : Option ℕ) → passed h ≡ false → h ≡ None
is-awaited None e = refl
is-awaited (Some w) e = absurd (true≢false e)

cut_by : (l m : Link) (b : List ℕ) → ((k : ℕ) → id_width l k ≡ id_width m k) → ((k n : ℕ) → header_number l k n ≡ header_number m k n) → cut_at l b ≡ cut_at m b
unfolding header_size
cut_by l m b p q = λ i. cut_of (λ c. 8 + p (kind_of c) i) (λ c. q (kind_of c) (length_of c) i) length_of b

-- nothing is shared then, whatever the other's hello is
shared-none : (e : Side) (s : Session) → hello_by e s ≡ None → shared_set (link_of e s) ≡ 0
unfolding shared_set
shared-none Guest s q = ap (λ (h : Option ℕ). bit_and (bit_and (offered h) (offered s.head.host)) 255) q ∙ ap (λ (n : ℕ). bit_and n 255) (and_zero_l (offered s.head.host)) ∙ and_zero_l 255
shared-none Host s q = ap (λ (h : Option ℕ). bit_and (bit_and (offered s.head.guest) (offered h)) 255) q ∙ ap (λ (n : ℕ). bit_and n 255) (and_zero_r (offered s.head.guest)) ∙ and_zero_l 255

width-none : (l : Link) → shared_set l ≡ 0 → (k : ℕ) → id_width l k ≡ cond (not (eqb k 0) && has_bit 0 5) 8 4
unfolding id_width
width-none l e k = ap (λ (n : ℕ). cond (not (eqb k 0) && has_bit n 5) 8 4) e

number-own : (l m : Link) → own l ≡ own m → (k n : ℕ) → header_number l k n ≡ header_number m k n
unfolding header_number
number-own l m e k n = ap (λ (h : Option ℕ). cond (ltb 32768 n) 10 (cond (passed h) (cond (eqb k 0) 12 0) (cond (eqb k 0) 0 11))) e

own_is : (e : Side) (s : Session) → own (link_of e s) ≡ hello_by e s
own_is Guest s = refl
own_is Host s = refl

cut-awaited : (e : Side) (s t : Session) (b : List ℕ) → hello_by e s ≡ None → hello_by e t ≡ hello_by e s → cut_at (link_of e t) b ≡ cut_at (link_of e s) b
cut-awaited e s t b a q =
    cut_by (link_of e t) (link_of e s) b
    (λ k. width-none (link_of e t) (shared-none e t (q ∙ a)) k ∙ sym (width-none (link_of e s) (shared-none e s a) k))
    (λ k n. number-own (link_of e t) (link_of e s) (own_is e t ∙ q ∙ sym (own_is e s)) k n)

-- ---- what a call of side d leaves: a session t, and its buffer

pub record AfterCall (d : Side) (s t : Session) (hold : List ℕ) : Type 0 where
  room : 32784 ≤ length hold
  -- the other's hello and count are as they were, and a hello that has passed stays
  other : hello_by (opposite d) t ≡ hello_by (opposite d) s
  same : passed (hello_by d s) ≡ true → hello_by d t ≡ hello_by d s
  count : held_of (opposite d) t ≡ held_of (opposite d) s
  few : held_of d t ≤ 32783
  none-waiting : passed (hello_by d t) ≡ true → passed (hello_by (opposite d) t) ≡ false → held_of d t ≡ 0
  ids : ids_differ t.requests ≡ true
  control : control_rows t.rows ≡ true
  unfinished : Unfinished d t hold

-- a hello that has not passed afterwards had not before
not-before : (d : Side) (s t : Session) → (passed (hello_by d s) ≡ true → hello_by d t ≡ hello_by d s) → passed (hello_by d t) ≡ false → passed (hello_by d s) ≡ false
not-before d s t k e = go (passed (hello_by d s)) refl
  where
    go : (b : Bool) → passed (hello_by d s) ≡ b → b ≡ false
    go true q = sym q ∙ sym (ap passed (k q)) ∙ e
    go false q = refl

-- the other direction's bytes are still no packet
other-unfinished : (d : Side) (s t : Session) (hold own : List ℕ) → AfterCall d s t own
    → (passed (hello_by (opposite d) s) ≡ true → passed (hello_by d s) ≡ false → held_of (opposite d) s ≡ 0)
    → Unfinished (opposite d) s hold → Unfinished (opposite d) t hold
other-unfinished d s t hold mine n w u =
    go (passed (hello_by (opposite d) s)) refl (passed (hello_by d s)) refl
  where
    bytes : held_bytes (opposite d) t hold ≡ held_bytes (opposite d) s hold
    bytes = ap (λ (m : ℕ). take m hold) n.count

    go : (a : Bool) → passed (hello_by (opposite d) s) ≡ a → (b : Bool) → passed (hello_by d s) ≡ b → Unfinished (opposite d) t hold
    go false ea b eb = rw bytes (cut-awaited (opposite d) s t (held_bytes (opposite d) s hold) (is-awaited (hello_by (opposite d) s) ea) n.other ∙ u)
    go true ea false eb = rw (n.count ∙ w ea eb) (cut-none usbredir laws (link_of (opposite d) t))
    go true ea true eb = rw bytes (ap (λ (l : Link). cut_at l (held_bytes (opposite d) s hold)) (link d (n.same eb) n.other) ∙ u)
      where
        link : (d : Side) → hello_by d t ≡ hello_by d s → hello_by (opposite d) t ≡ hello_by (opposite d) s → link_of (opposite d) t ≡ link_of (opposite d) s
        link Guest p q = λ i. record { sender = Host; guest = p i; host = q i }
        link Host p q = λ i. record { sender = Guest; guest = q i; host = p i }

-- the caller's own direction is as `AfterCall` says; the other's count and hello are as they were, and its bytes still no packet (`other-unfinished`)
left-next : (x : Both) (d : Side) (t : Session) (hold : List ℕ) → Left x → AfterCall d x.session t hold → Left (record { session = t; hold = of_side d hold x.hold })
left-next x Guest t hold h n =
    record {
      room = rooms;
      fit =
          record {
            guest = record { few = n.few; none-waiting = n.none-waiting };
            host =
                record {
                  few = subst (λ (m : ℕ). m ≤ 32783) (sym n.count) h.fit.host.few;
                  none-waiting = λ p q. n.count ∙ h.fit.host.none-waiting (sym (ap passed n.other) ∙ p) (not-before Guest x.session t n.same q);
                };
            ids = n.ids;
            control = n.control;
          };
      unfinished = cuts;
    }
  where
    rooms : (e : Side) → 32784 ≤ length (of_side Guest hold x.hold e)
    rooms Guest = n.room
    rooms Host = h.room Host

    cuts : (e : Side) → Unfinished e t (of_side Guest hold x.hold e)
    cuts Guest = n.unfinished
    cuts Host = other-unfinished Guest x.session t (x.hold Host) hold n h.fit.host.none-waiting (h.unfinished Host)
left-next x Host t hold h n =
    record {
      room = rooms;
      fit =
          record {
            guest =
                record {
                  few = subst (λ (m : ℕ). m ≤ 32783) (sym n.count) h.fit.guest.few;
                  none-waiting = λ p q. n.count ∙ h.fit.guest.none-waiting (sym (ap passed n.other) ∙ p) (not-before Host x.session t n.same q);
                };
            host = record { few = n.few; none-waiting = n.none-waiting };
            ids = n.ids;
            control = n.control;
          };
      unfinished = cuts;
    }
  where
    rooms : (e : Side) → 32784 ≤ length (of_side Host hold x.hold e)
    rooms Guest = h.room Guest
    rooms Host = n.room

    cuts : (e : Side) → Unfinished e t (of_side Host hold x.hold e)
    cuts Guest = other-unfinished Host x.session t (x.hold Guest) hold n h.fit.guest.none-waiting (h.unfinished Guest)
    cuts Host = n.unfinished

-- ---- each way of a call

module _ (x : Both) (d : Side) (piece : List ℕ) (h : Left x) where
  abbrev s : Session
  s = x.session

  counts : (d : Side) → FitCount (hello_by d s) (hello_by (opposite d) s) (held_of d s)
  counts Guest = h.fit.guest
  counts Host = h.fit.host

  -- a call that takes nothing
  unmoved-next : AfterCall d s s (x.hold d)
  unmoved-next =
      record {
        room = h.room d;
        other = refl;
        same = λ _. refl;
        count = refl;
        few = (counts d).few;
        none-waiting = (counts d).none-waiting;
        ids = h.fit.ids;
        control = h.fit.control;
        unfinished = h.unfinished d;
      }

  other-count : (d : Side) (n : ℕ) → held_of (opposite d) (held_as d n s) ≡ held_of (opposite d) s
  other-count Guest n = refl
  other-count Host n = refl

  hello-as : (d e : Side) (n : ℕ) → hello_by e (held_as d n s) ≡ hello_by e s
  hello-as d Guest n = refl
  hello-as d Host n = refl

  -- no direction waits in a call that goes on
  not-waiting : (d : Side) → Ready d s (x.hold d) → passed (hello_by d s) ≡ true → passed (hello_by (opposite d) s) ≡ false → ⊥
  not-waiting Guest r p q = let w : is_waiting (link_of Guest s) ≡ true = rw (p, q) refl in true≢false (sym w ∙ r.not-waiting)
  not-waiting Host r p q = let w : is_waiting (link_of Host s) ≡ true = rw (p, q) refl in true≢false (sym w ∙ r.not-waiting)

  -- a piece that is kept
  kept_next : Ready d s (x.hold d) → cut_at (link_of d s) (held_by x d ++ piece) ≡ more → AfterCall d s (held_as d (held_of d s + length piece) s) (sets (x.hold d) (held_of d s) piece)
  kept_next r e =
      let few = more-few (link_of d s) (x.hold d) piece (held_of d s) r.room (counts d).few e in
      let m : held_of d (held_as d (held_of d s + length piece) s) ≡ held_of d s + length piece = held-as d s (held_of d s + length piece) in
      record {
        room = subst (λ (k : ℕ). 32784 ≤ k) (sym (length-sets (x.hold d) (held_of d s) piece)) r.room;
        other = hello-as d (opposite d) _;
        same = λ _. hello-as d d _;
        count = other-count d _;
        few = subst (λ (k : ℕ). k ≤ 32783) (sym m) few;
        none-waiting = λ p q. absurd (not-waiting d r (sym (ap passed (hello-as d d _)) ∙ p) (sym (ap passed (hello-as d (opposite d) _)) ∙ q));
        ids = h.fit.ids;
        control = h.fit.control;
        unfinished = ap (λ (k : ℕ). cut_at (link_of d s) (take k (sets (x.hold d) (held_of d s) piece))) m ∙ ap (cut_at (link_of d s)) (take-sets (x.hold d) piece (held_of d s) (omega (arith, r.room))) ∙ e;
      }

  -- a call after which nothing is held in the direction
  ended-next : (t : Session) (size : ℕ) → t.head.held ≡ (held_as d 0 s).head.held → hello_by (opposite d) t ≡ hello_by (opposite d) s → (passed (hello_by d s) ≡ true → hello_by d t ≡ hello_by d s)
      → ids_differ t.requests ≡ true → control_rows t.rows ≡ true → AfterCall d s t (completed (x.hold d) (held_of d s) piece size)
  ended-next t size q o k i c =
      let m : held_of d t ≡ 0 = same-held d (held_as d 0 s) t q ∙ held-as d s 0 in
      record {
        room = subst (λ (n : ℕ). 32784 ≤ n) (sym (completed-length (x.hold d) piece (held_of d s) size)) (h.room d);
        other = o;
        same = k;
        count = same-held (opposite d) (held_as d 0 s) t q ∙ other-count d 0;
        few = omega (arith, m);
        none-waiting = λ _ _. m;
        ids = i;
        control = c;
        unfinished = ap (λ (n : ℕ). cut_at (link_of d t) (take n (completed (x.hold d) (held_of d s) piece size))) m ∙ cut-none usbredir laws (link_of d t);
      }

  header-next : (size : ℕ) → AfterCall d s (stopped_now (held_as d 0 s)) (completed (x.hold d) (held_of d s) piece size)
  header-next size =
      ended-next (stopped_now (held_as d 0 s)) size refl (stopped-hello (opposite d)) (λ _. stopped-hello d) h.fit.ids h.fit.control
    where
      stopped-hello : (e : Side) → hello_by e (stopped_now (held_as d 0 s)) ≡ hello_by e s
      stopped-hello Guest = refl
      stopped-hello Host = refl

  -- the other's hello is not touched by a packet: one that is refused leaves the session, and one that passes moves no hello but its sender's
  other-hello : (d : Side) (p : Content) → wire_number (link_of d s) p ≡ 0 → hello_by (opposite d) (judged (held_as d 0 s) (event_of d p)).session ≡ hello_by (opposite d) s
  other-hello d p w =
      cases (eqb (judged (held_as d 0 s) (event_of d p)).number 0)
      (λ t. other d (moves (held_as d 0 s) d p w (eqb-true _ _ t)))
      (λ t. ap (hello_by (opposite d)) (refused-keeps (held_as d 0 s) (event_of d p) (eqb-false _ _ t)) ∙ hello-as d (opposite d) 0)
    where
      other : (d : Side) {t : Session} → Moved (held_as d 0 s) d p t → hello_by (opposite d) t ≡ hello_by (opposite d) s
      other Guest m = m.host ∙ rw (and-false (eqb p.kind 0))
      other Host m = m.guest ∙ rw (and-false (eqb p.kind 0))

  own-hello : (d : Side) (p : Content) → passed (hello_by d s) ≡ true → hello_by d (judged (held_as d 0 s) (event_of d p)).session ≡ hello_by d s
  own-hello Guest p q = (kept-hellos (held_as Guest 0 s) (event_of Guest p)).guest q
  own-hello Host p q = (kept-hellos (held_as Host 0 s) (event_of Host p)).host q

  -- a whole packet
  passed-next : (n : ℕ) (p : Content) → wire_number (link_of d s) p ≡ 0 → AfterCall d s (judged (held_as d 0 s) (event_of d p)).session (completed (x.hold d) (held_of d s) piece n)
  passed-next n p w =
      let e : Event = event_of d p in
      ended-next (judged (held_as d 0 s) e).session n (kept-plain (held_as d 0 s) e).held (other-hello d p w) (own-hello d p)
      (kept-ids (held_as d 0 s) e h.fit.ids)
      (kept-control (held_as d 0 s) e h.fit.control (event-control (link_of d s) p w))

  refused-next : (n kind : ℕ) → AfterCall d s (refused_as (held_as d 0 s) kind) (completed (x.hold d) (held_of d s) piece n)
  refused-next n kind = go (eqb kind 0)
    where
      go : (b : Bool) → AfterCall d s (cond b (stopped_now (held_as d 0 s)) (held_as d 0 s)) (completed (x.hold d) (held_of d s) piece n)
      go true = header-next n
      go false = ended-next (held_as d 0 s) n refl (hello-as d (opposite d) 0) (λ _. hello-as d d 0) h.fit.ids h.fit.control

  whole-next : (n : ℕ) → cut_at (link_of d s) (held_by x d ++ piece) ≡ whole n
      → AfterCall d s (verdict_of (held_as d 0 s) d (take n (held_by x d ++ piece))).session (completed (x.hold d) (held_of d s) piece n)
  unfolding verdict_of
  whole-next n e =
      let b : List ℕ = take n (held_by x d ++ piece) in
      cases (eqb (read_number (link_of d s) b) 0)
      (λ t. rw t (passed-next n (decode (link_of d s) b) (sym (whole-number (link_of d s) (held_by x d ++ piece) n e) ∙ eqb-true _ _ t)))
      (λ t. rw t (refused-next n (kind_of b)))

  call_next : AfterCall d s (offer_of d s (x.hold d) piece).session (offer_of d s (x.hold d) piece).hold
  unfolding offer_of
  call_next =
      cases (eqb (barred d s (x.hold d)) 0)
      (λ t. rw t (goes (ready d s (x.hold d) (eqb-true _ _ t)) (cut_at (link_of d s) (held_by x d ++ piece)) refl))
      (λ t. rw t unmoved-next)
    where
      goes : Ready d s (x.hold d) → (c : Cut) → cut_at (link_of d s) (held_by x d ++ piece) ≡ c
          → AfterCall d s (by_cut d s (x.hold d) piece c).session (by_cut d s (x.hold d) piece c).hold
      goes r more e = kept_next r e
      goes r (bad n) e = header-next _
      goes r (whole n) e = whole-next n e

-- ---- every list of calls

pub left-kept : (x : Both) (cs : List ReaderCall) → Left x → Left (final x cs)
unfolding final
left-kept x [] h = h
left-kept x (c ∷ cs) h =
    left-kept (next x c) cs (left-next x c.from (answer_to x c).session (answer_to x c).hold h (call_next x c.from c.piece h))

begun-left : (hold : Side → List ℕ) → ((d : Side) → 32784 ≤ length (hold d)) → Left (at_start hold)
unfolding fresh_session start_head
begun-left hold room = record { room = room; fit = fit_is fresh_session start-fit; unfinished = empty }
  where
    empty : (d : Side) → Unfinished d fresh_session (hold d)
    empty Guest = cut-none usbredir laws (link_of Guest fresh_session)
    empty Host = cut-none usbredir laws (link_of Host fresh_session)

-- ---- no call meets 41 or 43

ends-fit : (n : ℕ) → ends_packet n ≡ true → refused_state n ≡ false
ends-fit n h =
    cases (eqb n 41)
    (λ t. absurd (false≢true (rw (eqb-true n 41 t) at h)))
    (λ t. cases (eqb n 43) (λ u. absurd (false≢true (rw (eqb-true n 43 u) at h))) (λ u. rw (t, u) refl))

left-barred : (x : Both) (d : Side) → Left x → refused_state (barred d x.session (x.hold d)) ≡ false
unfolding barred
left-barred x d h = rw (le-ltb (length (x.hold d)) 32784 (h.room d), is-fit x.session h.fit, h.unfinished d) (go x.session.head.stopped (is_waiting (link_of d x.session)))
  where
    go : (a b : Bool) → refused_state (cond a 3 (cond b 2 0)) ≡ false
    go true b = refl
    go false true = refl
    go false false = refl

answer-fit : (x : Both) (c : ReaderCall) → Left x → refused_state (answer_to x c).number ≡ false
unfolding offer_of
answer-fit x c h =
    cases (eqb (barred c.from x.session (x.hold c.from)) 0)
    (λ t. rw t (goes (cut_at (link_of c.from x.session) (held_by x c.from ++ c.piece)) refl))
    (λ t. rw t (left-barred x c.from h))
  where
    goes : (k : Cut) → cut_at (link_of c.from x.session) (held_by x c.from ++ c.piece) ≡ k → refused_state (by_cut c.from x.session (x.hold c.from) c.piece k).number ≡ false
    goes more e = refl
    goes (bad n) e = ends-fit n (header-ends (link_of c.from x.session) (held_by x c.from ++ c.piece) n e)
    goes (whole n) e = ends-fit (verdict_of (held_as c.from 0 x.session) c.from (take n (held_by x c.from ++ c.piece))).number (verdict-ends c.from x.session (held_by x c.from ++ c.piece) n e)

pub never-refused : NeverRefused
never-refused hold room cs c = answer-fit (final (at_start hold) cs) c (left-kept (at_start hold) cs (begun-left hold room))

-- ---- nor does a writer call

-- 43 is not among the numbers behind it, and it does not hold
fit_written : (d : Side) (s : Session) (p : Content) (room : ℕ) → unfit s ≡ false → write_by d s p room ≡ 43 → ⊥
unfolding shut
fit_written d s p room e =
    write-numbers (λ m. m ≡ 43 → ⊥) ((λ z. omega arith), ((λ z. omega arith), ((λ z. omega arith), ((λ z. omega arith), tt)))) ((λ z. omega arith), ((λ z. omega arith), ((λ z. omega arith), ((λ z. omega arith), ((λ z. omega arith), ((λ z. omega arith), ((λ z. omega arith), tt))))))) (λ z. omega arith) d s p room
    (rw e (other s.head.stopped (is_waiting (link_of d s) && not (eqb p.kind 0))))
  where
    other : (a b : Bool) → ◌≡◌ {A = ℕ} (cond a 3 (cond b 2 0)) 43 → ⊥
    other true b z = omega arith
    other false true z = omega arith
    other false false z = omega arith

pub never-refused-write : NeverRefusedWrite
never-refused-write hold room cs d p out =
    fit_written d (final (at_start hold) cs).session p out (is-fit (final (at_start hold) cs).session (left-kept (at_start hold) cs (begun-left hold room)).fit)

-- ---- demand 3 starts from every such session

pub begun-starts : BegunStarts
begun-starts hold room cs d running guest host none =
    let l : Left (final (at_start hold) cs) = left-kept (at_start hold) cs (begun-left hold room) in
    record { running = running; guest = guest; host = host; fit = is-fit (final (at_start hold) cs).session l.fit; nothing-held = none; room = l.room d }

-- ---- "A freed place is as at the start and used again."

-- a call moves the requests as the judge does or not at all
pub clean-kept : (x : Both) (cs : List ReaderCall) → Clean x.session.requests → Clean (final x cs).session.requests
unfolding final
clean-kept x [] h = h
clean-kept x (c ∷ cs) h =
    clean-kept (next x c) cs
    (by_call x c Clean h (λ p. kept-clean (held_as c.from 0 x.session) (event_of c.from (packet_at c.from x.session (x.hold c.from) c.piece p.size)) h))

pub begun-clean : BegunClean
begun-clean hold cs = clean-kept (at_start hold) cs start-clean

-- "2 .. frees every place, returns to the start", "3 frees every place": a call that passes one leaves the table of the start
emptied-call : (x : Both) (c : ReaderCall) → Clean x.session.requests → (answer_to x c).number ≡ 0 → among (2 ∷ 3 ∷ []) (packet_read x c).kind ≡ true
    → (next x c).session.requests ≡ fresh_requests
emptied-call x c h z k =
    let from : Side = c.from in
    let s : Session = x.session in
    let p : Passes from s (x.hold from) c.piece = (demand-2 from s (x.hold from) c.piece).0 z in
    let q : Content = packet_at from s (x.hold from) c.piece p.size in
    let r : packet_read x c ≡ q = read_is x c (record { ready = p.ready; size = p.size; whole = p.whole; form = p.form }) in
    let n : (judged (held_as from 0 s) (event_of from q)).number ≡ 0 =
    sym (ap (λ (u : Outcome). u.number) (judged-call from s (x.hold from) c.piece p.ready p.size p.whole p.form)) ∙ z in
    ap (λ (u : Session). u.requests) (moves-in-gate from s (x.hold from) c.piece p)
    ∙ (moves (held_as from 0 s) from q p.form n).emptied-fresh (sym (ap (λ (u : Content). among (2 ∷ 3 ∷ []) u.kind) r) ∙ k) h

pub begun-emptied : BegunEmptied
begun-emptied hold cs c z k = emptied-call (final (at_start hold) cs) c (begun-clean hold cs) z k
