-- Other bits and words are ignored (`other-bits-ignored`): by a reader call (`same-reader`), a writer call (`same_writer`), for two hellos (`same-hello`),
-- and over lists of calls (`same-run`, `same_runs`).
-- A call is taken through its ways (`stepped`): barred, more wanted, a refused header, a whole packet, whose verdict is alike. Lists go by induction;
-- the other direction's hello and count are kept by each call (`other-kept`).
-- Assumes nothing.
use Rattle.std.specs.Prelude.{Option, None}
use Prim.Native.Nat.{ℕ, ◌+◌, ◌-◌, ◌≤◌}
use native.Mathlib.Omega.{arith}
use mathlib.Core.Path.{◌≡◌, refl, sym, ap, subst, ◌∙◌}
use mathlib.Core.Bool.{Bool, true, false, cond, not, ◌||◌}
use mathlib.Core.List.{List, [], ◌∷◌, ◌++◌}
use lib.ListN.{length, take}
use lib.Seq.{sets, length-sets}
use lib.Dec.{eqb, ltb}
use borrow.Author.Tests.{eqb-true}
use borrow.Table.Steps.{cases}
use Rattle.octets.proofs.Integers.{take-sets}
use Rattle.header.specs.declared.Side.{Side}
use Rattle.header.specs.declared.Side.TheVariants.{Guest, Host}
use Rattle.header.specs.declared.Link.{Link}
use Rattle.header.specs.Link.{passed, own, opposite}
use Rattle.header.specs.Header.{kind_of, length_of}
use Rattle.kinds.specs.Content.{Content}
use Rattle.kinds.specs.Codec.{decode, read_number}
use Rattle.events.specs.Event.{Event, event_of}
use Rattle.checks.specs.declared.Change.{Change}
use Rattle.checks.specs.declared.Change.TheVariants as changes
use Rattle.checks.specs.Checks.{match_of, number_for}
use Rattle.checks.specs.Change.{change_for}
use Rattle.session.specs.declared.Session.{Session}
use Rattle.session.specs.Session.{link_to, link_of, count_as}
use Rattle.session.specs.Step.{head_after, applied, next_for, judged_by, judged}
use Rattle.frame.specs.Cut.{Cut, more, bad as refused, whole}
use Rattle.frame.specs.Frame.{head_size, cut_at, is_more, completed, location_for}
use Rattle.gate.specs.Verdict.{held_of, held_as, stopped_now, VerdictTold, verdict_of}
use Rattle.gate.specs.Offer.{Outcome, held_bytes, barred, unmoved, kept, packet_taken, by_cut, offer_of}
use Rattle.gate.proofs.Ready.{completed-length, more-few, ready, held-few}
use Rattle.gate.specs.Ready.{Ready}
use Rattle.demands.proofs.KeptByCall.{held-as, same-held}
use Rattle.demands.specs.CallLists.{of_side, Both, ReaderCall, answer_to, next, held_by}
use Rattle.demands.specs.Ignored.{AlikeHellos, AlikeSessions, AlikeOutcomes, SameReader, begun, AlikeAtHand, AlikeAnswers, SameHello, SameRun, AlikeStates, AlikeCall, SameRuns, OtherBitsIgnored}
use Rattle.demands.proofs.Alike.{SameStart, with_hellos, size-at, cut-same, alike_is, links, waiting-same, unfit-same, alike, same_writer}
use Rattle.demands.proofs.AlikeHello.{AlikeVerdicts, no-hand, verdict-same, verdict-held, near, le-near, near-take, verdict-near}

-- ---- a call

at-hand-same : (b : Bool) (x : List ℕ) → AlikeAtHand b x x
at-hand-same true x = refl
at-hand-same false x = record { count = refl; front = refl; word = λ j l. refl }

-- bytes that are the same before some place, where they begin a header there
start-same : (b : Bool) (x y : List ℕ) → AlikeAtHand b x y → SameStart x y
start-same true x y e = record { count = ap length e; kind = ap kind_of e; says = ap length_of e }
start-same false x y e = let n = near x y e in record { count = e.count; kind = le-near x y n 4 0 (omega arith); says = le-near x y n 4 4 (omega arith) }

-- what a call gives and leaves
record Stepped (b : Bool) (from : Side) (hold keep piece part : List ℕ) (o p : Outcome) : Type 0 where
  answers : AlikeAnswers b o p
  room : length o.hold ≡ length p.hold
  held : AlikeAtHand (begun from o.session) (held_bytes from o.session o.hold) (held_bytes from p.session p.hold)
  buffer : hold ≡ keep → piece ≡ part → o.hold ≡ p.hold

module _ (b : Bool) (s : Session) (g h : Option ℕ) (ag : AlikeHellos s.head.guest g) (ah : AlikeHellos s.head.host h) (from : Side) (hold keep piece part : List ℕ)
    (room : length hold ≡ length keep) (count : length piece ≡ length part) where
  abbrev twin : Session
  twin = with_hellos g h s

  held_same : (d : Side) → held_of d s ≡ held_of d twin
  held_same Guest = refl
  held_same Host = refl

  unmoved-same : (n : ℕ) → AlikeAtHand (begun from s) (held_bytes from s hold) (held_bytes from twin keep)
      → Stepped b from hold keep piece part (unmoved s hold n) (unmoved twin keep n)
  unmoved-same n e =
      record {
        answers = record { session = alike s g h ag ah; number = refl; taken = refl; location = refl; size = refl; handed = no-hand b };
        room = room;
        held = e;
        buffer = λ q r. q;
      }

  kept_same : held_of from s + length piece ≤ length hold → AlikeAtHand (begun from s) (held_bytes from s hold ++ piece) (held_bytes from twin keep ++ part)
      → Stepped b from hold keep piece part (kept from s hold piece) (kept from twin keep part)
  kept_same few e =
      let c = held_same from in
      let n : held_of from s + length piece ≡ held_of from twin + length part = λ i. c i + count i in
      record {
        answers =
            record {
              session = record { head = record { guest = ag; host = ah; stopped = refl; held = λ i. count_as from (n i) s.head.held; present = refl; introduction = refl; owed = refl }; rows = refl; requests = refl; watch = refl };
              number = refl;
              taken = count;
              location = refl;
              size = refl;
              handed = no-hand b;
            };
        room = length-sets hold (held_of from s) piece ∙ room ∙ sym (length-sets keep (held_of from twin) part);
        held =
            subst (λ (x : List ℕ). AlikeAtHand (begun from s) x (held_bytes from (held_as from (held_of from twin + length part) twin) (sets keep (held_of from twin) part)))
            (sym (behind s hold piece few))
            (subst (λ (x : List ℕ). AlikeAtHand (begun from s) (held_bytes from s hold ++ piece) x)
            (sym (behind twin keep part (subst (λ (m : ℕ). m ≤ length keep) n (subst (λ (m : ℕ). held_of from s + length piece ≤ m) room few)))) e);
        buffer = λ q r i. sets (q i) (c i) (r i);
      }
    where
      behind : (u : Session) (buf p : List ℕ) → held_of from u + length p ≤ length buf
          → held_bytes from (held_as from (held_of from u + length p) u) (sets buf (held_of from u) p) ≡ held_bytes from u buf ++ p
      behind u buf p f = ap (λ (m : ℕ). take m (sets buf (held_of from u) p)) (held-as from u (held_of from u + length p)) ∙ take-sets buf p (held_of from u) f

  -- after which nothing is held
  ended : (n m : ℕ) (v u : VerdictTold) → n ≡ m → AlikeVerdicts b v u → v.session.head.held ≡ (held_as from 0 s).head.held
      → Stepped b from hold keep piece part (packet_taken from s hold piece v n) (packet_taken from twin keep part u m)
  ended n m v u e a z =
      let c = held_same from in
      let zs : held_of from v.session ≡ 0 = same-held from (held_as from 0 s) v.session z ∙ held-as from s 0 in
      let zt : held_of from u.session ≡ 0 = same-held from v.session u.session (sym a.session.head.held) ∙ zs in
      record {
        answers =
            record {
              session = a.session;
              number = a.number;
              taken = λ i. e i - c i;
              location = ap location_for c;
              size = e;
              handed = a.handed;
            };
        room = completed-length hold piece (held_of from s) n ∙ room ∙ sym (completed-length keep part (held_of from twin) m);
        held =
            subst (λ (x : ℕ). AlikeAtHand (begun from v.session) (take x (completed hold (held_of from s) piece n)) (held_bytes from u.session (completed keep (held_of from twin) part m))) (sym zs)
            (subst (λ (x : ℕ). AlikeAtHand (begun from v.session) [] (take x (completed keep (held_of from twin) part m))) (sym zt) (at-hand-same (begun from v.session) []));
        buffer = λ q r i. completed (q i) (c i) (r i) (e i);
      }

  module _ (at-hand : AlikeAtHand (begun from s) (held_bytes from s hold) (held_bytes from twin keep))
      (all : AlikeAtHand (begun from s) (held_bytes from s hold ++ piece) (held_bytes from twin keep ++ part))
      (verdict : (n : ℕ) → AlikeVerdicts b (verdict_of (held_as from 0 s) from (take n (held_bytes from s hold ++ piece))) (verdict_of (held_as from 0 twin) from (take n (held_bytes from twin keep ++ part)))) where
    abbrev l : Link
    l = link_of from s

    abbrev m : Link
    m = link_of from twin

    starts : SameStart (held_bytes from s hold ++ piece) (held_bytes from twin keep ++ part)
    starts = start-same (begun from s) _ _ all

    barred-same : barred from s hold ≡ barred from twin keep
    unfolding barred
    barred-same =
        let f = unfit-same s g h ag ah in
        let c = cut-same l m (links s g h ag ah from) (held_bytes from s hold) (held_bytes from twin keep) (start-same (begun from s) _ _ at-hand) in
        let w = waiting-same s g h ag ah from in
        λ i. cond (ltb (room i) 32784) 41 (cond (f i || not (is_more (c i))) 43 (cond s.head.stopped 3 (cond (w i) 2 0)))

    by-cut : barred from s hold ≡ 0 → (c : Cut) → cut_at l (held_bytes from s hold ++ piece) ≡ c
        → Stepped b from hold keep piece part (by_cut from s hold piece c) (by_cut from twin keep part c)
    by-cut z more e =
        let r : Ready from s hold = ready from s hold z in
        let f = more-few l hold piece (held_of from s) r.room (held-few from s r.fit) e in
        kept_same (omega (arith, f, r.room)) all
    by-cut z (refused n) e =
        ended (head_size l (held_bytes from s hold ++ piece)) (head_size m (held_bytes from twin keep ++ part)) (record { session = stopped_now (held_as from 0 s); number = n; handed = None })
        (record { session = stopped_now (held_as from 0 twin); number = n; handed = None })
        (size-at l m (links s g h ag ah from) _ _ starts)
        (record {
          session = record { head = record { guest = ag; host = ah; stopped = refl; held = refl; present = refl; introduction = refl; owed = refl }; rows = refl; requests = refl; watch = refl };
          number = refl;
          handed = no-hand b;
        })
        refl
    by-cut z (whole n) e = ended n n _ _ refl (verdict n) (verdict-held (held_as from 0 s) from (take n (held_bytes from s hold ++ piece)))

    stepped : Stepped b from hold keep piece part (offer_of from s hold piece) (offer_of from twin keep part)
    unfolding offer_of
    stepped =
        subst (λ (n : ℕ). Stepped b from hold keep piece part (offer_of from s hold piece) (cond (eqb n 0) (by_cut from twin keep part (cut_at m (held_bytes from twin keep ++ part))) (unmoved twin keep n))) barred-same
        (subst
        (λ (c : Cut). Stepped b from hold keep piece part (offer_of from s hold piece) (cond (eqb (barred from s hold) 0) (by_cut from twin keep part c) (unmoved twin keep (barred from s hold))))
        (cut-same l m (links s g h ag ah from) _ _ starts)
        (cases (eqb (barred from s hold) 0)
        (λ z. rw z (by-cut (eqb-true (barred from s hold) 0 z) (cut_at l (held_bytes from s hold ++ piece)) refl))
        (λ z. rw z (unmoved-same (barred from s hold) at-hand))))

-- ---- sessions that are alike

-- a whole packet, by its first bytes that are at hand
verdict-at : (b : Bool) (s : Session) (g h : Option ℕ) (ag : AlikeHellos s.head.guest g) (ah : AlikeHellos s.head.host h) (from : Side) (x y : List ℕ) → begun from s ≡ b
    → AlikeAtHand b x y → (n : ℕ) → AlikeVerdicts b (verdict_of s from (take n x)) (verdict_of (with_hellos g h s) from (take n y))
verdict-at true s g h ag ah from x y f e n =
    subst (λ (z : List ℕ). AlikeVerdicts true (verdict_of s from (take n x)) (verdict_of (with_hellos g h s) from (take n z))) e (verdict-same s g h ag ah from (take n x))
verdict-at false s g h ag ah from x y f e n = verdict-near s g h ag ah from (take n x) (take n y) (near-take n x y (near x y e)) f

step-at : (from : Side) (s t : Session) → AlikeSessions s t → (hold keep piece part : List ℕ) → length hold ≡ length keep → length piece ≡ length part
    → AlikeAtHand (begun from s) (held_bytes from s hold) (held_bytes from t keep) → AlikeAtHand (begun from s) (held_bytes from s hold ++ piece) (held_bytes from t keep ++ part)
    → Stepped (begun from s) from hold keep piece part (offer_of from s hold piece) (offer_of from t keep part)
step-at from s t a hold keep piece part room count =
    subst
    (λ (u : Session). AlikeAtHand (begun from s) (held_bytes from s hold) (held_bytes from u keep) → AlikeAtHand (begun from s) (held_bytes from s hold ++ piece) (held_bytes from u keep ++ part)
    → Stepped (begun from s) from hold keep piece part (offer_of from s hold piece) (offer_of from u keep part))
    (alike_is s t a)
    (λ x y. stepped (begun from s) s g h a.head.guest a.head.host from hold keep piece part room count x y
    (verdict-at (begun from s) (held_as from 0 s) g h a.head.guest a.head.host from _ _ refl y))
  where
    g : Option ℕ
    g = t.head.guest

    h : Option ℕ
    h = t.head.host

held-alike : (d : Side) (s t : Session) → AlikeSessions s t → held_of d s ≡ held_of d t
held-alike Guest s t a = λ i. (a.head.held i).guest
held-alike Host s t a = λ i. (a.head.held i).host

same-reader : SameReader
same-reader from s t hold piece a =
    let r = subst (λ (u : Session). Stepped true from hold hold piece piece (offer_of from s hold piece) (offer_of from u hold piece)) (alike_is s t a) twins in
    record { answers = r.answers; hold = r.buffer refl refl }
  where
    g : Option ℕ
    g = t.head.guest

    h : Option ℕ
    h = t.head.host

    bytes : held_bytes from s hold ≡ held_bytes from (with_hellos g h s) hold
    bytes = ap (λ (n : ℕ). take n hold) (held-alike from s (with_hellos g h s) (alike s g h a.head.guest a.head.host))

    twins : Stepped true from hold hold piece piece (offer_of from s hold piece) (offer_of from (with_hellos g h s) hold piece)
    twins =
        stepped true s g h a.head.guest a.head.host from hold hold piece piece refl refl
        (subst (λ (x : List ℕ). AlikeAtHand (begun from s) (held_bytes from s hold) x) bytes (at-hand-same (begun from s) (held_bytes from s hold)))
        (subst (λ (x : List ℕ). AlikeAtHand (begun from s) (held_bytes from s hold ++ piece) (x ++ piece)) bytes (at-hand-same (begun from s) (held_bytes from s hold ++ piece)))
        (λ n.
        subst (λ (x : List ℕ). AlikeVerdicts true (verdict_of (held_as from 0 s) from (take n (held_bytes from s hold ++ piece))) (verdict_of (held_as from 0 (with_hellos g h s)) from (take n (x ++ piece)))) bytes
        (verdict-same (held_as from 0 s) g h a.head.guest a.head.host from (take n (held_bytes from s hold ++ piece))))

same-hello : SameHello
same-hello from s t hold p q a first none-held e =
    subst (λ (b : Bool). AlikeAnswers b (offer_of from s hold p) (offer_of from t hold q)) first
    (step-at from s t a hold hold p q refl e.count
    (subst (λ (x : List ℕ). AlikeAtHand (begun from s) x (held_bytes from t hold)) (sym zs) (subst (λ (x : List ℕ). AlikeAtHand (begun from s) [] x) (sym zt) (at-hand-same (begun from s) [])))
    (subst (λ (x : List ℕ). AlikeAtHand (begun from s) (x ++ p) (held_bytes from t hold ++ q)) (sym zs)
    (subst (λ (x : List ℕ). AlikeAtHand (begun from s) p (x ++ q)) (sym zt) (subst (λ (b : Bool). AlikeAtHand b p q) (sym first) e)))).answers
  where
    zs : held_bytes from s hold ≡ []
    zs = ap (λ (n : ℕ). take n hold) none-held

    zt : held_bytes from t hold ≡ []
    zt = ap (λ (n : ℕ). take n hold) (sym (held-alike from s t a) ∙ none-held)

-- ---- lists of calls

same-run : SameRun
same-run x y [] a e = (a, e)
same-run x y (c ∷ cs) a e =
    (q, same-run (next x c) (next y c) cs q.answers.session (λ d i. of_side c.from (q.hold i) (λ f. e f i) d))
  where
    q : AlikeOutcomes (answer_to x c) (answer_to y c)
    q =
        subst (λ (k : List ℕ). AlikeOutcomes (answer_to x c) (offer_of c.from y.session k c.piece)) (e c.from)
        (same-reader c.from x.session y.session (x.hold c.from) c.piece a)

-- a call leaves the other direction's hello and count
record OtherKept (from : Side) (s u : Session) : Type 0 where
  hello : begun (opposite from) s ≡ begun (opposite from) u
  count : held_of (opposite from) s ≡ held_of (opposite from) u

other-held : (from : Side) (n : ℕ) (s : Session) → OtherKept from s (held_as from n s)
other-held Guest n s = record { hello = refl; count = refl }
other-held Host n s = record { hello = refl; count = refl }

other-stopped : (from : Side) (s : Session) → OtherKept from s (stopped_now (held_as from 0 s))
other-stopped Guest s = record { hello = refl; count = refl }
other-stopped Host s = record { hello = refl; count = refl }

other-hello : (from : Side) (s : Session) (c : Change) → begun (opposite from) s ≡ passed (own (link_to (opposite from) (head_after (held_as from 0 s).head from c)))
other-hello Guest s changes.NoChange = refl
other-hello Guest s (changes.Seen e id) = refl
other-hello Guest s (changes.Hello word) = refl
other-hello Guest s changes.Connect = refl
other-hello Guest s changes.Interfaces = refl
other-hello Guest s changes.Endpoints = refl
other-hello Guest s changes.Disconnect = refl
other-hello Guest s changes.Reset = refl
other-hello Guest s changes.Acknowledge = refl
other-hello Guest s (changes.Take i q) = refl
other-hello Guest s (changes.TakeAndOpen i q typed) = refl
other-hello Guest s (changes.Release i typed stream scope) = refl
other-hello Host s changes.NoChange = refl
other-hello Host s (changes.Seen e id) = refl
other-hello Host s (changes.Hello word) = refl
other-hello Host s changes.Connect = refl
other-hello Host s changes.Interfaces = refl
other-hello Host s changes.Endpoints = refl
other-hello Host s changes.Disconnect = refl
other-hello Host s changes.Reset = refl
other-hello Host s changes.Acknowledge = refl
other-hello Host s (changes.Take i q) = refl
other-hello Host s (changes.TakeAndOpen i q typed) = refl
other-hello Host s (changes.Release i typed stream scope) = refl

other-judged : (from : Side) (s : Session) (p : Content) → begun (opposite from) s ≡ begun (opposite from) (judged (held_as from 0 s) (event_of from p)).session
unfolding judged next_for applied event_of
other-judged from s p = by (number_for (held_as from 0 s).head s.rows s.requests e (match_of s.requests e))
  where
    e : Event
    e = event_of from p

    by : (n : ℕ) → begun (opposite from) s ≡ begun (opposite from) (judged_by (held_as from 0 s) e (match_of s.requests e) n).session
    by n =
        cases (eqb n 0) (λ z. rw z (other-hello from s (change_for s.requests e (match_of s.requests e))))
        (λ z. rw z (other-held from 0 s).hello)

other-verdict : (from : Side) (s : Session) (b : List ℕ) → OtherKept from s (verdict_of (held_as from 0 s) from b).session
unfolding verdict_of
other-verdict from s b =
    record {
      hello =
          cases (eqb (read_number (link_of from s) b) 0) (λ z. rw z (other-judged from s (decode (link_of from s) b)))
          (λ z. rw z (by (eqb (kind_of b) 0)));
      count = (other-held from 0 s).count ∙ sym (same-held (opposite from) (held_as from 0 s) (verdict_of (held_as from 0 s) from b).session (verdict-held (held_as from 0 s) from b));
    }
  where
    by : (c : Bool) → begun (opposite from) s ≡ begun (opposite from) (cond c (stopped_now (held_as from 0 s)) (held_as from 0 s))
    by true = (other-stopped from s).hello
    by false = (other-held from 0 s).hello

other-kept : (from : Side) (s : Session) (hold piece : List ℕ) → OtherKept from s (offer_of from s hold piece).session
unfolding offer_of
other-kept from s hold piece = cases (eqb (barred from s hold) 0) (λ z. rw z (by (cut_at (link_of from s) (held_bytes from s hold ++ piece)))) (λ z. rw z (record { hello = refl; count = refl }))
  where
    by : (c : Cut) → OtherKept from s (by_cut from s hold piece c).session
    by more = other-held from (held_of from s + length piece) s
    by (refused n) = other-stopped from s
    by (whole n) = other-verdict from s (take n (held_bytes from s hold ++ piece))

-- one call of each list
module _ (x y : Both) (from : Side) (p q : List ℕ) (a : AlikeStates x y) (count : length p ≡ length q)
    (bytes : AlikeAtHand (begun from x.session) (held_by x from ++ p) (held_by y from ++ q)) where
  abbrev call : List ℕ → ReaderCall
  call piece = record { from = from; piece = piece }

  call-alike : Stepped (begun from x.session) from (x.hold from) (y.hold from) p q (answer_to x (call p)) (answer_to y (call q))
  call-alike = step-at from x.session y.session a.session (x.hold from) (y.hold from) p q (a.room from) count (a.held from) bytes

  others : AlikeAtHand (begun (opposite from) (answer_to x (call p)).session) (held_bytes (opposite from) (answer_to x (call p)).session (x.hold (opposite from)))
      (held_bytes (opposite from) (answer_to y (call q)).session (y.hold (opposite from)))
  others =
      let u = other-kept from x.session (x.hold from) p in
      let v = other-kept from y.session (y.hold from) q in
      subst (λ (b : Bool). AlikeAtHand b (take (held_of (opposite from) (answer_to x (call p)).session) (x.hold (opposite from))) (take (held_of (opposite from) (answer_to y (call q)).session) (y.hold (opposite from)))) u.hello
      (subst (λ (n : ℕ). AlikeAtHand (begun (opposite from) x.session) (take n (x.hold (opposite from))) (take (held_of (opposite from) (answer_to y (call q)).session) (y.hold (opposite from)))) u.count
      (subst (λ (n : ℕ). AlikeAtHand (begun (opposite from) x.session) (held_by x (opposite from)) (take n (y.hold (opposite from)))) v.count (a.held (opposite from))))

states-next : (x y : Both) (from : Side) (p q : List ℕ) (a : AlikeStates x y) → length p ≡ length q → AlikeAtHand (begun from x.session) (held_by x from ++ p) (held_by y from ++ q)
    → AlikeStates (next x (record { from = from; piece = p })) (next y (record { from = from; piece = q }))
states-next x y Guest p q a count bytes =
    record { session = (call-alike x y Guest p q a count bytes).answers.session; room = rooms; held = helds }
  where
    rooms : (d : Side) → length ((next x (record { from = Guest; piece = p })).hold d) ≡ length ((next y (record { from = Guest; piece = q })).hold d)
    rooms Guest = (call-alike x y Guest p q a count bytes).room
    rooms Host = a.room Host

    helds : (d : Side) → AlikeAtHand (begun d (next x (record { from = Guest; piece = p })).session) (held_by (next x (record { from = Guest; piece = p })) d) (held_by (next y (record { from = Guest; piece = q })) d)
    helds Guest = (call-alike x y Guest p q a count bytes).held
    helds Host = others x y Guest p q a count bytes
states-next x y Host p q a count bytes =
    record { session = (call-alike x y Host p q a count bytes).answers.session; room = rooms; held = helds }
  where
    rooms : (d : Side) → length ((next x (record { from = Host; piece = p })).hold d) ≡ length ((next y (record { from = Host; piece = q })).hold d)
    rooms Guest = a.room Guest
    rooms Host = (call-alike x y Host p q a count bytes).room

    helds : (d : Side) → AlikeAtHand (begun d (next x (record { from = Host; piece = p })).session) (held_by (next x (record { from = Host; piece = p })) d) (held_by (next y (record { from = Host; piece = q })) d)
    helds Guest = others x y Host p q a count bytes
    helds Host = (call-alike x y Host p q a count bytes).held

record One (x y : Both) (c e : ReaderCall) : Type 0 where
  answers : AlikeAnswers (begun c.from x.session) (answer_to x c) (answer_to y e)
  states : AlikeStates (next x c) (next y e)

one-call : (x y : Both) (c e : ReaderCall) → AlikeStates x y → AlikeCall x y c e → One x y c e
one-call x y c e a k = subst (λ (z : ReaderCall). One x y c z) there (go (subst (λ (z : ReaderCall). AlikeCall x y c z) (sym there) k))
  where
    there : record { from = c.from; piece = e.piece } ≡ e
    there = λ i. record { from = k.from i; piece = e.piece }

    go : AlikeCall x y c (record { from = c.from; piece = e.piece }) → One x y c (record { from = c.from; piece = e.piece })
    go j =
        record {
          answers = (call-alike x y c.from c.piece e.piece a j.count j.bytes).answers;
          states = states-next x y c.from c.piece e.piece a j.count j.bytes;
        }

same_runs : SameRuns
same_runs x y [] [] a k = a
same_runs x y [] (e ∷ es) a k = absurd k
same_runs x y (c ∷ cs) [] a k = absurd k
same_runs x y (c ∷ cs) (e ∷ es) a k =
    let o = one-call x y c e a k.0 in
    (o.answers, same_runs (next x c) (next y e) cs es o.states k.1)

pub other-bits-ignored : OtherBitsIgnored
other-bits-ignored = record { reader = same-reader; writer = same_writer; hello = same-hello; run = same-run; runs = same_runs }
