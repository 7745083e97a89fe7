-- The watch changes no answer (`watchless`).
-- Of the other session the watch alone is another one (`with_watch`), and no check reads it: each way of a call computes to the same outcome but for the
-- watch (`offer-same`), and a write to the same output (`writes-same`). Lists go by induction.
-- Assumes nothing.
use Rattle.std.specs.Prelude.{None}
use Prim.Native.Nat.{ℕ}
use mathlib.Core.Path.{◌≡◌, refl, sym, ap, subst}
use mathlib.Core.Bool.{cond}
use mathlib.Core.List.{List, [], ◌∷◌, ◌++◌}
use lib.ListN.{take}
use lib.Dec.{eqb}
use borrow.Table.Steps.{cases}
use Rattle.header.specs.declared.Side.{Side}
use Rattle.header.specs.Header.{kind_of}
use Rattle.kinds.specs.Content.{Content}
use Rattle.kinds.specs.Codec.{decode, read_number}
use Rattle.watch.specs.declared.Watch.{Watch}
use Rattle.events.specs.Event.{Event, event_of}
use Rattle.checks.specs.Checks.{match_of, number_for}
use Rattle.session.specs.declared.Session.{Session}
use Rattle.session.specs.Session.{link_of, unfit}
use Rattle.session.specs.Step.{applied, next_for, Judged, judged}
use Rattle.decoder.specs.Reading.{read_of}
use Rattle.frame.specs.Cut.{Cut, more, bad, whole}
use Rattle.frame.specs.Frame.{cut_at}
use Rattle.gate.specs.Verdict.{held_as, VerdictTold, verdict_of}
use Rattle.gate.specs.Offer.{Outcome, held_bytes, barred, packet_taken, by_cut, offer_of}
use Rattle.gate.specs.Write.{shut, write_by, output, output_size}
use Rattle.demands.specs.CallLists.{of_side, Both, ReaderCall, answer_to, next}
use Rattle.demands.specs.Ignored.{SameWriting}
use Rattle.demands.specs.Watchless.{SameButWatch, SameAnswer, SameAnswers, Watchless}

-- a session with another watch, and an outcome that leaves one
abbrev with_watch : Watch → Session → Session
with_watch w s = record { head = s.head; rows = s.rows; requests = s.requests; watch = w }

abbrev leaving : Watch → Outcome → Outcome
leaving w o =
    record { session = with_watch w o.session; number = o.number; taken = o.taken; location = o.location; size = o.size; handed = o.handed; hold = o.hold }

-- what the other session is
twin-is : (s t : Session) → SameButWatch s t → with_watch t.watch s ≡ t
twin-is s t a = λ i. record { head = a.head i; rows = a.rows i; requests = a.requests i; watch = t.watch }

-- the judge's and the verdict's answer to it, but for the watch that they leave
module _ (from : Side) (s : Session) (w : Watch) where
  abbrev twin : Session
  twin = with_watch w s

  judged-same : (e : Event) → judged twin e ≡ record { session = with_watch (judged twin e).session.watch (judged s e).session; number = (judged s e).number }
  unfolding judged next_for applied
  judged-same e = cases (eqb (number_for s.head s.rows s.requests e (match_of s.requests e)) 0) (λ z. rw z) (λ z. rw z)

  verdict-same : (b : List ℕ)
      → verdict_of twin from b ≡ record { session = with_watch (verdict_of twin from b).session.watch (verdict_of s from b).session; number = (verdict_of s from b).number; handed = (verdict_of s from b).handed }
  unfolding verdict_of
  verdict-same b =
      let j = judged-same (event_of from (decode (link_of from s) b)) in
      cases (eqb (read_number (link_of from s) b) 0)
      (λ z. rw z (ap (λ (q : Judged). record { session = q.session; number = q.number; handed = cond (eqb q.number 0) (read_of (link_of from s) b).handed None }) j))
      (λ z. rw z (cases (eqb (kind_of b) 0) (λ y. rw y) (λ y. rw y)))

-- the second is the first but for the watch that it leaves
abbrev Same : Outcome → Outcome → Type 0
Same o p = p ≡ leaving p.session.watch o

cut-same : (from : Side) (s : Session) (w : Watch) (hold piece : List ℕ) (c : Cut) → Same (by_cut from s hold piece c) (by_cut from (with_watch w s) hold piece c)
cut-same from s w hold piece more = refl
cut-same from s w hold piece (bad n) = refl
cut-same from s w hold piece (whole n) =
    ap (λ (v : VerdictTold). packet_taken from s hold piece v n) (verdict-same from (held_as from 0 s) w (take n (held_bytes from s hold ++ piece)))

offer-same : (from : Side) (s : Session) (w : Watch) (hold piece : List ℕ) → Same (offer_of from s hold piece) (offer_of from (with_watch w s) hold piece)
unfolding offer_of barred unfit
offer-same from s w hold piece =
    cases (eqb (barred from s hold) 0) (λ z. rw z (cut-same from s w hold piece (cut_at (link_of from s) (held_bytes from s hold ++ piece)))) (λ z. rw z)

writes-same : (from : Side) (s : Session) (w : Watch) (p : Content) (out : List ℕ) → SameWriting from s (with_watch w s) p out
unfolding write_by output output_size shut unfit
writes-same from s w p out = record { number = refl; size = refl; output = refl }

answer-same : (w : Watch) (o : Outcome) → SameAnswer o (leaving w o)
answer-same w o = record { session = record { head = refl; rows = refl; requests = refl }; number = refl; taken = refl; location = refl; size = refl; handed = refl; hold = refl }

reader-same : (from : Side) (s t : Session) (hold piece : List ℕ) → SameButWatch s t → SameAnswer (offer_of from s hold piece) (offer_of from t hold piece)
reader-same from s t hold piece a =
    let o : Outcome = offer_of from s hold piece in
    subst (λ (u : Session). SameAnswer o (offer_of from u hold piece)) (twin-is s t a) (subst (SameAnswer o) (sym (offer-same from s t.watch hold piece)) (answer-same _ o))

run-same : (x y : Both) (cs : List ReaderCall) → SameButWatch x.session y.session → ((d : Side) → x.hold d ≡ y.hold d) → SameAnswers x y cs
run-same x y [] a e = (a, e)
run-same x y (c ∷ cs) a e = (q, run-same (next x c) (next y c) cs q.session (λ d i. of_side c.from (q.hold i) (λ f. e f i) d))
  where
    q : SameAnswer (answer_to x c) (answer_to y c)
    q =
        subst (λ (k : List ℕ). SameAnswer (answer_to x c) (offer_of c.from y.session k c.piece)) (e c.from)
        (reader-same c.from x.session y.session (x.hold c.from) c.piece a)

pub watchless : Watchless
watchless =
    record {
      reader = reader-same;
      writer = λ from s t p out a. subst (λ (u : Session). SameWriting from s u p out) (twin-is s t a) (writes-same from s t.watch p out);
      run = run-same;
    }
