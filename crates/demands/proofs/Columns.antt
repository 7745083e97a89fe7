-- A decision reads of a session its head, the types and streams of its rows, and its requests (`columns-decide`).
-- Of the other session the interfaces and the watch alone are others (`twin`). Each check computes to the same (`number-same`, `ruled-same`), and so do
-- the call's change (`change-same`) and all of its outcome but the session (`SameParts`). The session after a call is its change made to a head that does
-- not depend on rows and watch (`lands`, by `ruled-is`), and a change that makes it of one session makes it of the other (`moves`).
-- Assumes nothing.
use Rattle.std.specs.Prelude.{Some, None, Option, Result, Ok, Err}
use Prim.Native.Nat.{ℕ, ◌+◌}
use mathlib.Core.Path.{◌≡◌, refl, sym, ap, subst, ◌∙◌}
use mathlib.Core.Bool.{true, false, cond, not}
use mathlib.Core.List.{List, ◌++◌}
use lib.ListN.{length, take}
use lib.Dec.{eqb}
use borrow.Table.Steps.{cases}
use borrow.Author.Tests.{eqb-true}
use Rattle.scan.specs.Scan.{any_at, tabulated}
use Rattle.header.specs.declared.Side.{Side}
use Rattle.header.specs.Header.{kind_of}
use Rattle.kinds.specs.Codec.{decode, read_number}
use Rattle.endpoint.specs.declared.Row.{Row}
use Rattle.endpoint.specs.Endpoint.{row_of}
use Rattle.device.specs.declared.Head.{Head}
use Rattle.device.specs.declared.Rows.{Rows}
use Rattle.device.specs.Device.{start_rows, row_in, rows_of, replaced}
use Rattle.requests.specs.declared.Requests.{Requests}
use Rattle.requests.specs.Requests.{ids_differ}
use Rattle.watch.specs.declared.Watch.{Watch}
use Rattle.watch.specs.Watch.{forgotten}
use Rattle.events.specs.declared.Case.{Case}
use Rattle.events.specs.declared.Case.TheVariants as cases_of
use Rattle.events.specs.declared.Typed.{Typed}
use Rattle.events.specs.declared.Typed.TheVariants.{Untyped, OfEndpoint, OfMask}
use Rattle.events.specs.Event.{Event, event_of, case_of}
use Rattle.events.specs.Proper.{transfer-asks, stream-typed}
use Rattle.checks.specs.declared.Change.{Change}
use Rattle.checks.specs.declared.Change.TheVariants.{NoChange}
use Rattle.checks.specs.declared.Change.TheVariants as changes
use Rattle.checks.specs.Checks.{Match, match_of, mistyped_by, is_open, number_for, number_of}
use Rattle.checks.specs.Change.{change_for, numbered, ruled_by, ruling_of}
use Rattle.checks.proofs.Agree.{ruled-is}
use Rattle.checks.specs.Ruled.{Ruling, ruled}
use Rattle.session.specs.declared.Session.{Session}
use Rattle.session.specs.Session.{link_of, held_to, unfit}
use Rattle.session.specs.Step.{applied, next_for, judged}
use Rattle.decoder.specs.Reading.{read_of}
use Rattle.frame.specs.Cut.{Cut, more, bad, whole}
use Rattle.frame.specs.Frame.{cut_at, bytes_at}
use Rattle.gate.specs.declared.Decided.{Decided}
use Rattle.gate.specs.Verdict.{held_of, held_as, stopped_in, verdict_of}
use Rattle.gate.specs.Offer.{Outcome, held_bytes, barred, by_cut, offer_of}
use Rattle.gate.specs.Decide.{rows_in, change_in, change_at, change_by_cut, outcome_by, Decides}
use Rattle.gate.proofs.Ready.{ready, fit_is}
use Rattle.demands.specs.Unique.{SameColumns, ColumnsDecide}

-- rows and a session with other interfaces and another watch
abbrev other_rows : List ℕ → Rows → Rows
other_rows n d = record { types = d.types; interfaces = n; streams = d.streams }

abbrev twin : List ℕ → Watch → Session → Session
twin n w s = record { head = s.head; rows = other_rows n s.rows; requests = s.requests; watch = w }

twin-is : (s t : Session) → SameColumns s t → twin t.rows.interfaces t.watch s ≡ t
twin-is s t a =
    λ i. record { head = a.head i; rows = record { types = a.types i; interfaces = t.rows.interfaces; streams = a.streams i }; requests = a.requests i; watch = t.watch }

-- ---- the checks

module _ (n : List ℕ) (d : Rows) where
  type-same : (o : Option Row) → (row_in (other_rows n d) o).ty ≡ (row_in d o).ty
  type-same None = refl
  type-same (Some r) = refl

  stream-same : (o : Option Row) → (row_in (other_rows n d) o).streaming ≡ (row_in d o).streaming
  stream-same None = refl
  stream-same (Some r) = refl

  mistyped-same : (x : Typed) → mistyped_by (other_rows n d) x ≡ mistyped_by d x
  unfolding rows_of any_at tabulated
  mistyped-same Untyped = refl
  mistyped-same (OfEndpoint e ty) = ap (λ (k : ℕ). not (eqb k ty)) (type-same (row_of e))
  mistyped-same (OfMask m ty) = refl

  open-same : (x : Typed) → is_open (other_rows n d) x ≡ is_open d x
  open-same Untyped = refl
  open-same (OfEndpoint e ty) = stream-same (row_of e)
  open-same (OfMask m ty) = refl

  number-same : (h : Head) (t : Requests) (e : Event) (m : Match) → number_for h (other_rows n d) t e m ≡ number_for h d t e m
  unfolding number_for
  number-same h t e m = rw (mistyped-same e.typed, open-same e.typed)

  ruled-same : (h : Head) (t : Requests) (c : Case) → ruled h (other_rows n d) t c ≡ ruled h d t c
  unfolding ruled
  ruled-same h t (cases_of.Hello word) = refl
  ruled-same h t cases_of.Connect = refl
  ruled-same h t cases_of.Interfaces = refl
  ruled-same h t cases_of.Endpoints = refl
  ruled-same h t cases_of.Disconnect = refl
  ruled-same h t cases_of.Reset = refl
  ruled-same h t cases_of.Ack = refl
  ruled-same h t cases_of.Cancel = refl
  ruled-same h t cases_of.Filter = refl
  ruled-same h t (cases_of.Asks q typed starts transfer) = rw (mistyped-same typed)
  ruled-same h t (cases_of.Answers r typed unasked) = refl
  ruled-same h t (cases_of.StreamsOut e ty transfer) = rw (type-same (row_of e), stream-same (row_of e))
  ruled-same h t (cases_of.StreamsIn e ty id) = rw (type-same (row_of e), stream-same (row_of e))

-- ---- a call

-- outcomes with the same answer, the same buffer and the same head
record SameParts (o p : Outcome) : Type 0 where
  head : o.session.head ≡ p.session.head
  number : o.number ≡ p.number
  taken : o.taken ≡ p.taken
  location : o.location ≡ p.location
  size : o.size ≡ p.size
  handed : o.handed ≡ p.handed
  hold : o.hold ≡ p.hold

module _ (from : Side) (s : Session) (n : List ℕ) (w : Watch) where
  abbrev other : Session
  other = twin n w s

  change-by-cut-same : (bytes : List ℕ) (c : Cut) → change_by_cut from other bytes c ≡ change_by_cut from s bytes c
  change-by-cut-same bytes more = refl
  change-by-cut-same bytes (bad k) = refl
  change-by-cut-same bytes (whole k) = rw (ruled-same n s.rows s.head s.requests (case_of (event_of from (decode (link_of from s) (take k bytes)))))

  change-same : (hold piece : List ℕ) → change_at from other hold piece ≡ change_at from s hold piece
  unfolding change_at barred unfit
  change-same hold piece =
      cases (eqb (barred from s hold) 0)
      (λ z. rw z (change-by-cut-same (held_bytes from s hold ++ piece) (cut_at (link_of from s) (held_bytes from s hold ++ piece))))
      (λ z. rw z)

  judged-same : (e : Event) → ((judged other e).number ≡ (judged s e).number) × ((judged other e).session.head ≡ (judged s e).session.head)
  unfolding judged next_for applied
  judged-same e =
      rw (number-same n s.rows s.head s.requests e (match_of s.requests e))
      (cases (eqb (number_for s.head s.rows s.requests e (match_of s.requests e)) 0) (λ z. rw z (refl, refl)) (λ z. rw z (refl, refl)))

  -- a verdict's number, its reading and the head after it
  verdict-same : (b : List ℕ)
      → ((verdict_of other from b).number ≡ (verdict_of s from b).number) × ((verdict_of other from b).handed ≡ (verdict_of s from b).handed)
      × ((verdict_of other from b).session.head ≡ (verdict_of s from b).session.head)
  unfolding verdict_of
  verdict-same b =
      let j = judged-same (event_of from (decode (link_of from s) b)) in
      cases (eqb (read_number (link_of from s) b) 0)
      (λ z. rw z (j.0, ap (λ (k : ℕ). cond (eqb k 0) (read_of (link_of from s) b).handed None) j.0, j.1))
      (λ z. rw z (cases (eqb (kind_of b) 0) (λ y. rw y (refl, refl, refl)) (λ y. rw y (refl, refl, refl))))

cut-same : (from : Side) (s : Session) (n : List ℕ) (w : Watch) (hold piece : List ℕ) (c : Cut)
    → SameParts (by_cut from s hold piece c) (by_cut from (twin n w s) hold piece c)
cut-same from s n w hold piece more = record { head = refl; number = refl; taken = refl; location = refl; size = refl; handed = refl; hold = refl }
cut-same from s n w hold piece (bad k) = record { head = refl; number = refl; taken = refl; location = refl; size = refl; handed = refl; hold = refl }
cut-same from s n w hold piece (whole k) =
    let v = verdict-same from (held_as from 0 s) n w (take k (held_bytes from s hold ++ piece)) in
    record { head = sym v.2; number = sym v.0; taken = refl; location = refl; size = refl; handed = sym v.1; hold = refl }

offer-same : (from : Side) (s : Session) (n : List ℕ) (w : Watch) (hold piece : List ℕ)
    → SameParts (offer_of from s hold piece) (offer_of from (twin n w s) hold piece)
unfolding offer_of barred unfit
offer-same from s n w hold piece =
    cases (eqb (barred from s hold) 0)
    (λ z. rw z (cut-same from s n w hold piece (cut_at (link_of from s) (held_bytes from s hold ++ piece))))
    (λ z. rw z (record { head = refl; number = refl; taken = refl; location = refl; size = refl; handed = refl; hold = refl }))

-- ---- the session after it

abbrev at_head : Head → Session → Session
at_head h s = record { head = h; rows = s.rows; requests = s.requests; watch = s.watch }

-- the head to which the change of a call is made, and the rows that its packet announces
abbrev head_by_cut : Side → Session → List ℕ → List ℕ → Cut → Head
head_by_cut from s hold piece more = (held_as from (held_of from s + length piece) s).head
head_by_cut from s hold piece (bad k) = stopped_in (held_as from 0 s).head
head_by_cut from s hold piece (whole k) =
    cond (eqb (read_number (link_of from s) (take k (held_bytes from s hold ++ piece))) 0) (held_as from 0 s).head
    (cond (eqb (kind_of (take k (held_bytes from s hold ++ piece))) 0) (stopped_in (held_as from 0 s).head) (held_as from 0 s).head)

abbrev rows_by_cut : Side → Session → List ℕ → List ℕ → Cut → Rows
rows_by_cut from s hold piece more = start_rows
rows_by_cut from s hold piece (bad k) = start_rows
rows_by_cut from s hold piece (whole k) = (event_of from (decode (link_of from s) (take k (held_bytes from s hold ++ piece)))).rows

abbrev cut_in : Side → Session → List ℕ → List ℕ → Cut
cut_in from s hold piece = cut_at (link_of from s) (held_bytes from s hold ++ piece)

abbrev head_of : Side → Session → List ℕ → List ℕ → Head
head_of from s hold piece = cond (eqb (barred from s hold) 0) (head_by_cut from s hold piece (cut_in from s hold piece)) s.head

abbrev new_rows : Side → Session → List ℕ → List ℕ → Rows
new_rows from s hold piece = rows_by_cut from s hold piece (cut_in from s hold piece)

-- what a ruling changes, by what it is in numbers
abbrev change_told : Result Change ℕ → Change
change_told (Ok c) = c
change_told (Err k) = NoChange

change-is : (u : Ruling) → change_in u ≡ change_told (numbered u)
change-is (Ok c) = refl
change-is (Err r) = refl

module _ (from : Side) (s : Session) where
  -- a whole packet that the wire checks let through
  module _ (d : ids_differ s.requests ≡ true) (b : List ℕ) where
    abbrev event : Event
    event = event_of from (decode (link_of from s) b)

    abbrev change : Change
    change = change_for s.requests event (match_of s.requests event)

    abbrev number : ℕ
    number = number_for s.head s.rows s.requests event (match_of s.requests event)

    abbrev ruling : Ruling
    ruling = ruled s.head s.rows s.requests (case_of event)

    ruling-is : numbered ruling ≡ ruled_by number change
    unfolding ruling_of number_of
    ruling-is =
        ruled-is s.head s.rows s.requests d event
        (record { transfer = transfer-asks from (decode (link_of from s) b); streamed = stream-typed from (decode (link_of from s) b) })

    change-passes : eqb number 0 ≡ true → change_in ruling ≡ change
    change-passes z = let y : numbered ruling ≡ Ok change = ruling-is ∙ rw z refl in change-is ruling ∙ ap change_told y

    change-refused : eqb number 0 ≡ false → change_in ruling ≡ NoChange
    change-refused z = let y : numbered ruling ≡ Err number = ruling-is ∙ rw z refl in change-is ruling ∙ ap change_told y

    judged-lands : (judged (held_as from 0 s) event).session ≡ applied (held_as from 0 s) from (change_in ruling) event.rows
    unfolding judged next_for applied event_of number_for
    judged-lands =
        cases (eqb number 0)
        (λ z. rw (z, change-passes z))
        (λ z. rw (z, change-refused z))

  cut-lands : ids_differ s.requests ≡ true → (hold piece : List ℕ) (c : Cut)
      → (by_cut from s hold piece c).session
      ≡ applied (at_head (head_by_cut from s hold piece c) s) from (change_by_cut from s (held_bytes from s hold ++ piece) c) (rows_by_cut from s hold piece c)
  unfolding verdict_of applied
  cut-lands d hold piece more = refl
  cut-lands d hold piece (bad k) = refl
  cut-lands d hold piece (whole k) =
      let b : List ℕ = take k (held_bytes from s hold ++ piece) in
      cases (eqb (read_number (link_of from s) b) 0)
      (λ z. rw z (judged-lands d b))
      (λ z. rw z (cases (eqb (kind_of b) 0) (λ y. rw y refl) (λ y. rw y refl)))

  lands : (hold piece : List ℕ)
      → (offer_of from s hold piece).session ≡ applied (at_head (head_of from s hold piece) s) from (change_at from s hold piece) (new_rows from s hold piece)
  unfolding offer_of change_at applied
  lands hold piece =
      cases (eqb (barred from s hold) 0)
      (λ z. rw z (cut-lands (fit_is s (ready from s hold (eqb-true _ _ z)).fit).ids hold piece (cut_in from s hold piece)))
      (λ z. rw z refl)

-- a change that makes the same of a session with two heads, and two tables, does so of the other
moves : (from : Side) (s : Session) (n : List ℕ) (w : Watch) (g h : Head) (x y : Rows) (c : Change)
    → applied (at_head g s) from c x ≡ applied (at_head h s) from c y → applied (at_head g (twin n w s)) from c x ≡ applied (at_head h (twin n w s)) from c y
unfolding applied replaced
moves from s n w g h x y changes.NoChange e = λ i. at_head (e i).head (twin n w s)
moves from s n w g h x y (changes.Seen a id) e = λ i. applied (at_head (e i).head (twin n w s)) from (changes.Seen a id) x
moves from s n w g h x y (changes.Hello word) e = λ i. at_head (e i).head (twin n w s)
moves from s n w g h x y changes.Connect e = λ i. at_head (e i).head (twin n w s)
moves from s n w g h x y changes.Interfaces e = λ i. at_head (e i).head (twin n w s)
moves from s n w g h x y changes.Endpoints e = λ i. record { head = (e i).head; rows = (e i).rows; requests = s.requests; watch = w }
moves from s n w g h x y changes.Disconnect e = λ i. record { head = (e i).head; rows = start_rows; requests = (e i).requests; watch = forgotten w }
moves from s n w g h x y changes.Reset e = λ i. applied (at_head (e i).head (twin n w s)) from changes.Reset x
moves from s n w g h x y changes.Acknowledge e = λ i. at_head (e i).head (twin n w s)
moves from s n w g h x y (changes.Take k q) e = λ i. applied (at_head (e i).head (twin n w s)) from (changes.Take k q) x
moves from s n w g h x y (changes.TakeAndOpen k q ty) e = λ i. applied (at_head (e i).head (twin n w s)) from (changes.TakeAndOpen k q ty) x
moves from s n w g h x y (changes.Release k ty m sc) e = λ i. applied (at_head (e i).head (twin n w s)) from (changes.Release k ty m sc) x

twin-decides : (from : Side) (s : Session) (n : List ℕ) (w : Watch) (hold piece : List ℕ) (d : Decided) (after : List ℕ)
    → Decides from s d hold piece after → Decides from (twin n w s) d hold piece after
unfolding outcome_by barred unfit
twin-decides from s n w hold piece d after a =
    record {
      comes =
          λ i. record {
            session = whole-session i;
            number = (ap (λ (o : Outcome). o.number) a.comes ∙ p.number) i;
            taken = (ap (λ (o : Outcome). o.taken) a.comes ∙ p.taken) i;
            location = (ap (λ (o : Outcome). o.location) a.comes ∙ p.location) i;
            size = (ap (λ (o : Outcome). o.size) a.comes ∙ p.size) i;
            handed = (ap (λ (o : Outcome). o.handed) a.comes ∙ p.handed) i;
            hold = (ap (λ (o : Outcome). o.hold) a.comes ∙ p.hold) i;
          };
      change = a.change ∙ sym (change-same from s n w hold piece);
    }
  where
    p : SameParts (offer_of from s hold piece) (offer_of from (twin n w s) hold piece)
    p = offer-same from s n w hold piece

    g : Head
    g = held_to from d.held d.stopped s.head

    x : Rows
    x = rows_in from s d.answer.handed (bytes_at d.answer.location d.answer.size piece after)

    here : applied (at_head g s) from d.change x ≡ applied (at_head (head_of from s hold piece) s) from d.change (new_rows from s hold piece)
    here =
        ap (λ (o : Outcome). o.session) a.comes
        ∙ lands from s hold piece
        ∙ ap (λ (c : Change). applied (at_head (head_of from s hold piece) s) from c (new_rows from s hold piece)) (sym a.change)

    whole-session : applied (at_head g (twin n w s)) from d.change x ≡ (offer_of from (twin n w s) hold piece).session
    whole-session =
        moves from s n w g (head_of from s hold piece) x (new_rows from s hold piece) d.change here
        ∙ ap (λ (c : Change). applied (at_head (head_of from s hold piece) (twin n w s)) from c (new_rows from s hold piece)) (a.change ∙ sym (change-same from s n w hold piece))
        ∙ sym (lands from (twin n w s) hold piece)

pub columns-decide : ColumnsDecide
columns-decide from s t hold piece d after same a =
    subst (λ (u : Session). Decides from u d hold piece after) (twin-is s t same) (twin-decides from s t.rows.interfaces t.watch hold piece d after a)
