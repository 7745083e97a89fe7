-- The session checks by events: the judge's number is theirs (`number_is`), it is 0 exactly where none holds (`no-check-holds`, `holds-none`), and what
-- each asks of a packet's event is what the lists of kind numbers say.
-- Assumes nothing.
use Rattle.std.specs.Prelude.{Some}
use Prim.Native.Nat.{ℕ}
use mathlib.Core.Bool.{Bool, true, false, cond, not, ◌&&◌, ◌||◌, false≢true, true≢false}
use mathlib.Core.List.{[], ◌∷◌}
use mathlib.Core.Path.{◌≡◌, refl, sym, ap, ◌∙◌}
use mathlib.Core.Logic.{◌⊎◌, inl, inr}
use lib.Dec.{eqb}
use borrow.Author.Tests.{eqb-true, eq-eqb}
use borrow.Table.Steps.{cases}
use Rattle.octets.proofs.Logic.{failing, or-none}
use Rattle.header.specs.declared.Side.{Side}
use Rattle.header.specs.declared.Side.TheVariants.{Guest, Host}
use Rattle.device.specs.declared.Head.{Head}
use Rattle.device.specs.Device.{state_at}
use Rattle.device.specs.declared.Rows.{Rows}
use Rattle.requests.specs.declared.Request.{Request}
use Rattle.requests.specs.declared.Requests.{Requests}
use Rattle.requests.specs.Requests.{answers, lowest, Query, Answered}
use Rattle.kinds.specs.Content.{Content}
use Rattle.events.specs.declared.Typed.{Typed}
use Rattle.events.specs.declared.Typed.TheVariants.{Untyped}
use Rattle.events.specs.Event.{Event, event_of}
use Rattle.checks.specs.Checks.{traits_of, out_of_order, match_of, number_for, mistyped_by, is_open, match_in, is_unsolicited, no_such_request, number_of, Match, stream_closed, settling, too_long, no_device, ack_owed, wrong_type, id_in_use, is_full}
use Rattle.session.specs.declared.Session.{Session}
use Rattle.session.specs.Step.{judged}
use Rattle.claims.specs.Allowed.{among, is_reply, wants, comes_on_stream, endpoint_named, inward_of, stalled}
use Rattle.claims.specs.NumberByKind.{disordered, row_by, typed_by, answers_by}
use Rattle.claims.specs.Grounds.{grounds_of, grounds_by}

-- the judge's number is that of the session checks
pub number_is : (s : Session) (e : Event) → (judged s e).number ≡ number_of s.head s.rows s.requests e
unfolding judged number_of
number_is s e =
    let n = number_for s.head s.rows s.requests e (match_of s.requests e) in
    cases (eqb n 0) (λ t. rw t (sym (eqb-true n 0 t))) (λ t. rw t)

-- ---- the number is 0 exactly where no check holds

pub record NoneHolds (h : Head) (rows : Rows) (t : Requests) (e : Event) (m : Match) : Type 0 where
  pub device : no_device h e ≡ false
  pub ack : ack_owed h e ≡ false
  pub order : out_of_order h e.class ≡ false
  pub type : wrong_type rows e ≡ false
  pub settled : settling t e ≡ false
  pub stream : stream_closed rows e ≡ false
  pub unused : id_in_use t e ≡ false
  pub room : is_full t e ≡ false
  pub matched : no_such_request e m ≡ false
  pub short : too_long e m ≡ false

-- a check that comes first does not hold, nor any after it
first-fails : (n : ℕ) (b : Bool) (rest : ℕ) → eqb n 0 ≡ false → cond b n rest ≡ 0 → (b ≡ false) × (rest ≡ 0)
first-fails n true rest h e = absurd (false≢true (sym h ∙ eq-eqb n 0 e))
first-fails n false rest h e = (refl, e)

skip : (n : ℕ) (b : Bool) (rest : ℕ) → b ≡ false → rest ≡ 0 → cond b n rest ≡ 0
skip n true rest e f = absurd (true≢false e)
skip n false rest e f = f

pub no-check-holds : (h : Head) (rows : Rows) (t : Requests) (e : Event) (m : Match) → number_for h rows t e m ≡ 0 → NoneHolds h rows t e m
unfolding number_for
no-check-holds h rows t e m z =
    let a = first-fails 25 _ _ refl z in
    let b = first-fails 27 _ _ refl a.1 in
    let c = first-fails 26 _ _ refl b.1 in
    let f = first-fails 28 _ _ refl c.1 in
    let g = first-fails 29 _ _ refl f.1 in
    let i = first-fails 30 _ _ refl g.1 in
    let j = first-fails 31 _ _ refl i.1 in
    let k = first-fails 32 _ _ refl j.1 in
    let l = first-fails 33 _ _ refl k.1 in
    let o = first-fails 34 _ _ refl l.1 in
    record { device = a.0; ack = b.0; order = c.0; type = f.0; settled = g.0; stream = i.0; unused = j.0; room = k.0; matched = l.0; short = o.0 }

pub holds-none : (h : Head) (rows : Rows) (t : Requests) (e : Event) (m : Match) → NoneHolds h rows t e m → number_for h rows t e m ≡ 0
unfolding number_for
holds-none h rows t e m q =
    skip 25 _ _ q.device
    (skip 27 _ _ q.ack
    (skip 26 _ _ q.order
    (skip 28 _ _ q.type
    (skip 29 _ _ q.settled
    (skip 30 _ _ q.stream
    (skip 31 _ _ q.unused
    (skip 32 _ _ q.room
    (skip 33 _ _ q.matched
    (skip 34 _ _ q.short refl)))))))))

-- ---- kinds and rows

-- a kind of a list of two is the one or the other
pub one_of_two : (m n k : ℕ) → among (m ∷ n ∷ []) k ≡ true → (k ≡ m) ⊎ (k ≡ n)
one_of_two m n k h = cases (eqb k m) (λ e. inl (eqb-true k m e)) (λ e. inr (other e))
  where
    other : eqb k m ≡ false → k ≡ n
    other e = cases (eqb k n) (λ f. eqb-true k n f) (λ f. absurd (false≢true (sym (or-none (eqb k m) (eqb k n || false) e (or-none (eqb k n) false f refl)) ∙ h)))

-- what comes on a stream wants a type of its endpoint
stream-wants : (from : Side) (kind : ℕ) (inward : Bool) → comes_on_stream from kind inward ≡ true → (k : ℕ) × (wants from kind inward ≡ Some k)
stream-wants from kind inward h = cases (among (102 ∷ 104 ∷ []) kind) (λ e. listed from (one_of_two 102 104 kind e)) (λ e. interrupt-in from inward e h)
  where
    at : (from : Side) (inward : Bool) (n k : ℕ) → kind ≡ n → wants from n inward ≡ Some k → (k : ℕ) × (wants from kind inward ≡ Some k)
    at from inward n k e f = (k, ap (λ (m : ℕ). wants from m inward) e ∙ f)

    listed : (from : Side) → (kind ≡ 102) ⊎ (kind ≡ 104) → (k : ℕ) × (wants from kind inward ≡ Some k)
    listed from (inl e) = at from inward 102 1 e refl
    listed Guest (inr e) = at Guest inward 104 2 e refl
    listed Host (inr e) = at Host inward 104 2 e refl

    interrupt-in : (from : Side) (inward : Bool) → among (102 ∷ 104 ∷ []) kind ≡ false → comes_on_stream from kind inward ≡ true → (k : ℕ) × (wants from kind inward ≡ Some k)
    interrupt-in Guest inward e f = absurd (false≢true (sym (or-none (among (102 ∷ 104 ∷ []) kind) false e refl) ∙ f))
    interrupt-in Host false e f = absurd (false≢true (sym (or-none (among (102 ∷ 104 ∷ []) kind) (eqb kind 103 && false) e (failing (eqb kind 103) false (λ z. refl))) ∙ f))
    interrupt-in Host true e f = cases (eqb kind 103) (λ g. at Host true 103 3 (eqb-true kind 103 g) refl) (λ g. absurd (false≢true (sym (or-none (among (102 ∷ 104 ∷ []) kind) (eqb kind 103 && true) e (failing (eqb kind 103) true (λ z. absurd (false≢true (sym g ∙ z))))) ∙ f)))

-- a type is asked for only where the class is typed
typed-is : (rows : Rows) (b : Bool) (t : Typed) → (b && mistyped_by rows t) ≡ mistyped_by rows (cond b t Untyped)
typed-is rows true t = refl
typed-is rows false t = refl

open_is : (rows : Rows) (b : Bool) (t : Typed) → (b && not (is_open rows t)) ≡ (b && not (is_open rows (cond b t Untyped)))
open_is rows true t = refl
open_is rows false t = refl

-- ---- of a packet whose event the lists describe

module _ (s : Session) (from : Side) (p : Content) (a : grounds_of (event_of from p) ≡ grounds_by from p) where
  abbrev pub head : Head
  head = s.head

  abbrev pub rows : Rows
  rows = s.rows

  abbrev pub t : Requests
  t = s.requests

  abbrev pub e : Event
  e = event_of from p

  -- 26
  pub order_is : out_of_order head e.class ≡ disordered p.kind head
  order_is i = (a i).order head

  -- 28
  pub types_are : wrong_type rows e ≡ mistyped_by rows (typed_by from p)
  types_are = typed-is rows (traits_of e.class).typed e.typed ∙ (λ i. mistyped_by rows (a i).typed)

  -- 30
  pub stream-is : stream_closed rows e ≡ (comes_on_stream from p.kind (inward_of p) && not (is_open rows (cond (comes_on_stream from p.kind (inward_of p)) (row_by (wants from p.kind (inward_of p)) p) Untyped)))
  stream-is = open_is rows (traits_of e.class).streamed e.typed ∙ (λ i. (a i).streamed && not (is_open rows (a i).stream))

  -- of what comes on a stream, the stream is that of its endpoint's row
  pub stream_at_lem : comes_on_stream from p.kind (inward_of p) ≡ true → is_open rows (cond (comes_on_stream from p.kind (inward_of p)) (row_by (wants from p.kind (inward_of p)) p) Untyped) ≡ (state_at rows (endpoint_named p)).streaming
  stream_at_lem h = let w = stream-wants from p.kind (inward_of p) h in rw (h, w.1)

  -- 33, 34

  abbrev pub query : Query
  query = Answered e.request e.answers

  module _ (r : is_reply from p.kind (inward_of p) ≡ true) where
    replies : (traits_of e.class).reply ≡ true
    replies = (λ i. (a i).reply) ∙ r

    -- the requests that the reply answers are those that the lists name
    pub answers-is : (q : Request) → answers e.request e.answers q ≡ answers_by p q
    answers-is q = sym (rw replies) ∙ (λ i. (a i).answers q) ∙ rw r

    pub match_is : match_of t e ≡ match_in t (lowest t query)
    unfolding match_of
    match_is = rw replies

    pub unsolicited-is : is_unsolicited e ≡ (among (14 ∷ 17 ∷ 27 ∷ []) p.kind && eqb p.id 0 && stalled p)
    unfolding event_of
    unsolicited-is i = (a i).unsolicited && eqb p.id 0 && stalled p
