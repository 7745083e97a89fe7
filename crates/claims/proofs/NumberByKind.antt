-- The judge gives the number of `checks_by` (`number_by_lem`).
-- Check by check both lists hold the same test, since what the checks go by is the same (`agrees`). 30 asks for the row only of a packet that
-- comes on a stream; 33 and 34 are split by whether it is a reply, and of a reply both search for the same request (`found-by`).
-- Assumes nothing.
use Rattle.std.specs.Prelude.{Option, Some, None, is_some}
use Prim.Native.Nat.{ℕ}
use mathlib.Core.Bool.{Bool, true, false, not, ◌&&◌}
use mathlib.Core.List.{[], ◌∷◌}
use mathlib.Core.Path.{◌≡◌, refl, sym, ap, ◌∙◌}
use lib.Dec.{eqb}
use borrow.Table.Steps.{cases}
use Rattle.scan.specs.Scan.{first_at}
use Rattle.header.specs.declared.Side.{Side}
use Rattle.device.specs.Device.{state_at}
use Rattle.requests.specs.declared.Requests.{Requests}
use Rattle.requests.specs.Requests.{Place, places_of, lowest, Free, Id, Answered}
use Rattle.kinds.specs.Content.{Content}
use Rattle.kinds.proofs.RoundTrip.{clean}
use Rattle.events.specs.Event.{Event, event_of}
use Rattle.checks.specs.Checks.{traits_of, match_of, number_for, match_in, is_unsolicited, no_such_request, number_of, Unmatched, stream_closed, settling, is_unmatched, too_long, ◌when◌, first_of}
use Rattle.session.specs.declared.Session.{Session}
use Rattle.session.specs.Session.{link_of}
use Rattle.claims.specs.Allowed.{among, is_reply, comes_on_stream, endpoint_named, inward_of, stalled}
use Rattle.claims.specs.NumberByKind.{answered_at, longer_than, checks_by, NumberBy}
use Rattle.claims.specs.Grounds.{grounds_of, grounds_by}
use Rattle.claims.proofs.Grounds.{agrees}
use Rattle.claims.proofs.EventChecks.{order_is, types_are, stream-is, stream_at_lem, answers-is, match_is, unsolicited-is, number_is}

-- ---- each check

-- what follows a test is asked only where it holds
same-behind : (b x y : Bool) → (b ≡ true → x ≡ y) → (b && x) ≡ (b && y)
same-behind true x y f = f refl
same-behind false x y f = refl

module _ (s : Session) (from : Side) (p : Content) (a : grounds_of (event_of from p) ≡ grounds_by from p) where
  abbrev t : Requests
  t = s.requests

  abbrev e : Event
  e = event_of from p

  stream-by : stream_closed s.rows e ≡ (comes_on_stream from p.kind (inward_of p) && not (state_at s.rows (endpoint_named p)).streaming)
  stream-by = stream-is s from p a ∙ same-behind (comes_on_stream from p.kind (inward_of p)) _ _ (λ h. ap not (stream_at_lem s from p a h))

  module _ (r : is_reply from p.kind (inward_of p) ≡ true) where
    -- the search for a request that it answers
    pub found-by : lowest t (Answered e.request e.answers) ≡ answered_at t p
    unfolding lowest
    found-by = λ k. first_at (λ (q : Place). q.live && answers-is s from p a r q.request k) 0 (places_of t)

    match_by : match_of t e ≡ match_in t (answered_at t p)
    match_by = match_is s from p a r ∙ ap (match_in t) found-by

  unmatched-is : (o : Option ℕ) → is_unmatched (match_in t o) ≡ not (is_some o)
  unmatched-is None = refl
  unmatched-is (Some i) = refl

  long-is : (o : Option ℕ) → too_long e (match_in t o) ≡ longer_than t p o
  unfolding event_of
  long-is None = refl
  long-is (Some i) = refl

  reply-is : (traits_of e.class).reply ≡ is_reply from p.kind (inward_of p)
  reply-is k = (a k).reply

  pub matched-by : no_such_request e (match_of t e) ≡ (is_reply from p.kind (inward_of p) && not (is_some (answered_at t p)) && not (among (14 ∷ 17 ∷ 27 ∷ []) p.kind && eqb p.id 0 && stalled p))
  matched-by = cases (is_reply from p.kind (inward_of p)) there elsewhere
    where
      there : is_reply from p.kind (inward_of p) ≡ true → no_such_request e (match_of t e) ≡ (is_reply from p.kind (inward_of p) && not (is_some (answered_at t p)) && not (among (14 ∷ 17 ∷ 27 ∷ []) p.kind && eqb p.id 0 && stalled p))
      there r =
          let m : is_unmatched (match_of t e) ≡ not (is_some (answered_at t p)) = ap is_unmatched (match_by r) ∙ unmatched-is (answered_at t p) in
          λ k. reply-is k && m k && not (unsolicited-is s from p a r k)

      elsewhere : is_reply from p.kind (inward_of p) ≡ false → no_such_request e (match_of t e) ≡ (is_reply from p.kind (inward_of p) && not (is_some (answered_at t p)) && not (among (14 ∷ 17 ∷ 27 ∷ []) p.kind && eqb p.id 0 && stalled p))
      elsewhere r =
          ap (λ (b : Bool). b && is_unmatched (match_of t e) && not (is_unsolicited e)) (reply-is ∙ r)
          ∙ sym (ap (λ (b : Bool). b && not (is_some (answered_at t p)) && not (among (14 ∷ 17 ∷ 27 ∷ []) p.kind && eqb p.id 0 && stalled p)) r)

  pub short-by : too_long e (match_of t e) ≡ (is_reply from p.kind (inward_of p) && longer_than t p (answered_at t p))
  unfolding match_of
  short-by = cases (is_reply from p.kind (inward_of p)) there elsewhere
    where
      there : is_reply from p.kind (inward_of p) ≡ true → too_long e (match_of t e) ≡ (is_reply from p.kind (inward_of p) && longer_than t p (answered_at t p))
      there r = ap (too_long e) (match_by r) ∙ long-is (answered_at t p) ∙ sym (ap (λ (b : Bool). b && longer_than t p (answered_at t p)) r)

      elsewhere : is_reply from p.kind (inward_of p) ≡ false → too_long e (match_of t e) ≡ (is_reply from p.kind (inward_of p) && longer_than t p (answered_at t p))
      elsewhere r =
          let n : (traits_of e.class).reply ≡ false = reply-is ∙ r in
          let m : match_of t e ≡ Unmatched = rw n in
          ap (too_long e) m ∙ sym (ap (λ (b : Bool). b && longer_than t p (answered_at t p)) r)

  -- check by check, the judge's list is this one
  all-by : number_of s.head s.rows s.requests e ≡ first_of (checks_by s from p)
  unfolding number_of number_for checks_by event_of
  all-by k =
      first_of
      (25 when ((a k).device && not s.head.present)
      ∷ 27 when ((a k).introduces && s.head.owed)
      ∷ 26 when order_is s from p a k
      ∷ 28 when types_are s from p a k
      ∷ 29 when settling t e
      ∷ 30 when stream-by k
      ∷ 31 when ((a k).request && is_some (lowest t (Id p.id)))
      ∷ 32 when ((a k).request && not (is_some (lowest t Free)))
      ∷ 33 when matched-by k
      ∷ 34 when short-by k
      ∷ [])

pub number_by_lem : NumberBy
number_by_lem s from p w =
    let c = clean (link_of from s) p w in
    number_is s (event_of from p) ∙ all-by s from p (agrees from p c.kind c.found c.sender)
