-- The judge passes a packet exactly when it is allowed (`allowed-exactly`), and gives each other number exactly where its check is the first that fails
-- (`number-in-words`): a check of `checks_by` fails exactly where its relation holds.
-- Assumes nothing.
use Rattle.std.specs.Prelude.{Option, Some, None, is_some}
use Prim.Native.Nat.{ℕ, ◌≤◌, ◌<◌}
use mathlib.Core.Bool.{Bool, true, false, not, ◌&&◌, ◌||◌, true≢false, false≢true}
use mathlib.Core.List.{List, [], ◌∷◌}
use mathlib.Core.Logic.{◌↔◌, ◌⊎◌, inl, inr}
use Rattle.std.proofs.lemmas.Option.{none-some}
use mathlib.Core.Path.{◌≡◌, refl, sym, ap, subst, ◌∙◌}
use lib.ListN.{length}
use lib.Dec.{eqb, leb}
use borrow.Author.Tests.{eqb-true, eqb-false, eq-eqb, ne_eqb, leb-true, le-leb, le-ltb, ltb-false, not-true, not-false}
use borrow.Table.Steps.{cases}
use Rattle.octets.proofs.Logic.{and_parts, and-whole, fails, failing, implied, implying, or_parts, or-none, false-not, true-not}
use Rattle.scan.proofs.Searches.{first_found, first_absent}
use Rattle.header.specs.declared.Side.{Side}
use Rattle.header.specs.declared.Side.TheVariants.{Guest, Host}
use Rattle.header.specs.Link.{is_guest}
use Rattle.kinds.specs.Content.{Content}
use Rattle.kinds.specs.Number.{wire_number}
use Rattle.device.specs.declared.Introduction.{Introduction}
use Rattle.device.specs.declared.Introduction.TheVariants.{Unintroduced, Two, One}
use Rattle.device.specs.Device.{bulk, state_at}
use Rattle.device.proofs.RowChanges.{mask-absent, mask-none}
use Rattle.requests.specs.declared.Requests.{Requests}
use Rattle.requests.specs.Requests.{Place, places_of, free_place, place_at, lowest, Query, Free, Id, Settling, meets, ids_differ}
use Rattle.requests.proofs.Places.{differ-when, places-length, places-at, lowest-found, lowest-some, lowest-none}
use Rattle.events.specs.Event.{field, event_of}
use Rattle.checks.specs.Checks.{is_begun, is_done, mistyped_by, Check, ◌when◌, first_of}
use Rattle.session.specs.declared.Session.{Session}
use Rattle.session.specs.Session.{link_of}
use Rattle.session.specs.Step.{judged}
use Rattle.claims.specs.Allowed.{among, is_request, is_reply, answers_kind, carries_target, wants, comes_on_stream, endpoint_named, inward_of, reply_target, count_of, AnsweredBy, Unsolicited, HasDevice, NoneOwed, Introduced, RightType, NoneSettling, StreamOpen, UnusedId, HasRoom, WasAsked, NotLonger, Allowed, SessionNumbered, AllowedExactly, NumberInWords, stalled}
use Rattle.claims.specs.NumberByKind.{disordered, row_by, typed_by, answers_by, answered_at, longer_than, checks_by}
use Rattle.claims.proofs.EventChecks.{one_of_two}
use Rattle.claims.proofs.NumberByKind.{number_by_lem}

-- ---- the first check of a list that does not fail

-- no check has that number, nor is it 0
abbrev apart : ℕ → List Check → Bool
apart m [] = not (eqb 0 m)
apart m (c ∷ cs) = not (eqb c.number m) && apart m cs

apart_from : (m : ℕ) (cs : List Check) → apart m cs ≡ true → first_of cs ≡ m → ⊥
apart_from m [] h e = eqb-false 0 m (not-true (eqb 0 m) h) e
apart_from m (c ∷ cs) h e =
    let q = and_parts (not (eqb c.number m)) (apart m cs) h in
    cases c.holds
    (λ t. let f : c.number ≡ m = sym (rw t refl) ∙ e in eqb-false c.number m (not-true (eqb c.number m) q.0) f)
    (λ t. let f : first_of cs ≡ m = sym (rw t refl) ∙ e in apart_from m cs q.1 f)

-- its number, where it is the first of a list; and one further on
own : (c : Check) (cs : List Check) {A : Type 0} → ((c.holds ≡ false) ↔ A) → apart c.number cs ≡ true → (first_of (c ∷ cs) ≡ c.number) ↔ (A → ⊥)
own c cs i h = (
  (λ e a. let f : first_of cs ≡ c.number = sym (rw (i.1 a) refl) ∙ e in apart_from c.number cs h f),
  (λ z. cases c.holds (λ t. rw t refl) (λ t. absurd (z (i.0 t)))),
)

later : (c : Check) (cs : List Check) (k : ℕ) {A B : Type 0} → ((c.holds ≡ false) ↔ A) → eqb c.number k ≡ false → ((first_of cs ≡ k) ↔ B) → (first_of (c ∷ cs) ≡ k) ↔ (A × B)
later c cs k i h j = (
  (λ e. cases c.holds
      (λ t. let f : c.number ≡ k = sym (rw t refl) ∙ e in absurd (eqb-false c.number k h f))
      (λ t. let f : first_of cs ≡ k = sym (rw t refl) ∙ e in (i.0 t, j.0 f))),
  (λ q. let f : first_of (c ∷ cs) ≡ first_of cs = rw (i.1 q.0) refl in f ∙ j.1 q.1),
)

-- ---- searches

module _ (t : Requests) (q : Query) where
  none-when : is_some (lowest t q) ≡ false → (i : ℕ) → i < 96 → meets q (place_at t i) ≡ false
  none-when h i l = cases (meets q (place_at t i)) (λ e. absurd (true≢false (sym (ap is_some (lowest-some t q i l e).1) ∙ h))) (λ e. e)

  when-none : ((i : ℕ) → i < 96 → meets q (place_at t i) ≡ false) → is_some (lowest t q) ≡ false
  when-none f = ap is_some (lowest-none t q f)

  some_at : is_some (lowest t q) ≡ true → (i : ℕ) × (i < 96) × (meets q (place_at t i) ≡ true)
  some_at h = go (lowest t q) refl h
    where
      go : (o : Option ℕ) → lowest t q ≡ o → is_some o ≡ true → (i : ℕ) × (i < 96) × (meets q (place_at t i) ≡ true)
      go None e f = absurd (false≢true f)
      go (Some i) e f = let r = lowest-found t q i e in (i, r.0, r.1)

-- ---- kinds and introductions

-- a mask's kind wants no type of an endpoint
mask-wants : (from : Side) (kind : ℕ) (inward : Bool) → among (18 ∷ 19 ∷ []) kind ≡ true → wants from kind inward ≡ None
mask-wants from kind inward h = go from (one_of_two 18 19 kind h)
  where
    at : (from : Side) (n : ℕ) → kind ≡ n → wants from n inward ≡ None → wants from kind inward ≡ None
    at from n e f = ap (λ (k : ℕ). wants from k inward) e ∙ f

    go : (from : Side) → (kind ≡ 18) ⊎ (kind ≡ 19) → wants from kind inward ≡ None
    go Guest (inl e) = at Guest 18 e refl
    go Guest (inr e) = at Guest 19 e refl
    go Host (inl e) = at Host 18 e refl
    go Host (inr e) = at Host 19 e refl

done : (i : Introduction) → is_done i ≡ true → i ≡ Two
done Unintroduced e = absurd (false≢true e)
done One e = absurd (false≢true e)
done Two e = refl

begun-when : (i : Introduction) → (i ≡ Unintroduced → ⊥) → is_begun i ≡ true
begun-when Unintroduced f = absurd (f refl)
begun-when One f = refl
begun-when Two f = refl

-- ---- each check and its relation

module _ (s : Session) (from : Side) (p : Content) where
  abbrev t : Requests
  t = s.requests

  abbrev present : Bool
  present = s.head.present

  abbrev owed : Bool
  owed = s.head.owed

  abbrev stage : Introduction
  stage = s.head.introduction

  abbrev without : Bool
  without = among (0 ∷ 1 ∷ 4 ∷ 5 ∷ 22 ∷ 23 ∷ 24 ∷ []) p.kind

  pub device-is : ((not without && not present) ≡ false) ↔ HasDevice s from p
  device-is = (
    (λ h n. not-false present (fails (not without) (not present) h (true-not without n))),
    (λ f. failing (not without) (not present) (λ h. false-not present (f (not-true without h)))),
  )

  pub ack-is : ((among (1 ∷ 4 ∷ 5 ∷ []) p.kind && owed) ≡ false) ↔ NoneOwed s from p
  ack-is = ((λ h n. fails (among (1 ∷ 4 ∷ 5 ∷ []) p.kind) owed h n), (λ f. failing (among (1 ∷ 4 ∷ 5 ∷ []) p.kind) owed f))

  order-at : (n : ℕ) → disordered p.kind s.head ≡ false → p.kind ≡ n → disordered n s.head ≡ false
  order-at n h k = sym (ap (λ (m : ℕ). disordered m s.head) k) ∙ h

  introduced : disordered p.kind s.head ≡ false → Introduced s from p
  introduced h =
      record {
        connect = λ k. let r = or_parts present (not (is_done stage)) (order-at 1 h k) in (r.0, done stage (not-false (is_done stage) r.1));
        interfaces = λ k n i.
            let r : is_begun stage ≡ true = not-false (is_begun stage) (fails (not present) (not (is_begun stage)) (order-at 4 h k) (true-not present n)) in
            false≢true (sym (ap is_begun i) ∙ r);
        acknowledgement = λ k. not-false owed (order-at 24 h k);
      }

  introducing : Introduced s from p → disordered p.kind s.head ≡ false
  introducing i = cases (eqb p.kind 1) first (λ x. cases (eqb p.kind 4) (second x) (λ y. cases (eqb p.kind 24) (third x y) (λ z. rw (x, y, z))))
    where
      first : eqb p.kind 1 ≡ true → disordered p.kind s.head ≡ false
      first x = let r = i.connect (eqb-true p.kind 1 x) in rw x (or-none present (not (is_done stage)) r.0 (false-not (is_done stage) (ap is_done r.1)))

      second : eqb p.kind 1 ≡ false → eqb p.kind 4 ≡ true → disordered p.kind s.head ≡ false
      second x y =
          rw (x, y) (failing (not present) (not (is_begun stage)) (λ n. false-not (is_begun stage) (begun-when stage (i.interfaces (eqb-true p.kind 4 y) (not-true present n)))))

      third : eqb p.kind 1 ≡ false → eqb p.kind 4 ≡ false → eqb p.kind 24 ≡ true → disordered p.kind s.head ≡ false
      third x y z = rw (x, y, z) (false-not owed (i.acknowledgement (eqb-true p.kind 24 z)))

  pub order_is : (disordered p.kind s.head ≡ false) ↔ Introduced s from p
  order_is = (introduced, introducing)

  typed : mistyped_by s.rows (typed_by from p) ≡ false → RightType s from p
  typed h = record { type = one_type; types = λ m r l b. mask-absent s.rows (field "mask" p) bulk (sym (rw m) ∙ h) r l b }
    where
      one_type : (k : ℕ) → wants from p.kind (inward_of p) ≡ Some k → (state_at s.rows (endpoint_named p)).ty ≡ k
      one_type k w =
          cases (among (18 ∷ 19 ∷ []) p.kind)
          (λ m. absurd (none-some k (sym (mask-wants from p.kind (inward_of p) m) ∙ w)))
          (λ m. eqb-true (state_at s.rows (endpoint_named p)).ty k (not-false _ (sym (rw (m, w)) ∙ h)))

  typing : RightType s from p → mistyped_by s.rows (typed_by from p) ≡ false
  typing r = cases (among (18 ∷ 19 ∷ []) p.kind) (λ m. rw m (mask-none s.rows (field "mask" p) bulk (r.types m))) (λ m. rw m (wanted (wants from p.kind (inward_of p)) refl))
    where
      wanted : (o : Option ℕ) → wants from p.kind (inward_of p) ≡ o → mistyped_by s.rows (row_by o p) ≡ false
      wanted None w = refl
      wanted (Some k) w = false-not _ (eq-eqb _ k (r.type k w))

  pub type-is : (mistyped_by s.rows (typed_by from p) ≡ false) ↔ RightType s from p
  type-is = (typed, typing)

  pub settled_is : ((is_guest from && leb 100 p.kind && leb p.kind 103 && is_some (lowest t Settling)) ≡ false) ↔ NoneSettling s from p
  settled_is = (
    (λ h g l u i n v.
        let w = and-whole _ _ (and-whole _ _ g (le-leb 100 p.kind l)) (le-leb p.kind 103 u) in
        fails (place_at t i).live _ (none-when t Settling (fails (is_guest from && leb 100 p.kind && leb p.kind 103) _ h w) i n) v),
    (λ f. failing (is_guest from && leb 100 p.kind && leb p.kind 103) _
        (λ w.
        let r = and_parts (is_guest from && leb 100 p.kind) (leb p.kind 103) w in
        let q = and_parts (is_guest from) (leb 100 p.kind) r.0 in
        when-none t Settling (λ i n. failing (place_at t i).live _ (λ v. f q.0 (leb-true 100 p.kind q.1) (leb-true p.kind 103 r.1) i n v)))),
  )

  pub stream-is : ((comes_on_stream from p.kind (inward_of p) && not (state_at s.rows (endpoint_named p)).streaming) ≡ false) ↔ StreamOpen s from p
  stream-is = (
    (λ h o. not-false _ (fails (comes_on_stream from p.kind (inward_of p)) _ h o)),
    (λ f. failing (comes_on_stream from p.kind (inward_of p)) _ (λ o. false-not _ (f o))),
  )

  pub unused-is : ((is_request from p.kind && is_some (lowest t (Id p.id))) ≡ false) ↔ UnusedId s from p
  unused-is = (
    (λ h r i n v q.
        let x : eqb (place_at t i).request.id p.id ≡ false = fails (place_at t i).live _ (none-when t (Id p.id) (fails (is_request from p.kind) _ h r) i n) v in
        eqb-false (place_at t i).request.id p.id x q),
    (λ f. failing (is_request from p.kind) _ (λ r. when-none t (Id p.id) (λ i n. failing (place_at t i).live _ (λ v. ne_eqb (place_at t i).request.id p.id (f r i n v))))),
  )

  pub room-is : ((is_request from p.kind && not (is_some (lowest t Free))) ≡ false) ↔ HasRoom s from p
  room-is = (
    (λ h r. let f = some_at t Free (not-false _ (fails (is_request from p.kind) _ h r)) in (f.0, f.1, not-true _ f.2)),
    (λ f. failing (is_request from p.kind) _
        (λ r. false-not _ (let g = f r in ap is_some (lowest-some t Free g.0 g.1 (true-not _ g.2)).1))),
  )

  -- the request that a reply answers
  abbrev asked : Place → Bool
  asked q = q.live && answers_by p q.request

  pub asked_by_lem : (i : ℕ) → i < 96 → asked (place_at t i) ≡ true → AnsweredBy t p i
  asked_by_lem i n m =
      let q = (place_at t i).request in
      let v = and_parts (place_at t i).live (answers_by p q) m in
      let w = and_parts (eqb q.id p.id && answers_kind p.kind q.kind) (not (carries_target p.kind) || eqb q.target (reply_target p)) v.1 in
      let x = and_parts (eqb q.id p.id) (answers_kind p.kind q.kind) w.0 in
      record {
        place = n;
        live = v.0;
        id = eqb-true q.id p.id x.0;
        kind = x.1;
        target = λ c. eqb-true q.target (reply_target p) (implied (carries_target p.kind) (eqb q.target (reply_target p)) w.1 c);
      }

  by-asked : (i : ℕ) → AnsweredBy t p i → asked (place_at t i) ≡ true
  by-asked i w =
      let q = (place_at t i).request in
      and-whole (place_at t i).live _ w.live
      (and-whole _ _ (and-whole _ _ (eq-eqb q.id p.id w.id) w.kind) (implying (carries_target p.kind) _ (λ c. eq-eqb q.target (reply_target p) (w.target c))))

  pub found : (i : ℕ) → answered_at t p ≡ Some i → AnsweredBy t p i
  found i e =
      let r = first_found asked (places_of t) i free_place e in
      asked_by_lem i (rw (places-length t) at r.0) (sym (ap asked (places-at t i)) ∙ r.1)

  pub unfound : answered_at t p ≡ None → (i : ℕ) → AnsweredBy t p i → ⊥
  unfound e i w =
      let r = first_absent asked (places_of t) free_place e i (rw (places-length t) w.place) in
      false≢true (sym r ∙ ap asked (places-at t i) ∙ by-asked i w)

  abbrev reply : Bool
  reply = is_reply from p.kind (inward_of p)

  abbrev alone : Bool
  alone = among (14 ∷ 17 ∷ 27 ∷ []) p.kind && eqb p.id 0 && stalled p

  was-asked : (reply && not (is_some (answered_at t p)) && not alone) ≡ false → WasAsked s from p
  was-asked h r = go (answered_at t p) refl
    where
      go : (o : Option ℕ) → answered_at t p ≡ o → ((i : ℕ) × AnsweredBy t p i) ⊎ Unsolicited t p
      go (Some i) e = inl (i, found i e)
      go None e =
          let u : alone ≡ true = not-false alone (fails (reply && not (is_some (answered_at t p))) (not alone) h (and-whole reply _ r (ap (λ (o : Option ℕ). not (is_some o)) e))) in
          let w = and_parts (among (14 ∷ 17 ∷ 27 ∷ []) p.kind && eqb p.id 0) (stalled p) u in
          let x = and_parts (among (14 ∷ 17 ∷ 27 ∷ []) p.kind) (eqb p.id 0) w.0 in
          inr (record { kind = x.0; id = eqb-true p.id 0 x.1; status = w.1; unmatched = unfound e })

  asking : WasAsked s from p → (reply && not (is_some (answered_at t p)) && not alone) ≡ false
  asking f = failing (reply && not (is_some (answered_at t p))) (not alone) (λ x. let q = and_parts reply (not (is_some (answered_at t p))) x in go (f q.0) (not-true _ q.1))
    where
      lost : (i : ℕ) → AnsweredBy t p i → (o : Option ℕ) → answered_at t p ≡ o → is_some o ≡ false → ⊥
      lost i w None e n = unfound e i w
      lost i w (Some j) e n = true≢false n

      go : ((i : ℕ) × AnsweredBy t p i) ⊎ Unsolicited t p → is_some (answered_at t p) ≡ false → not alone ≡ false
      go (inl w) n = absurd (lost w.0 w.1 (answered_at t p) refl n)
      go (inr u) n = false-not alone (and-whole _ _ (and-whole _ _ u.kind (eq-eqb p.id 0 u.id)) u.status)

  pub asked_is : ((reply && not (is_some (answered_at t p)) && not alone) ≡ false) ↔ WasAsked s from p
  asked_is = (was-asked, asking)

  module _ (ids : (i j : ℕ) → (place_at t i).live ≡ true → (place_at t j).live ≡ true → (place_at t i).request.id ≡ (place_at t j).request.id → i ≡ j) where
    not-longer : (reply && longer_than t p (answered_at t p)) ≡ false → NotLonger s from p
    not-longer h r i w = go (answered_at t p) refl (fails reply _ h r)
      where
        go : (o : Option ℕ) → answered_at t p ≡ o → longer_than t p o ≡ false → count_of p ≤ (place_at t i).request.length
        go None e n = absurd (unfound e i w)
        go (Some j) e n =
            let v = found j e in
            subst (λ (k : ℕ). count_of p ≤ (place_at t k).request.length) (ids j i v.live w.live (v.id ∙ sym w.id)) (ltb-false (place_at t j).request.length (count_of p) n)

    short-enough : NotLonger s from p → (reply && longer_than t p (answered_at t p)) ≡ false
    short-enough f = failing reply _ (λ r. go (f r) (answered_at t p) refl)
      where
        go : ((i : ℕ) → AnsweredBy t p i → count_of p ≤ (place_at t i).request.length) → (o : Option ℕ) → answered_at t p ≡ o → longer_than t p o ≡ false
        go g None e = refl
        go g (Some j) e = le-ltb (place_at t j).request.length (count_of p) (g j (found j e))

    pub short-is : ((reply && longer_than t p (answered_at t p)) ≡ false) ↔ NotLonger s from p
    short-is = (not-longer, short-enough)

    -- ---- all of them

    -- the checks from each on
    abbrev check34 : Check
    check34 = 34 when (reply && longer_than t p (answered_at t p))

    abbrev from34 : List Check
    from34 = check34 ∷ []

    abbrev check33 : Check
    check33 = 33 when (reply && not (is_some (answered_at t p)) && not alone)

    abbrev from33 : List Check
    from33 = check33 ∷ from34

    abbrev check32 : Check
    check32 = 32 when (is_request from p.kind && not (is_some (lowest t Free)))

    abbrev from32 : List Check
    from32 = check32 ∷ from33

    abbrev check31 : Check
    check31 = 31 when (is_request from p.kind && is_some (lowest t (Id p.id)))

    abbrev from31 : List Check
    from31 = check31 ∷ from32

    abbrev check30 : Check
    check30 = 30 when (comes_on_stream from p.kind (inward_of p) && not (state_at s.rows (endpoint_named p)).streaming)

    abbrev from30 : List Check
    from30 = check30 ∷ from31

    abbrev check29 : Check
    check29 = 29 when (is_guest from && leb 100 p.kind && leb p.kind 103 && is_some (lowest t Settling))

    abbrev from29 : List Check
    from29 = check29 ∷ from30

    abbrev check28 : Check
    check28 = 28 when mistyped_by s.rows (typed_by from p)

    abbrev from28 : List Check
    from28 = check28 ∷ from29

    abbrev check26 : Check
    check26 = 26 when disordered p.kind s.head

    abbrev from26 : List Check
    from26 = check26 ∷ from28

    abbrev check27 : Check
    check27 = 27 when (among (1 ∷ 4 ∷ 5 ∷ []) p.kind && owed)

    abbrev from27 : List Check
    from27 = check27 ∷ from26

    abbrev check25 : Check
    check25 = 25 when (not without && not present)

    abbrev from25 : List Check
    from25 = check25 ∷ from27

    -- a number that comes further on
    past-25 : (k : ℕ) {B : Type 0} → eqb 25 k ≡ false → ((first_of from27 ≡ k) ↔ B) → (first_of from25 ≡ k) ↔ (HasDevice s from p × B)
    past-25 k h j = later check25 from27 k device-is h j

    past-27 : (k : ℕ) {B : Type 0} → eqb 27 k ≡ false → ((first_of from26 ≡ k) ↔ B) → (first_of from27 ≡ k) ↔ (NoneOwed s from p × B)
    past-27 k h j = later check27 from26 k ack-is h j

    past-26 : (k : ℕ) {B : Type 0} → eqb 26 k ≡ false → ((first_of from28 ≡ k) ↔ B) → (first_of from26 ≡ k) ↔ (Introduced s from p × B)
    past-26 k h j = later check26 from28 k order_is h j

    past-28 : (k : ℕ) {B : Type 0} → eqb 28 k ≡ false → ((first_of from29 ≡ k) ↔ B) → (first_of from28 ≡ k) ↔ (RightType s from p × B)
    past-28 k h j = later check28 from29 k type-is h j

    past-29 : (k : ℕ) {B : Type 0} → eqb 29 k ≡ false → ((first_of from30 ≡ k) ↔ B) → (first_of from29 ≡ k) ↔ (NoneSettling s from p × B)
    past-29 k h j = later check29 from30 k settled_is h j

    past-30 : (k : ℕ) {B : Type 0} → eqb 30 k ≡ false → ((first_of from31 ≡ k) ↔ B) → (first_of from30 ≡ k) ↔ (StreamOpen s from p × B)
    past-30 k h j = later check30 from31 k stream-is h j

    past-31 : (k : ℕ) {B : Type 0} → eqb 31 k ≡ false → ((first_of from32 ≡ k) ↔ B) → (first_of from31 ≡ k) ↔ (UnusedId s from p × B)
    past-31 k h j = later check31 from32 k unused-is h j

    past-32 : (k : ℕ) {B : Type 0} → eqb 32 k ≡ false → ((first_of from33 ≡ k) ↔ B) → (first_of from32 ≡ k) ↔ (HasRoom s from p × B)
    past-32 k h j = later check32 from33 k room-is h j

    past-33 : (k : ℕ) {B : Type 0} → eqb 33 k ≡ false → ((first_of from34 ≡ k) ↔ B) → (first_of from33 ≡ k) ↔ (WasAsked s from p × B)
    past-33 k h j = later check33 from34 k asked_is h j

    pub numbered : SessionNumbered s from p (first_of (checks_by s from p))
    unfolding checks_by
    numbered =
        record {
          no-device = own check25 from27 device-is refl;
          ack-owed = past-25 27 refl (own check27 from26 ack-is refl);
          out-of-order = past-25 26 refl (past-27 26 refl (own check26 from28 order_is refl));
          wrong-type = past-25 28 refl (past-27 28 refl (past-26 28 refl (own check28 from29 type-is refl)));
          settling = past-25 29 refl (past-27 29 refl (past-26 29 refl (past-28 29 refl (own check29 from30 settled_is refl))));
          closed-stream = past-25 30 refl (past-27 30 refl (past-26 30 refl (past-28 30 refl (past-29 30 refl (own check30 from31 stream-is refl)))));
          id-in-use = past-25 31 refl (past-27 31 refl (past-26 31 refl (past-28 31 refl (past-29 31 refl (past-30 31 refl (own check31 from32 unused-is refl))))));
          full = past-25 32 refl (past-27 32 refl (past-26 32 refl (past-28 32 refl (past-29 32 refl (past-30 32 refl (past-31 32 refl (own check32 from33 room-is refl)))))));
          unasked = past-25 33 refl (past-27 33 refl (past-26 33 refl (past-28 33 refl (past-29 33 refl (past-30 33 refl (past-31 33 refl (past-32 33 refl (own check33 from34 asked_is refl))))))));
          too_long = past-25 34 refl (past-27 34 refl (past-26 34 refl (past-28 34 refl (past-29 34 refl (past-30 34 refl (past-31 34 refl (past-32 34 refl (past-33 34 refl (own check34 [] short-is refl)))))))));
        }

    -- no check is left that could hold
    allowed : (first_of from25 ≡ 0) ↔ Allowed s from p
    allowed =
        let c = past-25 0 refl (past-27 0 refl (past-26 0 refl (past-28 0 refl (past-29 0 refl (past-30 0 refl (past-31 0 refl (past-32 0 refl (past-33 0 refl (later check34 [] 0 short-is refl ((λ e. e), (λ e. e))))))))))) in (
          (λ z.
              let (a, (b, (d, (f, (g, (h, (i, (j, (k, (l, m)))))))))) = c.0 z in
              record { device = a; ack = b; order = d; type = f; settled = g; stream = h; unused = i; room = j; asked = k; short = l }),
          (λ q. c.1 (q.device, (q.ack, (q.order, (q.type, (q.settled, (q.stream, (q.unused, (q.room, (q.asked, (q.short, refl))))))))))),
        )

-- ---- the theorems

module _ (s : Session) (from : Side) (p : Content) (w : wire_number (link_of from s) p ≡ 0) (u : ids_differ s.requests ≡ true) where
  ids : (i j : ℕ) → (place_at s.requests i).live ≡ true → (place_at s.requests j).live ≡ true → (place_at s.requests i).request.id ≡ (place_at s.requests j).request.id → i ≡ j
  ids = differ-when s.requests u

  judged-zero : ((judged s (event_of from p)).number ≡ 0) ↔ Allowed s from p
  unfolding checks_by
  judged-zero = let i = allowed s from p ids in ((λ z. i.0 (sym (number_by_lem s from p w) ∙ z)), (λ a. number_by_lem s from p w ∙ i.1 a))

pub allowed-exactly : AllowedExactly
allowed-exactly s from p w u = judged-zero s from p w u

pub number-in-words : NumberInWords
number-in-words s from p w u = subst (SessionNumbered s from p) (sym (number_by_lem s from p w)) (numbered s from p (ids s from p w u))
