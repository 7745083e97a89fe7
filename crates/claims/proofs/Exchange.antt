-- Requests and replies: `request-keeps`, `reply-passes`, `reply-consumes`, `answered-absent`, `late`, `cancel-passes`.
-- `agrees` takes the laws of `OnePacket.antt` and `EventChecks.antt`, which speak of events, to kind numbers; what ends with a 9 is of its interface,
-- since only an 11 answers it, and names that (`same-interface`).
-- Assumes nothing.
use Rattle.std.specs.Prelude.{Option, Some, None, is_some}
use Prim.Native.Nat.{ℕ, ◌≤◌}
use mathlib.Core.Bool.{Bool, true, false, cond, not, ◌&&◌, ◌||◌, false≢true, or-true}
use mathlib.Core.List.{[], ◌∷◌}
use mathlib.Core.Path.{◌≡◌, refl, sym, ap, subst, ◌∙◌}
use mathlib.Core.Logic.{◌⊎◌, ◌↔◌, inl, inr}
use lib.Dec.{eqb, leb}
use borrow.Author.Tests.{eqb-true, eq-eqb}
use borrow.Table.Steps.{cases}
use Rattle.octets.proofs.Logic.{and_parts, and-whole, failing, or-none, false-not}
use Rattle.endpoint.specs.declared.Endpoint.{Endpoint}
use Rattle.header.specs.declared.Side.{Side}
use Rattle.header.specs.declared.Side.TheVariants.{Guest, Host}
use Rattle.device.specs.Device.{touched}
use Rattle.device.specs.declared.Scope.{Scope}
use Rattle.device.specs.declared.Scope.TheVariants.{OfInterface}
use Rattle.requests.specs.declared.Request.{Request}
use Rattle.requests.specs.Requests.{place_at, lowest, Query, Free, Id, Settling, Answered, taken, ends, ids_differ}
use Rattle.requests.proofs.Places.{differ-when, live-within}
use Rattle.header.specs.Link.{is_guest}
use Rattle.kinds.specs.Content.{Content}
use Rattle.kinds.specs.Number.{wire_number}
use Rattle.kinds.proofs.RoundTrip.{clean}
use Rattle.events.specs.Meaning.{meanings, look_up}
use Rattle.events.specs.Event.{Event, field, meaning_of, event_of, target_of}
use Rattle.checks.specs.Checks.{traits_of, match_of, number_for, Matched, mistyped_by, is_open, match_in, is_unsolicited, number_of}
use Rattle.checks.specs.Change.{scope_of}
use Rattle.session.specs.declared.Session.{Session}
use Rattle.session.specs.Session.{link_of}
use Rattle.session.specs.Step.{applied, next_for, judged}
use Rattle.claims.specs.Allowed.{among, is_request, is_reply, one_of, answers_kind, carries_target, inward_of, count_of, request_of, AnsweredBy, Unsolicited, stalled}
use Rattle.claims.specs.Grounds.{grounds_of, grounds_by}
use Rattle.claims.specs.Exchange.{TakesPlace, RequestKeeps, EndsWith, Consumes, ReplyPasses, ReplyConsumes, NoLive, AnsweredAbsent, LateReply, Late, CancelPasses}
use Rattle.claims.proofs.Grounds.{agrees}
use Rattle.claims.proofs.EventChecks.{holds-none, answers-is, match_is, unsolicited-is, number_is}
use Rattle.claims.proofs.NumberByKind.{found-by, matched-by, short-by}
use Rattle.claims.proofs.Allowed.{asked_by_lem, unfound, asked_is, short-is, allowed-exactly}
use Rattle.claims.proofs.OnePacket.{reply-does, none-held, request-takes, Freed, reply-frees, answered-once, unmatched-keeps, late-reply, from-host}

-- ---- a reply to a set alt is an 11, and its interface is that of its request

or_later : (kind n : ℕ) (a b : ℕ → Bool) → cond (eqb kind n) a b 9 ≡ true → a 9 ≡ false → (eqb kind n ≡ false) × (b 9 ≡ true)
or_later kind n a b h f = cases (eqb kind n) (λ e. absurd (false≢true (sym f ∙ (rw e at h)))) (λ e. (e, rw e at h))

-- of the kinds that answer a 9, in the order in which they are asked: no other than 11 does, but the 9 itself, which is no reply
alt-reply : (from : Side) (kind : ℕ) (inward : Bool) → is_reply from kind inward ≡ true → answers_kind kind 9 ≡ true → kind ≡ 11
alt-reply from kind inward r h =
    cases (eqb kind 11) (λ e. eqb-true kind 11 e) (λ e. absurd (other e))
  where
    own : (from : Side) → is_reply from 9 inward ≡ true → ⊥
    own Guest x = false≢true x
    own Host x = false≢true x

    other : eqb kind 11 ≡ false → ⊥
    other e =
        let a = or_later kind 8 (one_of 6 7) _ h refl in
        let b : cond (eqb kind 14) (one_of 12 13) (cond (eqb kind 17) (one_of 15 16) (cond (eqb kind 20) (one_of 18 19) (cond (eqb kind 27) (one_of 25 26) (one_of kind kind)))) 9 ≡ true = rw e at a.1 in
        let c = or_later kind 14 (one_of 12 13) _ b refl in
        let d = or_later kind 17 (one_of 15 16) _ c.1 refl in
        let f = or_later kind 20 (one_of 18 19) _ d.1 refl in
        let g = or_later kind 27 (one_of 25 26) _ f.1 refl in
        let k : 9 ≡ kind = cases (eqb 9 kind) (λ x. eqb-true 9 kind x) (λ x. absurd (false≢true (sym (or-none (eqb 9 kind) (eqb 9 kind) x x) ∙ g.1))) in
        own from (subst (λ (n : ℕ). is_reply from n inward ≡ true) (sym k) r)

-- the endpoint or interface of an 11 is its interface
alt-target : (from : Side) (p : Content) → p.kind ≡ 11 → (event_of from p).request.target ≡ field "interface" p
unfolding event_of meaning_of meanings
alt-target from p k = ap (λ (n : ℕ). target_of (look_up meanings from n (inward_of p)).about p) k

-- ---- of a packet that came out of the wire checks, to a session whose live requests have different ids

module _ (s : Session) (from : Side) (p : Content) (w : wire_number (link_of from s) p ≡ 0) where
  abbrev e : Event
  e = event_of from p

  pub agreed : grounds_of e ≡ grounds_by from p
  agreed = let c = clean (link_of from s) p w in agrees from p c.kind c.found c.sender

  keeps : is_request from p.kind ≡ true → (judged s e).number ≡ 0 → TakesPlace s p (judged s e).session
  keeps h z =
      let r : (traits_of e.class).request ≡ true = (λ i. (agreed i).request) ∙ h in
      let k : e.request ≡ request_of p = sym (rw r) ∙ (λ i. (agreed i).kept) ∙ rw h in
      let t = request-takes s e r z in
      record { place = t.place; within = t.within; free = t.free; lower = t.lower; holds = t.holds ∙ ap taken k; others = t.others }

  module _ (r : is_reply from p.kind (inward_of p) ≡ true) where
    pub replying : (traits_of e.class).reply ≡ true
    replying = (λ i. (agreed i).reply) ∙ r

    pub from-a-host : is_guest e.sender ≡ false
    from-a-host = from-host (link_of from s) p w replying

    -- of a reply no check asks but 25, 33 and 34
    passes-when : ids_differ s.requests ≡ true → s.head.present ≡ true
        → ((judged s e).number ≡ 0) ↔ (((i : ℕ) × AnsweredBy s.requests p i × (count_of p ≤ (place_at s.requests i).request.length)) ⊎ Unsolicited s.requests p)
    unfolding number_of
    passes-when u h = (λ z. let a = (allowed-exactly s from p w u).0 z in fitting (a.asked r) (a.short r), zero_number)
      where
        fitting : ((i : ℕ) × AnsweredBy s.requests p i) ⊎ Unsolicited s.requests p → ((i : ℕ) → AnsweredBy s.requests p i → count_of p ≤ (place_at s.requests i).request.length)
            → ((i : ℕ) × AnsweredBy s.requests p i × (count_of p ≤ (place_at s.requests i).request.length)) ⊎ Unsolicited s.requests p
        fitting (inl (i, a)) f = inl (i, a, f i a)
        fitting (inr x) f = inr x

        asked : ((i : ℕ) × AnsweredBy s.requests p i × (count_of p ≤ (place_at s.requests i).request.length)) ⊎ Unsolicited s.requests p → ((i : ℕ) × AnsweredBy s.requests p i) ⊎ Unsolicited s.requests p
        asked (inl (i, a, l)) = inl (i, a)
        asked (inr x) = inr x

        -- one live request has the reply's id, so the one that is found is the one that is meant
        short : ((i : ℕ) × AnsweredBy s.requests p i × (count_of p ≤ (place_at s.requests i).request.length)) ⊎ Unsolicited s.requests p
            → (i : ℕ) → AnsweredBy s.requests p i → count_of p ≤ (place_at s.requests i).request.length
        short (inl (j, a, l)) i b = subst (λ (k : ℕ). count_of p ≤ (place_at s.requests k).request.length) (differ-when s.requests u j i a.live b.live (a.id ∙ sym b.id)) l
        short (inr x) i b = absurd (x.unmatched i b)

        -- 33 and 34 do not hold by what is given, and with a device there the others ask nothing of a host's reply
        zero_number : ((i : ℕ) × AnsweredBy s.requests p i × (count_of p ≤ (place_at s.requests i).request.length)) ⊎ Unsolicited s.requests p → (judged s e).number ≡ 0
        zero_number x =
            let c = reply-does e.class replying in
            let d = c.2 s.head in
            number_is s e
            ∙ holds-none s.head s.rows s.requests e (match_of s.requests e)
            (record {
              device = failing (traits_of e.class).device (not s.head.present) (λ k. false-not s.head.present h);
              ack = ap (λ (b : Bool). b && s.head.owed) d.1;
              order = d.2;
              type = ap (λ (b : Bool). b && mistyped_by s.rows e.typed) d.3;
              settled = ap (λ (b : Bool). b && leb 100 e.request.kind && leb e.request.kind 103 && is_some (lowest s.requests Settling)) from-a-host;
              stream = ap (λ (b : Bool). b && not (is_open s.rows e.typed)) d.4;
              unused = ap (λ (b : Bool). b && is_some (lowest s.requests (Id e.request.id))) c.0;
              room = ap (λ (b : Bool). b && not (is_some (lowest s.requests Free))) c.0;
              matched = matched-by s from p agreed ∙ (asked_is s from p).1 (λ k. asked x);
              short = short-by s from p agreed ∙ (short-is s from p (differ-when s.requests u)).1 (λ k. short x);
            })

    -- a reply to a set alt names the interface of its request
    same-interface : (i : ℕ) → AnsweredBy s.requests p i → (place_at s.requests i).request.kind ≡ 9 → (place_at s.requests i).request.target ≡ e.request.target
    same-interface i a nine =
        let eleven : p.kind ≡ 11 = alt-reply from p.kind (inward_of p) r (sym (ap (answers_kind p.kind) nine) ∙ a.kind) in
        a.target (ap carries_target eleven) ∙ ap (λ (n : ℕ). cond (eqb n 11) (field "interface" p) (field "endpoint" p)) eleven ∙ sym (alt-target from p eleven)

    module _ (i : ℕ) (a : AnsweredBy s.requests p i) (j : ℕ) where
      abbrev q : Request
      q = (place_at s.requests i).request

      abbrev target : Endpoint
      target = record { 0 = (place_at s.requests j).request.target }

      abbrev scope : Scope
      scope = scope_of e (Matched i q)

      -- the data requests that end with it are those that document 01 names
      ends-too : ends s.rows scope (place_at s.requests j) ≡ true → EndsWith s p i j
      unfolding touched event_of
      ends-too h =
          let x = and_parts _ (touched s.rows scope target) h in
          let y = and_parts (place_at s.requests j).live _ x.0 in
          cases (eqb e.status 0)
          (λ z. record { live = y.0; kind = y.1; status = z; scope = by_kind z x.1 })
          (λ z. absurd (false≢true (rw z at x.1)))
        where
          by_kind : eqb e.status 0 ≡ true → touched s.rows scope target ≡ true → (q.kind ≡ 6) ⊎ ((q.kind ≡ 9) × (touched s.rows (OfInterface q.target) target ≡ true))
          by_kind z t =
              cases (eqb q.kind 6)
              (λ x. inl (eqb-true q.kind 6 x))
              (λ x.
              cases (eqb q.kind 9)
              (λ y.
              let nine = eqb-true q.kind 9 y in
              inr (nine, ap (λ (n : ℕ). touched s.rows (OfInterface n) target) (same-interface i a nine) ∙ (rw (z, x, y) at t)))
              (λ y. absurd (false≢true (rw (z, x, y) at t))))

      too-ends : EndsWith s p i j → ends s.rows scope (place_at s.requests j) ≡ true
      unfolding touched event_of
      too-ends x = and-whole _ (touched s.rows scope target) (and-whole (place_at s.requests j).live _ x.live x.kind) (by_kind x.scope)
        where
          zero-status : eqb e.status 0 ≡ true
          zero-status = x.status

          by_kind : (q.kind ≡ 6) ⊎ ((q.kind ≡ 9) × (touched s.rows (OfInterface q.target) target ≡ true)) → touched s.rows scope target ≡ true
          by_kind (inl six) = rw (zero-status, eq-eqb q.kind 6 six)
          by_kind (inr (nine, t)) =
              rw (zero-status, ap (λ (n : ℕ). eqb n 6) nine, eq-eqb q.kind 9 nine)
              (sym (ap (λ (n : ℕ). touched s.rows (OfInterface n) target) (same-interface i a nine)) ∙ t)

    abbrev query : Query
    query = Answered e.request e.answers

    pub match-at : (o : Option ℕ) → lowest s.requests query ≡ o → match_of s.requests e ≡ match_in s.requests o
    match-at o x = match_is s from p agreed r ∙ ap (match_in s.requests) x

    -- nothing matches, and the reply passes: it is unsolicited
    alone-when : lowest s.requests query ≡ None → (judged s e).number ≡ 0 → Unsolicited s.requests p
    alone-when x z = go ((asked_is s from p).0 (sym (matched-by s from p agreed) ∙ (none-held s e z).matched) r)
      where
        go : ((i : ℕ) × AnsweredBy s.requests p i) ⊎ Unsolicited s.requests p → Unsolicited s.requests p
        go (inl (i, a)) = absurd (unfound s from p (sym (found-by s from p agreed r) ∙ x) i a)
        go (inr u) = u

    -- a reply that passes is handed to the one request that it answers, or it is unsolicited and handed to none
    consumes : ids_differ s.requests ≡ true → (judged s e).number ≡ 0
        → ((i : ℕ) × Consumes s p (judged s e).session i) ⊎ (Unsolicited s.requests p × ((judged s e).session.requests ≡ s.requests))
    unfolding event_of
    consumes u z = go (lowest s.requests query) refl
      where
        -- the request at the place that was found is the one; no other has its id, and what ends with it is as document 01 says
        handed : (i : ℕ) → Freed s e i (place_at s.requests i).request → Consumes s p (judged s e).session i
        handed i f =
            let a = asked_by_lem s from p i f.within (and-whole (place_at s.requests i).live _ f.live (sym (answers-is s from p agreed r (place_at s.requests i).request) ∙ f.answered)) in
            record {
              answers = a;
              short = f.short;
              only = λ j l v n. differ-when s.requests u j i v f.live (n ∙ sym a.id);
              freed = f.freed;
              others = λ j n.
                  cases (ends s.rows (scope_of e (Matched i (place_at s.requests i).request)) (place_at s.requests j))
                  (λ x. inr (ends-too i a j x, f.others j n ∙ rw x))
                  (λ x. inl (f.others j n ∙ rw x));
              ended = λ j n x. f.others j n ∙ rw (too-ends i a j x);
              zeroed = f.zeroed i f.within (rw (eq-eqb i i refl));
              ended-zeroed = λ j x. f.zeroed j (live-within s.requests j x.live) (ap (λ (b : Bool). eqb j i || b) (too-ends i a j x) ∙ or-true (eqb j i));
            }

        go : (o : Option ℕ) → lowest s.requests query ≡ o → ((i : ℕ) × Consumes s p (judged s e).session i) ⊎ (Unsolicited s.requests p × ((judged s e).session.requests ≡ s.requests))
        go None x =
            inr (alone-when x z, unmatched-keeps s e replying (match-at None x))
        go (Some i) x = inl (i, handed i (reply-frees s e i (place_at s.requests i).request z (match-at (Some i) x)))

    -- once it has been handed to a request, no request with its id waits
    absent-after : ids_differ s.requests ≡ true → (judged s e).number ≡ 0 → (Unsolicited s.requests p → ⊥) → NoLive (judged s e).session.requests p.id
    unfolding event_of
    absent-after u z n = go (lowest s.requests query) refl
      where
        go : (o : Option ℕ) → lowest s.requests query ≡ o → NoLive (judged s e).session.requests p.id
        go None x = absurd (n (alone-when x z))
        go (Some i) x = answered-once s e i (place_at s.requests i).request z (match-at (Some i) x) u

    -- where no request with its id waits, it is refused, but for an unsolicited status, and it frees nothing
    late-when : NoLive s.requests p.id → LateReply s from p
    unfolding event_of
    late-when n =
        let l = late-reply s e replying from-a-host n in
        record {
          without-device = l.absent;
          refused = λ h x. l.unanswered h (cases (is_unsolicited e) (λ y. absurd (x (alone y))) (λ y. y));
          kept = l.kept;
        }
      where
        alone : is_unsolicited e ≡ true → Unsolicited s.requests p
        alone y =
            let v = and_parts (among (14 ∷ 17 ∷ 27 ∷ []) p.kind && eqb p.id 0) (stalled p) (sym (unsolicited-is s from p agreed r) ∙ y) in
            let x = and_parts (among (14 ∷ 17 ∷ 27 ∷ []) p.kind) (eqb p.id 0) v.0 in
            record {
              kind = x.0;
              id = eqb-true p.id 0 x.1;
              status = v.1;
              unmatched = λ i a. n i a.place a.live a.id;
            }

-- ---- the theorems

pub request-keeps : RequestKeeps
request-keeps s from p w h z = keeps s from p w h z

pub reply-passes : ReplyPasses
reply-passes s from p w r u h = passes-when s from p w r u h

pub reply-consumes : ReplyConsumes
reply-consumes s from p w r u z = consumes s from p w r u z

pub answered-absent : AnsweredAbsent
answered-absent s from p w r u z n = absent-after s from p w r u z n

pub late : Late
late s from p w r n = late-when s from p w r n

pub cancel-passes : CancelPasses
unfolding judged number_for next_for applied match_of event_of meaning_of meanings
cancel-passes s id fields rest h = rw h
