-- Demand 2, over the whole gate (`demand-2`), and what else is said of a packet that is whole.
-- A call that is barred, wants more or refuses a header does not answer 0. With a whole packet out of the wire checks it is the judge's answer
-- (`judged-call`), of which `claims` speaks. The writer's number is 0 exactly where no part of it refuses (`writer-exactly`).
-- Assumes nothing.
use Prim.Native.Nat.{ℕ, ◌≤◌}
use native.Mathlib.Omega.{arith}
use mathlib.Core.Bool.{Bool, true, false, cond, true≢false}
use mathlib.Core.List.{List, [], ◌∷◌, ◌++◌}
use mathlib.Core.Path.{◌≡◌, refl, sym, ap, ◌∙◌}
use mathlib.Core.Logic.{◌⊎◌}
use lib.Dec.{eqb, ltb}
use lib.ListN.{length, take}
use borrow.Author.Tests.{eqb-true, le-ltb, ltb-false}
use borrow.Table.Steps.{cases}
use Rattle.header.specs.declared.Side.{Side}
use Rattle.header.specs.declared.Side.TheVariants.{Guest, Host}
use Rattle.header.specs.Header.{header_number}
use Rattle.requests.specs.Requests.{ids_differ}
use Rattle.kinds.specs.Content.{Content}
use Rattle.kinds.specs.Codec.{read_number, encode, or_next, body_length, packet_number, write_number}
use Rattle.kinds.specs.Number.{wire_number}
use Rattle.kinds.proofs.RoundTrip.{both_zero}
use Rattle.frame.specs.Cut.{Cut, more, bad, whole}
use Rattle.frame.specs.Frame.{cut_at}
use Rattle.wire.specs.Usbredir.{usbredir}
use Rattle.wire.proofs.Told.{bad-is}
use Rattle.events.specs.Event.{event_of}
use Rattle.checks.specs.Checks.{first_of}
use Rattle.session.specs.declared.Session.{Session}
use Rattle.session.specs.Session.{link_of}
use Rattle.session.specs.Step.{judged}
use Rattle.gate.specs.Verdict.{held_as, verdict_of, VerdictTold}
use Rattle.gate.specs.Offer.{held_bytes, barred, by_cut, offer_of, packet_taken}
use Rattle.gate.specs.Write.{shut, write_by}
use Rattle.gate.proofs.Ready.{fit_is, ready}
use Rattle.gate.specs.Ready.{Ready}
use Rattle.claims.specs.Allowed.{is_reply, inward_of, Unsolicited, Allowed}
use Rattle.claims.specs.NumberByKind.{checks_by}
use Rattle.claims.specs.Exchange.{Consumes}
use Rattle.claims.proofs.Allowed.{allowed-exactly}
use Rattle.claims.proofs.Exchange.{reply-consumes}
use Rattle.claims.proofs.NumberByKind.{number_by_lem}
use Rattle.demands.specs.Demand2.{packet_at, Passes, Demand2, NumberInGate, ReplyInGate, MovesInGate, contents, HandedInGate, Writable, WriterExactly}
use Rattle.demands.proofs.KeptByCall.{whole-number}
use Rattle.demands.proofs.Demand3.{offer-barred, offer-open, judged_of, verdict-open, handed-when}

-- held counts are not the session checks' concern
allowed-as : (d from : Side) (n : ℕ) (s : Session) (p : Content) → Allowed s from p → Allowed (held_as d n s) from p
allowed-as d from n s p a =
    record {
      device = a.device;
      ack = a.ack;
      order = record { connect = a.order.connect; interfaces = a.order.interfaces; acknowledgement = a.order.acknowledgement };
      type = record { type = a.type.type; types = a.type.types };
      settled = a.settled;
      stream = a.stream;
      unused = a.unused;
      room = a.room;
      asked = a.asked;
      short = a.short;
    }

as-allowed : (d from : Side) (n : ℕ) (s : Session) (p : Content) → Allowed (held_as d n s) from p → Allowed s from p
as-allowed Guest from n s p a = allowed-as Guest from s.head.held.guest (held_as Guest n s) p a
as-allowed Host from n s p a = allowed-as Host from s.head.held.host (held_as Host n s) p a

module _ (from : Side) (s : Session) (hold piece : List ℕ) where
  abbrev all : List ℕ
  all = held_bytes from s hold ++ piece

  -- of a call that can go on with a whole packet
  module _ (r : Ready from s hold) (n : ℕ) (e : cut_at (link_of from s) all ≡ whole n) where
    abbrev p : Content
    p = packet_at from s hold piece n

    is-verdict : offer_of from s hold piece ≡ packet_taken from s hold piece (verdict_of (held_as from 0 s) from (take n all)) n
    is-verdict = offer-open from s hold piece r ∙ ap (by_cut from s hold piece) e

    ids : ids_differ s.requests ≡ true
    ids = (fit_is s r.fit).ids

    -- one that came out of the wire checks is judged
    pub judged-call : wire_number (link_of from s) p ≡ 0 → offer_of from s hold piece ≡ packet_taken from s hold piece (judged_of (held_as from 0 s) from (take n all)) n
    judged-call w =
        is-verdict ∙ ap (λ (v : VerdictTold). packet_taken from s hold piece v n) (verdict-open (held_as from 0 s) from (take n all) (whole-number (link_of from s) all n e ∙ w))

    judged-zero : wire_number (link_of from s) p ≡ 0 → (offer_of from s hold piece).number ≡ (judged (held_as from 0 s) (event_of from p)).number
    judged-zero w = ap (λ o. o.number) (judged-call w)

    -- the number of the wire checks, and where they find nothing, that of the first session check that does
    numbered : (offer_of from s hold piece).number ≡ or_next (wire_number (link_of from s) p) (first_of (checks_by s from p))
    unfolding verdict_of checks_by
    numbered =
        let w : read_number (link_of from s) (take n all) ≡ wire_number (link_of from s) p = whole-number (link_of from s) all n e in
        cases (eqb (wire_number (link_of from s) p) 0)
        (λ t. rw t (judged-zero (eqb-true _ _ t) ∙ number_by_lem (held_as from 0 s) from p (eqb-true _ _ t)))
        (λ t. rw t (ap (λ o. o.number) is-verdict ∙ rw (w, t) refl))

    whole-passes : (offer_of from s hold piece).number ≡ 0 → Passes from s hold piece
    unfolding verdict_of
    whole-passes z =
        let v : (verdict_of (held_as from 0 s) from (take n all)).number ≡ 0 = sym (ap (λ o. o.number) is-verdict) ∙ z in
        cases (eqb (read_number (link_of from s) (take n all)) 0)
        (λ t.
        let w : wire_number (link_of from s) p ≡ 0 = sym (whole-number (link_of from s) all n e) ∙ eqb-true _ _ t in
        record { ready = r; size = n; whole = e; form = w; allowed = as-allowed from from 0 s p ((allowed-exactly (held_as from 0 s) from p w ids).0 (sym (judged-zero w) ∙ z)) })
        (λ t. absurd (true≢false (sym (ap (λ (m : ℕ). eqb m 0) (rw t at v)) ∙ t)))

  passes : (offer_of from s hold piece).number ≡ 0 → Passes from s hold piece
  passes z = cases (eqb (barred from s hold) 0) (λ t. goes (ready from s hold (eqb-true _ _ t)) (cut_at (link_of from s) all) refl) (λ t. absurd (shut t))
    where
      shut : eqb (barred from s hold) 0 ≡ false → ⊥
      shut t =
          let nz : barred from s hold ≡ 0 → ⊥ = λ b. true≢false (sym (ap (λ (m : ℕ). eqb m 0) b) ∙ t) in
          nz (sym (ap (λ o. o.number) (offer-barred from s hold piece nz)) ∙ z)

      goes : Ready from s hold → (c : Cut) → cut_at (link_of from s) all ≡ c → Passes from s hold piece
      goes r more e = let y : ◌≡◌ {A = ℕ} 1 0 = sym (ap (λ o. o.number) (offer-open from s hold piece r ∙ ap (by_cut from s hold piece) e)) ∙ z in absurd (omega arith)
      goes r (bad n) e = absurd ((bad-is usbredir (link_of from s) all n e).refused (sym (ap (λ o. o.number) (offer-open from s hold piece r ∙ ap (by_cut from s hold piece) e)) ∙ z))
      goes r (whole n) e = whole-passes r n e z

  passing : Passes from s hold piece → (offer_of from s hold piece).number ≡ 0
  passing h =
      judged-zero h.ready h.size h.whole h.form
      ∙ (allowed-exactly (held_as from 0 s) from (packet_at from s hold piece h.size) h.form (ids h.ready h.size h.whole)).1
      (allowed-as from from 0 s (packet_at from s hold piece h.size) h.allowed)

  consumed : (h : Passes from s hold piece) → is_reply from (packet_at from s hold piece h.size).kind (inward_of (packet_at from s hold piece h.size)) ≡ true
      → ((i : ℕ) × Consumes (held_as from 0 s) (packet_at from s hold piece h.size) (offer_of from s hold piece).session i)
      ⊎ (Unsolicited s.requests (packet_at from s hold piece h.size) × ((offer_of from s hold piece).session.requests ≡ s.requests))
  consumed h r =
      let q = packet_at from s hold piece h.size in
      rw (judged-call h.ready h.size h.whole h.form)
      (reply-consumes (held_as from 0 s) from q h.form r (ids h.ready h.size h.whole) (sym (judged-zero h.ready h.size h.whole h.form) ∙ passing h))

pub demand-2 : Demand2
demand-2 from s hold piece = (passes from s hold piece, passing from s hold piece)

pub number-in-gate : NumberInGate
number-in-gate from s hold piece r n e = numbered from s hold piece r n e

pub reply-in-gate : ReplyInGate
reply-in-gate from s hold piece h r = consumed from s hold piece h r

pub moves-in-gate : MovesInGate
moves-in-gate from s hold piece h = ap (λ o. o.session) (judged-call from s hold piece h.ready h.size h.whole h.form)

pub handed-in-gate : HandedInGate
handed-in-gate from s hold piece h =
    let q : Content = packet_at from s hold piece h.size in
    let n : ℕ = (judged (held_as from 0 s) (event_of from q)).number in
    let z : n ≡ 0 = sym (judged-zero from s hold piece h.ready h.size h.whole h.form) ∙ passing from s hold piece h in
    ap (λ o. contents o.handed) (judged-call from s hold piece h.ready h.size h.whole h.form)
    ∙ handed-when (eqb n 0) (link_of from s) (take h.size (held_bytes from s hold ++ piece)) q (whole-number (link_of from s) (held_bytes from s hold ++ piece) h.size h.whole ∙ h.form) refl
    ∙ ap (λ (m : ℕ). cond (eqb m 0) (q ∷ []) []) z

-- ---- the writer

-- `or_next` of two numbers is 0 exactly where both are (`both_zero`)
pub writer-exactly : WriterExactly
unfolding write_by write_number packet_number
writer-exactly from s p room = (written, writing)
  where
    full : Bool
    full = ltb room (length (encode (link_of from s) p))

    roomy : (b : Bool) → full ≡ b → ◌≡◌ {A = ℕ} (cond b 40 0) 0 → length (encode (link_of from s) p) ≤ room
    roomy true t e = absurd (omega (arith, e))
    roomy false t e = ltb-false room (length (encode (link_of from s) p)) t

    written : write_by from s p room ≡ 0 → Writable from s p room
    written e =
        let a = both_zero (shut from s (eqb p.kind 0)) (write_number (link_of from s) p room) e in
        let b = both_zero (packet_number (link_of from s) p) (cond full 40 0) a.1 in
        let c = both_zero (header_number (link_of from s) p.kind (body_length (link_of from s) p)) (wire_number (link_of from s) p) b.0 in
        record { going = a.0; header = c.0; form = c.1; room = roomy full refl b.1 }

    writing : Writable from s p room → write_by from s p room ≡ 0
    writing w = simp (w.going, w.header, w.form, le-ltb room (length (encode (link_of from s) p)) w.room)
