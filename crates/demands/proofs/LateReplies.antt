-- A late reply, over reader calls (`never-another-call`).
-- A call moves the requests only at 0, and then as the judge does (`by_call`, by demands 1 and 2), so that the judge's laws hold of a call: an
-- ended request leaves none under its id, and that stays so while none takes it, by induction over the calls. A call that answers 0 or 25 to 34
-- has a packet out of the wire checks (`came-out`); of such a reply `late` says the rest.
-- Assumes nothing.
use Prim.Native.Nat.{ℕ}
use mathlib.Core.Bool.{true, false, false≢true, true≢false}
use mathlib.Core.List.{List, [], ◌∷◌, ◌++◌}
use mathlib.Core.Path.{◌≡◌, refl, sym, ap, subst, ◌∙◌}
use lib.Dec.{eqb}
use lib.ListN.{take}
use borrow.Author.Tests.{eqb-true, eqb-false}
use borrow.Table.Steps.{cases}
use Rattle.header.specs.declared.Side.{Side}
use Rattle.header.specs.declared.Link.{Link}
use Rattle.header.specs.Header.{kind_of, length_of}
use Rattle.requests.specs.declared.Requests.{Requests}
use Rattle.requests.specs.Requests.{place_at}
use Rattle.kinds.specs.Content.{Content}
use Rattle.kinds.specs.Codec.{decode}
use Rattle.kinds.specs.Number.{wire_number}
use Rattle.frame.specs.Cut.{Cut, more, bad, whole}
use Rattle.frame.specs.Frame.{cut_at}
use Rattle.wire.specs.Usbredir.{usbredir}
use Rattle.wire.specs.Told.{IsBad}
use Rattle.wire.proofs.Told.{bad-is}
use Rattle.wire.specs.Reader.{comes_out}
use Rattle.events.specs.Event.{event_of}
use Rattle.session.specs.declared.Session.{Session}
use Rattle.session.specs.Session.{link_of}
use Rattle.session.specs.Step.{judged}
use Rattle.gate.specs.Verdict.{held_of, held_as, verdict_of}
use Rattle.gate.specs.Offer.{Outcome, held_bytes, barred, by_cut, offer_of, packet_taken}
use Rattle.gate.proofs.Ready.{fit_is, ready, held-few, whole_here, front-is}
use Rattle.gate.specs.Ready.{Ready}
use Rattle.claims.specs.Allowed.{is_reply, inward_of}
use Rattle.claims.specs.Exchange.{NoLive, LateReply}
use Rattle.claims.proofs.OnePacket.{ended-absent}
use Rattle.claims.proofs.Exchange.{late}
use Rattle.claims.proofs.PacketLists.{absent-step}
use Rattle.demands.specs.Demand2.{packet_at, Passes, contents}
use Rattle.demands.specs.CallLists.{Both, ReaderCall, answer_to, next, held_by, final}
use Rattle.demands.specs.LateReplies.{CameOut, CameOutWhole, packet_read, NotAsked, NoneAsks, LateCall, NeverAnotherCall}
use Rattle.demands.proofs.Numbers.{header-numbers, wire-numbers, barred-numbers}
use Rattle.demands.proofs.KeptByCall.{whole-number}
use Rattle.demands.proofs.Demand3.{judged_of}
use Rattle.demands.proofs.Demand2.{judged-call, demand-2, moves-in-gate, handed-in-gate}
use Rattle.demands.proofs.Demand1.{demand-1}

-- ---- a packet that came out of the wire checks

-- by the ways of a call: none has 0 or 25 to 34 among its numbers but that of a whole packet in which the wire checks find nothing
pub came-out : CameOutWhole
unfolding offer_of comes_out verdict_of
came-out from s hold piece =
    cases (eqb (barred from s hold) 0)
    (λ t. rw t (goes (ready from s hold (eqb-true _ _ t)) (cut_at (link_of from s) all) refl))
    (λ t. rw t (λ c. absurd (true≢false (sym c ∙ shut (eqb-false _ _ t)))))
  where
    all : List ℕ
    all = held_bytes from s hold ++ piece

    shut : (barred from s hold ≡ 0 → ⊥) → comes_out (barred from s hold) ≡ false
    shut = barred-numbers (λ m. (m ≡ 0 → ⊥) → comes_out m ≡ false) ((λ z. absurd (z refl)), ((λ z. refl), ((λ z. refl), ((λ z. refl), ((λ z. refl), tt))))) from s hold

    -- the three ways of a call that is not barred
    goes : Ready from s hold → (c : Cut) → cut_at (link_of from s) all ≡ c → comes_out (by_cut from s hold piece c).number ≡ true → CameOut from s hold piece
    goes r more e c = absurd (false≢true c)
    goes r (bad n) e c =
        let i : IsBad usbredir (link_of from s) all n = bad-is usbredir (link_of from s) all n e in
        let f : comes_out n ≡ false =
        subst (λ (m : ℕ). (m ≡ 0 → ⊥) → comes_out m ≡ false) i.number
        (header-numbers (λ m. (m ≡ 0 → ⊥) → comes_out m ≡ false) ((λ z. absurd (z refl)), ((λ z. refl), ((λ z. refl), ((λ z. refl), tt)))) (link_of from s) (kind_of all) (length_of all)) i.refused in
        absurd (true≢false (sym c ∙ f))
    goes r (whole n) e c =
        let p : Content = packet_at from s hold piece n in
        cases (eqb (wire_number (link_of from s) p) 0)
        (λ t. record { ready = r; size = n; whole = e; form = eqb-true _ _ t })
        (λ t.
        let f : (wire_number (link_of from s) p ≡ 0 → ⊥) → comes_out (wire_number (link_of from s) p) ≡ false =
        wire-numbers (λ m. (m ≡ 0 → ⊥) → comes_out m ≡ false) ((λ z. absurd (z refl)), ((λ z. refl), ((λ z. refl), ((λ z. refl), ((λ z. refl), ((λ z. refl), ((λ z. refl), tt))))))) (link_of from s) p in
        let v : (verdict_of (held_as from 0 s) from (take n all)).number ≡ wire_number (link_of from s) p = rw (whole-number (link_of from s) all n e, t) refl in
        absurd (true≢false (sym c ∙ ap comes_out v ∙ f (eqb-false _ _ t))))

-- ---- what a call does to the requests

module _ (x : Both) (c : ReaderCall) where
  abbrev s : Session
  s = x.session

  abbrev CallPasses : Type 0
  CallPasses = Passes c.from s (x.hold c.from) c.piece

  -- what holds of the requests as they were, and as the judge leaves them where a packet passes, holds after the call
  pub by_call : (P : Requests → Type 0) → P s.requests
      → ((h : CallPasses) → P (judged (held_as c.from 0 s) (event_of c.from (packet_at c.from s (x.hold c.from) c.piece h.size))).session.requests)
      → P (next x c).session.requests
  by_call P same judge =
      cases (eqb (answer_to x c).number 0)
      (λ t.
      let h : CallPasses = (demand-2 c.from s (x.hold c.from) c.piece).0 (eqb-true _ _ t) in
      subst P (sym (ap (λ (u : Session). u.requests) (moves-in-gate c.from s (x.hold c.from) c.piece h))) (judge h))
      (λ t. subst P (sym ((demand-1.read c.from s (x.hold c.from) c.piece).refusal (eqb-false _ _ t)).requests) same)

  -- an id under which no request waits stays so
  absent-call : (n : ℕ) → NoLive s.requests n → NotAsked n c.from (contents (answer_to x c).handed) → NoLive (next x c).session.requests n
  absent-call n a f =
      by_call (λ t. NoLive t n) a
      (λ h. absent-step (held_as c.from 0 s) (record { from = c.from; packet = packet_at c.from s (x.hold c.from) c.piece h.size }) n h.form a
      (subst (NotAsked n c.from) (handed-in-gate c.from s (x.hold c.from) c.piece h) f).0)

  -- whatever ended the one request that waited under an id, none waits under it then
  ended-call : (i : ℕ) → (place_at s.requests i).live ≡ true → (place_at (next x c).session.requests i).live ≡ false
      → NoLive (next x c).session.requests (place_at s.requests i).request.id
  ended-call i a =
      by_call (λ t. (place_at t i).live ≡ false → NoLive t (place_at s.requests i).request.id)
      (λ b. absurd (true≢false (sym a ∙ b)))
      (λ h b. ended-absent (held_as c.from 0 s) (event_of c.from (packet_at c.from s (x.hold c.from) c.piece h.size)) i (fit_is s h.ready.fit).ids a b)

absent-calls : (x : Both) (cs : List ReaderCall) (n : ℕ) → NoLive x.session.requests n → NoneAsks n x cs → NoLive (final x cs).session.requests n
unfolding final
absent-calls x [] n a f = a
absent-calls x (c ∷ cs) n a f = absent-calls (next x c) cs n (absent-call x c n a f.0) f.1

-- ---- a late reply

module _ (x : Both) (c : ReaderCall) (o : CameOut c.from x.session (x.hold c.from) c.piece) where
  abbrev from : Side
  from = c.from

  abbrev hold : List ℕ
  hold = x.hold from

  abbrev p : Content
  p = packet_at from x.session hold c.piece o.size

  called : answer_to x c ≡ packet_taken from x.session hold c.piece (judged_of (held_as from 0 x.session) from (take o.size (held_by x from ++ c.piece))) o.size
  called = judged-call from x.session hold c.piece o.ready o.size o.whole o.form

  pub read_is : packet_read x c ≡ p
  read_is =
      let l : Link = link_of from x.session in
      let held : ℕ = held_of from x.session in
      let w = whole_here l hold c.piece held o.ready.room (held-few from x.session o.ready.fit) o.ready.begun o.size o.whole in
      ap (λ (u : Outcome). decode l (held_by x from ++ take u.taken c.piece)) called ∙ ap (decode l) (sym (front-is hold c.piece held o.size w))

  late-call : is_reply from p.kind (inward_of p) ≡ true → NoLive x.session.requests p.id → LateCall x c p
  late-call r a =
      let l : LateReply (held_as from 0 x.session) from p = late (held_as from 0 x.session) from p o.form r a in
      record {
        without-device = λ d. ap (λ (u : Outcome). u.number) called ∙ l.without-device d;
        refused = λ d n. ap (λ (u : Outcome). u.number) called ∙ l.refused d n;
        kept = ap (λ (u : Outcome). u.session.requests) called ∙ l.kept;
      }

module _ (x : Both) (c : ReaderCall) (cs : List ReaderCall) where
  abbrev later : Both
  later = final (next x c) cs

  never-again : (i : ℕ) (d : ReaderCall)
      → (place_at x.session.requests i).live ≡ true
      → (place_at (next x c).session.requests i).live ≡ false
      → NoneAsks (place_at x.session.requests i).request.id (next x c) cs
      → comes_out (answer_to later d).number ≡ true
      → is_reply d.from (packet_read later d).kind (inward_of (packet_read later d)) ≡ true
      → (packet_read later d).id ≡ (place_at x.session.requests i).request.id
      → LateCall later d (packet_read later d)
  never-again i d v f n out r k =
      let o = came-out d.from later.session (later.hold d.from) d.piece out in
      let a : NoLive later.session.requests (packet_read later d).id =
      subst (NoLive later.session.requests) (sym k) (absent-calls (next x c) cs (place_at x.session.requests i).request.id (ended-call x c i v f) n) in
      subst (λ (p : Content). is_reply d.from p.kind (inward_of p) ≡ true → NoLive later.session.requests p.id → LateCall later d p) (sym (read_is later d o)) (late-call later d o) r a

pub never-another-call : NeverAnotherCall
never-another-call x c cs i d v f n out r k = never-again x c cs i d v f n out r k
