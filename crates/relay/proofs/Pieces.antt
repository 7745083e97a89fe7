-- What the relay's loop over an end's bytes keeps (`Offering`), from its start (`starts`) over each call (`goes_on`) to its end, where the bytes are
-- used up (`used-up`), a call took nothing (`barred_here`), or a packet could not be sent on (`not_sent`).
-- By the gate's contract a call is the next of `after`. That it takes no more than it is offered is demand 1. The loop goes on only where something
-- was taken, so that it ends.
-- Assumes nothing.
use Prim.Native.Nat.{ℕ, suc, ◌+◌, ◌-◌, ◌≤◌, min}
use native.Mathlib.Omega.{arith}
use mathlib.Core.Path.{◌≡◌, refl, sym, ap, ◌∙◌}
use mathlib.Core.Bool.{Bool, true, false, ◌||◌, true≢false, false≢true}
use mathlib.Core.Logic.{◌⊎◌, inl, inr}
use mathlib.Core.List.{List}
use lib.ListN.{length, drop, length-drop}
use lib.Seq.{sets, slice, drop-drop}
use lib.Dec.{ltb}
use Rattle.header.specs.declared.Side.{Side}
use Rattle.session.specs.declared.Session.{Session}
use Rattle.session.specs.Session.{link_of}
use Rattle.gate.specs.declared.Offered.{Offered}
use Rattle.gate.specs.Offer.{Outcome, outcome, offer_of}
use Rattle.demands.proofs.Demand1.{demand-1}
use Rattle.relay.specs.declared.Relay.{Relay}
use Rattle.relay.specs.Relaying.{CallsMade, answer, after, Barred, OffersAll, halts, RelaysPiece}

-- the calls so far left this rest of the bytes
pub record Offering (from : Side) (s : Session) (hold₀ bytes hold : List ℕ) (session : Session) (rest : List ℕ) : Type 0 where
  pub calls : ℕ
  pub taken : ℕ
  pub state : record { session = session; hold = hold; taken = taken } ≡ after calls from bytes s hold₀
  pub within : taken ≤ length bytes
  pub left : rest ≡ drop taken bytes

pub starts : {from : Side} {s : Session} {hold bytes : List ℕ} → Offering from s hold bytes hold s bytes
unfolding after
starts = record { calls = 0; taken = 0; state = refl; within = omega arith; left = refl }

module _ {from : Side} {s : Session} {hold₀ bytes hold : List ℕ} {session : Session} {rest : List ℕ} (p : Offering from s hold₀ bytes hold session rest) where
  -- what ended the calls, where none of them failed
  all_offered : {w : ℕ} (failed : Bool) {over : Bool} → w ≡ length rest → over ≡ (failed || session.head.stopped)
      → (failed ≡ false → (length rest ≤ 0) ⊎ Barred p.calls from bytes s hold₀)
      → OffersAll from s hold₀ bytes (record { session = session; waiting = w; over = over }) hold
  all_offered failed ew eo e =
      let m : p.taken ≡ (after p.calls from bytes s hold₀).taken = ap (λ (c : CallsMade). c.taken) p.state in
      record {
        calls = p.calls;
        session = ap (λ (c : CallsMade). c.session) p.state;
        buffer = ap (λ (c : CallsMade). c.hold) p.state;
        within = omega (arith, m, p.within);
        waiting = omega (arith, ew, m, ap length p.left, length-drop p.taken bytes);
        failed = failed;
        over = eo;
        ended = λ z. go m (e z);
      }
    where
      go : p.taken ≡ (after p.calls from bytes s hold₀).taken → (length rest ≤ 0) ⊎ Barred p.calls from bytes s hold₀
          → (length bytes ≤ (after p.calls from bytes s hold₀).taken) ⊎ Barred p.calls from bytes s hold₀
      go m (inl h) = inl (omega (arith, m, h, ap length p.left, length-drop p.taken bytes))
      go m (inr b) = inr b

module _ {from : Side} {s : Session} {hold₀ bytes hold : List ℕ} {session : Session} {rest : List ℕ} (p : Offering from s hold₀ bytes hold session rest) where
  pub used-up : length rest ≤ 0 → OffersAll from s hold₀ bytes (record { session = session; waiting = length rest; over = session.head.stopped }) hold
  used-up h = all_offered p false refl refl (λ z. inl h)

  module _ (o : Offered) {hold-after : List ℕ} (q : outcome (link_of from session) o rest hold-after ≡ offer_of from session hold rest) where
    told : outcome (link_of from session) o rest hold-after ≡ answer from bytes (after p.calls from bytes s hold₀)
    told = q ∙ ap (offer_of from session hold) p.left ∙ ap (answer from bytes) p.state

    pub few : o.answer.taken ≤ length rest
    few = omega (arith, (demand-1.read from session hold rest).taken, ap (λ (x : Outcome). x.taken) q)

    pub goes_on : {rest-after : List ℕ} → rest-after ≡ drop o.answer.taken rest → Offering from s hold₀ bytes hold-after o.session rest-after
    unfolding after
    goes_on e =
        record {
          calls = suc p.calls;
          taken = p.taken + o.answer.taken;
          state = λ i. record { session = (told i).session; hold = (told i).hold; taken = (p.state i).taken + (told i).taken };
          within = omega (arith, few, p.within, ap length p.left, length-drop p.taken bytes);
          left = e ∙ ap (drop o.answer.taken) p.left ∙ drop-drop o.answer.taken p.taken bytes;
        }

    -- the last call took nothing, or a packet of it could not be sent on
    module _ {rest-after : List ℕ} {w : ℕ} (e : rest-after ≡ drop o.answer.taken rest) (ew : w ≡ length rest-after) where
      pub barred_here : o.answer.taken ≡ 0 → OffersAll from s hold₀ bytes (record { session = o.session; waiting = w; over = o.session.head.stopped }) hold-after
      unfolding goes_on
      barred_here z =
          let nothing : (answer from bytes (after p.calls from bytes s hold₀)).taken ≡ 0 = sym (ap (λ (x : Outcome). x.taken) told) ∙ z in
          all_offered (goes_on e) false ew refl (λ f. inr (record { before = p.calls; last = refl; nothing = nothing }))

      pub not_sent : OffersAll from s hold₀ bytes (record { session = o.session; waiting = w; over = true }) hold-after
      not_sent = all_offered (goes_on e) true ew refl (λ f. absurd (true≢false f))

-- ---- a piece

module _ (p : Relay) {from : Side} (to : Side) {hold hold-after : List ℕ} (other : List ℕ) {piece : List ℕ} (kept : List ℕ) {q : Relay} (f : OffersAll from p.session hold piece q hold-after) where
  pub piece-kept : {m room : ℕ} {src kept-after : List ℕ} → halts q piece ≡ true → room ≡ length kept - p.waiting → m ≡ min q.waiting room
      → src ≡ slice (length piece - q.waiting) (length piece) piece
      → kept-after ≡ sets kept p.waiting src
      → RelaysPiece p from to hold other piece kept (record { session = q.session; waiting = p.waiting + m; over = q.over || ltb room q.waiting }) hold-after other kept-after
  piece-kept t er em es ek =
      record { offered = q; first = f; keeps = λ h. (rw (em, er) refl, ek ∙ ap (sets kept p.waiting) es, refl); goes_on = λ h. absurd (true≢false (sym t ∙ h)) }

  pub piece-goes-on : {r : Relay} {bytes other-after : List ℕ} → halts q piece ≡ false → bytes ≡ slice 0 p.waiting kept → OffersAll to q.session other bytes r other-after
      → RelaysPiece p from to hold other piece kept r hold-after other-after kept
  piece-goes-on t e g =
      record { offered = q; first = f; keeps = λ h. absurd (false≢true (sym t ∙ h)); goes_on = λ h. (rw e at g, refl) }
