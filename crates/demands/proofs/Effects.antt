-- The effect of a packet that passes: the judge's next session, of which `claims` speaks, is that of the call.
-- Assumes nothing.
use Prim.Native.Nat.{ℕ}
use mathlib.Core.List.{List}
use mathlib.Core.Path.{◌≡◌, sym, ap, subst, ◌∙◌}
use Rattle.header.specs.declared.Side.{Side}
use Rattle.kinds.specs.Content.{Content}
use Rattle.events.specs.Event.{event_of}
use Rattle.session.specs.declared.Session.{Session}
use Rattle.session.specs.Session.{link_of}
use Rattle.session.specs.Step.{judged}
use Rattle.claims.specs.Exchange.{TakesPlace}
use Rattle.claims.proofs.Exchange.{request-keeps}
use Rattle.claims.specs.Movements.{Moved}
use Rattle.claims.proofs.Movements.{moves}
use Rattle.claims.specs.Watched.{WatchMoved}
use Rattle.claims.proofs.Watched.{watch-moves}
use Rattle.wire.specs.Told.{IsWhole}
use Rattle.wire.proofs.Told.{whole_is}
use Rattle.wire.specs.Usbredir.{usbredir}
use Rattle.gate.specs.Verdict.{held_as}
use Rattle.gate.specs.Offer.{Outcome, offer_of}
use Rattle.demands.specs.Demand2.{packet_at, Passes}
use Rattle.demands.proofs.Demand2.{demand-2, judged-call, moves-in-gate, reply-in-gate}
use Rattle.demands.specs.PassesInWords.{at_hand}
use Rattle.demands.specs.Effects.{Effect, EffectInGate}

module _ (from : Side) (s : Session) (hold piece : List ℕ) (h : Passes from s hold piece) where
  abbrev p : Content
  p = packet_at from s hold piece h.size

  -- the judge's number is the call's
  zero_number : (judged (held_as from 0 s) (event_of from p)).number ≡ 0
  zero_number = sym (ap (λ (o : Outcome). o.number) (judged-call from s hold piece h.ready h.size h.whole h.form)) ∙ (demand-2 from s hold piece).1 h

  effect : Effect from s p (offer_of from s hold piece).session
  effect =
      let e = sym (moves-in-gate from s hold piece h) in
      let m = subst (WatchMoved (held_as from 0 s) from p) e (watch-moves (held_as from 0 s) from p h.form zero_number) in
      record {
        moved = subst (Moved (held_as from 0 s) from p) e (moves (held_as from 0 s) from p h.form zero_number);
        request = λ r. subst (TakesPlace (held_as from 0 s) p) e (request-keeps (held_as from 0 s) from p h.form r zero_number);
        reply = reply-in-gate from s hold piece h;
        watch = record { seen = m.seen; restart = m.restart; disconnect = m.disconnect; others = m.others };
      }

-- the size of a packet that passes is that of the packet in front
pub effect-in-gate : EffectInGate
effect-in-gate from s hold piece e =
    let h = (demand-2 from s hold piece).0 e in
    let w : IsWhole usbredir (link_of from s) (at_hand from s hold piece) h.size = whole_is usbredir (link_of from s) (at_hand from s hold piece) h.size h.whole in
    subst (λ (n : ℕ). Effect from s (packet_at from s hold piece n) (offer_of from s hold piece).session) w.size (effect from s hold piece h)
