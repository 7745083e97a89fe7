-- What a status decides, of the gate's calls: by `any-status`, `reply-passes`, `error-frees` and `stall-alone`, of the packet in front.
-- Assumes nothing.
use Prim.Native.Nat.{ℕ}
use mathlib.Core.List.{List}
use mathlib.Core.Path.{◌≡◌, sym, ap, ◌∙◌}
use mathlib.Core.Logic.{inl}
use Rattle.header.specs.declared.Side.{Side}
use Rattle.kinds.specs.Content.{Content}
use Rattle.kinds.specs.Number.{wire_number}
use Rattle.kinds.specs.Codec.{or_next}
use Rattle.kinds.proofs.Formed.{wire-exactly}
use Rattle.kinds.proofs.AnyStatus.{any-status, any-status-written}
use Rattle.requests.proofs.Places.{when-differ}
use Rattle.events.specs.Event.{event_of}
use Rattle.checks.specs.Checks.{first_of}
use Rattle.session.specs.declared.Session.{Session}
use Rattle.session.specs.Session.{link_of}
use Rattle.session.specs.Step.{judged}
use Rattle.claims.specs.NumberByKind.{checks_by}
use Rattle.claims.proofs.NumberByKind.{number_by_lem}
use Rattle.claims.proofs.Exchange.{reply-passes}
use Rattle.claims.proofs.Statuses.{own, stream, stall-alone}
use Rattle.gate.specs.Verdict.{held_as}
use Rattle.gate.specs.Offer.{offer_of}
use Rattle.gate.specs.Write.{write_by}
use Rattle.demands.specs.PassesInWords.{packet_in, Arrives}
use Rattle.demands.specs.Statuses.{AnyStatusRead, AnyStatusPut, AnswerInGate, ErrorInGate, StallInGate}
use Rattle.demands.proofs.PassesInWords.{arrived-number}
use Rattle.demands.proofs.Effects.{effect-in-gate}

pub any-status-read : AnyStatusRead
any-status-read from s hold piece x a = rw (any-status (link_of from s) (packet_in from s hold piece) x) (arrived-number from s hold piece a)

pub any-status-put : AnyStatusPut
unfolding write_by
any-status-put from s p x room = rw (any-status-written (link_of from s) p x room)

-- the judge's number of a packet out of the wire checks is the call's
judged-number : (from : Side) (s : Session) (hold piece : List ℕ) → Arrives from s hold piece → wire_number (link_of from s) (packet_in from s hold piece) ≡ 0
    → (offer_of from s hold piece).number ≡ (judged s (event_of from (packet_in from s hold piece))).number
judged-number from s hold piece a w =
    let p : Content = packet_in from s hold piece in
    arrived-number from s hold piece a ∙ ap (λ (k : ℕ). or_next k (first_of (checks_by s from p))) w ∙ sym (number_by_lem s from p w)

pub answer-in-gate : AnswerInGate
answer-in-gate from s hold piece a f r h i b l =
    let p : Content = packet_in from s hold piece in
    let w : wire_number (link_of from s) p ≡ 0 = (wire-exactly (link_of from s) p).1 f in
    judged-number from s hold piece a w ∙ (reply-passes s from p w r (when-differ s.requests a.opens.leavable.ids) h).1 (inl (i, b, l))

pub error-in-gate : ErrorInGate
error-in-gate from s hold piece z r x =
    let p : Content = packet_in from s hold piece in
    let f = effect-in-gate from s hold piece z in
    record {
      places = own (held_as from 0 s) from p r x (offer_of from s hold piece).session (f.reply r);
      streams = λ n h. f.moved.streams n h ∙ stream (held_as from 0 s) from p r x n;
    }

pub stall-in-gate : StallInGate
stall-in-gate from s hold piece a f m h n =
    let p : Content = packet_in from s hold piece in
    let w : wire_number (link_of from s) p ≡ 0 = (wire-exactly (link_of from s) p).1 f in
    judged-number from s hold piece a w ∙ stall-alone s from p w m h n
