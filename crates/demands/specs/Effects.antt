-- What a packet that passes does, of the gate's call and in the rules' words: what it moves, the place that a request takes, the request that a
-- reply consumes, and the watch of each IN row.
-- Assumes nothing: these are definitions, and the statement that `proofs/Effects.antt` proves.
use Rattle.std.specs.Prelude.{ℕ, true, List, ◌⊎◌, ◌≡◌}
use Rattle.header.specs.declared.Side.{Side}
use Rattle.kinds.specs.Content.{Content}
use Rattle.session.specs.declared.Session.{Session}
use Rattle.claims.specs.Allowed.{is_request, is_reply, inward_of, Unsolicited}
use Rattle.claims.specs.Exchange.{TakesPlace, Consumes}
use Rattle.claims.specs.Movements.{Moved}
use Rattle.claims.specs.Watched.{WatchMoved}
use Rattle.gate.specs.Verdict.{held_as}
use Rattle.gate.specs.Offer.{offer_of}
use Rattle.demands.specs.PassesInWords.{packet_in}

-- the packet p of a side, with the session s before it and the session next after it; "After any answer but 1, 2, 3, 41 or 43 the held count is 0"
pub record Effect (from : Side) (s : Session) (p : Content) (next : Session) : Type 0 where
  -- the hellos, the device with its rows and streams, and of the requests all that neither a request nor a reply does
  pub moved : Moved (held_as from 0 s) from p next
  -- a request takes the lowest free place, with its id, kind, endpoint or interface byte, and length; no other place changes
  pub request : is_request from p.kind ≡ true → TakesPlace (held_as from 0 s) p next
  -- a reply consumes the one request that it answers; an unsolicited status changes no request
  pub reply : is_reply from p.kind (inward_of p) ≡ true
      → ((i : ℕ) × Consumes (held_as from 0 s) p next i) ⊎ (Unsolicited s.requests p × (next.requests ≡ s.requests))
  -- the watch of each IN row
  pub watch : WatchMoved s from p next

-- Where a call answers 0, the packet in front of what it has at hand has its effect on the session that the call gives back.
abbrev pub EffectInGate : Type 0
EffectInGate = (from : Side) (s : Session) (hold piece : List ℕ) → (offer_of from s hold piece).number ≡ 0 → Effect from s (packet_in from s hold piece) (offer_of from s hold piece).session
