-- `run_sound`, `run-clean` and `never-another`, over packets one after the other.
-- By induction over the packets, from what one of them keeps (`KeptByPacket.antt`) and from `absent-kept`: only a request takes an id. With
-- `ended-absent` no request waits under it when the reply comes, and `late` says the rest.
-- Assumes nothing.
use Prim.Native.Nat.{ℕ}
use mathlib.Core.Bool.{true}
use mathlib.Core.List.{List, [], ◌∷◌}
use mathlib.Core.Path.{◌≡◌, sym, subst, ◌∙◌}
use Rattle.device.proofs.RowChanges.{start-control}
use Rattle.requests.specs.Requests.{place_at}
use Rattle.requests.proofs.Places.{fresh-differ}
use Rattle.kinds.proofs.RoundTrip.{clean}
use Rattle.events.specs.Event.{event_of}
use Rattle.session.specs.declared.Session.{Session}
use Rattle.session.specs.Session.{fresh_session, link_of}
use Rattle.claims.specs.Allowed.{is_request}
use Rattle.claims.specs.Exchange.{NoLive}
use Rattle.claims.specs.PacketLists.{SentPacket, next_by, after_packets, OutOfWire, AllOutOfWire, StartSound, StepSound, RunSound, RunClean, NoneRequests, NeverAnother}
use Rattle.claims.proofs.Grounds.{agrees}
use Rattle.claims.proofs.OnePacket.{absent-kept, ended-absent}
use Rattle.claims.proofs.KeptByPacket.{kept-ids, kept-clean, kept-control, event-control}
use Rattle.claims.proofs.Exchange.{late}

-- ---- what 43 tests of a session, but for the held counts, which are the gate's

pub start-sound : StartSound
unfolding fresh_session
start-sound = record { ids = fresh-differ; control = start-control }

pub step-sound : StepSound
step-sound s x h w =
    let e = event_of x.from x.packet in
    record {
      ids = kept-ids s e h.ids;
      control = kept-control s e h.control (event-control (link_of x.from s) x.packet w);
    }

pub run_sound : RunSound
run_sound s [] h w = h
run_sound s (x ∷ xs) h w = run_sound (next_by s x) xs (step-sound s x h w.0) w.1

-- ---- "A freed place is as at the start and used again."

pub run-clean : RunClean
run-clean s [] h = h
run-clean s (x ∷ xs) h = run-clean (next_by s x) xs (kept-clean s (event_of x.from x.packet) h)

-- ---- a late reply

pub absent-step : (s : Session) (x : SentPacket) (n : ℕ) → OutOfWire s x → NoLive s.requests n → (is_request x.from x.packet.kind ≡ true → x.packet.id ≡ n → ⊥) → NoLive (next_by s x).requests n
unfolding event_of
absent-step s x n w h f =
    let c = clean (link_of x.from s) x.packet w in
    let a = agrees x.from x.packet c.kind c.found c.sender in
    absent-kept s (event_of x.from x.packet) n h (λ r k. f (sym (λ i. (a i).request) ∙ r) k)

-- an id under which no request waits stays so
absent-run : (s : Session) (xs : List SentPacket) (n : ℕ) → AllOutOfWire s xs → NoLive s.requests n → NoneRequests n xs → NoLive (after_packets s xs).requests n
absent-run s [] n w h f = h
absent-run s (x ∷ xs) n w h f = absent-run (next_by s x) xs n w.1 (absent-step s x n w.0 h f.0) f.1

pub never-another : NeverAnother
never-another s i x xs from p u v w f ws n wp r k =
    late (after_packets (next_by s x) xs) from p wp r
    (subst (NoLive (after_packets (next_by s x) xs).requests) (sym k)
    (absent-run (next_by s x) xs (place_at s.requests i).request.id ws (ended-absent s (event_of x.from x.packet) i u v f) n))
