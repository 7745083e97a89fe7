-- The table of meanings says of each kind what document 01's lists say of it: all that the checks go by is the same of a packet's event and of
-- its kind's number (`Agrees`).
-- Assumes nothing: these are definitions and a statement.
use Rattle.std.specs.Prelude.{Bool, true, cond, not, ◌&&◌, [], ◌∷◌, ◌≡◌, Some}
use Rattle.header.specs.declared.Side.{Side}
use Rattle.device.specs.declared.Head.{Head}
use Rattle.requests.specs.declared.Request.{Request}
use Rattle.requests.specs.Requests.{no_request, answers}
use Rattle.kinds.specs.Table.{Kind, kinds}
use Rattle.kinds.specs.Content.{Content, find}
use Rattle.kinds.specs.Number.{sends}
use Rattle.events.specs.declared.Typed.{Typed}
use Rattle.events.specs.declared.Typed.TheVariants.{Untyped}
use Rattle.events.specs.Event.{Event, event_of}
use Rattle.checks.specs.Checks.{traits_of, out_of_order}
use Rattle.claims.specs.Allowed.{among, is_request, is_reply, wants, comes_on_stream, inward_of, request_of}
use Rattle.claims.specs.NumberByKind.{disordered, row_by, typed_by, answers_by}

-- what the checks go by, of an event or of a packet
pub record Grounds : Type 0 where
  pub device : Bool
  pub introduces : Bool
  pub order : Head → Bool
  pub typed : Typed
  pub stream : Typed
  pub streamed : Bool
  pub request : Bool
  pub reply : Bool
  pub answers : Request → Bool
  pub unsolicited : Bool
  pub kept : Request

-- of an event, by its class
abbrev pub grounds_of : Event → Grounds
grounds_of e =
    record {
      device = (traits_of e.class).device;
      introduces = (traits_of e.class).introduces;
      order = λ (h : Head). out_of_order h e.class;
      typed = cond (traits_of e.class).typed e.typed Untyped;
      stream = cond (traits_of e.class).streamed e.typed Untyped;
      streamed = (traits_of e.class).streamed;
      request = (traits_of e.class).request;
      reply = (traits_of e.class).reply;
      answers = λ (q : Request). (traits_of e.class).reply && answers e.request e.answers q;
      unsolicited = (traits_of e.class).unsolicited;
      kept = cond (traits_of e.class).request e.request no_request;
    }

-- of a packet, by its kind's number
abbrev pub grounds_by : Side → Content → Grounds
grounds_by from p =
    record {
      device = not (among (0 ∷ 1 ∷ 4 ∷ 5 ∷ 22 ∷ 23 ∷ 24 ∷ []) p.kind);
      introduces = among (1 ∷ 4 ∷ 5 ∷ []) p.kind;
      order = disordered p.kind;
      typed = typed_by from p;
      stream = cond (comes_on_stream from p.kind (inward_of p)) (row_by (wants from p.kind (inward_of p)) p) Untyped;
      streamed = comes_on_stream from p.kind (inward_of p);
      request = is_request from p.kind;
      reply = is_reply from p.kind (inward_of p);
      answers = λ (q : Request). is_reply from p.kind (inward_of p) && answers_by p q;
      unsolicited = among (14 ∷ 17 ∷ 27 ∷ []) p.kind;
      kept = cond (is_request from p.kind) (request_of p) no_request;
    }

-- for every packet of a known kind from an end that may send it
abbrev pub Agrees : Type 0
Agrees =
    (from : Side) (p : Content) (k : Kind) → find p.kind kinds ≡ Some k → sends k.sender from ≡ true → grounds_of (event_of from p) ≡ grounds_by from p
