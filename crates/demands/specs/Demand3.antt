-- Demand 3, of the reader and the writer that the contracts of `gate::offer` and `gate::write` cite: one theorem about lists, `GateDemand3`. What it
-- says of a reader and a writer is the record `Demand3` (`wire/specs/Reader.antt`).
-- Assumes nothing: these are definitions and statements.
use Rattle.std.specs.Prelude.{ℕ, ◌≤◌, true, false, List, ◌≡◌, length, take}
use Rattle.header.specs.declared.Side.{Side}
use Rattle.header.specs.Link.{passed, opposite}
use Rattle.kinds.specs.Content.{Content}
use Rattle.frame.specs.Frame.{bytes_at}
use Rattle.wire.specs.Usbredir.{usbredir}
use Rattle.wire.specs.Reader.{Answer, Reader, Writer, Demand3}
use Rattle.encoder.specs.declared.Written.{Written}
use Rattle.session.specs.declared.Session.{Session}
use Rattle.session.specs.Session.{link_of, unfit}
use Rattle.gate.specs.Verdict.{held_of, handed_as}
use Rattle.gate.specs.Offer.{held_bytes, offer_of, outcome}
use Rattle.gate.specs.Write.{WritesBy}
use Rattle.gate.specs.Ready.{Fit}
use Rattle.gate.specs.declared.Offered.{Offered}
use Rattle.demands.specs.Demand2.{contents}

-- ---- the reader of a direction

-- what the calls hand on: "session and holding buffer as the calls before it left them", of both directions
pub record GateState : Type 0 where
  pub session : Session
  pub hold : List ℕ
  pub other : List ℕ

-- a call for the direction
abbrev pub read_call : Side → GateState → List ℕ → Answer Content GateState
read_call from x piece =
    record {
      number = (offer_of from x.session x.hold piece).number;
      taken = (offer_of from x.session x.hold piece).taken;
      next = record { session = (offer_of from x.session x.hold piece).session; hold = (offer_of from x.session x.hold piece).hold; other = x.other };
      handed = contents (offer_of from x.session x.hold piece).handed;
    }

-- a call for the other: any piece, with its own buffer and its own held bytes, whatever these are
abbrev pub other_by : Side → GateState → List ℕ → GateState
other_by from x piece =
    record {
      session = (offer_of (opposite from) x.session x.other piece).session;
      hold = x.hold;
      other = (offer_of (opposite from) x.session x.other piece).hold;
    }

-- what every call keeps of a session
pub record Established (s : Session) : Type 0 where
  -- "both hellos passed"
  pub guest : passed s.head.guest ≡ true
  pub host : passed s.head.host ≡ true
  -- "one that 43 doesn't refuse"
  pub fit : Fit s

-- what every call keeps
pub record SoundState (x : GateState) : Type 0 where
  pub session : Established x.session
  -- "a buffer that 41 allows"
  pub room : 32784 ≤ length x.hold

abbrev pub reader : Side → Reader usbredir
reader from =
    record {
      X = GateState;
      O = List ℕ;
      ctx = λ x. link_of from x.session;
      stopped = λ x. x.session.head.stopped;
      held = λ x. held_bytes from x.session x.hold;
      Sound = SoundState;
      read = read_call from;
      other = other_by from;
    }

-- what a call of `gate::offer` told, with its holding buffer after it, is what a call of this reader tells
pub record ReadOf (from : Side) (x : GateState) (piece : List ℕ) (r : Offered) (after : List ℕ) : Type 0 where
  pub number : (read_call from x piece).number ≡ r.answer.number
  pub taken : (read_call from x piece).taken ≡ r.answer.taken
  pub next : (read_call from x piece).next ≡ record { session = r.session; hold = after; other = x.other }
  pub handed : (read_call from x piece).handed ≡ contents (handed_as (link_of from x.session) (bytes_at r.answer.location r.answer.size piece after) r.answer.handed)

-- every call of `gate::offer`, by its contract, is a call of this reader (`Read-of`)
abbrev pub ReadsAreCalls : Type 0
ReadsAreCalls =
    (from : Side) (x : GateState) (piece after : List ℕ) (r : Offered)
    → outcome (link_of from x.session) r piece after ≡ offer_of from x.session x.hold piece → ReadOf from x piece r after

-- and for the other direction it leaves what a call of the other leaves (`other-of`)
abbrev pub OthersAreCalls : Type 0
OthersAreCalls =
    (from : Side) (x : GateState) (piece after : List ℕ) (r : Offered)
    → outcome (link_of (opposite from) x.session) r piece after ≡ offer_of (opposite from) x.session x.other piece
    → other_by from x piece ≡ record { session = r.session; hold = x.hold; other = after }

-- ---- the writer of the direction

-- a call of `gate::write` with the session s: its packet, the output before and after it, and what it answered, of which its contract holds
pub record WriterCall (from : Side) (s : Session) : Type 0 where
  pub packet : Content
  pub out : List ℕ
  pub answer : Written
  pub after : List ℕ
  pub contract : WritesBy from s packet out answer after

-- the bytes put out are the first of the output, as many as the answer says
abbrev pub writer : Side → Session → Writer usbredir
writer from s =
    record {
      W = WriterCall from s;
      packet = λ w. w.packet;
      number = λ w. w.answer.number;
      put = λ w. take w.answer.size w.after;
    }

-- one with this packet, this output before and after it, and this answer; so with the number and the bytes put out that the code answered
pub record CallOf (from : Side) (s : Session) (p : Content) (space : List ℕ) (r : Written) (left : List ℕ) : Type 0 where
  pub call : WriterCall from s
  pub out : call.out ≡ space
  pub answer : call.answer ≡ r
  pub after : call.after ≡ left
  pub packet : (writer from s).packet call ≡ p
  pub number : (writer from s).number call ≡ r.number
  pub put : (writer from s).put call ≡ take r.size left

-- every call of `gate::write`, by its contract, is one (`call-of`)
abbrev pub WritesAreCalls : Type 0
WritesAreCalls =
    (from : Side) (s : Session) (p : Content) (out after : List ℕ) (r : Written) → WritesBy from s p out r after → CallOf from s p out r after

-- ---- where it starts

-- "Take any session that isn't stopped, both hellos passed with any capability sets that document 01 admits, .. and one direction at a
-- packet's start"; "one that 43 doesn't refuse"; "The direction starts with nothing held and a buffer that 41 allows". Of the other
-- direction's buffer nothing is asked, and of its held bytes only that 43 allows their count. `unfit` is 43's test of a session; in words it is
-- `Leavable` (`PassesInWords.antt`), and `passes-exactly` joins the two.
pub record Starts (from : Side) (x : GateState) : Type 0 where
  pub running : x.session.head.stopped ≡ false
  pub guest : passed x.session.head.guest ≡ true
  pub host : passed x.session.head.host ≡ true
  pub fit : unfit x.session ≡ false
  pub nothing-held : held_of from x.session ≡ 0
  pub room : 32784 ≤ length x.hold

-- ---- the theorem

-- for either direction and every state that `Starts` describes, demand 3 holds of the reader and the writer (`demand-3`)
abbrev pub GateDemand3 : Type 0
GateDemand3 =
    (from : Side) (x : GateState) → Starts from x → Demand3 usbredir (reader from) (writer from x.session) x
