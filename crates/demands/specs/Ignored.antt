-- Document 01: "Shared set: bits set in both hellos' first capability word. 0 bulk streams, .. 7 bulk receiving. Other bits and words are
-- ignored." So sessions whose hellos have the same bits 0 to 7 cannot be told apart, and hellos that have them leave such sessions.
-- Assumes nothing: these are definitions and a statement.
use Rattle.std.specs.Prelude.{ℕ, ◌≤◌, Bool, true, false, List, [], ◌∷◌, ◌++◌, ◌≡◌, length, take, Option, Some, None}
use Rattle.octets.specs.Little.{le}
use Rattle.octets.specs.Bits.{has_bit}
use Rattle.header.specs.declared.Side.{Side}
use Rattle.header.specs.Link.{passed, own}
use Rattle.kinds.specs.Content.{Content}
use Rattle.device.specs.declared.Head.{Head}
use Rattle.decoder.specs.Reading.{PacketTold}
use Rattle.session.specs.declared.Session.{Session}
use Rattle.session.specs.Session.{link_of}
use Rattle.gate.specs.Verdict.{held_of}
use Rattle.gate.specs.Offer.{Outcome, offer_of}
use Rattle.gate.specs.Write.{write_by, output, output_size}
use Rattle.demands.specs.CallLists.{Both, ReaderCall, answer_to, next, held_by}

-- ---- what is alike

-- two words with the same bits 0 to 7
abbrev pub SameBits : ℕ → ℕ → Type 0
SameBits v w = (j : ℕ) → j ≤ 7 → has_bit v j ≡ has_bit w j

-- hellos both awaited, or both passed with such words
abbrev pub AlikeHellos : Option ℕ → Option ℕ → Type 0
AlikeHellos None None = Unit {0}
AlikeHellos None (Some w) = ⊥
AlikeHellos (Some v) None = ⊥
AlikeHellos (Some v) (Some w) = SameBits v w

pub record AlikeHeads (h k : Head) : Type 0 where
  pub guest : AlikeHellos h.guest k.guest
  pub host : AlikeHellos h.host k.host
  pub stopped : h.stopped ≡ k.stopped
  pub held : h.held ≡ k.held
  pub present : h.present ≡ k.present
  pub introduction : h.introduction ≡ k.introduction
  pub owed : h.owed ≡ k.owed

-- sessions that agree but for other bits of the hellos' words
pub record AlikeSessions (s t : Session) : Type 0 where
  pub head : AlikeHeads s.head t.head
  pub rows : s.rows ≡ t.rows
  pub requests : s.requests ≡ t.requests
  pub watch : s.watch ≡ t.watch

-- ---- bytes and packets of a direction

-- a direction's bytes from a hello's first on, as far as they have come: 12 bytes of header and 64 of version are the same, and of the words
-- bits 0 to 7 of the first
pub record AlikeBytes (a b : List ℕ) : Type 0 where
  pub count : length a ≡ length b
  pub front : take 76 a ≡ take 76 b
  pub word : SameBits (le 4 a 76) (le 4 b 76)

-- what is handed out of them is the same but for the words
pub record AlikePackets (x y : PacketTold) : Type 0 where
  pub header : x.header ≡ y.header
  pub rows : x.rows ≡ y.rows
  pub rest : x.rest ≡ y.rest
  pub kind : x.content.kind ≡ y.content.kind
  pub id : x.content.id ≡ y.content.id
  pub fields : x.content.fields ≡ y.content.fields
  pub words : length x.content.rest ≡ length y.content.rest

abbrev pub AlikeHanded : Option PacketTold → Option PacketTold → Type 0
AlikeHanded None None = Unit {0}
AlikeHanded None (Some y) = ⊥
AlikeHanded (Some x) None = ⊥
AlikeHanded (Some x) (Some y) = AlikePackets x y

-- the sender's hello has passed
abbrev pub begun : Side → Session → Bool
begun d s = passed (own (link_of d s))

-- a direction's bytes, where its hello has passed and before
abbrev pub AlikeAtHand : Bool → List ℕ → List ℕ → Type 0
AlikeAtHand true a b = a ≡ b
AlikeAtHand false a b = AlikeBytes a b

-- and what is handed out
abbrev pub AlikeHandedOut : Bool → Option PacketTold → Option PacketTold → Type 0
AlikeHandedOut true x y = x ≡ y
AlikeHandedOut false x y = AlikeHanded x y

-- the answers are equal, but for the words of a hello that is handed out, and the sessions alike again
pub record AlikeAnswers (b : Bool) (o p : Outcome) : Type 0 where
  pub session : AlikeSessions o.session p.session
  pub number : o.number ≡ p.number
  pub taken : o.taken ≡ p.taken
  pub location : o.location ≡ p.location
  pub size : o.size ≡ p.size
  pub handed : AlikeHandedOut b o.handed p.handed

-- ---- the same call

-- then all that is handed out is equal, and so is the holding buffer
pub record AlikeOutcomes (o p : Outcome) : Type 0 where
  pub answers : AlikeAnswers true o p
  pub hold : o.hold ≡ p.hold

abbrev pub SameReader : Type 0
SameReader = (from : Side) (s t : Session) (hold piece : List ℕ) → AlikeSessions s t → AlikeOutcomes (offer_of from s hold piece) (offer_of from t hold piece)

-- number, bytes put out and all bytes of the output
pub record SameWriting (from : Side) (s t : Session) (p : Content) (out : List ℕ) : Type 0 where
  pub number : write_by from s p (length out) ≡ write_by from t p (length out)
  pub size : output_size from s p (length out) ≡ output_size from t p (length out)
  pub output : output from s p out ≡ output from t p out

abbrev pub SameWriter : Type 0
SameWriter = (from : Side) (s t : Session) (p : Content) (out : List ℕ) → AlikeSessions s t → SameWriting from s t p out

-- ---- two hellos

-- with nothing held
abbrev pub SameHello : Type 0
SameHello =
    (from : Side) (s t : Session) (hold p q : List ℕ) → AlikeSessions s t → begun from s ≡ false → held_of from s ≡ 0 → AlikeBytes p q
    → AlikeAnswers false (offer_of from s hold p) (offer_of from t hold q)

-- ---- lists of calls, for either direction

-- the same calls get equal answers
abbrev pub AlikeRun : Both → Both → List ReaderCall → Type 0
AlikeRun x y [] = AlikeSessions x.session y.session × ((d : Side) → x.hold d ≡ y.hold d)
AlikeRun x y (c ∷ cs) = AlikeOutcomes (answer_to x c) (answer_to y c) × AlikeRun (next x c) (next y c) cs

abbrev pub SameRun : Type 0
SameRun = (x y : Both) (cs : List ReaderCall) → AlikeSessions x.session y.session → ((d : Side) → x.hold d ≡ y.hold d) → AlikeRun x y cs

-- hellos that are alike may be among them, cut alike: the held bytes are alike then, and nothing is said of what else the buffers hold
pub record AlikeStates (x y : Both) : Type 0 where
  pub session : AlikeSessions x.session y.session
  pub room : (d : Side) → length (x.hold d) ≡ length (y.hold d)
  pub held : (d : Side) → AlikeAtHand (begun d x.session) (held_by x d) (held_by y d)

-- two calls for a direction, by what is held and the piece behind it
pub record AlikeCall (x y : Both) (c e : ReaderCall) : Type 0 where
  pub from : c.from ≡ e.from
  pub count : length c.piece ≡ length e.piece
  pub bytes : AlikeAtHand (begun c.from x.session) (held_by x c.from ++ c.piece) (held_by y e.from ++ e.piece)

abbrev pub AlikeCalls : Both → Both → List ReaderCall → List ReaderCall → Type 0
AlikeCalls x y [] [] = Unit {0}
AlikeCalls x y [] (e ∷ es) = ⊥
AlikeCalls x y (c ∷ cs) [] = ⊥
AlikeCalls x y (c ∷ cs) (e ∷ es) = AlikeCall x y c e × AlikeCalls (next x c) (next y e) cs es

abbrev pub AlikeRuns : Both → Both → List ReaderCall → List ReaderCall → Type 0
AlikeRuns x y [] [] = AlikeStates x y
AlikeRuns x y [] (e ∷ es) = ⊥
AlikeRuns x y (c ∷ cs) [] = ⊥
AlikeRuns x y (c ∷ cs) (e ∷ es) = AlikeAnswers (begun c.from x.session) (answer_to x c) (answer_to y e) × AlikeRuns (next x c) (next y e) cs es

abbrev pub SameRuns : Type 0
SameRuns = (x y : Both) (cs es : List ReaderCall) → AlikeStates x y → AlikeCalls x y cs es → AlikeRuns x y cs es

pub record OtherBitsIgnored : Type 0 where
  pub reader : SameReader
  pub writer : SameWriter
  pub hello : SameHello
  pub run : SameRun
  pub runs : SameRuns
