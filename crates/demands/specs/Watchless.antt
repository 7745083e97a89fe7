-- Document 02, C-11: "The watch changes no answer." Sessions that differ in the watch alone get the same outcome but for the watch, from the reader, call
-- by call and over lists of calls, and from the writer, which changes no session.
-- Assumes nothing: these are definitions and a statement.
use Rattle.std.specs.Prelude.{List, [], ◌∷◌, ◌≡◌, ℕ}
use Rattle.header.specs.declared.Side.{Side}
use Rattle.kinds.specs.Content.{Content}
use Rattle.session.specs.declared.Session.{Session}
use Rattle.gate.specs.Offer.{Outcome, offer_of}
use Rattle.demands.specs.CallLists.{Both, ReaderCall, answer_to, next}
use Rattle.demands.specs.Ignored.{SameWriting}

-- sessions that agree but for the watch
pub record SameButWatch (s t : Session) : Type 0 where
  pub head : s.head ≡ t.head
  pub rows : s.rows ≡ t.rows
  pub requests : s.requests ≡ t.requests

-- so do what two calls leave, and all else of them is equal
pub record SameAnswer (o p : Outcome) : Type 0 where
  pub session : SameButWatch o.session p.session
  pub number : o.number ≡ p.number
  pub taken : o.taken ≡ p.taken
  pub location : o.location ≡ p.location
  pub size : o.size ≡ p.size
  pub handed : o.handed ≡ p.handed
  pub hold : o.hold ≡ p.hold

-- lists of calls, for either direction: each call gets the same answer
abbrev pub SameAnswers : Both → Both → List ReaderCall → Type 0
SameAnswers x y [] = SameButWatch x.session y.session × ((d : Side) → x.hold d ≡ y.hold d)
SameAnswers x y (c ∷ cs) = SameAnswer (answer_to x c) (answer_to y c) × SameAnswers (next x c) (next y c) cs

pub record Watchless : Type 0 where
  pub reader : (from : Side) (s t : Session) (hold piece : List ℕ) → SameButWatch s t → SameAnswer (offer_of from s hold piece) (offer_of from t hold piece)
  pub writer : (from : Side) (s t : Session) (p : Content) (out : List ℕ) → SameButWatch s t → SameWriting from s t p out
  pub run : (x y : Both) (cs : List ReaderCall) → SameButWatch x.session y.session → ((d : Side) → x.hold d ≡ y.hold d) → SameAnswers x y cs
