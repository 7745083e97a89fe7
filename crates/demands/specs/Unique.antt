-- Each contract of the public functions that is not an equation for the answer itself leaves one answer, and one state of every byte that the
-- function was handed: two answers that both keep it are the same.
-- Assumes nothing: these are the statements that `proofs/Unique.antt` proves.
use Rattle.std.specs.Prelude.{ℕ, List, ◌≡◌, Result}
use Rattle.header.specs.declared.Side.{Side}
use Rattle.header.specs.declared.Header.{Header}
use Rattle.header.specs.declared.Link.{Link}
use Rattle.header.specs.declared.Refusal.{Refusal}
use Rattle.header.specs.Refusal.{number_in}
use Rattle.kinds.specs.Content.{Content}
use Rattle.decoder.specs.Reading.{Reading, told, told_behind, read_of, behind_of}
use Rattle.frame.specs.declared.Cut.{Cut}
use Rattle.frame.specs.Frame.{told as cut_told}
use Rattle.encoder.specs.declared.Written.{Written}
use Rattle.encoder.specs.Written.{Writes}
use Rattle.session.specs.declared.Session.{Session}
use Rattle.session.specs.Session.{link_of}
use Rattle.gate.specs.declared.Decided.{Decided}
use Rattle.gate.specs.declared.Offered.{Offered}
use Rattle.gate.specs.Offer.{offer_of, outcome}
use Rattle.gate.specs.Decide.{Decides}
use Rattle.gate.specs.Write.{WritesBy}

-- what `gate::offer` ensures: of its answer with the session, and of the holding buffer after it
abbrev pub Offers : Side → Session → List ℕ → List ℕ → Offered → List ℕ → Type 0
Offers from s hold piece r after = outcome (link_of from s) r piece after ≡ offer_of from s hold piece

-- A reader call has one answer: number, bytes taken, location, size and packet, the session after it, and every byte of the holding buffer. It is the
-- same of `entry::offer_in_place`, whose session is changed in place.
abbrev pub OneOffer : Type 0
OneOffer = (from : Side) (s : Session) (hold piece : List ℕ) (r t : Offered) (after later : List ℕ)
    → Offers from s hold piece r after → Offers from s hold piece t later → (r ≡ t) × (after ≡ later)

-- A call is decided in one way, with every byte of the holding buffer (`gate::decide`).
abbrev pub OneDecision : Type 0
OneDecision = (from : Side) (s : Session) (hold piece : List ℕ) (d k : Decided) (after later : List ℕ)
    → Decides from s d hold piece after → Decides from s k hold piece later → (d ≡ k) × (after ≡ later)

-- Sessions that agree in what a decision reads: the head, the types and the streams of the rows, and the requests.
pub record SameColumns (s t : Session) : Type 0 where
  pub head : s.head ≡ t.head
  pub types : s.rows.types ≡ t.rows.types
  pub streams : s.rows.streams ≡ t.rows.streams
  pub requests : s.requests ≡ t.requests

-- A decision of one of them is a decision of the other, whatever interfaces and watch each has: no decision reads these (`gate::decide`).
abbrev pub ColumnsDecide : Type 0
ColumnsDecide = (from : Side) (s t : Session) (hold piece : List ℕ) (d : Decided) (after : List ℕ)
    → SameColumns s t → Decides from s d hold piece after → Decides from t d hold piece after

-- The bytes of a packet have one reading (`decoder::read`), and so has a body behind a header (`decoder::read_behind`).
abbrev pub OneReading : Type 0
OneReading = (l : Link) (bytes : List ℕ) (v w : Reading) → told l bytes v ≡ read_of l bytes → told l bytes w ≡ read_of l bytes → v ≡ w

abbrev pub OneReadingBehind : Type 0
OneReadingBehind = (l : Link) (h : Header) (body : List ℕ) (v w : Reading) → told_behind l body v ≡ behind_of l h body → told_behind l body w ≡ behind_of l h body → v ≡ w

-- What is told of a cut decides it (`frame::cut_of`), and the number of a check whether it refuses, and why (`header::check_header`, the checks of
-- `rules`).
abbrev pub OneCut : Type 0
OneCut = (c d : Cut) → cut_told c ≡ cut_told d → c ≡ d

abbrev pub OneCheck : Type 0
OneCheck = (v w : Result (Unit {0}) Refusal) → number_in v ≡ number_in w → v ≡ w

-- A writer call has one answer: number, size, and every byte of the output (`gate::write`, and `encoder::write` without a session).
abbrev pub OneWriting : Type 0
OneWriting = (from : Side) (s : Session) (p : Content) (out : List ℕ) (r t : Written) (after later : List ℕ)
    → WritesBy from s p out r after → WritesBy from s p out t later → (r ≡ t) × (after ≡ later)

abbrev pub OneEncoding : Type 0
OneEncoding = (l : Link) (p : Content) (out : List ℕ) (r t : Written) (after later : List ℕ) → Writes l p out r after → Writes l p out t later → (r ≡ t) × (after ≡ later)
