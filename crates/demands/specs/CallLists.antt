-- Lists of reader calls of both directions: what each call gets and leaves, which answers end a packet, and which bytes are taken.
-- Assumes nothing: these are definitions.
use Rattle.std.specs.Prelude.{ℕ, Bool, cond, not, List, [], ◌∷◌, ◌++◌, take, Option}
use Rattle.header.specs.declared.Side.{Side}
use Rattle.header.specs.declared.Side.TheVariants.{Guest, Host}
use Rattle.decoder.specs.Reading.{PacketTold}
use Rattle.session.specs.declared.Session.{Session}
use Rattle.gate.specs.Offer.{Outcome, held_bytes, offer_of}
use Rattle.claims.specs.Allowed.{among}

-- of each side, something
abbrev pub of_side : {A : Type 0} → Side → A → (Side → A) → Side → A
of_side Guest a f Guest = a
of_side Guest a f Host = f Host
of_side Host a f Guest = f Guest
of_side Host a f Host = a

-- the session and each side's holding buffer
pub record Both : Type 0 where
  pub session : Session
  pub hold : Side → List ℕ

pub record ReaderCall : Type 0 where
  pub from : Side
  pub piece : List ℕ

-- ---- one call

abbrev pub answer_to : Both → ReaderCall → Outcome
answer_to x c = offer_of c.from x.session (x.hold c.from) c.piece

abbrev pub next : Both → ReaderCall → Both
next x c = record { session = (answer_to x c).session; hold = of_side c.from (answer_to x c).hold x.hold }

abbrev pub held_by : Both → Side → List ℕ
held_by x d = held_bytes d x.session (x.hold d)

-- an answer that ends a packet or stops at its header: all but 1, and 2, 3, 41, 43, which take nothing
abbrev pub ends_packet : ℕ → Bool
ends_packet n = not (among (1 ∷ 2 ∷ 3 ∷ 41 ∷ 43 ∷ []) n)

pub record Ended : Type 0 where
  pub from : Side
  pub number : ℕ
  pub handed : Option PacketTold

abbrev pub ended_by : Side → ℕ → Option PacketTold → List Ended
ended_by d n h = cond (ends_packet n) (record { from = d; number = n; handed = h } ∷ []) []

-- ---- a list of calls

unfoldable pub final : Both → List ReaderCall → Both
final x [] = x
final x (c ∷ cs) = final (next x c) cs

-- the answers of a run that end a packet, in order
unfoldable pub endings : Both → List ReaderCall → List Ended
endings x [] = []
endings x (c ∷ cs) = ended_by c.from (answer_to x c).number (answer_to x c).handed ++ endings (next x c) cs

abbrev pub sides : List Ended → List Side
sides [] = []
sides (e ∷ es) = e.from ∷ sides es

-- the bytes of a side that a run took
unfoldable pub bytes_taken : Side → Both → List ReaderCall → List ℕ
bytes_taken d x [] = []
bytes_taken d x (c ∷ cs) = of_side c.from (take (answer_to x c).taken c.piece) (λ e. []) d ++ bytes_taken d (next x c) cs
