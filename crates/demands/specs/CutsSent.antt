-- Cuts don't matter, of bytes sent: two lists of reader calls whose pieces are cut from the same bytes of each end, each at the first
-- byte not yet taken, and in which packets become whole in the same order, give the same answers that end a packet, the same packets and
-- the same session. How far each end's bytes were taken may differ, as where one end stops the session within the other's packet: then of
-- the session the counts of bytes held may differ, and nothing else.
-- Assumes nothing: these are definitions and a statement.
use Rattle.std.specs.Prelude.{ℕ, List, [], ◌∷◌, ◌++◌, ◌≡◌, drop}
use Rattle.header.specs.declared.Side.{Side}
use Rattle.demands.specs.CallLists.{of_side, Both, ReaderCall, answer_to, next, held_by, final, endings, sides, bytes_taken}
use Rattle.demands.specs.CutsDontMatter.{WithinLimits, SameResult, unheld}

-- each side's bytes after a call: without those that it took
abbrev pub bytes_after : Both → ReaderCall → (Side → List ℕ) → Side → List ℕ
bytes_after x c b = of_side c.from (drop (answer_to x c).taken (b c.from)) b

-- each side's pieces, empty ones too, are cut from its bytes at the first not yet taken
abbrev pub CutFrom : Both → List ReaderCall → (Side → List ℕ) → Type 0
CutFrom x [] b = Unit {0}
CutFrom x (c ∷ cs) b = ((rest : List ℕ) × (c.piece ++ rest ≡ b c.from)) × CutFrom (next x c) cs (bytes_after x c b)

-- each side's bytes that a run leaves
unfoldable pub untaken : Both → List ReaderCall → (Side → List ℕ) → Side → List ℕ
untaken x [] b = b
untaken x (c ∷ cs) b = untaken (next x c) cs (bytes_after x c b)

-- what two runs over the same bytes b have in common
pub record SameSent (x : Both) (cs₁ cs₂ : List ReaderCall) (b : Side → List ℕ) : Type 0 where
  -- the answers that end a packet or stop at a header, with the packets handed out
  pub answers : endings x cs₁ ≡ endings x cs₂
  -- the session, but for the counts of bytes held of packets not yet whole
  pub session : unheld (final x cs₁).session ≡ unheld (final x cs₂).session
  -- the bytes behind the last packet of each side: those held, and those not yet taken
  pub rest : (d : Side) → held_by (final x cs₁) d ++ untaken x cs₁ b d ≡ held_by (final x cs₂) d ++ untaken x cs₂ b d
  -- where both took the same of each side's bytes, as where both took all: the whole session, and the bytes held
  pub all : ((d : Side) → bytes_taken d x cs₁ ≡ bytes_taken d x cs₂) → SameResult x cs₁ cs₂

-- from any session and buffers within the limits of `WithinLimits`
abbrev pub CutsSent : Type 0
CutsSent =
    (x : Both) (cs₁ cs₂ : List ReaderCall) (b : Side → List ℕ) → WithinLimits x → CutFrom x cs₁ b → CutFrom x cs₂ b
    → sides (endings x cs₁) ≡ sides (endings x cs₂) → SameSent x cs₁ cs₂ b
