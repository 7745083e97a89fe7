-- Cuts don't matter: two lists of reader calls in which each end's bytes are the same and packets become whole in the same order give
-- the same answers that end a packet, the same packets and the same session (`CutsDontMatter`). More is said by `Plays`: a list of calls is held against
-- `play`, which knows no pieces, is given each end's bytes and the order, and takes packet after packet.
-- Assumes nothing: these are definitions and statements.
use Rattle.std.specs.Prelude.{ℕ, ◌≤◌, List, [], ◌∷◌, ◌++◌, ◌≡◌, drop, length, take, None}
use Rattle.header.specs.declared.Side.{Side}
use Rattle.header.specs.declared.Side.TheVariants.{Guest, Host}
use Rattle.frame.specs.Cut.{Cut, more, bad, whole}
use Rattle.frame.specs.Frame.{cut_at, head_size}
use Rattle.session.specs.declared.Session.{Session}
use Rattle.session.specs.Session.{link_of}
use Rattle.gate.specs.Verdict.{held_of, held_as, stopped_now, verdict_of}
use Rattle.demands.specs.CallLists.{of_side, Both, ReaderCall, held_by, Ended, final, endings, sides, bytes_taken}

-- ---- what is asked at first

-- buffers that 41 allows, and counts that 43 allows
pub record WithinLimits (x : Both) : Type 0 where
  pub room : (d : Side) → 32784 ≤ length (x.hold d)
  pub few : (d : Side) → held_of d x.session ≤ 32783

-- ---- the theorem

-- two runs in which the same bytes of each end are taken, and packets end in the same order
pub record SameTraffic (x : Both) (cs₁ cs₂ : List ReaderCall) : Type 0 where
  pub taken : (d : Side) → bytes_taken d x cs₁ ≡ bytes_taken d x cs₂
  pub order : sides (endings x cs₁) ≡ sides (endings x cs₂)

-- they give the same answers that end a packet or stop at a header, the same packets, the same session, and hold the same bytes
pub record SameResult (x : Both) (cs₁ cs₂ : List ReaderCall) : Type 0 where
  pub answers : endings x cs₁ ≡ endings x cs₂
  pub session : (final x cs₁).session ≡ (final x cs₂).session
  pub held : (d : Side) → held_by (final x cs₁) d ≡ held_by (final x cs₂) d

-- from any session and buffers within these limits (`cuts`)
abbrev pub CutsDontMatter : Type 0
CutsDontMatter =
    (x : Both) (cs₁ cs₂ : List ReaderCall) → WithinLimits x → SameTraffic x cs₁ cs₂ → SameResult x cs₁ cs₂

-- ---- the same without pieces

-- what the next packet of a side's bytes b gives: the answer that ends it, the session after it, and how many bytes it has
pub record FirstPacket : Type 0 where
  pub ended : List Ended
  pub session : Session
  pub size : ℕ

abbrev pub first_packet_as : Side → Session → List ℕ → Cut → FirstPacket
first_packet_as d s b more = record { ended = []; session = s; size = 0 }
first_packet_as d s b (bad n) = record { ended = record { from = d; number = n; handed = None } ∷ []; session = stopped_now s; size = head_size (link_of d s) b }
first_packet_as d s b (whole n) =
    record { ended = record { from = d; number = (verdict_of s d (take n b)).number; handed = (verdict_of s d (take n b)).handed } ∷ []; session = (verdict_of s d (take n b)).session; size = n }

abbrev pub first_packet : Side → Session → List ℕ → FirstPacket
first_packet d s b = first_packet_as d s b (cut_at (link_of d s) b)

pub record Played : Type 0 where
  pub ended : List Ended
  pub session : Session
  pub rest : Side → List ℕ

abbrev pub with_ended : List Ended → Played → Played
with_ended es p = record { ended = es ++ p.ended; session = p.session; rest = p.rest }

-- given the sides in whose bytes the next packets end, in order, a session with nothing held, and each side's bytes
unfoldable pub play : List Side → Session → (Side → List ℕ) → Played
play [] s b = record { ended = []; session = s; rest = b }
play (d ∷ ds) s b = with_ended (first_packet d s (b d)).ended (play ds (first_packet d s (b d)).session (of_side d (drop (first_packet d s (b d)).size (b d)) b))

-- ---- a run is what `play` makes of its bytes and its order

-- a session with nothing held
abbrev pub unheld : Session → Session
unheld s = held_as Guest 0 (held_as Host 0 s)

-- each side's bytes: those held at first and those taken
abbrev pub bytes_from : Both → List ReaderCall → Side → List ℕ
bytes_from x cs d = held_by x d ++ bytes_taken d x cs

-- what a run leaves
abbrev pub left_held : Both → Played
left_held x = record { ended = []; session = unheld x.session; rest = held_by x }

-- of every list of calls
abbrev pub Plays : Type 0
Plays =
    (x : Both) (cs : List ReaderCall) → WithinLimits x → play (sides (endings x cs)) (unheld x.session) (bytes_from x cs) ≡ with_ended (endings x cs) (left_held (final x cs))
