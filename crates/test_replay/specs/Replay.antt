-- A script of whole packets, judged one after the other.
-- This is not the gate: nothing is held, that a session is stopped is not looked at, and there is no 1, 2 or 3.
-- Assumes nothing: these are definitions.
use Rattle.std.specs.Prelude.{ℕ, zero, suc, ◌+◌, Bool, cond, List, [], ◌∷◌, ◌≡◌, length, drop, leb}
use Rattle.std.proofs.lemmas.List.Edits.{sets}
use Rattle.std.proofs.Math.Seq.{slice}
use Rattle.octets.specs.Little.{le}
use Rattle.header.specs.Link.{side_of}
use Rattle.session.specs.declared.Session.{Session}
use Rattle.session.specs.Session.{fresh_session}
use Rattle.gate.specs.Verdict.{VerdictTold, verdict_of}

-- ---- a script: for each packet a byte for its sender, two for its size, and its bytes

-- what a packet takes of the script
abbrev pub packet_size : List ℕ → ℕ
packet_size script = 3 + le 2 script 1

abbrev pub packet_whole : List ℕ → Bool
packet_whole script = leb (packet_size script) (length script)

abbrev pub verdict_at : Session → List ℕ → VerdictTold
verdict_at s script = verdict_of s (side_of (le 1 script 0)) (slice 3 (packet_size script) script)

-- the numbers of the script's packets, at most so many
unfoldable pub numbers_of : ℕ → Session → List ℕ → List ℕ
numbers_of zero s script = []
numbers_of (suc n) s script = cond (packet_whole script) ((verdict_at s script).number ∷ numbers_of n (verdict_at s script).session (drop (packet_size script) script)) []

-- the numbers stand at the front of the output, and their count is told
pub record Replays (script before after : List ℕ) (count : ℕ) : Type 0 where
  pub count-is : count ≡ length (numbers_of (length before) fresh_session script)
  pub output : after ≡ sets before 0 (numbers_of (length before) fresh_session script)

-- ---- what the code's types say

-- the session and the number of a verdict; what is handed out is left out
pub record Gives (next : Session) (n : ℕ) (v : VerdictTold) : Type 0 where
  pub session : next ≡ v.session
  pub number : n ≡ v.number
