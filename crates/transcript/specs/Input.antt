-- Document 01, "Report program": what a line gives in a report, and the whole output for a whole input.
-- Assumes nothing: these are definitions.
use Rattle.std.specs.Prelude.{ℕ, suc, min, ◌≡◌, Bool, true, false, cond, ◌&&◌, ◌||◌, List, [], ◌∷◌, ◌++◌, length, replicate, eqb, ltb, Option, Some, None, is_some}
use Rattle.std.proofs.lemmas.List.Edits.{sets}
use Rattle.octets.specs.Saturated.{largest}
use Rattle.header.specs.declared.Side.{Side}
use Rattle.header.specs.declared.Side.TheVariants.{Guest, Host}
use Rattle.session.specs.declared.Session.{Session}
use Rattle.session.specs.Session.{fresh_session}
use Rattle.capture.specs.declared.Flaw.{Flaw}
use Rattle.capture.specs.Lines.{SentPiece, line_of, totals_line, bad_line}
use Rattle.transcript.specs.declared.Totals.{Totals}
use Rattle.transcript.specs.declared.Reported.{Reported}
use Rattle.transcript.specs.declared.Lined.{Lined}
use Rattle.transcript.specs.Piece.{Report, report_of}
use Rattle.header.specs.Header.{hold_size}

-- ---- a line

-- what stands between two lines: the session, the totals, and "Each direction has its own holding buffer"
pub record Progress : Type 0 where
  pub session : Session
  pub totals : Totals
  pub guest : List ℕ
  pub host : List ℕ

abbrev pub hold_of : Side → Progress → List ℕ
hold_of Guest p = p.guest
hold_of Host p = p.host

-- "Each is one piece"
abbrev pub piece_report : Progress → SentPiece → Report
piece_report p o = report_of o.from p.session p.totals (hold_of o.from p) o.bytes

abbrev pub moved_by : Side → Progress → Report → Progress
moved_by Guest p g = record { session = g.session; totals = g.totals; guest = g.hold; host = p.host }
moved_by Host p g = record { session = g.session; totals = g.totals; guest = p.guest; host = g.hold }

-- what a line gives: the progress after it, what it prints, and whether it is bad
pub record LineStep : Type 0 where
  pub next : Progress
  pub prints : List ℕ
  pub bad : Bool

-- "An undecodable line prints `line=bad` and ends input"
abbrev pub step_of : Progress → Option SentPiece → LineStep
step_of p None = record { next = p; prints = bad_line; bad = true }
step_of p (Some o) = record { next = moved_by o.from p (piece_report p o); prints = (piece_report p o).lines; bad = false }

-- ---- the input

-- lines end at a newline, LF, and the last may lack it
unfoldable pub in_front : ℕ → List (List ℕ) → List (List ℕ)
in_front b [] = (b ∷ []) ∷ []
in_front b (line ∷ lines) = (b ∷ line) ∷ lines

unfoldable pub lines_of : List ℕ → List (List ℕ)
lines_of [] = []
lines_of (b ∷ input) = cond (eqb b 10) ([] ∷ lines_of input) (in_front b (lines_of input))

-- "stopped is 0 or 1"
abbrev pub totals_of : Progress → List ℕ
totals_of p = totals_line p.totals.passed p.totals.refused p.session.head.stopped

-- what is still to be printed: "totals follow"
unfoldable pub output_from : Progress → List (List ℕ) → List ℕ
output_from p [] = totals_of p
output_from p (line ∷ lines) =
    (step_of p (line_of line)).prints ++ cond (step_of p (line_of line)).bad (totals_of (step_of p (line_of line)).next) (output_from (step_of p (line_of line)).next lines)

unfoldable pub start : Progress
start =
    record { session = fresh_session; totals = record { passed = 0; refused = 0 }; guest = replicate hold_size 0; host = replicate hold_size 0 }

abbrev pub output_of : List ℕ → List ℕ
output_of input = output_from start (lines_of input)

-- ---- the input in parts

-- the bytes in front of the first newline; all of them where there is none
unfoldable pub line_end : List ℕ → ℕ
line_end [] = 0
line_end (b ∷ l) = cond (eqb b 10) 0 (suc (line_end l))

-- Bytes, the last of the input or not, begin with a line: up to their newline; or all of them, where they are the last, or more than
-- the longest good line has, 17 and 4,096. Else what comes next decides.
abbrev pub begins_line : List ℕ → Bool → Bool
begins_line bytes last = ltb (line_end bytes) (length bytes) || ltb 4113 (length bytes) || (last && ltb 0 (length bytes))

abbrev pub next_of : List ℕ → Bool → Option ℕ
next_of bytes last = cond (begins_line bytes last) (Some (line_end bytes)) None

-- ---- what the code's types say

-- a piece, with both buffers
pub record PieceReports (from : Side) (p : Progress) (piece out : List ℕ) (r : Reported) (guest-after host-after out-after : List ℕ) : Type 0 where
  pub next : record { session = r.session; totals = r.totals; guest = guest-after; host = host-after }
      ≡ moved_by from p (piece_report p (record { from = from; bytes = piece }))
  pub size : r.size ≡ min (length (piece_report p (record { from = from; bytes = piece })).lines) largest
  pub output : out-after ≡ sets out 0 (piece_report p (record { from = from; bytes = piece })).lines

-- what is printed stands at the front of the output, as far as it goes; told is how many bytes it has, or the largest number, and the
-- line's flaw, if it has one
pub record LineReports (g : LineStep) (flaw : Option Flaw) (out : List ℕ) (r : Lined) (guest-after host-after out-after : List ℕ) : Type 0 where
  pub next : record { session = r.reported.session; totals = r.reported.totals; guest = guest-after; host = host-after } ≡ g.next
  pub size : r.reported.size ≡ min (length g.prints) largest
  pub why : r.flaw ≡ flaw
  pub bad : is_some r.flaw ≡ g.bad
  pub output : out-after ≡ sets out 0 g.prints
