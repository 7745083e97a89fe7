-- Why an input line can't be decoded, and what the report says on standard error, of which document 01 is silent.
-- Assumes nothing: these are definitions.
use Rattle.std.specs.Prelude.{ℕ, ◌%◌, Bool, cond, List, [], ◌++◌, length, drop, eqb, ltb, Option, Some, None}
use Rattle.header.specs.declared.Side.TheVariants.{Guest, Host}
use Rattle.capture.specs.declared.Flaw.{Flaw}
use Rattle.capture.specs.declared.Flaw.TheVariants.{Start, Long, Digit, Odd}
use Rattle.capture.specs.Lines.{ascii, start_of, starts_with, all_hex, field}

-- ---- the flaw of a line: the first that it has, of those in `Flaw`; a good line has none

abbrev pub digits_flaw : List ℕ → Option Flaw
digits_flaw s =
    cond (ltb 4096 (length s)) (Some Long) (cond (all_hex s) (cond (eqb (length s % 2) 0) None (Some Odd)) (Some Digit))

unfoldable pub flaw_of : List ℕ → Option Flaw
flaw_of l =
    cond (starts_with (start_of Guest) l) (digits_flaw (drop (length (start_of Guest)) l))
    (cond (starts_with (start_of Host) l) (digits_flaw (drop (length (start_of Host)) l))
    (Some Start))

-- ---- what is said, each with its newline

abbrev pub reason : Flaw → List ℕ
reason Start = ascii "it starts with neither from=guest bytes= nor from=host bytes="
reason Long = ascii "more than 4,096 digits"
reason Digit = ascii "a byte behind bytes= that is no hex digit in lower case"
reason Odd = ascii "an odd count of digits"

-- which line it is, the first being 1, and the reason
unfoldable pub flaw_line : ℕ → Option Flaw → List ℕ
flaw_line line None = []
flaw_line line (Some flaw) = field "report: line " line ++ ascii ": " ++ reason flaw ++ ascii "\n"

abbrev pub cut_line : List ℕ
cut_line = ascii "report: a read failed, and the input ends there\n"

abbrev pub lost_line : List ℕ
lost_line = ascii "report: a write failed, and the output is not whole\n"

-- what is said of a line with this flaw, where a read failed, and where a write did
unfoldable pub error_lines : ℕ → Option Flaw → Bool → Bool → List ℕ
error_lines line flaw cut lost = flaw_line line flaw ++ cond cut cut_line [] ++ cond lost lost_line []
