-- Lines decoded and formed, by computation: document 01's example, the borders of its rules, a bad line of each sort and its flaw.
-- Assumes nothing.
use Rattle.std.specs.Prelude.{ℕ, ◌≡◌, refl, true, false, List, [], ◌∷◌, ◌++◌, replicate, Some, None}
use Rattle.header.specs.declared.Side.{Side}
use Rattle.header.specs.declared.Side.TheVariants.{Guest, Host}
use Rattle.capture.specs.declared.Flaw.TheVariants.{Start, Long, Digit, Odd}
use Rattle.capture.specs.Flaws.{flaw_of, flaw_line, error_lines}
use Rattle.capture.specs.Lines.{ascii, start_of, starts_with, spelt, line_of, digits, answer_line, totals_line, bad_line}

-- ---- good lines

abbrev Offers : List ℕ → Side → List ℕ → Type 0
Offers line from bytes = line_of line ≡ Some (record { from = from; bytes = bytes })

-- document 01's example
example-line : Offers (ascii "from=guest bytes=070000000000000007000000") Guest (7 ∷ 0 ∷ 0 ∷ 0 ∷ 0 ∷ 0 ∷ 0 ∷ 0 ∷ 7 ∷ 0 ∷ 0 ∷ 0 ∷ [])
unfolding line_of starts_with spelt
example-line = refl

each-digit : Offers (ascii "from=host bytes=0123456789abcdef") Host (0x01 ∷ 0x23 ∷ 0x45 ∷ 0x67 ∷ 0x89 ∷ 0xab ∷ 0xcd ∷ 0xef ∷ [])
unfolding line_of starts_with spelt
each-digit = refl

-- 0 is an even count
no-digits : Offers (ascii "from=host bytes=") Host []
unfolding line_of starts_with spelt
no-digits = refl

digits-4096 : Offers (start_of Guest ++ replicate 4096 48) Guest (replicate 2048 0)
unfolding line_of starts_with spelt
digits-4096 = refl

-- ---- bad lines

abbrev IsBad : List ℕ → Type 0
IsBad line = line_of line ≡ None

digits-4098 : IsBad (start_of Guest ++ replicate 4098 48)
unfolding line_of starts_with
digits-4098 = refl

odd-count : IsBad (ascii "from=guest bytes=070")
unfolding line_of starts_with
odd-count = refl

upper-case : IsBad (ascii "from=guest bytes=0A")
unfolding line_of starts_with
upper-case = refl

no-hex : IsBad (ascii "from=guest bytes=0g")
unfolding line_of starts_with
no-hex = refl

empty : IsBad []
unfolding line_of starts_with
empty = refl

carriage-return : IsBad (ascii "from=guest bytes=07\r")
unfolding line_of starts_with
carriage-return = refl

blank-behind : IsBad (ascii "from=guest bytes=07 ")
unfolding line_of starts_with
blank-behind = refl

blank-in-front : IsBad (ascii " from=guest bytes=07")
unfolding line_of starts_with
blank-in-front = refl

two-blanks : IsBad (ascii "from=guest  bytes=07")
unfolding line_of starts_with
two-blanks = refl

cut_short : IsBad (ascii "from=guest bytes")
unfolding line_of starts_with
cut_short = refl

-- ---- why they are bad: where a line has several flaws, the first of the start, the length, the digits, their count

flaws : (flaw_of [] ≡ Some Start)
    × (flaw_of (ascii " from=guest bytes=0") ≡ Some Start)
    × (flaw_of (start_of Guest ++ replicate 4097 103) ≡ Some Long)
    × (flaw_of (start_of Host ++ replicate 4096 103) ≡ Some Digit)
    × (flaw_of (ascii "from=guest bytes=07\r") ≡ Some Digit)
    × (flaw_of (ascii "from=guest bytes=0A0") ≡ Some Digit)
    × (flaw_of (ascii "from=host bytes=070") ≡ Some Odd)
    × (flaw_of (ascii "from=host bytes=") ≡ None)
    × (flaw_of (start_of Guest ++ replicate 4096 48) ≡ None)
unfolding flaw_of starts_with
flaws = (refl, refl, refl, refl, refl, refl, refl, refl, refl)

-- ---- the report's lines

-- document 01's example
example-answer : answer_line Guest 7 0 7 11 ≡ ascii "from=guest type=7 length=0 id=7 answer=11\n"
unfolding answer_line digits
example-answer = refl

example-totals : totals_line 0 1 true ≡ ascii "passed=0 refused=1 stopped=1\n"
unfolding totals_line digits
example-totals = refl

example-bad : bad_line ≡ ascii "line=bad\n"
example-bad = refl

largest-numbers : answer_line Host 4294967295 4294967295 18446744073709551615 34 ≡ ascii "from=host type=4294967295 length=4294967295 id=18446744073709551615 answer=34\n"
unfolding answer_line digits
largest-numbers = refl

not_stopped : totals_line 10 100 false ≡ ascii "passed=10 refused=100 stopped=0\n"
unfolding totals_line digits
not_stopped = refl

-- ---- standard error

example-errors : error_lines 12 (Some Odd) true true
    ≡ ascii "report: line 12: an odd count of digits\nreport: a read failed, and the input ends there\nreport: a write failed, and the output is not whole\n"
unfolding error_lines flaw_line digits
example-errors = refl

no-errors : error_lines 12 None false false ≡ []
unfolding error_lines flaw_line
no-errors = refl
