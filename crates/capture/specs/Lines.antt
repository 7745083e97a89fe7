-- Document 01, "Report program": what an input line offers, and the lines that the report writes.
-- Assumes nothing: these are definitions.
use Rattle.std.specs.Prelude.{ℕ, zero, suc, ◌+◌, ◌-◌, ◌*◌, ◌/◌, ◌%◌, ◌≤◌, ◌≡◌, Bool, true, false, cond, ◌&&◌, ◌||◌, List, [], ◌∷◌, ◌++◌, length, drop, eqb, leb, ltb, Option, Some, None, Result}
use Rattle.std.specs.Result.{result_ok, result_err}
use Rattle.std.specs.List.{list_all}
use Prim.Native.Char.{code}
use Prim.Native.String.{String, [] as []ˢ, ◌∷◌ as ◌∷ˢ◌}
use Rattle.std.proofs.lemmas.List.Edits.{sets}
use Rattle.std.specs.Borrow.{MutBor}
use Rattle.octets.specs.Saturated.{largest, saturated}
use Rattle.header.specs.declared.Side.{Side}
use Rattle.header.specs.declared.Side.TheVariants.{Guest, Host}
use Rattle.capture.specs.declared.Flaw.{Flaw}
use Rattle.capture.specs.declared.Piece.{Piece}
use Rattle.capture.specs.declared.Text.{Text}

-- the bytes of a text of ASCII characters
abbrev pub ascii : String → List ℕ
ascii []ˢ = []
ascii (c ∷ˢ s) = code c ∷ ascii s

abbrev pub side_field : Side → List ℕ
side_field Guest = ascii "from=guest"
side_field Host = ascii "from=host"

-- ---- an input line, without its newline

-- "`from=guest bytes=HEX` or `from=host bytes=HEX`": what stands in front of the digits
abbrev pub start_of : Side → List ℕ
start_of from = side_field from ++ ascii " bytes="

unfoldable pub starts_with : List ℕ → List ℕ → Bool
starts_with [] l = true
starts_with (p ∷ ps) [] = false
starts_with (p ∷ ps) (b ∷ l) = eqb b p && starts_with ps l

abbrev pub between : ℕ → ℕ → ℕ → Bool
between first last b = leb first b && leb b last

-- a hex digit in lower case
abbrev pub is_hex : ℕ → Bool
is_hex b = between (code "0") (code "9") b || between (code "a") (code "f") b

-- its value; 0 of any other byte
abbrev pub hex_value : ℕ → ℕ
hex_value b =
    cond (between (code "0") (code "9") b) (b - code "0")
    (cond (between (code "a") (code "f") b) (b - code "a" + 10)
    0)

abbrev pub all_hex : List ℕ → Bool
all_hex l = list_all is_hex l

-- "lower case, an even count of hex digits, at most 4,096"
abbrev pub is_spelling : List ℕ → Bool
is_spelling l = all_hex l && eqb (length l % 2) 0 && leb (length l) 4096

-- the bytes that pairs of digits spell
unfoldable pub spelt : List ℕ → List ℕ
spelt [] = []
spelt (a ∷ []) = []
spelt (a ∷ b ∷ l) = (16 * hex_value a + hex_value b) ∷ spelt l

-- "Each is one piece": who sends it, and its bytes
pub record SentPiece : Type 0 where
  pub from : Side
  pub bytes : List ℕ

abbrev pub piece_of : Side → List ℕ → Option SentPiece
piece_of from l = cond (is_spelling l) (Some (record { from = from; bytes = spelt l })) None

-- what a line offers; one that can't be decoded offers nothing
unfoldable pub line_of : List ℕ → Option SentPiece
line_of l =
    cond (starts_with (start_of Guest) l) (piece_of Guest (drop (length (start_of Guest)) l))
    (cond (starts_with (start_of Host) l) (piece_of Host (drop (length (start_of Host)) l))
    None)

-- what is told: who sends the piece, and its size
abbrev pub told_of : Option SentPiece → Option Piece
told_of None = None
told_of (Some p) = Some (record { from = p.from; size = length p.bytes })

-- the bytes stand at the front of the output, as far as it goes; a bad line leaves it as it was
abbrev pub laid_of : Option SentPiece → List ℕ → List ℕ
laid_of None out = out
laid_of (Some p) out = sets out 0 p.bytes

-- the piece that is offered is told, or the flaw of a line that offers none
pub record Decodes (p : Option SentPiece) (flaw : Option Flaw) (out : List ℕ) (r : Result Piece Flaw) (after : List ℕ) : Type 0 where
  pub told : result_ok r ≡ told_of p
  pub why : result_err r ≡ flaw
  pub output : after ≡ laid_of p out

-- ---- the report's lines, each with its newline

-- the digits of n, or the last k of them where there are more
unfoldable pub digits : ℕ → ℕ → List ℕ
digits zero n = []
digits (suc k) n = cond (ltb n 10) [] (digits k (n / 10)) ++ ((code "0" + n % 10) ∷ [])

-- n in decimal: the largest u64 has 20 digits
abbrev pub decimal : ℕ → List ℕ
decimal n = digits 20 n

abbrev pub field : String → ℕ → List ℕ
field name n = ascii name ++ decimal n

unfoldable pub answer_line : Side → ℕ → ℕ → ℕ → ℕ → List ℕ
answer_line from kind length id answer =
    side_field from ++ field " type=" kind ++ field " length=" length ++ field " id=" id ++ field " answer=" answer ++ ascii "\n"

-- "stopped is 0 or 1"
unfoldable pub totals_line : ℕ → ℕ → Bool → List ℕ
totals_line passed refused stopped =
    field "passed=" passed ++ field " refused=" refused ++ field " stopped=" (cond stopped 1 0) ++ ascii "\n"

abbrev pub bad_line : List ℕ
bad_line = ascii "line=bad\n"

-- a line stands from `at` on, as far as the output goes; its length is told
pub record Forms (line : List ℕ) (at : ℕ) (out : List ℕ) (r : ℕ) (after : List ℕ) : Type 0 where
  pub size : r ≡ length line
  pub output : after ≡ sets out at line

-- ---- as the code forms a line

-- a text at a place of the output, with nothing in it
pub record Starts (out : MutBor (List ℕ)) (at : ℕ) (t : Text) : Type 0 where
  pub same : t.out.ghost_name ≡ out.ghost_name
  pub before : t.out.now ≡ out.now
  pub start : t.at ≡ at
  pub size : t.size ≡ 0
  pub few : length out.now ≤ largest

-- more of a text, behind what it has so far, as far as the output goes; it then has so many bytes, or the largest number
pub record Adds (more : List ℕ) (t u : Text) : Type 0 where
  pub same : u.out.ghost_name ≡ t.out.ghost_name
  pub start : u.at ≡ t.at
  pub size : u.size ≡ saturated t.size (length more)
  pub output : u.out.now ≡ sets t.out.now (t.at + t.size) more
  pub few : length t.out.now ≤ largest
