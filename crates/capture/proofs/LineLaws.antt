-- What a line can be, for those who call the functions: how long (`line-short`, `answer-short`, `totals-short`, `errors-short`), what was offered by
-- what was told (`told-bad`, `told-piece`), and that it has a flaw exactly where nothing is offered (`flawed`), as digits have exactly where they
-- are no spelling (`spells-not`).
-- Two digits spell a byte (`length-spelt`), and a good line has at most 4,096 of them; a number has at most 20 digits, by induction over their
-- count, and the lengths of a line's parts are added up. What is told is bad exactly where nothing is offered; and with room for 2,048 bytes,
-- what was laid is the output's front.
-- Assumes nothing.
use Rattle.std.specs.Prelude.{Option, Some, None, is_some, is_none, Result, Ok, Err}
use Prim.Native.Nat.{ℕ, zero, suc, ◌+◌, ◌/◌, ◌%◌, ◌≤◌}
use mathlib.Core.Path.{◌≡◌, refl, sym, ap, ◌∙◌}
use mathlib.Core.Bool.{Bool, true, false, cond, not, ◌&&◌, and-false}
use mathlib.Core.List.{List, [], ◌∷◌, ◌++◌}
use native.Mathlib.Omega.{arith}
use borrow.Author.Tests.{leb-true, lt-leb, le-leb, ltb-true, ltb-false}
use lib.ListN.{length, take, drop, length-append}
use lib.Seq.{sets-eq, take_at}
use lib.Dec.{eqb, leb, ltb}
use Rattle.std.specs.Result.{result_ok}
use Rattle.octets.proofs.Logic.{and_parts}
use Rattle.header.specs.declared.Side.{Side}
use Rattle.header.specs.declared.Side.TheVariants.{Guest, Host}
use Rattle.capture.specs.declared.Piece.{Piece}
use Rattle.capture.specs.Lines.{side_field, start_of, starts_with, all_hex, is_spelling, spelt, SentPiece, piece_of, line_of, told_of, laid_of, Decodes, digits, answer_line, totals_line}
use Rattle.capture.specs.declared.Flaw.{Flaw}
use Rattle.capture.specs.declared.Flaw.TheVariants.{Start, Long, Digit, Odd}
use Rattle.capture.specs.Flaws.{digits_flaw, flaw_of, reason, flaw_line, error_lines}

-- ---- input lines

pub length-spelt : (s : List ℕ) → length (spelt s) ≡ length s / 2
unfolding spelt
length-spelt [] = refl
length-spelt (a ∷ []) = refl
length-spelt (a ∷ b ∷ s) = omega (arith, length-spelt s)

-- the bytes that are offered, if any
abbrev pub offered_bytes : Option SentPiece → List ℕ
offered_bytes None = []
offered_bytes (Some p) = p.bytes

piece-short : (from : Side) (s : List ℕ) → length (offered_bytes (piece_of from s)) ≤ 2048
piece-short from s = go (is_spelling s) refl
  where
    go : (b : Bool) → is_spelling s ≡ b → length (offered_bytes (cond b (Some (record { from = from; bytes = spelt s })) None)) ≤ 2048
    go true e = omega (arith, leb-true (length s) 4096 (and_parts (all_hex s && eqb (length s % 2) 0) (leb (length s) 4096) e).1, length-spelt s)
    go false e = omega arith

-- a piece has at most 2,048 bytes
pub line-short : (line : List ℕ) → length (offered_bytes (line_of line)) ≤ 2048
unfolding line_of
line-short line =
    go (starts_with (start_of Guest) line) _ _ (piece-short Guest (drop (length (start_of Guest)) line))
    (go (starts_with (start_of Host) line) _ None (piece-short Host (drop (length (start_of Host)) line)) (omega arith))
  where
    go : (b : Bool) (x y : Option SentPiece) → length (offered_bytes x) ≤ 2048 → length (offered_bytes y) ≤ 2048
        → length (offered_bytes (cond b x y)) ≤ 2048
    go true x y h k = h
    go false x y h k = k

offered-none : (p : Option SentPiece) → None ≡ told_of p → p ≡ None
offered-none None e = refl
offered-none (Some p) e = cc

offered-some : (p : Option SentPiece) {t : Piece} → Some t ≡ told_of p
    → (p ≡ Some (record { from = t.from; bytes = offered_bytes p })) × (length (offered_bytes p) ≡ t.size)
offered-some None e = cc
offered-some (Some p) {t} e =
    let q : t ≡ record { from = p.from; size = length p.bytes } = cc in
    (ap (λ (t : Piece). Some (record { from = t.from; bytes = p.bytes })) (sym q), ap (λ (t : Piece). t.size) (sym q))

module _ (line : List ℕ) {f : Option Flaw} {out after : List ℕ} {r : Result Piece Flaw} (d : Decodes (line_of line) f out r after) where
  pub told-bad : {g : Flaw} → r ≡ Err g → line_of line ≡ None
  told-bad e = offered-none (line_of line) (sym (ap result_ok e) ∙ d.told)

  -- where the output has room for every piece, what was offered stands at its front
  pub told-piece : {t : Piece} → r ≡ Ok t → 2048 ≤ length out
      → (line_of line ≡ Some (record { from = t.from; bytes = take t.size after })) × (t.size ≤ 2048)
  told-piece {t} e room =
      let q = offered-some (line_of line) (sym (ap result_ok e) ∙ d.told) in
      let b = offered_bytes (line_of line) in
      let s = line-short line in
      let l : after ≡ b ++ drop (0 + length b) out = d.output ∙ ap (λ (p : Option SentPiece). laid_of p out) q.0 ∙ sets-eq b out 0 (omega arith) in
      let t : take t.size after ≡ b = ap (take t.size) l ∙ take_at b (drop (0 + length b) out) t.size q.1 in
      (rw t q.0, omega (arith, q.1))

-- ---- the report's lines: at most 117 bytes, whatever their numbers

length_digits : (k n : ℕ) → length (digits k n) ≤ k
unfolding digits
length_digits zero n = omega arith
length_digits (suc k) n = go (ltb n 10) (length_digits k (n / 10))
  where
    go : (b : Bool) → length (digits k (n / 10)) ≤ k → length (cond b [] (digits k (n / 10)) ++ ((48 + n % 10) ∷ [])) ≤ suc k
    go true h = omega arith
    go false h = omega (arith, length-append (digits k (n / 10)) ((48 + n % 10) ∷ []))

side-short : (from : Side) → length (side_field from) ≤ 10
side-short Guest = omega arith
side-short Host = omega arith

pub answer-short : (from : Side) (kind n id answer : ℕ) → length (answer_line from kind n id answer) ≤ 117
unfolding answer_line
answer-short from kind n id answer =
    simp length-append (omega (arith, side-short from, length_digits 20 kind, length_digits 20 n, length_digits 20 id, length_digits 20 answer))

pub totals-short : (passed refused : ℕ) (stopped : Bool) → length (totals_line passed refused stopped) ≤ 117
unfolding totals_line
totals-short passed refused stopped =
    simp length-append (omega (arith, length_digits 20 passed, length_digits 20 refused, length_digits 20 (cond stopped 1 0)))

-- ---- a flaw

-- digits have a flaw exactly where they are no spelling
pub spells-not : (s : List ℕ) → is_some (digits_flaw s) ≡ not (is_spelling s)
spells-not s = go (ltb 4096 (length s)) refl (all_hex s) (eqb (length s % 2) 0)
  where
    go : (l : Bool) → ltb 4096 (length s) ≡ l → (a e : Bool)
        → is_some (cond l (Some Long) (cond a (cond e None (Some Odd)) (Some Digit))) ≡ not (a && e && leb (length s) 4096)
    go true t a e = rw (lt-leb (length s) 4096 (ltb-true 4096 (length s) t), and-false (a && e))
    go false t true true = rw (le-leb (length s) 4096 (ltb-false 4096 (length s) t))
    go false t true false = refl
    go false t false e = refl

digits-flawed : (from : Side) (s : List ℕ) → is_some (digits_flaw s) ≡ is_none (piece_of from s)
digits-flawed from s = spells-not s ∙ go (is_spelling s)
  where
    go : (b : Bool) → not b ≡ is_none {T = SentPiece} (cond b (Some (record { from = from; bytes = spelt s })) None)
    go true = refl
    go false = refl

-- a line has a flaw exactly where it offers nothing
pub flawed : (line : List ℕ) → is_some (flaw_of line) ≡ is_none (line_of line)
unfolding flaw_of line_of
flawed line = go (starts_with (start_of Guest) line) (starts_with (start_of Host) line)
  where
    go : (g h : Bool)
        → is_some (cond g (digits_flaw (drop 17 line)) (cond h (digits_flaw (drop 16 line)) (Some Start)))
        ≡ is_none (cond g (piece_of Guest (drop 17 line)) (cond h (piece_of Host (drop 16 line)) None))
    go true h = digits-flawed Guest (drop 17 line)
    go false true = digits-flawed Host (drop 16 line)
    go false false = refl

reason-short : (flaw : Flaw) → length (reason flaw) ≤ 80
reason-short Start = omega arith
reason-short Long = omega arith
reason-short Digit = omega arith
reason-short Odd = omega arith

flaw-short : (line : ℕ) (f : Option Flaw) → length (flaw_line line f) ≤ 116
unfolding flaw_line
flaw-short line None = omega arith
flaw-short line (Some f) = simp length-append (omega (arith, length_digits 20 line, reason-short f))

-- what is said on standard error has at most 256 bytes
pub errors-short : (line : ℕ) (f : Option Flaw) (cut lost : Bool) → length (error_lines line f cut lost) ≤ 256
unfolding error_lines
errors-short line f true true = simp length-append (omega (arith, flaw-short line f))
errors-short line f true false = simp length-append (omega (arith, flaw-short line f))
errors-short line f false true = simp length-append (omega (arith, flaw-short line f))
errors-short line f false false = simp length-append (omega (arith, flaw-short line f))
