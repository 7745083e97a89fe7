-- An input that is read in parts gives what it gives as a whole (`first-line`, `last-wait`); and what a part that does not decide, and what a
-- line prints, can be (`wait-few`, `prints-short`).
-- There are three ways to begin with a line. Bytes with a newline: by induction over them the first line is theirs, whatever follows
-- (`newline-there`). The last bytes of the input: they are the last line (`last_line`). More than 4,113 bytes without a newline: the line is bad,
-- however it goes on (`newline-missing`, `long-bad`), and behind a bad line nothing is looked at.
-- Assumes nothing.
use Rattle.std.specs.Prelude.{Option, Some, None}
use Prim.Native.Nat.{ℕ, suc, ◌%◌, ◌≤◌, ◌<◌}
use native.Mathlib.Omega.{arith}
use mathlib.Core.Path.{◌≡◌, refl, sym, ap, ◌∙◌}
use mathlib.Core.Bool.{Bool, true, false, cond, ◌&&◌, ◌||◌, and-false, false≢true}
use mathlib.Core.List.{List, [], ◌∷◌, ◌++◌, append-nil}
use lib.ListN.{length, take, drop, length-append, length-drop, drop_of_length-le}
use lib.Seq.{take_all}
use lib.Dec.{eqb, ltb}
use borrow.Author.Tests.{ltb-true, ltb-false, lt-leb}
use Rattle.octets.proofs.Logic.{or_parts}
use Rattle.header.specs.declared.Side.TheVariants.{Guest, Host}
use Rattle.capture.specs.Lines.{start_of, starts_with, all_hex, is_spelling, SentPiece, line_of}
use Rattle.capture.proofs.LineLaws.{offered_bytes, line-short}
use Rattle.transcript.specs.Input.{Progress, LineStep, step_of, in_front, lines_of, totals_of, output_from, line_end, begins_line, next_of, hold_of}
use Rattle.transcript.proofs.BytesTaken.{lines-short}

-- ---- what a line prints: at most 117 bytes for each of the 2,048 that it can offer

pub prints-short : (p : Progress) (line : List ℕ) → length (step_of p (line_of line)).prints ≤ 239616
prints-short p line = go (line_of line) (line-short line)
  where
    go : (o : Option SentPiece) → length (offered_bytes o) ≤ 2048 → length (step_of p o).prints ≤ 239616
    go None h = omega arith
    go (Some o) h =
        omega (arith, lines-short (length o.bytes) o.from (record { session = p.session; totals = p.totals; lines = []; hold = hold_of o.from p }) o.bytes)

-- ---- where a line ends

pub end-within : (l : List ℕ) → line_end l ≤ length l
unfolding line_end
end-within [] = omega arith
end-within (b ∷ l) = go (eqb b 10) (end-within l)
  where
    go : (t : Bool) → line_end l ≤ length l → cond t 0 (suc (line_end l)) ≤ suc (length l)
    go true h = omega arith
    go false h = omega arith

module _ (bytes : List ℕ) (last : Bool) where
  by_next : (P : Option ℕ → Type 0) → (begins_line bytes last ≡ true → P (Some (line_end bytes))) → (begins_line bytes last ≡ false → P None) → P (next_of bytes last)
  by_next P y n = go (begins_line bytes last) refl
    where
      go : (b : Bool) → begins_line bytes last ≡ b → P (cond b (Some (line_end bytes)) None)
      go true e = y e
      go false e = n e

  -- a line that bytes begin with ends where their first newline stands, or with them
  pub next-is : {k : ℕ} → next_of bytes last ≡ Some k → (begins_line bytes last ≡ true) × (k ≡ line_end bytes)
  next-is {k} =
      by_next (λ x. x ≡ Some k → (begins_line bytes last ≡ true) × (k ≡ line_end bytes))
      (λ t e. let q : line_end bytes ≡ k = cc in (t, sym q))
      (λ t e. let z : ◌≡◌ {A = ℕ} 0 1 = cc in absurd (omega arith))

  pub next-within : {k : ℕ} → next_of bytes last ≡ Some k → k ≤ length bytes
  next-within e = omega (arith, (next-is e).1, end-within bytes)

  wait-is : next_of bytes last ≡ None → begins_line bytes last ≡ false
  wait-is =
      by_next (λ x. x ≡ None → begins_line bytes last ≡ false)
      (λ t e. let z : ◌≡◌ {A = ℕ} 0 1 = cc in absurd (omega arith))
      (λ t e. t)

  -- bytes that leave it open are no more than a good line has
  pub wait-few : next_of bytes last ≡ None → length bytes ≤ 4113
  wait-few e =
      let a = or_parts (ltb (line_end bytes) (length bytes) || ltb 4113 (length bytes)) (last && ltb 0 (length bytes)) (wait-is e) in
      ltb-false 4113 (length bytes) (or_parts (ltb (line_end bytes) (length bytes)) (ltb 4113 (length bytes)) a.0).1

  pub wait-none : last ≡ true → next_of bytes last ≡ None → bytes ≡ []
  wait-none t e =
      let a = or_parts (ltb (line_end bytes) (length bytes) || ltb 4113 (length bytes)) (last && ltb 0 (length bytes)) (wait-is e) in
      let z : ltb 0 (length bytes) ≡ false = rw t at a.1 in
      empty bytes (ltb-false 0 (length bytes) z)
    where
      empty : (l : List ℕ) → length l ≤ 0 → l ≡ []
      empty [] h = refl
      empty (b ∷ l) h = absurd (omega arith)

-- ---- lines with more behind them

-- bytes with a newline: the first line is theirs
pub newline-there : (bytes more : List ℕ) → line_end bytes < length bytes
    → lines_of (bytes ++ more) ≡ take (line_end bytes) bytes ∷ lines_of (drop (suc (line_end bytes)) bytes ++ more)
unfolding line_end lines_of in_front
newline-there [] more h = absurd (omega arith)
newline-there (b ∷ l) more h = go (eqb b 10) (newline-there l more) h
  where
    go : (t : Bool) → (line_end l < length l → lines_of (l ++ more) ≡ take (line_end l) l ∷ lines_of (drop (suc (line_end l)) l ++ more))
        → cond t 0 (suc (line_end l)) < suc (length l)
        → cond t ([] ∷ lines_of (l ++ more)) (in_front b (lines_of (l ++ more)))
        ≡ take (cond t 0 (suc (line_end l))) (b ∷ l) ∷ lines_of (drop (suc (cond t 0 (suc (line_end l)))) (b ∷ l) ++ more)
    go true r g = refl
    go false r g = rw (r (omega arith))

-- bytes without a newline are the front of a line
pub record Begins (bytes : List ℕ) (lines : List (List ℕ)) : Type 0 where
  pub further : List ℕ
  pub rest : List (List ℕ)
  pub is : lines ≡ (bytes ++ further) ∷ rest

front_of_lem : (b : ℕ) (lines : List (List ℕ)) → Begins (b ∷ []) (in_front b lines)
unfolding in_front
front_of_lem b [] = record { further = []; rest = []; is = refl }
front_of_lem b (line ∷ lines) = record { further = line; rest = lines; is = refl }

-- by induction over the bytes: each stands in front of the line that those behind it begin
pub newline-missing : (b : ℕ) (bytes more : List ℕ) → suc (length bytes) ≤ line_end (b ∷ bytes) → Begins (b ∷ bytes) (lines_of ((b ∷ bytes) ++ more))
unfolding line_end lines_of in_front
newline-missing b [] more h = go (eqb b 10) h
  where
    go : (t : Bool) → 1 ≤ cond t 0 1 → Begins (b ∷ []) (cond t ([] ∷ lines_of more) (in_front b (lines_of more)))
    go true g = absurd (omega arith)
    go false g = front_of_lem b (lines_of more)
newline-missing b (c ∷ l) more h = go (eqb b 10) (newline-missing c l more) h
  where
    go : (t : Bool) → (suc (length l) ≤ line_end (c ∷ l) → Begins (c ∷ l) (lines_of ((c ∷ l) ++ more)))
        → suc (suc (length l)) ≤ cond t 0 (suc (line_end (c ∷ l)))
        → Begins (b ∷ c ∷ l) (cond t ([] ∷ lines_of ((c ∷ l) ++ more)) (in_front b (lines_of ((c ∷ l) ++ more))))
    go true r g = absurd (omega arith)
    go false r g =
        let q = r (omega arith) in
        record { further = q.further; rest = q.rest; is = ap (in_front b) q.is }

-- the last bytes, without a newline, are the last line
pub last_line : (b : ℕ) (bytes : List ℕ) → suc (length bytes) ≤ line_end (b ∷ bytes) → lines_of (b ∷ bytes) ≡ (b ∷ bytes) ∷ []
unfolding line_end lines_of in_front
last_line b [] h = go (eqb b 10) h
  where
    go : (t : Bool) → 1 ≤ cond t 0 1 → cond t ([] ∷ []) ((b ∷ []) ∷ []) ≡ (b ∷ []) ∷ []
    go true g = absurd (omega arith)
    go false g = refl
last_line b (c ∷ l) h = go (eqb b 10) (last_line c l) h
  where
    go : (t : Bool) → (suc (length l) ≤ line_end (c ∷ l) → lines_of (c ∷ l) ≡ (c ∷ l) ∷ [])
        → suc (suc (length l)) ≤ cond t 0 (suc (line_end (c ∷ l)))
        → cond t ([] ∷ lines_of (c ∷ l)) (in_front b (lines_of (c ∷ l))) ≡ (b ∷ c ∷ l) ∷ []
    go true r g = absurd (omega arith)
    go false r g = ap (in_front b) (r (omega arith))

-- ---- a line of more than 4,113 bytes is bad, whatever they are

no-spelling : (s : List ℕ) → 4096 < length s → is_spelling s ≡ false
no-spelling s h = rw (lt-leb (length s) 4096 h) (and-false (all_hex s && eqb (length s % 2) 0))

pub long-bad : (line : List ℕ) → 4113 < length line → line_of line ≡ None
unfolding line_of
long-bad line h =
    rw (no-spelling (drop 17 line) (omega (arith, length-drop 17 line)), no-spelling (drop 16 line) (omega (arith, length-drop 16 line)))
    (go (starts_with (start_of Guest) line) (starts_with (start_of Host) line))
  where
    go : (a b : Bool) → ◌≡◌ {A = Option SentPiece} (cond a None (cond b None None)) None
    go true b = refl
    go false true = refl
    go false false = refl

-- ---- the input in parts

-- what is still to be printed after a line, where these lines are still to come
abbrev pub after : LineStep → List (List ℕ) → List ℕ
after g lines = g.prints ++ cond g.bad (totals_of g.next) (output_from g.next lines)

module _ (p : Progress) (more : List ℕ) where
  output-line : (line : List ℕ) (lines : List (List ℕ)) → output_from p (line ∷ lines) ≡ after (step_of p (line_of line)) lines
  unfolding output_from
  output-line line lines = refl

  -- after a bad line the rest is not looked at
  same-bad : (x y : List ℕ) (s t : List (List ℕ)) → line_of x ≡ None → line_of y ≡ None → after (step_of p (line_of x)) s ≡ after (step_of p (line_of y)) t
  same-bad x y s t ex ey = rw (ex, ey)

  too_long_lem : (bytes : List ℕ) → length bytes ≤ line_end bytes → 4113 < length bytes → (s : List (List ℕ))
      → output_from p (lines_of (bytes ++ more)) ≡ after (step_of p (line_of bytes)) s
  too_long_lem [] h g s = absurd (omega arith)
  too_long_lem (b ∷ l) h g s =
      let q = newline-missing b l more h in
      let x = (b ∷ l) ++ q.further in
      ap (output_from p) q.is ∙ output-line x q.rest
      ∙ same-bad x (b ∷ l) q.rest s (long-bad x (omega (arith, length-append (b ∷ l) q.further))) (long-bad (b ∷ l) g)

  at-the-end : (bytes : List ℕ) → length bytes ≤ line_end bytes → 0 < length bytes → output_from p (lines_of (bytes ++ [])) ≡ after (step_of p (line_of bytes)) []
  at-the-end [] h g = absurd (omega arith)
  at-the-end (b ∷ l) h g =
      ap (λ (x : List ℕ). output_from p (lines_of x)) (append-nil (b ∷ l)) ∙ ap (output_from p) (last_line b l h) ∙ output-line (b ∷ l) []

  -- Where unread bytes begin with a line, what is printed for all of the input, these bytes and more behind them, is what is printed for
  -- that line and then for what is behind its newline.
  pub first-line : (bytes : List ℕ) (last : Bool) {k : ℕ} → next_of bytes last ≡ Some k → (last ≡ true → more ≡ [])
      → output_from p (lines_of (bytes ++ more)) ≡ after (step_of p (line_of (take k bytes))) (lines_of (drop (suc k) bytes ++ more))
  unfolding lines_of
  first-line bytes last {k} e none-behind =
      rw (next-is bytes last e).1 (go (ltb (line_end bytes) (length bytes)) refl (ltb 4113 (length bytes)) refl last refl (ltb 0 (length bytes)) refl (next-is bytes last e).0)
    where
      go : (a : Bool) → ltb (line_end bytes) (length bytes) ≡ a → (b : Bool) → ltb 4113 (length bytes) ≡ b → (c : Bool) → last ≡ c → (d : Bool) → ltb 0 (length bytes) ≡ d
          → (a || b || (c && d)) ≡ true
          → output_from p (lines_of (bytes ++ more)) ≡ after (step_of p (line_of (take (line_end bytes) bytes))) (lines_of (drop (suc (line_end bytes)) bytes ++ more))
      go true ea b eb c ec d ed t = ap (output_from p) (newline-there bytes more (ltb-true _ _ ea)) ∙ output-line (take (line_end bytes) bytes) _
      go false ea true eb c ec d ed t = rw (take_all (line_end bytes) bytes (ltb-false _ _ ea)) (too_long_lem bytes (ltb-false _ _ ea) (ltb-true _ _ eb) _)
      go false ea false eb true ec true ed t =
          let n : length bytes ≤ line_end bytes = ltb-false _ _ ea in
          rw (take_all (line_end bytes) bytes n, none-behind ec, drop_of_length-le bytes {i = suc (line_end bytes)} (omega arith)) (at-the-end bytes n (ltb-true _ _ ed))
      go false ea false eb true ec false ed t = absurd (false≢true t)
      go false ea false eb false ec d ed t = absurd (false≢true t)

  -- At the end nothing is left but the totals.
  pub last-wait : (bytes : List ℕ) → next_of bytes true ≡ None → output_from p (lines_of bytes) ≡ totals_of p
  unfolding output_from lines_of
  last-wait bytes e = rw (wait-none bytes true refl e)
