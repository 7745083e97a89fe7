-- The record of a call, laid by its seven numbers (`answer-laid`) in a part of the output that is lent (`record-back`).
-- Seven numbers, each laid where the one before it ends, are one run of stores (`behind`).
-- Assumes nothing.
use Rattle.std.proofs.Common.{◌≡◌, ℕ, ◌+◌, ◌-◌, ◌≤◌, List, ◌++◌, length, sym, refl, ap, ◌∙◌, append-nil, arith, drop_of_length-le}
use lib.Seq.{sets, sets-eq}
use borrow.Rule.Slice.PartMut.{mid_of, put_mid, mid_len}
use Rattle.octets.specs.Little.{bytes_of}
use Rattle.gate.specs.declared.Answer.{Answer}
use Rattle.test_drive.specs.declared.Span.{Span}
use Rattle.test_drive.specs.Drive.{location_number, record_bytes}
use Rattle.test_drive.specs.ScriptSteps.{span_of, answer_bytes}
use Rattle.test_drive.proofs.RecordBytes.{laid-back, behind, answer-length}

-- seven numbers, each laid behind the one before it
module _ (l : List ℕ) {l₁ l₂ l₃ l₄ l₅ l₆ l₇ : List ℕ} where
  record-laid : (number location taken size start end id : ℕ) → l₁ ≡ sets l 0 (bytes_of 1 number)
      → l₂ ≡ sets l₁ 1 (bytes_of 1 location)
      → l₃ ≡ sets l₂ 2 (bytes_of 4 taken)
      → l₄ ≡ sets l₃ 6 (bytes_of 4 size)
      → l₅ ≡ sets l₄ 10 (bytes_of 4 start)
      → l₆ ≡ sets l₅ 14 (bytes_of 4 end)
      → l₇ ≡ sets l₆ 18 (bytes_of 8 id)
      → l₇ ≡ sets l 0 (record_bytes number location taken size start end id)
  unfolding record_bytes
  record-laid number location taken size start end id e₁ e₂ e₃ e₄ e₅ e₆ e₇ =
      behind l 0 1 1 (bytes_of 1 number) (bytes_of 1 location ++ bytes_of 4 taken ++ bytes_of 4 size ++ bytes_of 4 start ++ bytes_of 4 end ++ bytes_of 8 id) refl refl e₁
      (behind l₁ 1 1 2 (bytes_of 1 location) (bytes_of 4 taken ++ bytes_of 4 size ++ bytes_of 4 start ++ bytes_of 4 end ++ bytes_of 8 id) refl refl e₂
      (behind l₂ 2 4 6 (bytes_of 4 taken) (bytes_of 4 size ++ bytes_of 4 start ++ bytes_of 4 end ++ bytes_of 8 id) refl refl e₃
      (behind l₃ 6 4 10 (bytes_of 4 size) (bytes_of 4 start ++ bytes_of 4 end ++ bytes_of 8 id) refl refl e₄
      (behind l₄ 10 4 14 (bytes_of 4 start) (bytes_of 4 end ++ bytes_of 8 id) refl refl e₅
      (behind l₅ 14 4 18 (bytes_of 4 end) (bytes_of 8 id) refl refl e₆ e₇)))))

  pub answer-laid : (a : Answer) {location : ℕ} {w : Span} → location ≡ location_number a.location
      → w ≡ span_of a.handed
      → l₁ ≡ sets l 0 (bytes_of 1 a.number)
      → l₂ ≡ sets l₁ 1 (bytes_of 1 location)
      → l₃ ≡ sets l₂ 2 (bytes_of 4 a.taken)
      → l₄ ≡ sets l₃ 6 (bytes_of 4 a.size)
      → l₅ ≡ sets l₄ 10 (bytes_of 4 w.start)
      → l₆ ≡ sets l₅ 14 (bytes_of 4 w.end)
      → l₇ ≡ sets l₆ 18 (bytes_of 8 w.id)
      → l₇ ≡ sets l 0 (answer_bytes a)
  answer-laid a {location} {w} p d e₁ e₂ e₃ e₄ e₅ e₆ e₇ =
      rw (← p, ← d) (record-laid a.number location a.taken a.size w.start w.end w.id e₁ e₂ e₃ e₄ e₅ e₆ e₇)

-- a list that is stored to whole
all_set : (l xs : List ℕ) → length l ≡ length xs → sets l 0 xs ≡ xs
all_set l xs e =
    sets-eq xs l 0 (omega arith) ∙ ap (λ (z : List ℕ). xs ++ z) (drop_of_length-le l {i = 0 + length xs} (omega arith)) ∙ append-nil xs

-- a record laid in a part of its size is laid where the part stands
pub record-back : (l : List ℕ) {r : List ℕ} (at : ℕ) (a : Answer) → at + 26 ≤ length l → r ≡ sets (mid_of at (at + 26 - at) l) 0 (answer_bytes a)
    → put_mid at (at + 26 - at) l r ≡ sets l at (answer_bytes a)
record-back l at a h e =
    let n : length (answer_bytes a) ≡ length (mid_of at (at + 26 - at) l) = omega (arith, mid_len at (at + 26) l h, answer-length a) in
    ap (put_mid at (at + 26 - at) l) (e ∙ all_set (mid_of at (at + 26 - at) l) (answer_bytes a) (sym n)) ∙ laid-back l (answer_bytes a) at (at + 26) (omega arith) h n
