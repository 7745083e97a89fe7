-- The bytes of a call's record (`answer-length`, `answer-bytes`), bytes laid behind others (`behind`), and a part that is
-- lent and laid back (`laid-back`).
-- The code's sums wrap at 2 ^ 64, which their four low bytes do not show (`low-bytes`).
-- Assumes nothing.
use Rattle.std.specs.Prelude.{Some, None}
use Rattle.std.proofs.Common.{◌≡◌, ℕ, ◌+◌, ◌-◌, ◌*◌, ◌/◌, ◌%◌, ◌^◌, ◌≤◌, List, ◌++◌, length, take, drop, sym, refl, ap, ◌∙◌, ap₂, append_assoc, arith}
use lib.Seq.{sets, sets-eq}
use borrow.Rule.Slice.PartMut.{mid_of, put_mid, mid_len, Post-is}
use Rattle.octets.specs.Little.{bytes_of}
use Rattle.octets.proofs.Integers.{sets-append}
use Rattle.header.specs.declared.Link.{Link}
use Rattle.header.specs.Link.{shared_set}
use Rattle.packet.specs.declared.Part.{Part}
use Rattle.packet.specs.Packet.{rest_of}
use Rattle.packet.proofs.Same.{shown-same}
use Rattle.gate.specs.Verdict.{Handed}
use Rattle.gate.specs.Verdict.{handed_as}
use Rattle.gate.specs.declared.Answer.{Answer}
use Rattle.gate.specs.declared.Offered.{Offered}
use Rattle.frame.specs.Frame.{bytes_at}
use Rattle.gate.specs.Offer.{outcome}
use Rattle.test_drive.specs.Drive.{location_number, start_of, end_of, id_handed, record_bytes, record_of}
use Rattle.test_drive.specs.ScriptSteps.{span_of, answer_bytes}

-- ---- a part that is lent and comes back, as long as it was, is laid where it stood

module _ (l ys : List ℕ) (a e : ℕ) (up : a ≤ e) (within : e ≤ length l) (kept : length ys ≡ length (mid_of a (e - a) l)) where
  as_long : length ys ≡ e - a
  as_long = kept ∙ mid_len a e l within

  pub laid-back : put_mid a (e - a) l ys ≡ sets l a ys
  laid-back =
      let q : a + length ys ≡ e = omega (arith, as_long) in
      ap (λ (z : List ℕ). take a l ++ (ys ++ z)) (Post-is a e l up ∙ ap (λ (i : ℕ). drop i l) (sym q))
      ∙ sym (append_assoc (take a l) ys (drop (a + length ys) l))
      ∙ sym (sets-eq ys l a (omega arith))

-- ---- a record

-- bytes laid behind other bytes are laid with them
pub behind : (l : List ℕ) {l' l'' : List ℕ} (at n m : ℕ) (xs ys : List ℕ) → length xs ≡ n → m ≡ at + n → l' ≡ sets l at xs → l'' ≡ sets l' m ys → l'' ≡ sets l at (xs ++ ys)
behind l at n m xs ys e k a b = b ∙ rw (a, k, ← e) (sym (sets-append l at xs ys))

record-length : (number location taken size start end id : ℕ) → length (record_bytes number location taken size start end id) ≡ 26
unfolding record_bytes
record-length number location taken size start end id = refl

pub answer-length : (a : Answer) → length (answer_bytes a) ≡ 26
answer-length a = record-length a.number (location_number a.location) a.taken a.size (span_of a.handed).start (span_of a.handed).end (span_of a.handed).id

-- a sum that wraps has the low bytes that it would have had
low_byte : (x y q : ℕ) → x ≡ y + 256 * q → y % 256 ≡ x % 256
low_byte x y q h = omega arith

low-bytes : (x y q : ℕ) → x ≡ y + 2 ^ 64 * q → bytes_of 4 y ≡ bytes_of 4 x
low-bytes x y q h =
    let h₁ : x / 256 ≡ y / 256 + 2 ^ 56 * q = omega arith in
    let h₂ : x / 256 / 256 ≡ y / 256 / 256 + 2 ^ 48 * q = omega arith in
    let h₃ : x / 256 / 256 / 256 ≡ y / 256 / 256 / 256 + 2 ^ 40 * q = omega arith in
    rw (low_byte x y (2 ^ 56 * q) (omega arith), low_byte (x / 256) (y / 256) (2 ^ 48 * q) (omega arith), low_byte (x / 256 / 256) (y / 256 / 256) (2 ^ 40 * q) (omega arith), low_byte (x / 256 / 256 / 256) (y / 256 / 256 / 256) (2 ^ 32 * q) (omega arith))

low_sum : (x : ℕ) → bytes_of 4 (x % 2 ^ 64) ≡ bytes_of 4 x
low_sum x = low-bytes x (x % 2 ^ 64) (x / 2 ^ 64) (omega arith)

module _ (number location taken size : ℕ) where
  low-record : (start end id : ℕ) → record_bytes number location taken size (start % 2 ^ 64) (end % 2 ^ 64) id ≡ record_bytes number location taken size start end id
  unfolding record_bytes
  low-record start end id =
      ap₂ (λ (s e : List ℕ). bytes_of 1 number ++ bytes_of 1 location ++ bytes_of 4 taken ++ bytes_of 4 size ++ s ++ e ++ bytes_of 8 id) (low_sum start) (low_sum end)

  -- what the code hands out has the bytes of what it stands for
  handed-bytes : (l : Link) (bytes : List ℕ) (h : Handed) → record_bytes number location taken size (span_of h).start (span_of h).end (span_of h).id ≡ record_bytes number location taken size (start_of (handed_as l bytes h)) (end_of (handed_as l bytes h)) (id_handed (handed_as l bytes h))
  handed-bytes l bytes None = refl
  handed-bytes l bytes (Some (h, p)) =
      low-record (h.size + (rest_of p).start) (h.size + (rest_of p).end) h.id
      ∙ ap (λ (q : Part). record_bytes number location taken size (h.size + q.start) (h.size + q.end) h.id) (sym (shown-same (shared_set l) p).1)

pub answer-bytes : (l : Link) (r : Offered) (piece hold : List ℕ) → answer_bytes r.answer ≡ record_of (outcome l r piece hold)
answer-bytes l r piece hold = handed-bytes _ _ _ _ l (bytes_at r.answer.location r.answer.size piece hold) r.answer.handed
