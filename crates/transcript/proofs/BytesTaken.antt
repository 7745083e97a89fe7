-- What a call takes of its piece (`call-takes`, `used-within`, `used-some`), and how long the lines of a piece can be (`lines-short`).
-- By the ways of a call: one whose answer has a line has come to the end of a packet or of a header, which has more bytes than were held
-- (`more-less`, `more-head`), so that it takes some; any other uses up the rest. So as many calls as there are bytes are enough (`more-calls`). A
-- line has at most 117 bytes, and the rest is induction over the calls.
-- Assumes nothing.
use Prim.Native.Nat.{ℕ, zero, suc, ◌+◌, ◌*◌, ◌≤◌, ◌<◌}
use native.Mathlib.Omega.{arith}
use mathlib.Core.Path.{◌≡◌, refl, sym, ◌∙◌}
use mathlib.Core.Bool.{Bool, true, false, cond, ◌||◌, false≢true, true≢false}
use mathlib.Core.List.{List, [], ◌∷◌, ◌++◌}
use lib.ListN.{length, drop, length-append, length-drop}
use lib.Seq.{length-take-le}
use lib.Dec.{eqb, ltb}
use borrow.Author.Tests.{eqb-true}
use Rattle.header.specs.declared.Side.{Side}
use Rattle.header.specs.declared.Link.{Link}
use Rattle.session.specs.declared.Session.{Session}
use Rattle.session.specs.Session.{max_held, link_of, unfit}
use Rattle.frame.specs.Cut.{Cut, more, bad, whole}
use Rattle.wire.proofs.Told.{more-less, more-head}
use Rattle.wire.specs.Usbredir.{usbredir}
use Rattle.wire.proofs.Usbredir.{laws}
use Rattle.frame.specs.Frame.{cut_at, bytes_at}
use Rattle.gate.specs.Verdict.{held_of}
use Rattle.gate.specs.Offer.{held_bytes, is_waiting, held_whole, barred, Outcome, unmoved, by_cut, offer_of}
use Rattle.gate.specs.Ready.{Ready}
use Rattle.gate.proofs.Ready.{ready, held-few, whole_here, header-here}
use Rattle.capture.proofs.LineLaws.{answer-short}
use Rattle.transcript.specs.Piece.{gives_line, line_at, line_for, bytes_used, Report, with_call, rest_offered, report_by}
use Rattle.header.specs.Header.{hold_size}

-- ---- one call

-- a call takes no more than there is, and something where its answer has a line
pub record TakesSome (o : Outcome) (piece : List ℕ) : Type 0 where
  pub within : o.taken ≤ length piece
  pub some : gives_line o.number ≡ true → 0 < o.taken

-- 41, 43, 3 and 2 have no line
no_line : (a b c d : Bool) → eqb (cond a 41 (cond b 43 (cond c 3 (cond d 2 0)))) 0 ≡ false → gives_line (cond a 41 (cond b 43 (cond c 3 (cond d 2 0)))) ≡ false
no_line true b c d e = refl
no_line false true c d e = refl
no_line false false true d e = refl
no_line false false false true e = refl
no_line false false false false e = absurd (true≢false e)

module _ (from : Side) (s : Session) (hold piece : List ℕ) where
  barred-no-line : eqb (barred from s hold) 0 ≡ false → gives_line (barred from s hold) ≡ false
  unfolding barred
  barred-no-line e = no_line (ltb (length hold) hold_size) (unfit s || held_whole from s hold) s.head.stopped (is_waiting (link_of from s)) e

  module _ (r : Ready from s hold) where
    few : held_of from s ≤ max_held
    few = held-few from s r.fit

    held : length (held_bytes from s hold) ≡ held_of from s
    held = length-take-le (held_of from s) hold (omega (arith, r.room, few))

    cut-takes : (c : Cut) → cut_at (link_of from s) (held_bytes from s hold ++ piece) ≡ c → TakesSome (by_cut from s hold piece c) piece
    cut-takes more e = record { within = omega arith; some = λ g. absurd (false≢true g) }
    cut-takes (bad n) e =
        let w = header-here (link_of from s) hold piece (held_of from s) r.room few r.begun n e in
        let l = more-head usbredir laws (link_of from s) (held_bytes from s hold) piece r.begun n e in
        record { within = omega (arith, w.there); some = λ g. omega (arith, l, held) }
    cut-takes (whole n) e =
        let w = whole_here (link_of from s) hold piece (held_of from s) r.room few r.begun n e in
        let l = more-less usbredir laws (link_of from s) (held_bytes from s hold) piece r.begun n e in
        record { within = omega (arith, w.there); some = λ g. omega (arith, l, held) }

  pub call-takes : TakesSome (offer_of from s hold piece) piece
  unfolding offer_of
  call-takes = go (eqb (barred from s hold) 0) refl
    where
      go : (b : Bool) → eqb (barred from s hold) 0 ≡ b
          → TakesSome (cond b (by_cut from s hold piece (cut_at (link_of from s) (held_bytes from s hold ++ piece))) (unmoved s hold (barred from s hold))) piece
      go true e = cut-takes (ready from s hold (eqb-true (barred from s hold) 0 e)) (cut_at (link_of from s) (held_bytes from s hold ++ piece)) refl
      go false e = record { within = omega arith; some = λ g. absurd (false≢true (sym (barred-no-line e) ∙ g)) }

-- so a call uses up no more than the rest, and some of a rest that is not empty
pub used-within : (o : Outcome) (rest : List ℕ) → TakesSome o rest → bytes_used o rest ≤ length rest
used-within o rest t = go (gives_line o.number)
  where
    go : (b : Bool) → cond b o.taken (length rest) ≤ length rest
    go true = t.within
    go false = omega arith

pub used-some : (o : Outcome) (rest : List ℕ) → TakesSome o rest → 0 < length rest → 0 < bytes_used o rest
used-some o rest t h = go (gives_line o.number) refl
  where
    go : (b : Bool) → gives_line o.number ≡ b → 0 < cond b o.taken (length rest)
    go true e = t.some e
    go false e = h

-- ---- a piece

pub report-empty : (n : ℕ) (from : Side) (r : Report) → report_by n from r [] ≡ r
unfolding report_by
report-empty zero from r = refl
report-empty (suc n) from r = refl

pub report-more : (n : ℕ) (from : Side) (r : Report) (rest : List ℕ) → 0 < length rest
    → report_by (suc n) from r rest ≡ report_by n from (with_call from r rest (rest_offered from r rest)) (drop (bytes_used (rest_offered from r rest) rest) rest)
unfolding report_by
report-more n from r [] h = absurd (omega arith)
report-more n from r (b ∷ rest) h = refl

-- calls for which nothing is left change nothing
more-calls : (n m : ℕ) (from : Side) (r : Report) (rest : List ℕ) → length rest ≤ n → length rest ≤ m → report_by n from r rest ≡ report_by m from r rest
unfolding report_by
more-calls zero m from r [] h k = sym (report-empty m from r)
more-calls zero m from r (b ∷ rest) h k = absurd (omega arith)
more-calls (suc n) zero from r [] h k = refl
more-calls (suc n) zero from r (b ∷ rest) h k = absurd (omega arith)
more-calls (suc n) (suc m) from r [] h k = refl
more-calls (suc n) (suc m) from r (b ∷ rest) h k =
    let o = rest_offered from r (b ∷ rest) in
    let l = length-drop (bytes_used o (b ∷ rest)) (b ∷ rest) in
    let u = used-some o (b ∷ rest) (call-takes from r.session r.hold (b ∷ rest)) (omega arith) in
    more-calls n m from (with_call from r (b ∷ rest) o) (drop (bytes_used o (b ∷ rest)) (b ∷ rest)) (omega (arith, l, u)) (omega (arith, l, u))

pub line-short : (from : Side) (l : Link) (o : Outcome) (rest : List ℕ) → length (line_for from l o rest) ≤ 117
line-short from l o rest = go (gives_line o.number)
  where
    go : (b : Bool) → length (cond b (line_at from l o.number (bytes_at o.location o.size rest o.hold)) []) ≤ 117
    go true = answer-short from _ _ _ _
    go false = omega arith

-- a piece's lines have at most 117 bytes for each call, and there are no more calls than bytes
pub lines-short : (n : ℕ) (from : Side) (r : Report) (rest : List ℕ) → length (report_by n from r rest).lines ≤ length r.lines + 117 * n
unfolding report_by
lines-short zero from r rest = omega arith
lines-short (suc n) from r [] = omega arith
lines-short (suc n) from r (b ∷ rest) =
    let o = rest_offered from r (b ∷ rest) in
    let l = line_for from (link_of from r.session) o (b ∷ rest) in
    omega (arith, lines-short n from (with_call from r (b ∷ rest) o) (drop (bytes_used o (b ∷ rest)) (b ∷ rest)), length-append r.lines l, line-short from (link_of from r.session) o (b ∷ rest))
