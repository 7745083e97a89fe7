-- Where a line ends (`end-is`), what a piece does with both buffers (`from-guest`,
-- `from-host`), and what an input line adds to a report (`line-bad`, `line-good`).
-- The library's word for the first place computes as `line_end` does. What `decode_line` told is what the line is (`told-bad`, `told-piece` of
-- `capture`), and by that `step_of` computes; where nothing is offered, there is a flaw (`flawed`); a piece moves its sender's buffer alone.
-- Assumes nothing.
use Rattle.std.specs.Prelude.{Some, None, Result, Ok, Err}
use Rattle.std.specs.Result.{result_err}
use Rattle.std.specs.List.{position, position_or_len}
use Rattle.std.specs.Option.{unwrap_or}
use Prim.Native.Nat.{ℕ, suc, ◌+◌, ◌≤◌}
use native.Mathlib.Omega.{arith}
use mathlib.Core.Path.{◌≡◌, refl, sym, ap, ◌∙◌}
use mathlib.Core.Bool.{Bool, true, false, cond, not}
use mathlib.Core.List.{List, [], ◌∷◌}
use lib.ListN.{length}
use lib.Seq.{slice}
use lib.Dec.{eqb, ltb}
use borrow.Author.Tests.{ltb-false}
use Rattle.header.specs.declared.Side.{Side}
use Rattle.header.specs.declared.Side.TheVariants.{Guest, Host}
use Rattle.capture.specs.declared.Flaw.{Flaw}
use Rattle.capture.specs.declared.Piece.{Piece}
use Rattle.capture.specs.Lines.{line_of, bad_line, Decodes, Forms}
use Rattle.capture.specs.Flaws.{flaw_of}
use Rattle.capture.proofs.LineLaws.{told-bad, told-piece}
use Rattle.transcript.specs.declared.Reported.{Reported}
use Rattle.transcript.specs.Piece.{report_of, LaysReport}
use Rattle.transcript.proofs.Parts.{end-within}
use Rattle.transcript.specs.Input.{Progress, step_of, line_end, PieceReports, LineReports}

-- ---- where a line ends

-- as the library finds it
end_found : (l : List ℕ) → position_or_len (λ b. eqb b 10) l ≡ line_end l
unfolding line_end
end_found [] = refl
end_found (b ∷ l) = go (eqb b 10) (end_found l)
  where
    go : (t : Bool) → position_or_len (λ b. eqb b 10) l ≡ line_end l
        → cond (not t) (1 + position_or_len (λ b. eqb b 10) l) 0 ≡ cond t 0 (suc (line_end l))
    go true e = refl
    go false e = omega arith

pub end-is : (l : List ℕ) → unwrap_or (position (λ b. eqb b 10) l) (length l) ≡ line_end l
end-is l = rw end_found (go (ltb (line_end l) (length l)) refl)
  where
    go : (t : Bool) → ltb (line_end l) (length l) ≡ t → unwrap_or (cond t (Some (line_end l)) None) (length l) ≡ line_end l
    go true e = refl
    go false e = omega (arith, ltb-false (line_end l) (length l) e, end-within l)

-- ---- a piece, with both buffers

module _ (p : Progress) (piece out : List ℕ) {from : Side} {r : Reported} {hold out-after : List ℕ} where
  pub from-guest : from ≡ Guest → LaysReport (report_of Guest p.session p.totals p.guest piece) out r hold out-after
      → PieceReports from p piece out r hold p.host out-after
  from-guest e q = rw e (record { next = rw (q.session, q.totals, q.hold); size = q.size; output = q.output })

  pub from-host : from ≡ Host → LaysReport (report_of Host p.session p.totals p.host piece) out r hold out-after
      → PieceReports from p piece out r p.guest hold out-after
  from-host e q = rw e (record { next = rw (q.session, q.totals, q.hold); size = q.size; output = q.output })

-- ---- a line

module _ (p : Progress) (line out : List ℕ) {bytes after : List ℕ} {l : Result Piece Flaw} (d : Decodes (line_of line) (flaw_of line) bytes l after) where
  pub line-bad : {g : Flaw} {n : ℕ} {out-after : List ℕ} → l ≡ Err g → Forms bad_line 0 out n out-after
      → LineReports (step_of p (line_of line)) (flaw_of line) out (record { reported = record { session = p.session; totals = p.totals; size = n }; flaw = Some g }) p.guest p.host out-after
  line-bad {g} e q =
      let none-offered = told-bad line d e in
      let why : Some g ≡ flaw_of line = sym (ap result_err e) ∙ d.why in
      rw none-offered (record { next = refl; size = omega (arith, q.size); why = why; bad = refl; output = q.output })

  pub line-good : {t : Piece} {piece guest host out-after : List ℕ} {r : Reported} → 2048 ≤ length bytes → l ≡ Ok t
      → piece ≡ slice 0 t.size after
      → PieceReports t.from p piece out r guest host out-after
      → LineReports (step_of p (line_of line)) (flaw_of line) out (record { reported = r; flaw = None }) guest host out-after
  line-good room e ep q =
      let t = told-piece line d e room in
      let v = rw ep at q in
      rw t.0 (record { next = v.next; size = v.size; why = sym (ap result_err e) ∙ d.why; bad = refl; output = v.output })
