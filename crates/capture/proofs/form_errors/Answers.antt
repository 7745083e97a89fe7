-- `capture::form_errors` meets its contract: its parts stand behind one another, each where it is to be said, and are few enough to count.
-- Assumes nothing.
use Rattle.std.proofs.Common.{cond, [], ◌++◌, append-nil, ◌∙◌, rules}
use Rattle.capture.specs.Lines.{Adds}
use Rattle.capture.specs.Flaws.{cut_line, lost_line, flaw_line, error_lines}
use Rattle.capture.proofs.LineLaws.{errors-short}
use Rattle.capture.proofs.Spelling.{adds_then, adds_none, forms-few}
use Rattle.capture.proofs.form_errors.Goals as goal
use Rattle.capture.proofs.form_errors.Goals.{in-Some, in_default, then-cut, else-cut, then-lost, else-lost}

pub returns : goal.returns
unfolding error_lines flaw_line
returns c =
    let a = c.args in
    let s = c.new-said.ensures in
    let t = c.new-said.result in
    let flawed : Adds (flaw_line a.line a.flaw) t c.match-flaw.said
    = elim c.match-flaw.branch [
      | in-Some w ↦ rw (w.in-Some.is, w.said-is) w.add_flaw.ensures
      | in_default w ↦ rw (w.in_default.is, w.said-is) (adds_none s)
    ] in
    let cut : Adds (flaw_line a.line a.flaw ++ cond a.cut cut_line []) t c.if-cut.said
    = elim c.if-cut.branch [
      | then-cut w ↦ rw (w.if-cut.true, w.said-is) (adds_then flawed w.add.ensures)
      | else-cut w ↦ rw (w.if-cut.false, append-nil, w.said-is) flawed
    ] in
    let lost : Adds (flaw_line a.line a.flaw ++ cond a.cut cut_line [] ++ cond a.lost lost_line []) t c.if-lost.said
    = elim c.if-lost.branch [
      | then-lost w ↦ rw (w.if-lost.true, w.said-is) (adds_then cut w.add-then-lost.ensures)
      | else-lost w ↦ rw (w.if-lost.false, append-nil (flaw_line a.line a.flaw ++ cond a.cut cut_line []), w.said-is) cut
    ] in
    forms-few s (errors-short a.line a.flaw a.cut a.lost) lost (search (rules, lost.same ∙ s.same))
