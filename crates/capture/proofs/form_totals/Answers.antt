-- `capture::form_totals` meets its contract: its parts stand behind one another, and are few enough to count.
-- Assumes nothing.
use Rattle.std.proofs.Common.{◌≡◌, Bool, true, false, cond, refl, rules, ◌∙◌}
use mir.Val.{bool_byte}
use Rattle.capture.specs.Lines.{totals_line}
use Rattle.capture.proofs.LineLaws.{totals-short}
use Rattle.capture.proofs.Spelling.{adds_then, forms-all}
use Rattle.capture.proofs.form_totals.Goals as goal

-- a flag as a number
flag : (b : Bool) → bool_byte b ≡ cond b 1 0
flag true = refl
flag false = refl

pub returns : goal.returns
unfolding totals_line
returns c =
    let a = c.args in
    let s = c.new-line.ensures in
    let refused = adds_then c.add_field.ensures c.add_field-2.ensures in
    let stopped = adds_then refused (rw (flag a.stopped) at c.add_field-3.ensures) in
    let all = adds_then stopped c.add.ensures in
    forms-all s (totals-short a.passed a.refused a.stopped) all (search (rules, all.same ∙ s.same))
