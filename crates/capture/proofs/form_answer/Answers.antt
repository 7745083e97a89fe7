-- `capture::form_answer` meets its contract: its parts stand behind one another, and are few enough to count.
-- Assumes nothing.
use Rattle.std.proofs.Common.{rules, ◌∙◌}
use Rattle.capture.specs.Lines.{answer_line}
use Rattle.capture.proofs.LineLaws.{answer-short}
use Rattle.capture.proofs.Spelling.{adds_then, forms-all}
use Rattle.capture.proofs.form_answer.Goals as goal

pub returns : goal.returns
unfolding answer_line
returns c =
    let a = c.args in
    let s = c.new-line.ensures in
    let kind = adds_then c.add_side.ensures c.add_field.ensures in
    let long = adds_then kind c.add_field-2.ensures in
    let id = adds_then long c.add_field-3.ensures in
    let answer = adds_then id c.add_field-4.ensures in
    let all = adds_then answer c.add.ensures in
    forms-all s (answer-short a.from a.kind a.length a.id a.answer) all (search (rules, all.same ∙ s.same))
