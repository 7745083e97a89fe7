-- `capture::Text::add` meets its contract: a place past the largest number is past the output's end too.
-- Assumes nothing.
use Rattle.std.proofs.Common.{◌+◌, ◌≤◌, length, refl, arith, ◌∙◌}
use Rattle.octets.specs.Saturated.{largest}
use Rattle.capture.proofs.Spelling.{sets-cut}
use Rattle.capture.proofs.Text.add.Goals as goal

pub returns : goal.returns
returns c =
    let t = c.args.self.now in
    let h : length t.out.now ≤ largest = omega arith in
    let p = c.saturating_add-end in
    record {
      same = refl;
      start = refl;
      size = c.saturating_add-self.ensures;
      output = c.lay.ensures ∙ sets-cut t.out.now c.args.text.now p.result (t.at + t.size) largest h (omega (arith, p.ensures));
      few = h;
    }
