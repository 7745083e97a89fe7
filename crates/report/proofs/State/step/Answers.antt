-- `report::State::step` meets its contract: a line lies within the unread bytes.
-- Assumes nothing.
use Rattle.std.proofs.Common.{◌-◌, arith, refl, sym, ◌∙◌}
use Rattle.report.specs.Program.{step_line}
use Rattle.report.proofs.Buffers.{line-within}
use Rattle.report.proofs.State.step.Goals as goal

pub print_line-requires : goal.print_line-requires
print_line-requires c =
    let p = c.args.self.now in
    let h = line-within c.args.input.now p.start (p.end - p.start) c.in-Some.k p.last (sym c.next_line.ensures ∙ c.in-Some.is) in
    (c.requires.0, c.requires.1, c.requires.2, omega (arith, c.requires.0.order, h))

pub returns-in-Some : goal.returns-in-Some
returns-in-Some c = step_line (sym c.next_line.ensures ∙ c.in-Some.is) c.print_line.ensures refl
