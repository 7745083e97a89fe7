-- `report::run` meets its contract: the turns so far, and the state fits.
-- Assumes nothing.
use Rattle.std.proofs.Common.{add-one}
use Rattle.report.specs.Program.{memory, turn}
use Rattle.report.specs.Output.{steps-fit}
use Rattle.report.proofs.Buffers.{run-begins, begun-fits}
use Rattle.report.proofs.run.Goals as goal

pub loop-turn-init : goal.loop-turn-init
loop-turn-init c =
    let a = c.args in
    record {
      turns = run-begins c.begin-p.result a.guest.now a.host.now a.input.now a.out.now c.begin-p.ensures c.requires.0 c.requires.1;
      fits = begun-fits c.begin-p.result c.begin-p.ensures;
    }

pub loop-turn-preserved : goal.loop-turn-preserved
loop-turn-preserved c =
    let l = c.loop-turn in
    record {
      turns = rw add-one (turn {n = memory l.p l.guest l.host l.input l.out} l.invariant.turns c.if-p.false c.step.ensures);
      fits = steps-fit c.step.ensures l.invariant.fits;
    }
