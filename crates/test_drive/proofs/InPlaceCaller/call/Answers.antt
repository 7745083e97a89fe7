-- A call that is decided and then carried out comes to the call's outcome.
-- Assumes nothing.
use Rattle.gate.proofs.Outcomes.{carried}
use Rattle.test_drive.proofs.InPlaceCaller.call.Goals as goal

pub returns : goal.returns
returns c = let a = c.args in carried a.from a.s.now a.hold.now a.piece.now _ c.decide-d.result c.decide-d.ensures c.carry_out.ensures
