-- `gate::call` meets its contract: the decision, carried out, is the call.
-- Assumes nothing.
use Rattle.gate.proofs.Outcomes.{carried}
use Rattle.gate.proofs.call.Goals as goal

pub returns : goal.returns
returns c = let a = c.args in carried a.from a.s.now a.hold.now a.piece.now _ c.decide-d.result c.decide-d.ensures c.carry_out.ensures
