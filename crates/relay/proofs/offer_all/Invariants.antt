-- `relay::offer_all` meets its contract: each turn is the next call.
-- Assumes nothing.
use Rattle.std.proofs.Common.{length}
use Rattle.relay.proofs.Pieces.{Offering}
use Rattle.relay.proofs.offer_all.Given as goal

abbrev pub invariant-loop-rest : goal.invariant-loop-rest
invariant-loop-rest l = Offering l.from l.initial.session l.initial.hold l.bytes l.hold l.session l.rest

abbrev pub decreases-loop-rest : goal.decreases-loop-rest
decreases-loop-rest l = length l.rest
