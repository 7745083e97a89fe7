-- `transcript::report_piece` meets its contract: the calls still to come, over what there is so far, give what all of them give.
-- Assumes nothing.
use lib.ListN.{length}
use Rattle.transcript.proofs.CallLines.{Reporting}
use Rattle.transcript.proofs.report_piece.Given as goal

abbrev pub invariant-loop-rest : goal.invariant-loop-rest
invariant-loop-rest l = Reporting l.from l.initial.r l.initial.hold l.piece l.initial.out l.hold l.out l.r l.rest

abbrev pub decreases-loop-rest : goal.decreases-loop-rest
decreases-loop-rest l = length l.rest
