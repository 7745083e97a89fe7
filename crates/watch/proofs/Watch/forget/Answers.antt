-- `Watch::forget` meets its contract: a turn of its loop changes one row more, and after the last all are changed.
-- Assumes nothing.
use Rattle.std.proofs.Common.{ℕ, refl, rules}
use Rattle.scan.specs.Loop.{upto-none}
use Rattle.scan.proofs.Searches.{upto_step}
use Rattle.watch.specs.Watch.{start_row, begun}
use Rattle.watch.proofs.Changed.{all-begun}
use Rattle.watch.proofs.Watch.forget.Goals as goal

pub loop-row-init : goal.loop-row-init
loop-row-init c = upto-none (λ (k : ℕ). begun) _

pub loop-row-preserved : goal.loop-row-preserved
loop-row-preserved c = upto_step (λ (k : ℕ). begun) _ _ _ start_row _ (search rules) c.loop-row.invariant refl

pub returns : goal.returns
returns c = all-begun c.args.self.now c.loop-row.row-index c.loop-row.invariant (search rules)
