-- `Watch::begin` meets its contract: of a watched row 0 is stored, and another is not changed.
-- Assumes nothing.
use Rattle.std.proofs.Common.{refl, rules}
use Rattle.watch.specs.Watch.{begun}
use Rattle.watch.proofs.Changed.{changed-here, changed-nowhere}
use Rattle.watch.proofs.Watch.begin.Goals as goal

pub returns-in-Some : goal.returns-in-Some
returns-in-Some c = changed-here begun _ _ _ c.in-Some.ensures.0 c.in-Some.ensures.1 (search rules) refl

pub returns-in_default : goal.returns-in_default
returns-in_default c = changed-nowhere begun _ _ (search rules)
