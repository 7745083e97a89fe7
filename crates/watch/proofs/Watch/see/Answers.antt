-- `Watch::see` meets its contract: of a watched row the next id is stored, and the gap and the break of another id than the expected one.
-- Assumes nothing.
use Rattle.std.proofs.Common.{rules, arith}
use Rattle.watch.specs.Watch.{seen}
use Rattle.watch.proofs.Changed.{one_more_is, seen-expected, seen-other, changed-here, changed-nowhere}
use Rattle.watch.proofs.Watch.see.Goals as goal

pub returns-then-gap-ne0 : goal.returns-then-gap-ne0
returns-then-gap-ne0 c =
    changed-here (seen _ _) _ _ _ c.in-Some.ensures.0 c.in-Some.ensures.1 (search rules) (seen-other _ _ _ c.distance-gap.ensures c.id_after-row.ensures c.if-gap-ne0.true (grind (arith, one_more_is)))

pub returns-else-gap-ne0 : goal.returns-else-gap-ne0
returns-else-gap-ne0 c =
    changed-here (seen _ _) _ _ _ c.in-Some.ensures.0 c.in-Some.ensures.1 (search rules) (seen-expected _ _ _ c.distance-gap.ensures c.id_after-row.ensures c.if-gap-ne0.false)

pub returns-in_default : goal.returns-in_default
returns-in_default c = changed-nowhere (seen _ _) _ _ (search rules)
