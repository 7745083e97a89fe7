-- `rules::buffered_bulk` meets its contract: what its calls give is what the law of its kind has.
-- Assumes nothing.
use Rattle.rules.proofs.EachKind as law
use Rattle.rules.proofs.buffered_bulk.Goals as goal

pub returns : goal.returns
returns c = λ from caps. rw (c.judged.ensures, c.in_at.ensures, c.part_of.ensures) (law.buffered-bulk _ _ _ _ _)
