-- `rules::bulk` meets its contract: what its calls give is what the law of its kind has.
-- Assumes nothing.
use Rattle.rules.proofs.EachKind as law
use Rattle.rules.proofs.bulk.Goals as goal

pub returns : goal.returns
returns c = rw (c.endpoint_at.ensures, c.onward_data.ensures, c.part_of.ensures, c.has_bit-2.ensures, c.checked-last.ensures, c.has_bit.ensures) (law.bulk _ _ _ _ _)
