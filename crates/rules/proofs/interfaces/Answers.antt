-- `rules::interfaces` meets its contract: what its calls give is what the law of its kind has.
-- Assumes nothing.
use Rattle.rules.proofs.EachKind as law
use Rattle.rules.proofs.interfaces.Goals as goal

pub returns : goal.returns
returns c = λ from caps. rw (c.judged.ensures, c.checked.ensures, c.zero_id.ensures, c.part_of.ensures) (law.interface-table _ _ _ _ _)
