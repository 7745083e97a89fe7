-- `rules::iso` meets its contract: what its calls give is what the law of its kind has.
-- Assumes nothing.
use Rattle.rules.proofs.EachKind as law
use Rattle.rules.proofs.iso.Goals as goal

pub returns : goal.returns
returns c = λ caps. rw (c.judged.ensures, c.checked.ensures, c.part_of.ensures, c.is_onward.ensures, c.is_address.ensures) (law.iso _ _ _ _ _)
