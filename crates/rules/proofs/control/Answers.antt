-- `rules::control` meets its contract: what its calls give is what the law of its kind has.
-- Assumes nothing.
use Rattle.rules.proofs.EachKind as law
use Rattle.rules.proofs.control.Goals as goal

pub returns : goal.returns
returns c = λ caps. rw (c.judged.ensures, c.endpoint_at.ensures, c.onward_data.ensures, c.part_of.ensures, c.checked-last.ensures) (law.control _ _ _ _ _)
