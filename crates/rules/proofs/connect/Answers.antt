-- `rules::connect` meets its contract: what its calls give is what the law of its kind has.
-- Assumes nothing.
use Rattle.rules.proofs.EachKind as law
use Rattle.rules.proofs.connect.Goals as goal

pub returns : goal.returns
returns c = λ from body. rw (c.checked.ensures, c.checked-last.ensures, c.zero_id.ensures, c.has_bit-shared.ensures, c.is_some-given.ensures) (law.connect _ _ _ _ _)
