-- `rules::hello` meets its contract: what its calls give is what the law of its kind has.
-- Assumes nothing.
use Rattle.rules.proofs.EachKind as law
use Rattle.rules.proofs.hello.Goals as goal

pub returns : goal.returns
returns c = λ from caps. rw (c.offers_streams_alone.ensures, c.checked.ensures, c.zero_id.ensures, c.zero_at.ensures.0, c.part_of-words.ensures, c.part_of-version.ensures) (law.hello _ _ _ _ _)
