-- `header::id_width` meets its contract: the branch is the one that `id_width` takes.
-- Assumes nothing.
use Rattle.header.specs.Link.{id_width}
use Rattle.header.proofs.id_width.Goals as goal

pub returns-then-kind-has_bit : goal.returns-then-kind-has_bit
unfolding id_width
returns-then-kind-has_bit c = rw (← c.shared_set.ensures, ← c.has_bit.ensures, c.if-kind-has_bit.true)

pub returns-else-kind-has_bit : goal.returns-else-kind-has_bit
unfolding id_width
returns-else-kind-has_bit c = rw (← c.shared_set.ensures, ← c.has_bit.ensures, c.if-kind-has_bit.false)
