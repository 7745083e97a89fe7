-- `rules::endpoints` meets its contract: what its calls give is what the law of its kind has.
-- Assumes nothing.
use Rattle.rules.proofs.EachKind as law
use Rattle.rules.proofs.endpoints.Goals as goal

pub returns : goal.returns
returns c = λ from. rw (c.type_at.ensures, c.table_size.ensures, c.checked-last.ensures, c.checked.ensures, c.zero_id.ensures, c.has_bit.ensures, c.has_bit-four.ensures, c.part_of-rows.ensures) (law.endpoint_table_packet _ _ _ _ _)
