-- `header::check_header` meets its contract: each branch is the one that `header_number` takes.
-- Assumes nothing.
use borrow.Author.Rules.{rules}
use Rattle.header.specs.Header.{header_number}
use Rattle.header.proofs.check_header.Goals as goal

pub returns-then-is_long : goal.returns-then-is_long
unfolding header_number
returns-then-is_long c = search rules

pub returns-then-kind-eq0 : goal.returns-then-kind-eq0
unfolding header_number
returns-then-kind-eq0 c = search rules

pub returns-then-kind-ne0 : goal.returns-then-kind-ne0
unfolding header_number
returns-then-kind-ne0 c = search rules

pub returns-else-kind-eq0 : goal.returns-else-kind-eq0
unfolding header_number
returns-else-kind-eq0 c = search rules

pub returns-else-kind-ne0 : goal.returns-else-kind-ne0
unfolding header_number
returns-else-kind-ne0 c = search rules
