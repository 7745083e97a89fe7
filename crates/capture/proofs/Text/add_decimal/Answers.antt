-- `capture::Text::add_decimal` meets its contract: the digits made and those still to come give what all of them give, and 20 places are enough.
-- Assumes nothing.
use borrow.Author.Rules.{rules}
use Rattle.capture.proofs.Spelling.{making-starts, making-goes-on}
use Rattle.capture.proofs.Text.add_decimal.Goals as goal

pub loop-n-init : goal.loop-n-init
loop-n-init c = making-starts c.args.x (search rules)

pub loop-n-preserved : goal.loop-n-preserved
loop-n-preserved c = making-goes-on c.loop-n.invariant c.loop-n-test.true
