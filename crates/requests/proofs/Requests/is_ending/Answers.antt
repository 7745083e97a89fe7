-- `Requests::is_ending` meets its contract: what `ends` says of a place is what the columns say (`ends-is`).
-- Assumes nothing.
use Rattle.std.proofs.Common.{sym}
use Rattle.requests.proofs.Loops.{ends-is}
use Rattle.requests.proofs.Requests.is_ending.Goals as goal

pub returns : goal.returns
returns c = rw (c.is_live.ensures, c.is_data.ensures, c.touches.ensures) (sym (ends-is c.args.rows.now c.args.s c.args.self.now c.args.i))
