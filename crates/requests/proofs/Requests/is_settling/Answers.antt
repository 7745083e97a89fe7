-- `Requests::is_settling` meets its contract: no place below i is live and has a kind that sets (`search-hit`,
-- `search-none`).
-- Assumes nothing.
use Rattle.std.specs.Prelude.{is_some}
use mathlib.Core.Path.{ap}
use native.Mathlib.Omega.{arith}
use Rattle.requests.proofs.Loops.{settling-is, search-hit, search-none}
use Rattle.requests.proofs.Requests.is_settling.Goals as goal

pub returns-then-self-i : goal.returns-then-self-i
returns-then-self-i c =
    let t = c.args.self.now in
    let k = c.loop-i in
    ap is_some (search-hit t _ _ _ (settling-is t _ c.bound-n.ensures.0) k.i k.invariant (omega arith) (omega arith) c.if-self-i.true)

pub returns : goal.returns
returns c =
    let t = c.args.self.now in
    let k = c.loop-i in
    ap is_some (search-none t _ _ _ (settling-is t _ c.bound-n.ensures.0) k.i k.invariant (omega arith))
