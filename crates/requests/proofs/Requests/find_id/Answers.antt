-- `Requests::find_id` meets its contract: no place below i is live and has the id (`search-hit`, `search-none`).
-- Assumes nothing.
use native.Mathlib.Omega.{arith}
use Rattle.requests.proofs.Loops.{id-is, search-hit, search-none}
use Rattle.requests.proofs.Requests.find_id.Goals as goal

pub returns-then-self-i : goal.returns-then-self-i
returns-then-self-i c =
    let t = c.args.self.now in
    let k = c.loop-i in
    search-hit t _ _ _ (id-is t _ c.bound-n.ensures.0 _) k.i k.invariant (omega arith) (omega arith) c.if-self-i.true

pub returns : goal.returns
returns c =
    let t = c.args.self.now in
    let k = c.loop-i in
    search-none t _ _ _ (id-is t _ c.bound-n.ensures.0 _) k.i k.invariant (omega arith)
