-- `Requests::find_free` meets its contract: the first flag that is not set, or the place after the flags
-- (`free-first`).
-- Assumes nothing.
use Rattle.std.specs.Prelude.{not, position}
use Rattle.std.specs.Option.{option_or}
use Rattle.std.proofs.Common.{◌≡◌, ◌∙◌, take}
use Rattle.std.proofs.lemmas.Iterator.{YieldsList-from_slice}
use Rattle.std.proofs.lemmas.Iterator.Search.{position_from_yields_List}
use borrow.Author.Rules.{rules}
use borrow.Author.Tests.{tests}
use Rattle.requests.proofs.Loops.{free-first}
use Rattle.requests.proofs.Requests.find_free.Goals as goal

pub returns : goal.returns
returns c =
    let n = c.bound-n in
    let l = take n.result c.args.self.now.live in
    let found : c.position.result ≡ position not l =
    position_from_yields_List not _ _ c.position.result c.position.ensures.ran (YieldsList-from_slice l c.iter.ensures.rest)
    (λ x d q k. search (rules, tests)) in
    c.or.ensures
    ∙ (λ z. option_or (found z) (c.then_some-next.ensures z))
    ∙ free-first c.args.self.now _ n.ensures.0 n.ensures.1 (search rules)
