-- `relay::offer_all` meets its contract: each turn is the next call.
-- Assumes nothing.
use Rattle.std.proofs.Common.{refl}
use borrow.Author.Rules.{part_to_end}
use Rattle.relay.proofs.Pieces.{starts, used-up, few, goes_on, barred_here, not_sent}
use Rattle.relay.proofs.offer_all.Goals as goal

pub loop-rest-init : goal.loop-rest-init
loop-rest-init c = starts

pub slice_bounds-rest-count : goal.slice_bounds-rest-count
slice_bounds-rest-count c = few c.loop-rest.invariant c.offer-o.result c.offer-o.ensures

pub slice_bounds-rest-start : goal.slice_bounds-rest-start
slice_bounds-rest-start c = few c.loop-rest.invariant c.offer-o.result c.offer-o.ensures

pub loop-rest-preserved : goal.loop-rest-preserved
loop-rest-preserved c =
    let o = c.offer-o.result in
    goes_on c.loop-rest.invariant o c.offer-o.ensures (part_to_end c.loop-rest.rest.now o.answer.taken)

pub returns-then-is_err : goal.returns-then-is_err
returns-then-is_err c =
    let o = c.offer-o.result in
    not_sent c.loop-rest.invariant o c.offer-o.ensures (part_to_end c.loop-rest.rest.now o.answer.taken) refl

pub returns-then-a-eq0 : goal.returns-then-a-eq0
returns-then-a-eq0 c =
    let o = c.offer-o.result in
    barred_here c.loop-rest.invariant o c.offer-o.ensures (part_to_end c.loop-rest.rest.now o.answer.taken) refl c.if-a-eq0.true

pub returns-after-loop-rest : goal.returns-after-loop-rest
returns-after-loop-rest c = used-up c.loop-rest.invariant c.loop-rest-test.false
