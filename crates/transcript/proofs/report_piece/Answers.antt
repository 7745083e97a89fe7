-- `transcript::report_piece` meets its contract: the calls still to come, over what there is so far, give what all of them give.
-- Assumes nothing.
use Prim.Native.Nat.{◌≤◌}
use mathlib.Core.Path.{refl, ap}
use native.Mathlib.Omega.{arith}
use lib.ListN.{length, length-drop}
use borrow.Author.Rules.{part_to_end}
use Rattle.octets.specs.Saturated.{largest}
use Rattle.transcript.proofs.CallLines.{report-starts, used-few, used-more, report-goes-on, report-ends}
use Rattle.transcript.proofs.report_piece.Goals as goal

pub loop-rest-init : goal.loop-rest-init
loop-rest-init c = report-starts refl

pub slice_bounds-rest-count : goal.slice_bounds-rest-count
slice_bounds-rest-count c = used-few c.loop-rest.invariant c.loop-rest-test.true c.report_call-used.ensures

pub slice_bounds-rest-start : goal.slice_bounds-rest-start
slice_bounds-rest-start c = used-few c.loop-rest.invariant c.loop-rest-test.true c.report_call-used.ensures

pub loop-rest-smaller : goal.loop-rest-smaller
loop-rest-smaller c =
    let used = c.report_call-used.result in
    let rest = c.loop-rest.rest.now in
    omega (arith, used-few c.loop-rest.invariant c.loop-rest-test.true c.report_call-used.ensures, used-more c.loop-rest.invariant c.loop-rest-test.true c.report_call-used.ensures, ap length (part_to_end rest used), length-drop used rest)

pub loop-rest-preserved : goal.loop-rest-preserved
loop-rest-preserved c =
    let few : length c.args.out.now ≤ largest = omega arith in
    report-goes-on c.loop-rest.invariant c.loop-rest-test.true c.report_call-used.ensures few (part_to_end c.loop-rest.rest.now c.report_call-used.result)

pub returns : goal.returns
returns c = report-ends c.loop-rest.invariant c.loop-rest-test.false
