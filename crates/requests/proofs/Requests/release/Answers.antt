-- `Requests::release` meets its contract: before round j, place i and those below j that end are free (`gone-more`,
-- `gone-same`).
-- Assumes nothing.
use Rattle.std.proofs.Common.{◌≡◌, ap, sym, ◌∙◌, arith}
use lib.Dec.{eqb}
use Rattle.requests.specs.Requests.{ends, released, without}
use Rattle.requests.proofs.Loops.{gone, gone-more, gone-same, gone-all}
use Rattle.requests.proofs.Requests.release.Goals as goal
use Rattle.requests.proofs.Requests.release.Goals.{then-is_ending, else-is_ending}

pub loop-j-preserved : goal.loop-j-preserved
loop-j-preserved c =
    let a = c.args in
    let t = a.self.now in
    let k = c.loop-j in
    elim c.if-is_ending.branch [
      | then-is_ending w ↦
          w.self-is ∙ w.free-then-is_ending.ensures
          ∙ gone-more t (λ m. eqb m a.i) (ends a.rows.now a.s) k.j k.self k.invariant (sym c.is_ending.ensures ∙ w.if-is_ending.true)
      | else-is_ending w ↦ w.self-is ∙ gone-same t (λ m. eqb m a.i) (ends a.rows.now a.s) k.j k.self k.invariant (sym c.is_ending.ensures ∙ w.if-is_ending.false)
    ]

pub returns : goal.returns
unfolding released
returns c =
    let a = c.args in
    let t = a.self.now in
    let k = c.loop-j in
    let last : k.j ≡ 96 = omega arith in
    k.invariant ∙ ap (λ j. without t (gone t (λ m. eqb m a.i) (ends a.rows.now a.s) j)) last ∙ gone-all t (λ m. eqb m a.i) (ends a.rows.now a.s)
