-- `Requests::clear` meets its contract: before round i, the live places below i are free (`gone-more`, `gone-same`).
-- Assumes nothing.
use Rattle.std.proofs.Common.{◌≡◌, false, ap, sym, ◌∙◌, arith}
use borrow.Author.Rules.{rules}
use Rattle.scan.specs.Loop.{long_of}
use Rattle.requests.specs.Requests.{cleared, without}
use Rattle.requests.proofs.Loops.{Long, trimmed-free, gone, gone-none, gone-more, gone-same, gone-all}
use Rattle.requests.proofs.Requests.clear.Goals as goal
use Rattle.requests.proofs.Requests.clear.Goals.{then-is_live, else-is_live}

pub loop-i-init : goal.loop-i-init
loop-i-init c =
    let t = c.args.self.now in
    let long : Long t = record { live = search rules; kinds = search rules; ids = search rules; slots = search (rules, long_of) } in
    trimmed-free t long c.trim-self.result c.trim-self.ensures ∙ gone-none t (λ k. false) (λ p. p.live)

pub loop-i-preserved : goal.loop-i-preserved
loop-i-preserved c =
    let t = c.args.self.now in
    let k = c.loop-i in
    elim c.if-is_live.branch [
      | then-is_live w ↦ w.self-is ∙ w.free.ensures ∙ gone-more t (λ k. false) (λ p. p.live) k.i k.self k.invariant (sym c.is_live.ensures ∙ w.if-is_live.true)
      | else-is_live w ↦ w.self-is ∙ gone-same t (λ k. false) (λ p. p.live) k.i k.self k.invariant (sym c.is_live.ensures ∙ w.if-is_live.false)
    ]

pub returns : goal.returns
unfolding cleared
returns c =
    let t = c.args.self.now in
    let k = c.loop-i in
    let last : k.i ≡ 96 = omega arith in
    k.invariant ∙ ap (λ i. without t (gone t (λ k. false) (λ p. p.live) i)) last ∙ gone-all t (λ k. false) (λ p. p.live)
