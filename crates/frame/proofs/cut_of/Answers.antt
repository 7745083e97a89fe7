-- `frame::cut_of` meets its contract: the case of what the bytes are, in the values that were read.
-- Assumes nothing.
use mathlib.Core.Path.{refl}
use native.Mathlib.Omega.{arith}
use Rattle.header.proofs.Refusals.{refused}
use Rattle.frame.proofs.Cases.{cut_short, cut-refused, cut-part, cut-full, id-narrow}
use Rattle.frame.proofs.cut_of.Goals as goal

pub overflow_add-header : goal.overflow_add-header
overflow_add-header c = omega (arith, c.id_width-header.ensures, id-narrow c.args.l c.get32_across-kind.result)

pub returns-then-piece-saturating_sub : goal.returns-then-piece-saturating_sub
returns-then-piece-saturating_sub c =
    cut_short c.args.l c.args.held.now c.args.piece.now _ _ _ c.get32_across-kind.ensures c.get32_across-length.ensures c.id_width-header.ensures (rw (← c.saturating_sub.ensures) c.if-piece-saturating_sub.true)

pub returns-in-Err : goal.returns-in-Err
returns-in-Err c =
    cut-refused c.args.l c.args.held.now c.args.piece.now _ _ _ c.get32_across-kind.ensures c.get32_across-length.ensures c.id_width-header.ensures (rw (← c.saturating_sub.ensures) c.if-piece-saturating_sub.false) _ c.in-Err.ensures (refused c.in-Err.refusal)

pub overflow_add-size : goal.overflow_add-size
overflow_add-size c = omega (arith, c.id_width-header.ensures, id-narrow c.args.l c.get32_across-kind.result)

pub returns-then-piece-saturating_sub-2 : goal.returns-then-piece-saturating_sub-2
returns-then-piece-saturating_sub-2 c =
    cut-part c.args.l c.args.held.now c.args.piece.now _ _ _ c.get32_across-kind.ensures c.get32_across-length.ensures c.id_width-header.ensures (rw (← c.saturating_sub.ensures) c.if-piece-saturating_sub.false) _ c.in_default.ensures refl (rw (← c.saturating_sub-2.ensures) c.if-piece-saturating_sub-2.true)

pub returns : goal.returns
returns c =
    cut-full c.args.l c.args.held.now c.args.piece.now _ _ _ c.get32_across-kind.ensures c.get32_across-length.ensures c.id_width-header.ensures (rw (← c.saturating_sub.ensures) c.if-piece-saturating_sub.false) _ c.in_default.ensures refl (rw (← c.saturating_sub-2.ensures) c.if-piece-saturating_sub-2.false)
