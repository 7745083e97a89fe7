-- `Rows::has_mistyped` meets its contract: a row that is found is of the mask and of another type, and after all rows there is none.
-- Assumes nothing.
use Rattle.std.proofs.Common.{sym, ◌∙◌, rules, arith}
use Rattle.device.proofs.RowChanges.{mask-none, mask-found}
use Rattle.device.proofs.Rows.has_mistyped.Goals as goal

pub returns-then-row_ty-ty : goal.returns-then-row_ty-ty
returns-then-row_ty-ty c = sym (mask-found c.args.self.now _ _ c.loop-row.row (search rules) (sym c.in_mask.ensures ∙ c.if-in_mask.true) c.if-row_ty-ty.true)

pub returns : goal.returns
returns c = sym (mask-none c.args.self.now _ _ (λ r h. c.loop-row.invariant r (omega arith)))
