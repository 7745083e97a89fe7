-- `rules::check_found` meets its contract: its tests in order are the number by what was found.
-- Assumes nothing.
use native.Mathlib.Omega.{arith}
use mathlib.Core.Path.{sym}
use Rattle.rules.proofs.NumberFound.{number}
use Rattle.rules.proofs.check_found.Goals as goal

pub returns : goal.returns
returns c =
    let a = c.args in
    λ p body s.
    rw (
      c.in_order.ensures,
      c.is_some.ensures,
      c.is_wide.ensures,
      c.is_shared.ensures,
      c.may_send.ensures,
      c.shared_set-caps.ensures,
    )
    (sym (number a.l a.id p body a.f (omega (arith, c.ranges.id)) s))
