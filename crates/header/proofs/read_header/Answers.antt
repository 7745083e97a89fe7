-- `header::read_header` meets its contract: an id's width is 4 or 8, so that `get` reads all of it and the size does not wrap.
-- Assumes nothing.
use mathlib.Core.Path.{◌≡◌, refl}
use Prim.Native.Nat.{◌≤◌, min}
use native.Mathlib.Omega.{arith}
use Rattle.header.specs.Header.{header_size}
use Rattle.header.proofs.Widths.{id-widths}
use Rattle.header.proofs.read_header.Goals as goal

pub overflow_add-result : goal.overflow_add-result
overflow_add-result c =
    let a = c.args in
    omega (arith, id-widths (λ w. w ≤ 8) (omega arith) (omega arith) a.l c.get32-kind.result)

pub returns : goal.returns
unfolding header_size
returns c =
    let a = c.args in
    let e = id-widths (λ w. min w 8 ≡ w) refl refl a.l c.get32-kind.result in
    rw (c.get-id.ensures.0, c.id_width-width.ensures, e, c.get32-kind.ensures, c.get32-length.ensures)
