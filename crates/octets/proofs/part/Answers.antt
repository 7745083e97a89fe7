-- `octets::part` meets its contract: the bounds are cut to what there is, and a slice has no more either.
-- Assumes nothing.
use mathlib.Core.Path.{◌∙◌, sym}
use Rattle.octets.proofs.Bytes.{slice-min}
use Rattle.octets.proofs.Integers.{drop-take}
use Rattle.octets.proofs.part.Goals as goal

pub returns : goal.returns
returns c =
    let a = c.args in
    sym (drop-take c.min.result c.min-end.result a.s.now)
    ∙ rw (c.min.ensures, c.min-end.ensures) (slice-min a.a a.e a.s.now)
