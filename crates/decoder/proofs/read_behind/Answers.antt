-- `decoder::read_behind` meets its contract: a kind below 28 stands in the table at its number and no other kind but those of `read_data` is in it
-- (`kinds/specs/Slots`), and a body of a known kind is read by it (`Told`).
-- Assumes nothing.
use native.Mathlib.Omega.{arith}
use Rattle.kinds.specs.Slots.{low, between, above}
use Rattle.decoder.proofs.Told.{behind-unknown, behind-known}
use Rattle.decoder.proofs.read_behind.Goals as goal

pub returns-in-0-to-27 : goal.returns-in-0-to-27
returns-in-0-to-27 c =
    let a = c.args in
    behind-known a.l a.h a.body.now c.read_kind.result (omega arith) (low _ (omega arith)) c.read_kind.ensures

pub returns-in_default : goal.returns-in_default
returns-in_default c =
    let a = c.args in
    behind-unknown a.l a.h a.body.now (between _ (omega arith) (omega arith))

pub returns-in_default-2 : goal.returns-in_default-2
returns-in_default-2 c =
    let a = c.args in
    behind-unknown a.l a.h a.body.now (above _ (omega arith))
