-- `gate::decide` meets its contract: each case comes to the call's outcome (`Deciding`), a whole packet by `take_packet`.
-- Assumes nothing.
use mathlib.Core.Path.{refl}
use native.Mathlib.Omega.{arith}
use Rattle.wire.proofs.Told.{whole-fits}
use Rattle.wire.specs.Usbredir.{usbredir}
use Rattle.wire.proofs.Usbredir.{laws}
use Rattle.gate.proofs.Deciding.{whole_is, barred-decides, is-ready, keeps, more-decides, header-decides, cuts}
use borrow.Author.Rules.{rules}
use Rattle.gate.proofs.decide.Goals as goal

pub returns-in-Err : goal.returns-in-Err
returns-in-Err c =
    let a = c.args in
    let el = c.link_to-l.ensures in
    let ed = c.held_in-held.ensures in
    let eb = c.part-begun.ensures in
    let ec = c.cut_of-cut.ensures in
    let en = c.admit.ensures a.from a.hold.now el refl (whole_is a.from a.s.now a.hold.now a.piece.now el ed eb c.cut_of-cut.result ec c.ends_within-whole.ensures) in
    barred-decides a.from a.s.now a.hold.now a.piece.now el ed eb c.cut_of-cut.result ec en c.in-Err.is (rw c.number.ensures at c.ended.ensures)

pub overflow_add-held : goal.overflow_add-held
overflow_add-held c =
    let a = c.args in
    let el = c.link_to-l.ensures in
    let ed = c.held_in-held.ensures in
    let eb = c.part-begun.ensures in
    let ec = c.cut_of-cut.ensures in
    let en = c.admit.ensures a.from a.hold.now el refl (whole_is a.from a.s.now a.hold.now a.piece.now el ed eb c.cut_of-cut.result ec c.ends_within-whole.ensures) in
    omega (arith, keeps a.from a.s.now a.hold.now a.piece.now el ed eb c.cut_of-cut.result ec en c.in_default.is c.in-More.is)

pub take_packet-requires : goal.take_packet-requires
take_packet-requires c =
    let a = c.args in
    let el = c.link_to-l.ensures in
    let ed = c.held_in-held.ensures in
    let eb = c.part-begun.ensures in
    let ec = c.cut_of-cut.ensures in
    let en = c.admit.ensures a.from a.hold.now el refl (whole_is a.from a.s.now a.hold.now a.piece.now el ed eb c.cut_of-cut.result ec c.ends_within-whole.ensures) in
    let cut = cuts a.from a.s.now a.hold.now a.piece.now el ed eb c.cut_of-cut.result ec c.in-WholePacket.is in
    ((whole-fits usbredir laws _ _ _ cut.cut).1, el, ed, is-ready a.from a.s.now a.hold.now a.piece.now el ed eb c.cut_of-cut.result ec en c.in_default.is, cut)

pub returns-in-More : goal.returns-in-More
returns-in-More c =
    let a = c.args in
    let el = c.link_to-l.ensures in
    let ed = c.held_in-held.ensures in
    let eb = c.part-begun.ensures in
    let ec = c.cut_of-cut.ensures in
    let en = c.admit.ensures a.from a.hold.now el refl (whole_is a.from a.s.now a.hold.now a.piece.now el ed eb c.cut_of-cut.result ec c.ends_within-whole.ensures) in
    more-decides a.from a.s.now a.hold.now a.piece.now el ed eb c.cut_of-cut.result ec en c.in_default.is c.in-More.is c.lay.ensures c.ended-in-More.ensures

pub returns-in-BadHeader : goal.returns-in-BadHeader
returns-in-BadHeader c =
    let a = c.args in
    let el = c.link_to-l.ensures in
    let ed = c.held_in-held.ensures in
    let eb = c.part-begun.ensures in
    let ec = c.cut_of-cut.ensures in
    let en = c.admit.ensures a.from a.hold.now el refl (whole_is a.from a.s.now a.hold.now a.piece.now el ed eb c.cut_of-cut.result ec c.ends_within-whole.ensures) in
    header-decides a.from a.s.now a.hold.now a.piece.now el ed eb c.cut_of-cut.result ec en c.in_default.is c.in-BadHeader.is c.complete-taken.ensures.0 c.location_of.ensures c.complete-taken.ensures.1 (rw c.number-in-BadHeader.ensures at c.ended-in-BadHeader.ensures)
