-- `report::State::print_line` meets its contract: what the line prints fits behind the output that is not written yet.
-- Assumes nothing.
use Rattle.std.proofs.Common.{◌-◌, length, refl, arith}
use borrow.Rule.Slice.PartMut.{same_len_mid}
use Rattle.report.proofs.Buffers.{line-is, line-room, line-printed}
use Rattle.report.proofs.State.print_line.Goals as goal

pub overflow_add-self : goal.overflow_add-self
overflow_add-self c =
    let a = c.args in
    let p = a.self.now in
    omega (arith, line-room p c.requires.0 a.k a.guest.now a.host.now a.input.now a.out.now (line-is a.input.now p.start a.k) c.report_line-l.ensures)

pub write_much-requires : goal.write_much-requires
write_much-requires c =
    let a = c.args in
    let p = a.self.now in
    let room = line-room p c.requires.0 a.k a.guest.now a.host.now a.input.now a.out.now (line-is a.input.now p.start a.k) c.report_line-l.ensures in
    omega (arith, room, same_len_mid p.size (length a.out.now - p.size) a.out.now c.report_line-l.new.out c.report_line-l.auto.out, c.requires.2)

pub returns : goal.returns
returns c =
    let a = c.args in
    let p = a.self.now in
    line-printed p c.requires.0 a.k a.guest.now a.host.now a.input.now a.out.now (line-is a.input.now p.start a.k) c.report_line-l.ensures c.requires.2 c.requires.3 refl c.min-self.ensures c.saturating_add-self.ensures c.is_some-self.ensures c.write_much.ensures
