-- `gate::take_packet` meets its contract: the packet's bytes, wherever they lie, are read and ruled on (`Taken`).
-- Assumes nothing.
use Rattle.gate.proofs.Taken.{packet-refused, packet-passed, packet-ruled-out}
use borrow.Author.Rules.{rules}
use Rattle.gate.proofs.take_packet.Goals as goal

pub returns-in-Err : goal.returns-in-Err
returns-in-Err c =
    let a = c.args in
    let q = c.requires in
    let t = rw (c.saturating_sub.ensures, c.get.ensures.0, c.saturating_sub-2.ensures) at c.read_behind.ensures in
    packet-refused a.from a.s.now a.hold.now a.piece.now q.1 q.2 q.3 q.4 c.complete-taken.ensures.0 c.location_of-location.ensures c.complete-taken.ensures.1 c.lend-bytes.ensures c.part-body.ensures c.read_behind.result t c.in-Err.is (rw c.number.ensures at c.ended.ensures)

pub returns-in-Ok-rule : goal.returns-in-Ok-rule
returns-in-Ok-rule c =
    let a = c.args in
    let q = c.requires in
    let t = rw (c.saturating_sub.ensures, c.get.ensures.0, c.saturating_sub-2.ensures) at c.read_behind.ensures in
    packet-passed a.from a.s.now a.hold.now a.piece.now q.1 q.2 q.3 q.4 c.complete-taken.ensures.0 c.location_of-location.ensures c.complete-taken.ensures.1 c.lend-bytes.ensures c.part-body.ensures c.read_behind.result t c.in-Ok.is c.case_of.ensures c.rule.ensures c.in-Ok-rule.is c.passed.ensures

pub returns-in-Err-rule : goal.returns-in-Err-rule
returns-in-Err-rule c =
    let a = c.args in
    let q = c.requires in
    let t = rw (c.saturating_sub.ensures, c.get.ensures.0, c.saturating_sub-2.ensures) at c.read_behind.ensures in
    packet-ruled-out a.from a.s.now a.hold.now a.piece.now q.1 q.2 q.3 q.4 c.complete-taken.ensures.0 c.location_of-location.ensures c.complete-taken.ensures.1 c.lend-bytes.ensures c.part-body.ensures c.read_behind.result t c.in-Ok.is c.case_of.ensures c.rule.ensures c.in-Err-rule.is (rw c.number-in-Err-rule.ensures at c.ended-in-Err-rule.ensures)
