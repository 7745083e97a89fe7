-- `report::State::read_more` meets its contract: the unread bytes stand at the front, and what is read comes behind them.
-- Assumes nothing.
use Rattle.std.proofs.Common.{◌+◌, ◌-◌, ◌≤◌, length, refl, sym, arith, rules}
use Rattle.std.proofs.lemmas.Bool.{false≢true}
use borrow.Author.Tests.{eq-eqb}
use Rattle.report.proofs.Buffers.{shift-keeps, none_came}
use Rattle.report.proofs.State.read_more.Goals as goal

pub returns-in-Ok : goal.returns-in-Ok
returns-in-Ok c =
    let p = c.args.self.now in
    let n = p.end - p.start in
    let h : p.start + n ≤ length c.args.input.now = omega (arith, c.requires.0.order, c.requires.0.within, c.requires.1) in
    record {
      fits = search rules;
      state = refl;
      kept = shift-keeps c.args.input.now c.read.new.buf p.start n (n + c.in-Ok.got) h (omega arith) c.shift.ensures;
      more = omega arith;
      last = none_came n c.in-Ok.got;
      cut = λ t. absurd (false≢true t);
    }

pub returns-in-Err : goal.returns-in-Err
returns-in-Err c =
    let p = c.args.self.now in
    let n = p.end - p.start in
    let h : p.start + n ≤ length c.args.input.now = omega (arith, c.requires.0.order, c.requires.0.within, c.requires.1) in
    record {
      fits = search rules;
      state = refl;
      kept = shift-keeps c.args.input.now c.read.new.buf p.start n n h (omega arith) c.shift.ensures;
      more = omega arith;
      last = sym (eq-eqb n n refl);
      cut = λ t. refl;
    }
