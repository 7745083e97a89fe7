-- `gate::write` meets its contract: a call that is shut changes nothing, and one that goes on is the encoder's.
-- Assumes nothing.
use mathlib.Core.Path.{ap}
use Rattle.header.specs.Refusal.{number_in}
use Rattle.gate.proofs.Writing.{write-shut, write-open}
use borrow.Author.Rules.{rules}
use Rattle.gate.proofs.write.Goals as goal

pub returns-in-Err : goal.returns-in-Err
returns-in-Err c =
    let a = c.args in
    write-shut a.from a.s a.id a.p a.body.now a.out.now c.is_hello.ensures c.admit_writing.ensures c.in-Err.r (ap number_in c.in-Err.is) c.number.ensures

pub returns : goal.returns
returns c =
    let a = c.args in
    write-open a.from a.s a.id a.p a.body.now a.out.now c.is_hello.ensures c.admit_writing.ensures (ap number_in c.in_default.is) c.link_to.ensures c.write.ensures
