-- `test_replay::judge` meets its contract: a reading that is refused gives its number, and one that passed what it is ruled on (`Judging`).
-- Assumes nothing.
use mathlib.Core.Path.{refl}
use borrow.Author.Tests.{ne_eqb}
use Rattle.test_replay.proofs.Judging.{judge-refuses, judge-denies, judge-passes}
use Rattle.test_replay.proofs.judge.Goals as goal

pub returns-then-get32-eq0 : goal.returns-then-get32-eq0
returns-then-get32-eq0 c =
    let a = c.args in
    λ d.
    rw c.number-told.ensures (judge-refuses a.s.now a.from a.bytes.now c.link_to.ensures c.read.result c.read.ensures c.in-Err.is c.get32.ensures (rw c.if-get32-eq0.true refl))

pub returns-else-get32-eq0 : goal.returns-else-get32-eq0
returns-else-get32-eq0 c =
    let a = c.args in
    λ d.
    rw c.number-told.ensures
    (judge-refuses a.s.now a.from a.bytes.now c.link_to.ensures c.read.result c.read.ensures c.in-Err.is c.get32.ensures (rw (ne_eqb _ 0 c.if-get32-eq0.false) refl))

pub returns-in-Ok-rule : goal.returns-in-Ok-rule
returns-in-Ok-rule c =
    let a = c.args in
    λ d.
    judge-passes a.s.now a.from a.bytes.now c.link_to.ensures c.read.result c.read.ensures c.in-Ok.is c.part-body.ensures c.case_of.ensures c.rule.ensures d c.in-Ok-rule.is c.announced.ensures c.apply.ensures

pub returns-in-Err-rule : goal.returns-in-Err-rule
returns-in-Err-rule c =
    let a = c.args in
    λ d.
    rw c.number.ensures
    (judge-denies a.s.now a.from a.bytes.now c.link_to.ensures c.read.result c.read.ensures c.in-Ok.is c.part-body.ensures c.case_of.ensures c.rule.ensures d c.in-Err-rule.is)
