-- `octets::gather` meets its contract: what has been read spells at most 7 bytes before the last turn, and so wraps nowhere.
-- Assumes nothing.
use Rattle.std.proofs.Common.{◌≡◌, ◌-◌, ◌<◌, min, arith}
use native.Mathlib.Nat.{add-zero, sub-zero}
use Rattle.octets.specs.Little.{le}
use Rattle.octets.proofs.Bytes.{below}
use Rattle.octets.proofs.Integers.{le-drop}
use Rattle.octets.proofs.gather.Goals as goal

pub overflow_mul-x : goal.overflow_mul-x
overflow_mul-x c =
    let l = c.loop-i in
    let h : min c.args.n 8 - l.i < 8 = omega (arith, c.loop-i-test.true) in
    omega (arith, l.invariant, below c.after-bytes.result.now c.type_inv.bytes (min c.args.n 8 - l.i) 7 l.i (omega arith))

pub overflow_add-x : goal.overflow_add-x
overflow_add-x c =
    let l = c.loop-i in
    let h : min c.args.n 8 - l.i < 8 = omega (arith, c.loop-i-test.true) in
    omega (arith, l.invariant, below c.after-bytes.result.now c.type_inv.bytes (min c.args.n 8 - l.i) 7 l.i (omega arith), c.from.ensures, c.unwrap_or.type_inv)

pub returns : goal.returns
returns c =
    let a = c.args in
    let z : c.loop-i.i ≡ 0 = omega (arith, c.loop-i-test.false) in
    let e : c.loop-i.x ≡ le (min a.n 8) a.s.now a.at = rw (c.loop-i.invariant, z, c.after-bytes.ensures, sub-zero, le-drop, add-zero) in
    (e, omega (arith, e, below a.s.now c.type_inv.s (min a.n 8) (min a.n 8) a.at (omega arith)))
