-- `octets::has_bit` meets its contract: the mask 1 is the rest by 2, and past bit 31 the quotient is 0.
-- Assumes nothing.
use Rattle.std.proofs.Common.{◌≡◌, ◌/◌, ◌^◌}
use native.Mathlib.Nat.{div-eq_of_lt, lt_of_lt_of_le}
use lib.Pow.{pow_mono}
use borrow.Author.Tests.{le-ltb}
use Rattle.octets.proofs.has_bit.Goals as goal

pub returns-else-k-lt32 : goal.returns-else-k-lt32
returns-else-k-lt32 c =
    let a = c.args in
    let h = c.if-k-lt32.false in
    let e : a.n / 2 ^ a.k ≡ 0 = div-eq_of_lt (lt_of_lt_of_le c.ranges.n.fits (pow_mono h)) in
    rw (e, le-ltb a.k 32 h)
