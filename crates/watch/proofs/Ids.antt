-- The numbers of a row: how far ahead an id lies is the number below the width's that leads from the expected id to it (`ahead-leads`,
-- `ahead-below`), and 0 exactly where it is the expected one (`ahead_none`, `ahead-some`). Each is said once over the width and shown at both by
-- arithmetic.
-- Assumes nothing.
use Rattle.std.proofs.Common.{◌≡◌, ℕ, ◌+◌, ◌%◌, ◌<◌, Bool, true, false, arith}
use Rattle.watch.specs.Watch.{modulus, ahead}

module _ (wide : Bool) (expected id : ℕ) where
  pub ahead-below : ahead wide expected id < modulus wide
  ahead-below = go wide
    where
      go : (w : Bool) → ahead w expected id < modulus w
      go true = omega arith
      go false = omega arith

  pub ahead-leads : (expected + ahead wide expected id) % modulus wide ≡ id % modulus wide
  ahead-leads = go wide
    where
      go : (w : Bool) → (expected + ahead w expected id) % modulus w ≡ id % modulus w
      go true = omega arith
      go false = omega arith

  pub ahead_none : expected % modulus wide ≡ id % modulus wide → ahead wide expected id ≡ 0
  ahead_none = go wide
    where
      go : (w : Bool) → expected % modulus w ≡ id % modulus w → ahead w expected id ≡ 0
      go true e = omega arith
      go false e = omega arith

  pub ahead-some : ahead wide expected id ≡ 0 → expected % modulus wide ≡ id % modulus wide
  ahead-some = go wide
    where
      go : (w : Bool) → ahead w expected id ≡ 0 → expected % modulus w ≡ id % modulus w
      go true e = omega arith
      go false e = omega arith
