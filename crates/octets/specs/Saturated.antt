-- A sum that has an end.
-- Assumes nothing: these are definitions.
use Rattle.std.specs.Prelude.{ℕ, ◌+◌, min}

-- of the numbers of 64 bits
abbrev pub largest : ℕ
largest = 18446744073709551615

-- a + b, and the largest number where that is more
abbrev pub saturated : ℕ → ℕ → ℕ
saturated a b = min (a + b) largest
