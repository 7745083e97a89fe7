-- What the cut tells of bytes: they are more, bad or whole. That it does is in `proofs/Told.antt`.
-- Assumes nothing: these are definitions.
use Rattle.std.specs.Prelude.{ℕ, ◌+◌, ◌≤◌, ◌<◌, ◌≡◌, List, ◌⊎◌, length}
use Rattle.wire.specs.Wire.{Wire}

-- a whole packet of n bytes is there, and its header is not refused
pub record IsWhole (N : Wire) (k : N.K) (b : List ℕ) (n : ℕ) : Type 0 where
  pub header : N.head_no k b ≡ 0
  pub size : n ≡ N.width k b + N.length_of b
  pub there : n ≤ length b

-- a whole header is there, and is refused with n
pub record IsBad (N : Wire) (k : N.K) (b : List ℕ) (n : ℕ) : Type 0 where
  pub number : N.head_no k b ≡ n
  pub refused : n ≡ 0 → ⊥
  pub there : N.width k b ≤ length b

-- no header yet, or one that is not refused, and less than it says
abbrev pub IsMore : (N : Wire) → N.K → List ℕ → Type 0
IsMore N k b = (length b < N.width k b) ⊎ ((N.head_no k b ≡ 0) × (length b < N.width k b + N.length_of b))
