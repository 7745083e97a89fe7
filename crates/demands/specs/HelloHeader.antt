-- "Hellos always use the 12-byte header", whatever the two ends have offered, a second hello too; any other packet has 4 bytes more exactly where
-- both hellos have passed and bit 5 is shared.
-- Assumes nothing: these are statements; proofs/HelloHeader.antt shows them.
use Rattle.std.specs.Prelude.{ℕ, true, false, ◌≡◌}
use Rattle.header.specs.declared.Link.{Link}
use Rattle.header.specs.Link.{shared_set}
use Rattle.header.specs.Header.{header_size}
use Rattle.octets.specs.Bits.{has_bit}

pub record HeaderSizes (l : Link) : Type 0 where
  pub hello : header_size l 0 ≡ 12
  pub wide : (kind : ℕ) → (kind ≡ 0 → ⊥) → has_bit (shared_set l) 5 ≡ true → header_size l kind ≡ 16
  pub narrow : (kind : ℕ) → has_bit (shared_set l) 5 ≡ false → header_size l kind ≡ 12

abbrev pub HelloHeader : Type 0
HelloHeader = (l : Link) → HeaderSizes l
