-- What a call of the writer gives and leaves.
-- Assumes nothing: these are definitions.
use Rattle.std.specs.Prelude.{ℕ, ◌≡◌, List, length}
use Rattle.header.specs.declared.Link.{Link}
use Rattle.kinds.specs.Content.{Content}
use Rattle.kinds.specs.Codec.{write_number, written_size, written, Accepted}
use Rattle.encoder.specs.declared.Written.{Written}

-- the number, the bytes put out, and every byte of the output: the packet in front where the number is 0, else all as it was;
-- and a packet of number 0 is one that is accepted, of whose bytes `round_trip` speaks
pub record Writes (l : Link) (p : Content) (out : List ℕ) (r : Written) (after : List ℕ) : Type 0 where
  pub number : r.number ≡ write_number l p (length out)
  pub size : r.size ≡ written_size l p (length out)
  pub output : after ≡ written l p out
  pub accepted : r.number ≡ 0 → Accepted l p
