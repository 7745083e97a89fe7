-- The round trip: for every link and every packet that the writer accepts, its bytes are one whole packet whose number is 0, and reading them
-- gives that packet. One statement over all kinds and both widths of an id; proofs/RoundTrip.antt shows it (`round_trip`).
-- Assumes nothing: these are statements.
use Rattle.std.specs.Prelude.{◌≡◌, ◌+◌, length}
use Rattle.header.specs.declared.Link.{Link}
use Rattle.header.specs.Header.{kind_of, length_of, header_size, header_number}
use Rattle.kinds.specs.Content.{Content}
use Rattle.kinds.specs.Codec.{decode, read_number, encode, Accepted}

pub record RoundTrip (l : Link) (p : Content) : Type 0 where
  -- the bytes are header plus the header's length field
  pub size : length (encode l p) ≡ header_size l (kind_of (encode l p)) + length_of (encode l p)
  pub header : header_number l (kind_of (encode l p)) (length_of (encode l p)) ≡ 0
  pub number : read_number l (encode l p) ≡ 0
  pub back : decode l (encode l p) ≡ p

abbrev pub AcceptedComesBack : Type 0
AcceptedComesBack = (l : Link) (p : Content) → Accepted l p → RoundTrip l p
