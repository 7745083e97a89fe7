-- Lists of packets of a wire layer: their bytes, and that each is accepted. That different lists of accepted packets have different bytes is in
-- `proofs/Prefix.antt`.
-- Assumes nothing: these are definitions.
use Rattle.std.specs.Prelude.{ℕ, List, [], ◌∷◌, ◌++◌}
use Rattle.wire.specs.Wire.{Wire}

-- the bytes of packets, one after the other
unfoldable pub all_bytes : (N : Wire) → N.K → List N.P → List ℕ
all_bytes N k [] = []
all_bytes N k (p ∷ ps) = N.encode k p ++ all_bytes N k ps

-- each packet of a list is accepted
abbrev pub AllAccepted : (N : Wire) → N.K → List N.P → Type 0
AllAccepted N k [] = Unit {0}
AllAccepted N k (p ∷ ps) = N.Accepted k p × AllAccepted N k ps
