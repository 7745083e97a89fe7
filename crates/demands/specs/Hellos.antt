-- Demand 3 starts somewhere: a session at its start that both ends sent their hello to, with every capability (`HellosStart`) or with an end that
-- has none (`OldStart`).
-- Assumes nothing: these are definitions and statements. The proofs are by computation.
use Rattle.std.specs.Prelude.{ℕ, ◌+◌, List, [], ◌∷◌, ◌++◌, replicate, length}
use Rattle.octets.specs.Little.{bytes_of}
use Rattle.header.specs.declared.Side.{Side}
use Rattle.header.specs.declared.Side.TheVariants.{Guest, Host}
use Rattle.demands.specs.Demand3.{Starts}
use Rattle.demands.specs.CallLists.{ReaderCall, final}
use Rattle.demands.specs.FromStart.{at_start, state_of}

-- buffers of the least size
abbrev pub buffers : Side → List ℕ
buffers d = replicate 32784 0

-- a hello whose words have these bytes
abbrev pub hello_bytes : List ℕ → List ℕ
hello_bytes words = bytes_of 4 0 ++ (bytes_of 4 (64 + length words) ++ (bytes_of 4 0 ++ (replicate 64 0 ++ words)))

abbrev pub hello_calls : List ℕ → List ℕ → List ReaderCall
hello_calls guest host = record { from = Guest; piece = hello_bytes guest } ∷ record { from = Host; piece = hello_bytes host } ∷ []

-- every bit that is ever asked for; and an end that knows no capabilities
abbrev pub newest : List ℕ
newest = bytes_of 4 255

abbrev pub oldest : List ℕ
oldest = []

-- with every capability
abbrev pub HellosStart : Type 0
HellosStart = (d : Side) → Starts d (state_of d (final (at_start buffers) (hello_calls newest newest)))

-- "however old either end is"
abbrev pub OldStart : Type 0
OldStart = (d : Side) → Starts d (state_of d (final (at_start buffers) (hello_calls oldest newest)))
