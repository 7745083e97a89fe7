-- The bytes of a packet as the code lays them, one run behind the other.
-- Assumes nothing: this is a definition.
use Rattle.std.specs.Prelude.{ℕ, List, ◌++◌}
use Rattle.octets.specs.Little.{bytes_of}

-- a header, the numbers, the rows of a table and what follows
abbrev pub laid_out : ℕ → ℕ → ℕ → ℕ → List ℕ → List ℕ → List ℕ → List ℕ
laid_out width kind id size numbers rows rest = bytes_of 4 kind ++ (bytes_of 4 size ++ (bytes_of width id ++ (numbers ++ (rows ++ rest))))
