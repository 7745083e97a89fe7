-- Document 01: "An endpoint byte holds the number in bits 0 to 3 and IN in bit 7; bits 4 to 6 are zero.
-- Its row is the number, plus 16 for IN. A row and an endpoint byte are different things. Masks use bit r for row r."
-- Assumes nothing: these are definitions.
use Rattle.std.specs.Prelude.{◌+◌, ◌*◌, ◌/◌, ◌%◌, Bool, cond, eqb, ltb, Option, Some, None}
use Rattle.endpoint.specs.declared.Endpoint.{Endpoint}
use Rattle.endpoint.specs.declared.Row.{Row}

-- bits 4 to 6 are zero
abbrev pub is_address : Endpoint → Bool
is_address e = eqb (e.0 / 16 % 8) 0

-- bit 7 is set
abbrev pub is_in : Endpoint → Bool
is_in e = eqb (e.0 / 128) 1

-- the row: the number, plus 16 for IN
abbrev pub row_of : Endpoint → Option Row
row_of e = cond (is_address e) (Some (record { 0 = e.0 % 16 + 16 * (e.0 / 128) })) None

-- back from one of the 32 rows
abbrev pub address_of : Row → Endpoint
address_of r = record { 0 = r.0 % 16 + 128 * (r.0 / 16) }

abbrev pub endpoint_of : Row → Option Endpoint
endpoint_of r = cond (ltb r.0 32) (Some (address_of r)) None
