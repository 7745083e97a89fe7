-- What a status says: C-12, "every status byte is allowed, 0 is success and everything else an error"; "Unsolicited statuses are still those with
-- status 4", a stall. Whatever asks for success or for a stall asks it here.
-- Assumes nothing: these are definitions.
use Rattle.std.specs.Prelude.{ℕ, Bool, eqb}

abbrev pub is_success : ℕ → Bool
is_success status = eqb status 0

abbrev pub is_stall : ℕ → Bool
is_stall status = eqb status 4
