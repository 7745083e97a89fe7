-- Three tests of a session in the words of document 01, as relations: which requests are data requests, which rows an 11 is about, and
-- which rows have to be control.
-- Assumes nothing: these are definitions and statements.
use Rattle.std.specs.Prelude.{ℕ, true, [], ◌∷◌, ◌≡◌, ◌↔◌, Option, Some}
use Rattle.endpoint.specs.declared.Endpoint.{Endpoint}
use Rattle.endpoint.specs.Endpoint.{row_of}
use Rattle.endpoint.specs.declared.Row.{Row}
use Rattle.device.specs.Device.{row_at, touched, control_rows}
use Rattle.device.specs.declared.Scope.TheVariants.{OfInterface}
use Rattle.device.specs.declared.Rows.{Rows}
use Rattle.requests.specs.Requests.{is_data}
use Rattle.claims.specs.Allowed.{among}

-- "every data request (kind 100, 101 or 103)"
abbrev pub DataKinds : Type 0
DataKinds = (kind : ℕ) → is_data kind ≡ among (100 ∷ 101 ∷ 103 ∷ []) kind

-- "rows other than 0 and 16 of that interface": an endpoint whose byte is no address has no row
pub record InScope (d : Rows) (n : ℕ) (o : Option Row) : Type 0 where
  pub row : Row
  pub of : o ≡ Some row
  pub not-out : row.0 ≡ 0 → ⊥
  pub not_in : row.0 ≡ 16 → ⊥
  pub interface : (row_at d row.0).interface ≡ n

abbrev pub TouchedIs : Type 0
TouchedIs = (d : Rows) (n : ℕ) (e : Endpoint) → (touched d (OfInterface n) e ≡ true) ↔ InScope d n (row_of e)

-- 43: "row 0 or 16 not control" does not hold
abbrev pub ControlIs : Type 0
ControlIs = (d : Rows) → (control_rows d ≡ true) ↔ (((row_at d 0).ty ≡ 0) × ((row_at d 16).ty ≡ 0))
