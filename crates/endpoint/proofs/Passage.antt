-- The passage between rows and endpoints goes both ways and loses nothing (`row_back`, `endpoint-back`).
-- A row is the address's four low bits and 16 times its top bit, and an address that has a row has zeros between these: so either comes back from
-- the other by division and remainder, which is arithmetic.
-- Assumes nothing.
use Rattle.std.specs.Prelude.{Some, None}
use mathlib.Core.Path.{◌≡◌, refl}
use mathlib.Core.Bool.{Bool, true, false, cond}
use Prim.Native.Nat.{ℕ, ◌+◌, ◌*◌, ◌/◌, ◌%◌, ◌<◌}
use native.Mathlib.Omega.{arith}
use borrow.Author.Tests.{eqb-true, lt-ltb}
use Rattle.endpoint.specs.declared.Endpoint.{Endpoint}
use Rattle.endpoint.specs.declared.Row.{Row}
use Rattle.endpoint.specs.Endpoint.{is_address, row_of, address_of, endpoint_of}

-- each of the 32 rows has an endpoint, and comes back from it
pub row_back : (r : Row) → r.0 < 32 → (endpoint_of r ≡ Some (address_of r)) × (row_of (address_of r) ≡ Some r)
row_back r h =
    let n = r.0 % 16 + 128 * (r.0 / 16) in
    let free : n / 16 % 8 ≡ 0 = omega arith in
    let low : n % 16 ≡ r.0 % 16 = omega arith in
    let high : n / 128 ≡ r.0 / 16 = omega arith in
    let back : n % 16 + 16 * (n / 128) ≡ r.0 = omega arith in
    (rw (lt-ltb r.0 32 h), rw (free, back))

-- a row that is found is found under the test
found : (b : Bool) (q r : Row) → cond b (Some q) None ≡ Some r → (b ≡ true) × (q.0 ≡ r.0)
found true q r h = (refl, cc)
found false q r h =
    let z : ◌≡◌ {A = ℕ} 0 1 = cc in
    absurd (omega arith)

-- the bytes, of an address e with bits 4 to 6 zero and its row r
back : (e r : ℕ) → e < 256 → e / 16 % 8 ≡ 0 → e % 16 + 16 * (e / 128) ≡ r → r % 16 + 128 * (r / 16) ≡ e
back e r b free row =
    let low : r % 16 ≡ e % 16 = omega arith in
    let high : r / 16 ≡ e / 128 = omega arith in
    let top : e / 16 ≡ 8 * (e / 128) = omega arith in
    omega arith

-- each endpoint that has a row comes back from it, and the row is one of 32
pub endpoint-back : (e : Endpoint) (r : Row) → e.0 < 256 → row_of e ≡ Some r → (endpoint_of r ≡ Some e) × (r.0 < 32)
endpoint-back e r b h =
    let f = found (is_address e) (record { 0 = e.0 % 16 + 16 * (e.0 / 128) }) r h in
    let l : r.0 < 32 = omega (arith, f.1) in
    (rw (lt-ltb r.0 32 l, back e.0 r.0 b (eqb-true (e.0 / 16 % 8) 0 f.0) f.1), l)
