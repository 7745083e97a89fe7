-- Three tests of a session as relations, each by taking its test apart.
-- Assumes nothing.
use Rattle.std.specs.Prelude.{Option, Some, None}
use mathlib.Core.Bool.{Bool, true, false, not, ◌||◌, false≢true, or-false}
use mathlib.Core.Path.{◌≡◌, refl, sym, ap, ◌∙◌}
use lib.Dec.{eqb}
use borrow.Author.Tests.{eqb-true, eq-eqb, ne_eqb, not-true, eqb-false}
use Rattle.octets.proofs.Logic.{and_parts, and-whole, or-none, or_parts, true-not}
use Rattle.endpoint.specs.Endpoint.{row_of}
use Rattle.endpoint.specs.declared.Row.{Row}
use Rattle.device.specs.Device.{row_at, touched, touched_in}
use Rattle.device.specs.declared.Scope.TheVariants.{OfInterface}
use Rattle.claims.specs.TestsInWords.{DataKinds, InScope, TouchedIs, ControlIs}

pub data-kinds : DataKinds
data-kinds kind = grouped (eqb kind 100) (eqb kind 101) (eqb kind 103)
  where
    grouped : (a b c : Bool) → ((a || b) || c) ≡ (a || (b || (c || false)))
    grouped true b c = refl
    grouped false true c = refl
    grouped false false c = sym (or-false c)

pub touched-is : TouchedIs
unfolding touched
touched-is d n e = (within (row_of e), inside (row_of e))
  where
    within : (o : Option Row) → touched_in d (OfInterface n) o ≡ true → InScope d n o
    within (Some r) t =
        let p = and_parts (not (eqb r.0 0 || eqb r.0 16)) (eqb (row_at d r.0).interface n) t in
        let q = or_parts (eqb r.0 0) (eqb r.0 16) (not-true (eqb r.0 0 || eqb r.0 16) p.0) in
        record { row = r; of = refl; not-out = eqb-false r.0 0 q.0; not_in = eqb-false r.0 16 q.1; interface = eqb-true (row_at d r.0).interface n p.1 }
    within None t = absurd (false≢true t)

    inside : (o : Option Row) → InScope d n o → touched_in d (OfInterface n) o ≡ true
    inside o s =
        let r : Row = s.row in
        let c : (eqb r.0 0 || eqb r.0 16) ≡ false = or-none (eqb r.0 0) (eqb r.0 16) (ne_eqb r.0 0 s.not-out) (ne_eqb r.0 16 s.not_in) in
        ap (touched_in d (OfInterface n)) s.of
        ∙ and-whole (not (eqb r.0 0 || eqb r.0 16)) (eqb (row_at d r.0).interface n) (true-not (eqb r.0 0 || eqb r.0 16) c) (eq-eqb (row_at d r.0).interface n s.interface)

pub control-is : ControlIs
control-is d = (
  (λ t. let p = and_parts (eqb (row_at d 0).ty 0) (eqb (row_at d 16).ty 0) t in (eqb-true (row_at d 0).ty 0 p.0, eqb-true (row_at d 16).ty 0 p.1)),
  (λ c. and-whole (eqb (row_at d 0).ty 0) (eqb (row_at d 16).ty 0) (eq-eqb (row_at d 0).ty 0 c.0) (eq-eqb (row_at d 16).ty 0 c.1)),
)
