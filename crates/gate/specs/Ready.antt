-- What a call that is not barred has (`Ready`), and 43's tests of a session as relations (`Fit`).
-- Assumes nothing: these are definitions.
use Rattle.std.specs.Prelude.{ℕ, ◌≤◌, ◌≡◌, true, false, List, length, Option}
use Rattle.header.specs.declared.Side.{Side}
use Rattle.header.specs.Link.{passed}
use Rattle.header.specs.Header.{hold_size}
use Rattle.device.specs.Device.{control_rows}
use Rattle.requests.specs.Requests.{ids_differ}
use Rattle.frame.specs.Cut.{more}
use Rattle.frame.specs.Frame.{cut_at}
use Rattle.session.specs.declared.Session.{Session}
use Rattle.session.specs.Session.{link_of, max_held, unfit}
use Rattle.gate.specs.Offer.{held_bytes, is_waiting}

-- what 41, 43, 3 and 2 leave to the rest of the call
pub record Ready (from : Side) (s : Session) (hold : List ℕ) : Type 0 where
  pub room : hold_size ≤ length hold
  pub fit : unfit s ≡ false
  pub begun : cut_at (link_of from s) (held_bytes from s hold) ≡ more
  pub running : s.head.stopped ≡ false
  pub not-waiting : is_waiting (link_of from s) ≡ false

-- "a held count over 32,783 or, own hello passed and other's not, over 0" does not hold of n bytes held
pub record FitCount (own other : Option ℕ) (n : ℕ) : Type 0 where
  pub few : n ≤ max_held
  pub none-waiting : passed own ≡ true → passed other ≡ false → n ≡ 0

-- nor "two live requests with one id; row 0 or 16 not control"
pub record Fit (s : Session) : Type 0 where
  pub guest : FitCount s.head.guest s.head.host s.head.held.guest
  pub host : FitCount s.head.host s.head.guest s.head.held.host
  pub ids : ids_differ s.requests ≡ true
  pub control : control_rows s.rows ≡ true
