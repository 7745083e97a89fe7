-- `Requests::is_live` meets its contract: what `place_at` says of a place (`place-live`).
-- Assumes nothing.
use mathlib.Core.Path.{sym}
use Rattle.requests.proofs.Places.{place-live}
use Rattle.requests.proofs.Requests.is_live.Goals as goal

pub returns : goal.returns
returns c = rw c.bound.ensures.0 (sym (place-live c.args.self.now c.args.i))
