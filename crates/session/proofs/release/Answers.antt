-- `session::release` meets its contract: in a scope of no row `free` is a release (`released-nowhere`).
-- Assumes nothing.
use mathlib.Core.Path.{sym, ◌∙◌}
use borrow.Author.Tests.{lt-ltb}
use Rattle.requests.proofs.Places.{released-nowhere}
use Rattle.session.proofs.release.Goals as goal

pub returns-in-NoRow : goal.returns-in-NoRow
returns-in-NoRow c = rw (c.in-Some.is, lt-ltb _ _ c.if-i-lt-PLACES.true, c.in-NoRow.is) (c.free.ensures ∙ sym (released-nowhere _ _ _))
