-- `session::Session::is_unfit` meets its contract: each test by what its function ensures.
-- Assumes nothing.
use mathlib.Core.Bool.{not, ◌||◌}
use Rattle.session.specs.Session.{unfit}
use Rattle.session.proofs.Session.is_unfit.Goals as goal

pub returns : goal.returns
unfolding unfit
returns c = λ j. c.is_held_bad.ensures j || c.is_held_bad-2.ensures j || not (c.ids_differ.ensures j) || not (c.has_control_rows.ensures j)
