-- `session::fresh_session` meets its contract: its parts are those that `start_head`, `start_rows`, `fresh` and `start_watch` ensure.
-- Assumes nothing.
use Rattle.session.specs.Session.{fresh_session}
use Rattle.session.proofs.fresh_session.Goals as goal

pub returns : goal.returns
unfolding fresh_session
returns c =
    λ j.
    record {
      head = c.start_head.ensures j;
      rows = c.start_rows.ensures j;
      requests = c.fresh.ensures j;
      watch = c.start_watch.ensures j;
    }
