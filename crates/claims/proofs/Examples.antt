-- The runs of `specs/Examples.antt`, by computation.
-- Assumes nothing.
use mathlib.Core.Path.{refl}
use Rattle.scan.specs.Scan.{first_at, exists, any_at, tabulated}
use Rattle.header.specs.Link.{shared_set, id_width}
use Rattle.device.specs.Device.{rows_of, start_rows, start_head, replaced, stream_to, closed, touched}
use Rattle.requests.specs.Requests.{places_of, place_at, fresh_requests, lowest, with_request, trimmed, without, released, cleared}
use Rattle.watch.specs.Watch.{start_watch, index_of, watched_row, changed_at, seen, forgotten}
use Rattle.kinds.specs.Table.{kinds}
use Rattle.kinds.specs.Codec.{layout}
use Rattle.kinds.specs.Number.{bad, kind_number, wire_number}
use Rattle.events.specs.Meaning.{meanings}
use Rattle.events.specs.Event.{meaning_of, event_of}
use Rattle.checks.specs.Checks.{match_of, number_for}
use Rattle.session.specs.Session.{fresh_session}
use Rattle.session.specs.Step.{applied, next_for, judged}
use Rattle.claims.specs.Examples.{answer_for, after_sent, numbers_for, AsExpected, WatchedAsExpected}

-- ---- the claim

pub as-expected : AsExpected
unfolding answer_for after_sent numbers_for wire_number kind_number bad id_width fresh_session judged number_for match_of next_for applied event_of meaning_of meanings layout kinds shared_set start_head start_rows rows_of replaced stream_to closed touched fresh_requests place_at places_of lowest with_request trimmed without released cleared first_at exists any_at tabulated
as-expected = refl

pub watched-as-expected : WatchedAsExpected
unfolding answer_for after_sent numbers_for wire_number kind_number bad id_width fresh_session judged number_for match_of next_for applied event_of meaning_of meanings layout kinds shared_set start_head start_rows rows_of replaced stream_to closed touched fresh_requests place_at places_of lowest with_request trimmed without released cleared first_at exists any_at tabulated start_watch index_of watched_row changed_at seen forgotten
watched-as-expected = (refl, refl, refl, refl, refl, refl)
