-- What 43 tests at its borders, and what a fresh session is, by computation.
-- Assumes nothing.
use mathlib.Core.Path.{refl}
use Rattle.scan.specs.Scan.{exists, tabulated}
use Rattle.device.specs.Device.{rows_of, start_rows, start_head}
use Rattle.requests.specs.Requests.{places_of, place_at, fresh_requests, with_request, ids_differ, distinct, live_ids}
use Rattle.watch.specs.Watch.{start_watch}
use Rattle.session.specs.Session.{fresh_session, unfit}
use Rattle.claims.specs.FitBorders.{HeldCounts, IdBorders, LiveBelowUsed, ControlRows, FreshIs, FreshRows, FreshPlaces}

pub held-counts : HeldCounts
unfolding unfit fresh_requests ids_differ distinct live_ids exists place_at places_of tabulated start_rows
held-counts = (refl, refl, refl, refl, refl, refl, refl, refl)

pub ids : IdBorders
unfolding unfit fresh_requests with_request ids_differ distinct live_ids exists place_at places_of tabulated start_rows
ids = (refl, refl, refl, refl)

pub live-below-used : LiveBelowUsed
unfolding unfit fresh_requests with_request ids_differ distinct live_ids exists place_at places_of tabulated start_rows
live-below-used = (refl, refl, refl, refl)

pub control-rows : ControlRows
unfolding unfit fresh_requests ids_differ distinct live_ids exists place_at places_of tabulated start_rows
control-rows = (refl, refl, refl, refl, refl)

pub fresh-is : FreshIs
unfolding fresh_session start_head start_rows fresh_requests start_watch
fresh-is = refl

pub fresh-rows : FreshRows
unfolding fresh_session start_rows rows_of tabulated
fresh-rows = refl

pub fresh-places : FreshPlaces
unfolding fresh_session fresh_requests places_of place_at tabulated
fresh-places = refl
