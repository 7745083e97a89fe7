-- The marked examples (`as-marked`), by computation.
-- Assumes nothing.
use mathlib.Core.Path.{refl}
use Rattle.scan.specs.Scan.{first_at, exists, any_at, tabulated}
use Rattle.header.specs.Link.{shared_set, id_width}
use Rattle.header.specs.Header.{header_size, header_number, header_bytes}
use Rattle.device.specs.Device.{start_rows, start_head, replaced, stream_to, closed, touched}
use Rattle.requests.specs.Requests.{places_of, place_at, fresh_requests, lowest, with_request, trimmed, without, released, ids_differ, distinct, live_ids}
use Rattle.kinds.specs.Table.{kinds}
use Rattle.kinds.specs.Codec.{layout, decode, read_number, content_at, encode, packet_number, write_number, written, written_size}
use Rattle.kinds.specs.Number.{bad, kind_number, wire_number}
use Rattle.frame.specs.Cut.{cut_of}
use Rattle.decoder.specs.Reading.{read_of}
use Rattle.events.specs.Meaning.{meanings}
use Rattle.events.specs.Event.{meaning_of, event_of}
use Rattle.checks.specs.Checks.{match_of, number_for}
use Rattle.session.specs.Session.{fresh_session, unfit}
use Rattle.session.specs.Step.{applied, next_for, judged}
use Rattle.gate.specs.Verdict.{verdict_of}
use Rattle.gate.specs.Offer.{barred, offer_of}
use Rattle.gate.specs.Write.{shut, output, output_size}
use Rattle.demands.specs.Marked.{call_numbers, handed_out, marked, AsMarked}

-- ---- the examples

pub as-marked : AsMarked
unfolding marked call_numbers handed_out offer_of barred unfit verdict_of read_of cut_of shut output output_size written written_size write_number packet_number read_number encode decode content_at header_size header_bytes header_number id_width shared_set wire_number kind_number bad layout kinds fresh_session judged number_for match_of next_for applied event_of meaning_of meanings start_head start_rows replaced stream_to closed touched fresh_requests place_at places_of lowest with_request trimmed without released ids_differ distinct live_ids first_at exists any_at tabulated
as-marked = (refl, (refl, (refl, (refl, (refl, (refl, (refl, (refl, (refl, (refl, (refl, (refl, (refl, (refl, (refl, (refl, (refl, tt)))))))))))))))))
