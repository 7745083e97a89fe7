-- The whole output for whole inputs, by computation.
-- Assumes nothing.
use Rattle.std.specs.Prelude.{◌≡◌, refl, []}
use Rattle.scan.specs.Scan.{tabulated}
use Rattle.header.specs.Link.{shared_set, id_width}
use Rattle.header.specs.Header.{header_size, header_number}
use Rattle.device.specs.Device.{start_head, start_rows}
use Rattle.requests.specs.Requests.{fresh_requests, place_at, places_of, distinct, live_ids, ids_differ}
use Rattle.session.specs.Session.{fresh_session, unfit}
use Rattle.frame.specs.Cut.{cut_of}
use Rattle.gate.specs.Offer.{barred, offer_of}
use Rattle.capture.specs.Lines.{ascii, starts_with, spelt, line_of, digits, answer_line, totals_line}
use Rattle.transcript.specs.Piece.{report_by}
use Rattle.transcript.specs.Input.{in_front, lines_of, output_from, start, output_of}

-- an empty input has only the totals
empty : output_of [] ≡ ascii "passed=0 refused=0 stopped=0\n"
unfolding lines_of output_from start totals_line digits fresh_session start_head
empty = refl

-- document 01's example
example-input : output_of (ascii "from=guest bytes=070000000000000007000000\n") ≡ ascii "from=guest type=7 length=0 id=7 answer=11\npassed=0 refused=1 stopped=1\n"
unfolding lines_of in_front output_from start totals_line answer_line digits line_of starts_with spelt fresh_session start_head report_by offer_of barred unfit cut_of header_size header_number id_width shared_set ids_differ fresh_requests place_at places_of tabulated distinct live_ids start_rows
example-input = refl

-- the newline at the end may be missing, and there is nothing behind a bad line but the totals
bad-line : output_of (ascii "from=host bytes=\nfrom=guest bytes=0\nfrom=guest bytes=070000000000000007000000") ≡ ascii "line=bad\npassed=0 refused=0 stopped=0\n"
unfolding lines_of in_front output_from start totals_line digits line_of starts_with spelt fresh_session start_head report_by
bad-line = refl

-- an empty line is bad
empty-line : output_of (ascii "\n") ≡ ascii "line=bad\npassed=0 refused=0 stopped=0\n"
unfolding lines_of output_from start totals_line digits line_of starts_with fresh_session start_head
empty-line = refl
