-- What the code's functions answer on the way to a call's record.
-- Assumes nothing: these are definitions.
use Rattle.std.specs.Prelude.{ℕ, ◌+◌, ◌%◌, ◌^◌, List, Some, None}
use Rattle.packet.specs.Packet.{rest_of}
use Rattle.gate.specs.Verdict.{Handed}
use Rattle.gate.specs.declared.Answer.{Answer}
use Rattle.test_drive.specs.declared.Span.{Span}
use Rattle.test_drive.specs.Drive.{location_number, record_bytes}

-- the sums wrap, which their four low bytes do not show
abbrev pub span_of : Handed → Span
span_of None = record { start = 0; end = 0; id = 0 }
span_of (Some (h, p)) = record { start = (h.size + (rest_of p).start) % 2 ^ 64; end = (h.size + (rest_of p).end) % 2 ^ 64; id = h.id }

abbrev pub answer_bytes : Answer → List ℕ
answer_bytes a = record_bytes a.number (location_number a.location) a.taken a.size (span_of a.handed).start (span_of a.handed).end (span_of a.handed).id
