-- Demand 3 at work: all but what came out is computed; that is demand 3's, for these lists.
-- Assumes nothing.
use Prim.Native.Nat.{ℕ, ◌<◌}
use native.Mathlib.Omega.{arith}
use mathlib.Core.List.{List, [], ◌∷◌, ◌++◌}
use mathlib.Core.Path.{◌≡◌, refl, ◌∙◌}
use lib.ListN.{length, replicate}
use lib.Dec.{lit<, lit≤}
use Rattle.header.specs.declared.Side.TheVariants.{Guest}
use Rattle.header.specs.Link.{shared_set, id_width}
use Rattle.header.specs.Header.{header_size, header_bytes, header_number}
use Rattle.kinds.specs.Table.{kinds}
use Rattle.kinds.specs.Content.{Content}
use Rattle.kinds.specs.Codec.{layout, content_at, decode, encode, read_number, packet_number, write_number, written, written_size, Accepted}
use Rattle.kinds.specs.Number.{bad, kind_number, wire_number}
use Rattle.scan.specs.Scan.{first_at, exists, any_at, tabulated}
use Rattle.device.specs.Device.{start_rows, start_head, replaced, stream_to, closed, touched}
use Rattle.requests.specs.Requests.{fresh_requests, place_at, places_of, lowest, with_request, trimmed, without, released, distinct, live_ids, ids_differ}
use Rattle.events.specs.Meaning.{meanings}
use Rattle.events.specs.Event.{meaning_of, event_of}
use Rattle.checks.specs.Checks.{match_of, number_for}
use Rattle.session.specs.Session.{link_of, unfit}
use Rattle.session.specs.Step.{applied, next_for, judged}
use Rattle.decoder.specs.Reading.{read_of}
use Rattle.frame.specs.Cut.{cut_of}
use Rattle.gate.specs.Verdict.{verdict_of}
use Rattle.gate.specs.Offer.{barred, offer_of}
use Rattle.gate.specs.Write.{shut, write_by, output, output_size}
use Rattle.wire.specs.Reader.{run, taken, Cuts, within, accepted, joined}
use Rattle.wire.specs.Usbredir.{usbredir}
use Rattle.demands.specs.Demand3.{reader, WriterCall, writer, Starts}
use Rattle.demands.proofs.Demand3.{demand-3}
use Rattle.demands.specs.AtWork.{start, m3, wide, m1, first, second, third, offers, steps, AtWork}

abbrev out64 : List ℕ
out64 = replicate 64 0

accepted-m3 : Accepted (link_of Guest start.session) m3
unfolding packet_number layout kinds header_number wire_number kind_number bad id_width shared_set
accepted-m3 = record { fields = (((lit< tt), tt), (((lit< tt), tt), (((lit< tt), tt), (((lit< tt), tt), tt)))); id = omega arith; number = refl }

accepted-m1 : Accepted (link_of Guest start.session) m1
unfolding packet_number layout kinds header_number wire_number kind_number bad id_width shared_set
accepted-m1 = record { fields = tt; id = omega arith; number = refl }

-- the wide id is 22
wide-number : write_by Guest start.session wide 64 ≡ 22
unfolding write_by shut unfit write_number packet_number encode header_bytes header_number id_width shared_set wire_number kind_number bad layout kinds start_rows fresh_requests ids_differ distinct live_ids places_of place_at tabulated
wide-number = refl

-- a call of the writer with 64 bytes of output, and what its contract makes it answer
abbrev call_with : (p : Content) → (write_by Guest start.session p (length out64) ≡ 0 → Accepted (link_of Guest start.session) p) → WriterCall Guest start.session
call_with p a =
    record {
      packet = p;
      out = out64;
      answer = record { number = write_by Guest start.session p (length out64); size = output_size Guest start.session p (length out64) };
      after = output Guest start.session p out64;
      contract = record { number = refl; size = refl; output = refl; accepted = a };
    }

unfoldable calls : List (WriterCall Guest start.session)
calls = call_with m3 (λ e. accepted-m3) ∷ call_with wide (λ e. absurd (omega (arith, e, wide-number))) ∷ call_with m1 (λ e. accepted-m1) ∷ []

starts : Starts Guest start
unfolding unfit start_rows fresh_requests ids_differ distinct live_ids places_of place_at tabulated
starts = record { running = refl; guest = refl; host = refl; fit = refl; nothing-held = refl; room = lit≤ tt }

both-accepted : accepted usbredir (writer Guest start.session) calls ≡ (m3 ∷ m1 ∷ [])
unfolding accepted calls write_by shut unfit write_number packet_number encode header_bytes header_number id_width shared_set wire_number kind_number bad layout kinds start_rows fresh_requests ids_differ distinct live_ids places_of place_at tabulated
both-accepted = refl

all-bytes : joined usbredir (writer Guest start.session) calls ≡ first ++ (second ++ third)
unfolding joined calls output output_size written written_size write_by shut unfit write_number packet_number encode header_bytes header_number id_width shared_set wire_number kind_number bad layout kinds start_rows fresh_requests ids_differ distinct live_ids places_of place_at tabulated
all-bytes = refl

all-taken : taken usbredir (reader Guest) steps ≡ 34
unfolding run taken offer_of barred unfit verdict_of read_of cut_of read_number encode decode content_at header_size header_bytes header_number id_width shared_set wire_number kind_number bad layout kinds judged number_for match_of next_for applied event_of meaning_of meanings start_head start_rows replaced stream_to closed touched fresh_requests place_at places_of lowest with_request trimmed without released ids_differ distinct live_ids first_at exists any_at tabulated
all-taken = refl

pieces : Cuts usbredir (reader Guest) steps (joined usbredir (writer Guest start.session) calls)
unfolding run offer_of barred unfit verdict_of read_of cut_of read_number encode decode content_at header_size header_bytes header_number id_width shared_set wire_number kind_number bad layout kinds judged number_for match_of next_for applied event_of meaning_of meanings start_head start_rows replaced stream_to closed touched fresh_requests place_at places_of lowest with_request trimmed without released ids_differ distinct live_ids first_at exists any_at tabulated joined calls output output_size written written_size write_by shut write_number packet_number
pieces = ((second ++ third, refl), (((0 ∷ 0 ∷ 0 ∷ 0 ∷ 7 ∷ 0 ∷ 0 ∷ 0 ∷ []), refl), (([], refl), tt)))

both-within : within usbredir (link_of Guest start.session) 34 (m3 ∷ m1 ∷ []) ≡ (m3 ∷ m1 ∷ [])
unfolding within encode header_bytes id_width shared_set layout kinds
both-within = refl

pub at-work : AtWork
unfolding calls run offer_of barred unfit verdict_of read_of cut_of read_number encode decode content_at header_size header_bytes header_number id_width shared_set wire_number kind_number bad layout kinds judged number_for match_of next_for applied event_of meaning_of meanings start_head start_rows replaced stream_to closed touched fresh_requests place_at places_of lowest with_request trimmed without released ids_differ distinct live_ids first_at exists any_at tabulated write_by shut write_number packet_number
at-work =
    record {
      starts = starts;
      calls = calls;
      packets = refl;
      numbers = refl;
      all-accepted = both-accepted;
      bytes = all-bytes;
      cut = pieces;
      all-taken = all-taken;
      answers = refl;
      reply = refl;
      out =
          ((demand-3 Guest start starts).read calls offers pieces).out
          ∙ (λ i. within usbredir (link_of Guest start.session) (all-taken i) (both-accepted i))
          ∙ both-within;
      handed = refl;
    }
