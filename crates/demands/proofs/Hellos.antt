-- Demand 3 starts somewhere (`hellos-start`, `old-start`), by computation.
-- Assumes nothing.
use Prim.Native.Nat.{ℕ, ◌≤◌}
use native.Mathlib.Omega.{arith}
use mathlib.Core.Path.{refl}
use lib.ListN.{length, length-replicate}
use Rattle.scan.specs.Scan.{first_at, exists, any_at, tabulated}
use Rattle.header.specs.declared.Side.{Side}
use Rattle.header.specs.declared.Side.TheVariants.{Guest, Host}
use Rattle.header.specs.Link.{shared_set, id_width}
use Rattle.header.specs.Header.{header_size, header_number}
use Rattle.device.specs.Device.{start_rows, start_head}
use Rattle.requests.specs.Requests.{places_of, place_at, fresh_requests, lowest, ids_differ, distinct, live_ids}
use Rattle.kinds.specs.Table.{kinds}
use Rattle.kinds.specs.Codec.{layout, decode, read_number, content_at}
use Rattle.kinds.specs.Number.{bad, kind_number, wire_number}
use Rattle.frame.specs.Cut.{cut_of}
use Rattle.events.specs.Meaning.{meanings}
use Rattle.events.specs.Event.{meaning_of, event_of}
use Rattle.checks.specs.Checks.{match_of, number_for}
use Rattle.session.specs.Session.{fresh_session, unfit}
use Rattle.session.specs.Step.{applied, next_for, judged}
use Rattle.gate.specs.Verdict.{verdict_of}
use Rattle.gate.specs.Offer.{barred, offer_of}
use Rattle.demands.specs.CallLists.{final}
use Rattle.demands.specs.Hellos.{buffers, hello_calls, newest, oldest, HellosStart, OldStart}
use Rattle.demands.proofs.FromStart.{begun-starts}

buffers-room : (d : Side) → 32784 ≤ length (buffers d)
buffers-room d = omega (arith, length-replicate {A = ℕ} 32784 0)

pub hellos-start : HellosStart
unfolding final offer_of barred unfit verdict_of cut_of read_number decode content_at header_size header_number id_width shared_set wire_number kind_number bad layout kinds fresh_session judged number_for match_of next_for applied event_of meaning_of meanings start_head start_rows fresh_requests place_at places_of lowest ids_differ distinct live_ids first_at exists any_at tabulated
hellos-start Guest = begun-starts buffers buffers-room (hello_calls newest newest) Guest refl refl refl refl
hellos-start Host = begun-starts buffers buffers-room (hello_calls newest newest) Host refl refl refl refl

pub old-start : OldStart
unfolding final offer_of barred unfit verdict_of cut_of read_number decode content_at header_size header_number id_width shared_set wire_number kind_number bad layout kinds fresh_session judged number_for match_of next_for applied event_of meaning_of meanings start_head start_rows fresh_requests place_at places_of lowest ids_differ distinct live_ids first_at exists any_at tabulated
old-start Guest = begun-starts buffers buffers-room (hello_calls oldest newest) Guest refl refl refl refl
old-start Host = begun-starts buffers buffers-room (hello_calls oldest newest) Host refl refl refl refl
