-- The case that the code builds for each packet is the one that the table of meanings gives it (`means`), and a packet that is no endpoint table
-- announces the rows of the start (`others`): a line for each variant, by computation.
-- Assumes nothing.
use Prim.Native.Nat.{ℕ}
use native.Mathlib.Nat.{add-zero}
use mathlib.Core.Path.{◌≡◌, refl}
use mathlib.Core.Bool.{Bool, true, false, cond, not, ◌&&◌}
use mathlib.Core.List.{List}
use borrow.Table.Steps.{cases as either}
use Rattle.octets.specs.Little.{le}
use Rattle.endpoint.specs.declared.Endpoint.{Endpoint}
use Rattle.endpoint.specs.Endpoint.{is_in}
use Rattle.header.specs.declared.Side.{Side}
use Rattle.header.specs.declared.Side.TheVariants.{Guest, Host}
use Rattle.header.specs.Link.{is_guest}
use Rattle.kinds.specs.Table.{kinds}
use Rattle.kinds.specs.Codec.{layout}
use Rattle.packet.specs.declared.EndpointTable.{EndpointTable as EndpointTableFields}
use Rattle.packet.specs.declared.Iso.{Iso as IsoFields}
use Rattle.packet.specs.declared.Interrupt.{Interrupt as InterruptFields}
use Rattle.packet.specs.declared.Packet.{Packet}
use Rattle.packet.specs.declared.Packet.TheVariants.{Hello, Connect, Disconnect, Reset, InterfaceTable, EndpointTable, SetConfiguration, GetConfiguration, ConfigurationStatus, SetAlt, GetAlt, AltStatus, StartIso, StopIso, IsoStatus, StartInterrupt, StopInterrupt, InterruptStatus, AllocStreams, FreeStreams, StreamsStatus, Cancel, FilterReject, Filter, DisconnectAck, StartBulkReceiving, StopBulkReceiving, BulkReceivingStatus, Control, Bulk, Iso, Interrupt, BufferedBulk}
use Rattle.packet.proofs.Names.{first-single}
use Rattle.packet.specs.Packet.{in_part, high, content_of}
use Rattle.packet.proofs.Same.{bulk-count}
use Rattle.device.specs.Device.{control, iso, bulk, interrupt, start_rows}
use Rattle.requests.specs.declared.Request.{Request}
use Rattle.events.specs.declared.Typed.{Typed}
use Rattle.events.specs.declared.Typed.TheVariants.{Untyped, OfEndpoint, OfMask}
use Rattle.events.specs.declared.Case.{Case}
use Rattle.events.specs.declared.Case.TheVariants as cases
use Rattle.events.specs.Meaning.{meanings}
use Rattle.events.specs.Event.{meaning_of, event_of, Shows, Announces}

-- ---- the case that the code builds

abbrev request : ℕ → ℕ → ℕ → ℕ → Request
request kind id target n = record { id = id; kind = kind; target = target; length = n }

abbrev asks : ℕ → ℕ → ℕ → ℕ → Typed → Bool → Bool → Case
asks kind id target n typed starts transfer = cases.Asks (request kind id target n) typed starts transfer

-- a reply that has no stream
abbrev answers_to : ℕ → ℕ → ℕ → ℕ → ℕ → ℕ → ℕ → Bool → Case
answers_to kind id target n status first second targeted =
    cases.Answers (record { told = request kind id target n; answers = record { first = first; second = second; targeted = targeted }; status = status }) Untyped false

-- a status of a stream, to a start or a stop
abbrev reports : ℕ → ℕ → Endpoint → ℕ → ℕ → ℕ → ℕ → Case
reports kind id e ty status start stop =
    cases.Answers (record { told = request kind id e.0 0; answers = record { first = start; second = stop; targeted = true }; status = status }) (OfEndpoint e ty) true

-- data on an endpoint of this type: the guest's is a request, the host's the reply to one
abbrev transfers : Side → ℕ → ℕ → Endpoint → ℕ → ℕ → ℕ → Case
transfers from kind id e ty n status =
    cond (is_guest from) (asks kind id e.0 n (OfEndpoint e ty) false true) (answers_to kind id e.0 n status kind kind true)

abbrev builds : Side → ℕ → Packet → List ℕ → Case
builds from id (Hello x) body = cases.Hello (le 4 (in_part x.words body) 0)
builds from id (Connect x) body = cases.Connect
builds from id Disconnect body = cases.Disconnect
builds from id Reset body = cases.Reset
builds from id (InterfaceTable x) body = cases.Interfaces
builds from id (EndpointTable x) body = cases.Endpoints
builds from id (SetConfiguration x) body = asks 6 id 0 0 Untyped false false
builds from id GetConfiguration body = asks 7 id 0 0 Untyped false false
builds from id (ConfigurationStatus x) body = answers_to 8 id 0 0 x.status 6 7 false
builds from id (SetAlt x) body = asks 9 id x.interface 0 Untyped false false
builds from id (GetAlt x) body = asks 10 id x.interface 0 Untyped false false
builds from id (AltStatus x) body = answers_to 11 id x.interface 0 x.status 9 10 true
builds from id (StartIso x) body = asks 12 id x.endpoint.0 0 (OfEndpoint x.endpoint iso) true false
builds from id (StopIso x) body = asks 13 id x.endpoint.0 0 (OfEndpoint x.endpoint iso) false false
builds from id (IsoStatus x) body = reports 14 id x.endpoint iso x.status 12 13
builds from id (StartInterrupt x) body = asks 15 id x.endpoint.0 0 (OfEndpoint x.endpoint interrupt) true false
builds from id (StopInterrupt x) body = asks 16 id x.endpoint.0 0 (OfEndpoint x.endpoint interrupt) false false
builds from id (InterruptStatus x) body = reports 17 id x.endpoint interrupt x.status 15 16
builds from id (AllocStreams x) body = asks 18 id 0 0 (OfMask x.mask bulk) false false
builds from id (FreeStreams x) body = asks 19 id 0 0 (OfMask x.mask bulk) false false
builds from id (StreamsStatus x) body = answers_to 20 id 0 0 x.status 18 19 false
builds from id Cancel body = cases.Cancel
builds from id FilterReject body = cases.Filter
builds from id (Filter x) body = cases.Filter
builds from id DisconnectAck body = cases.Ack
builds from id (StartBulkReceiving x) body = asks 25 id x.endpoint.0 0 (OfEndpoint x.endpoint bulk) true false
builds from id (StopBulkReceiving x) body = asks 26 id x.endpoint.0 0 (OfEndpoint x.endpoint bulk) false false
builds from id (BulkReceivingStatus x) body = reports 27 id x.endpoint bulk x.status 25 26
builds from id (Control x) body = transfers from 100 id x.endpoint control x.length x.status
builds from id (Bulk x) body = transfers from 101 id x.endpoint bulk x.length x.status
builds from id (Iso x) body = cond (is_guest from) (cases.StreamsOut x.endpoint iso true) (cases.StreamsIn x.endpoint iso id)
builds from id (Interrupt x) body =
    cond (not (is_guest from) && is_in x.endpoint) (cases.StreamsIn x.endpoint interrupt id) (transfers from 103 id x.endpoint interrupt x.length x.status)
builds from id (BufferedBulk x) body = cases.StreamsIn x.endpoint bulk id

-- ---- is what the packet means

pub means : (from : Side) (id : ℕ) (p : Packet) (body : List ℕ) → Shows from id p body (builds from id p body)
unfolding meanings meaning_of event_of kinds layout content_of
means from id (Hello x) body caps = refl
means from id (Connect x) body caps = refl
means from id Disconnect body caps = refl
means from id Reset body caps = refl
means from id (InterfaceTable x) body caps = refl
means from id (EndpointTable x) body caps = refl
means Guest id (SetConfiguration x) body caps = refl
means Host id (SetConfiguration x) body caps = refl
means Guest id GetConfiguration body caps = refl
means Host id GetConfiguration body caps = refl
means from id (ConfigurationStatus x) body caps = refl
means Guest id (SetAlt x) body caps = refl
means Host id (SetAlt x) body caps = refl
means Guest id (GetAlt x) body caps = refl
means Host id (GetAlt x) body caps = refl
means from id (AltStatus x) body caps = refl
means Guest id (StartIso x) body caps = refl
means Host id (StartIso x) body caps = refl
means Guest id (StopIso x) body caps = refl
means Host id (StopIso x) body caps = refl
means from id (IsoStatus x) body caps = refl
means Guest id (StartInterrupt x) body caps = refl
means Host id (StartInterrupt x) body caps = refl
means Guest id (StopInterrupt x) body caps = refl
means Host id (StopInterrupt x) body caps = refl
means from id (InterruptStatus x) body caps = refl
means Guest id (AllocStreams x) body caps = refl
means Host id (AllocStreams x) body caps = refl
means Guest id (FreeStreams x) body caps = refl
means Host id (FreeStreams x) body caps = refl
means from id (StreamsStatus x) body caps = refl
means from id Cancel body caps = refl
means from id FilterReject body caps = refl
means from id (Filter x) body caps = refl
means from id DisconnectAck body caps = refl
means Guest id (StartBulkReceiving x) body caps = refl
means Host id (StartBulkReceiving x) body caps = refl
means Guest id (StopBulkReceiving x) body caps = refl
means Host id (StopBulkReceiving x) body caps = refl
means from id (BulkReceivingStatus x) body caps = refl
means Guest id (Control x) body caps = rw add-zero
means Host id (Control x) body caps = rw add-zero
means Guest id (Bulk x) body caps = rw (first-single (high caps x.length), bulk-count caps x.length)
means Host id (Bulk x) body caps = rw (first-single (high caps x.length), bulk-count caps x.length)
means Guest id (Iso x) body caps = refl
means Host id (Iso x) body caps = refl
means Guest id (Interrupt x) body caps = rw add-zero
means Host id (Interrupt x) body caps = either (is_in x.endpoint) (λ t. rw t) (λ t. rw (t, add-zero))
means Guest id (BufferedBulk x) body caps = refl
means Host id (BufferedBulk x) body caps = refl

-- an iso packet, by the test of the code
pub iso-means : (from : Side) (id : ℕ) (x : IsoFields) (body : List ℕ) (g b : Bool) → g ≡ is_guest from → g ≡ b
    → Shows from id (Iso x) body (cond b (cases.StreamsOut x.endpoint iso true) (cases.StreamsIn x.endpoint iso id))
iso-means from id x body g b p t = rw (← t, p) (means from id (Iso x) body)

-- an interrupt packet, by the two tests of the code
pub interrupt-means : (from : Side) (id : ℕ) (x : InterruptFields) (body : List ℕ) (g i b : Bool) → g ≡ is_guest from → i ≡ is_in x.endpoint → (not g && i) ≡ b
    → Shows from id (Interrupt x) body (cond b (cases.StreamsIn x.endpoint interrupt id) (transfers from 103 id x.endpoint interrupt x.length x.status))
interrupt-means from id x body g i b p q t = rw (← t, p, q) (means from id (Interrupt x) body)

-- ---- the rows of any packet but an endpoint table, whose key is 5

pub others : (p : Packet) (body : List ℕ) → ((t : EndpointTableFields) → p ≡ EndpointTable t → ⊥) → Announces p body start_rows
unfolding event_of content_of
others (Hello x) body k from caps id = refl
others (Connect x) body k from caps id = refl
others Disconnect body k from caps id = refl
others Reset body k from caps id = refl
others (InterfaceTable x) body k from caps id = refl
others (EndpointTable x) body k from caps id = absurd (k x refl)
others (SetConfiguration x) body k from caps id = refl
others GetConfiguration body k from caps id = refl
others (ConfigurationStatus x) body k from caps id = refl
others (SetAlt x) body k from caps id = refl
others (GetAlt x) body k from caps id = refl
others (AltStatus x) body k from caps id = refl
others (StartIso x) body k from caps id = refl
others (StopIso x) body k from caps id = refl
others (IsoStatus x) body k from caps id = refl
others (StartInterrupt x) body k from caps id = refl
others (StopInterrupt x) body k from caps id = refl
others (InterruptStatus x) body k from caps id = refl
others (AllocStreams x) body k from caps id = refl
others (FreeStreams x) body k from caps id = refl
others (StreamsStatus x) body k from caps id = refl
others Cancel body k from caps id = refl
others FilterReject body k from caps id = refl
others (Filter x) body k from caps id = refl
others DisconnectAck body k from caps id = refl
others (StartBulkReceiving x) body k from caps id = refl
others (StopBulkReceiving x) body k from caps id = refl
others (BulkReceivingStatus x) body k from caps id = refl
others (Control x) body k from caps id = refl
others (Bulk x) body k from caps id = refl
others (Iso x) body k from caps id = refl
others (Interrupt x) body k from caps id = refl
others (BufferedBulk x) body k from caps id = refl
