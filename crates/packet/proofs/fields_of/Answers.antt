-- `packet::fields_of` meets its contract: in each arm the packet is known, and its fields are those that the arm lists.
-- Assumes nothing.
use mathlib.Core.Path.{◌≡◌, refl}
use mathlib.Core.Bool.{cond, ◌||◌}
use native.Mathlib.Omega.{arith}
use lib.Dec.{ltb, lit<, lit≤}
use Rattle.octets.specs.Bits.{has_bit}
use Rattle.kinds.specs.Table.{kinds}
use Rattle.kinds.specs.Codec.{layout}
use Rattle.packet.proofs.Given as given
use Rattle.packet.proofs.fields_of.Goals as goal
use Rattle.packet.proofs.fields_of.Goals.{then-is_high, else-is_high}

pub returns-in-Hello : goal.returns-in-Hello
unfolding kinds layout
returns-in-Hello c = rw (c.with_rest.ensures, c.with_rows.ensures, c.few.ensures, c.in-Hello.is) (record { exact = refl; small = lit< tt; kind = refl; few = lit≤ tt; bare = λ z. absurd (omega (arith, z)); bytes = refl; fits = tt })

pub returns-in-Connect : goal.returns-in-Connect
unfolding kinds layout
returns-in-Connect c =
    let v = c.value16 in
    rw (c.many.ensures, v.ensures.0, c.connect_count.ensures, c.in-Connect.is)
    (given.connect _ _ _ _ _ _ _ _ (omega arith) (omega arith) (omega arith) (omega arith) (omega arith) (omega arith) (rw v.ensures.0 at v.ensures.1))

pub returns-in-Disconnect : goal.returns-in-Disconnect
unfolding kinds layout
returns-in-Disconnect c = rw (c.few-in-Disconnect.ensures, c.in-Disconnect.is) (record { exact = refl; small = lit< tt; kind = refl; few = lit≤ tt; bare = λ z. refl; bytes = refl; fits = tt })

pub returns-in-Reset : goal.returns-in-Reset
unfolding kinds layout
returns-in-Reset c = rw (c.few-in-Reset.ensures, c.in-Reset.is) (record { exact = refl; small = lit< tt; kind = refl; few = lit≤ tt; bare = λ z. refl; bytes = refl; fits = tt })

pub returns-in-InterfaceTable : goal.returns-in-InterfaceTable
unfolding kinds layout
returns-in-InterfaceTable c = rw (c.with_rows-in-InterfaceTable.ensures, c.few-in-InterfaceTable.ensures, c.in-InterfaceTable.is) (record { exact = refl; small = lit< tt; kind = refl; few = lit≤ tt; bare = λ z. absurd (omega (arith, z)); bytes = refl; fits = ((omega arith, tt), tt) })

pub returns-in-EndpointTable : goal.returns-in-EndpointTable
unfolding kinds layout
returns-in-EndpointTable c = rw (c.with_rows-in-EndpointTable.ensures, c.few-in-EndpointTable.ensures, c.in-EndpointTable.is) (record { exact = refl; small = lit< tt; kind = refl; few = lit≤ tt; bare = λ z. absurd (omega (arith, z)); bytes = refl; fits = tt })

pub returns-in-SetConfiguration : goal.returns-in-SetConfiguration
unfolding kinds layout
returns-in-SetConfiguration c = rw (c.few-in-SetConfiguration.ensures, c.in-SetConfiguration.is) (record { exact = refl; small = lit< tt; kind = refl; few = lit≤ tt; bare = λ z. refl; bytes = refl; fits = ((omega arith, tt), tt) })

pub returns-in-GetConfiguration : goal.returns-in-GetConfiguration
unfolding kinds layout
returns-in-GetConfiguration c = rw (c.few-in-GetConfiguration.ensures, c.in-GetConfiguration.is) (record { exact = refl; small = lit< tt; kind = refl; few = lit≤ tt; bare = λ z. refl; bytes = refl; fits = tt })

pub returns-in-ConfigurationStatus : goal.returns-in-ConfigurationStatus
unfolding kinds layout
returns-in-ConfigurationStatus c = rw (c.few-in-ConfigurationStatus.ensures, c.in-ConfigurationStatus.is) (record { exact = refl; small = lit< tt; kind = refl; few = lit≤ tt; bare = λ z. refl; bytes = refl; fits = ((omega arith, tt), ((omega arith, tt), tt)) })

pub returns-in-SetAlt : goal.returns-in-SetAlt
unfolding kinds layout
returns-in-SetAlt c = rw (c.few-in-SetAlt.ensures, c.in-SetAlt.is) (record { exact = refl; small = lit< tt; kind = refl; few = lit≤ tt; bare = λ z. refl; bytes = refl; fits = ((omega arith, tt), ((omega arith, tt), tt)) })

pub returns-in-GetAlt : goal.returns-in-GetAlt
unfolding kinds layout
returns-in-GetAlt c = rw (c.few-in-GetAlt.ensures, c.in-GetAlt.is) (record { exact = refl; small = lit< tt; kind = refl; few = lit≤ tt; bare = λ z. refl; bytes = refl; fits = ((omega arith, tt), tt) })

pub returns-in-AltStatus : goal.returns-in-AltStatus
unfolding kinds layout
returns-in-AltStatus c = rw (c.few-in-AltStatus.ensures, c.in-AltStatus.is) (record { exact = refl; small = lit< tt; kind = refl; few = lit≤ tt; bare = λ z. refl; bytes = refl; fits = ((omega arith, tt), ((omega arith, tt), ((omega arith, tt), tt))) })

pub returns-in-StartIso : goal.returns-in-StartIso
unfolding kinds layout
returns-in-StartIso c = rw (c.few-in-StartIso.ensures, c.in-StartIso.is) (record { exact = refl; small = lit< tt; kind = refl; few = lit≤ tt; bare = λ z. refl; bytes = refl; fits = ((omega arith, tt), ((omega arith, tt), ((omega arith, tt), tt))) })

pub returns-in-StopIso : goal.returns-in-StopIso
unfolding kinds layout
returns-in-StopIso c = rw (c.few-in-StopIso.ensures, c.in-StopIso.is) (record { exact = refl; small = lit< tt; kind = refl; few = lit≤ tt; bare = λ z. refl; bytes = refl; fits = ((omega arith, tt), tt) })

pub returns-in-IsoStatus : goal.returns-in-IsoStatus
unfolding kinds layout
returns-in-IsoStatus c = rw (c.few-in-IsoStatus.ensures, c.in-IsoStatus.is) (record { exact = refl; small = lit< tt; kind = refl; few = lit≤ tt; bare = λ z. refl; bytes = refl; fits = ((omega arith, tt), ((omega arith, tt), tt)) })

pub returns-in-StartInterrupt : goal.returns-in-StartInterrupt
unfolding kinds layout
returns-in-StartInterrupt c = rw (c.few-in-StartInterrupt.ensures, c.in-StartInterrupt.is) (record { exact = refl; small = lit< tt; kind = refl; few = lit≤ tt; bare = λ z. refl; bytes = refl; fits = ((omega arith, tt), tt) })

pub returns-in-StopInterrupt : goal.returns-in-StopInterrupt
unfolding kinds layout
returns-in-StopInterrupt c = rw (c.few-in-StopInterrupt.ensures, c.in-StopInterrupt.is) (record { exact = refl; small = lit< tt; kind = refl; few = lit≤ tt; bare = λ z. refl; bytes = refl; fits = ((omega arith, tt), tt) })

pub returns-in-InterruptStatus : goal.returns-in-InterruptStatus
unfolding kinds layout
returns-in-InterruptStatus c = rw (c.few-in-InterruptStatus.ensures, c.in-InterruptStatus.is) (record { exact = refl; small = lit< tt; kind = refl; few = lit≤ tt; bare = λ z. refl; bytes = refl; fits = ((omega arith, tt), ((omega arith, tt), tt)) })

pub returns-in-AllocStreams : goal.returns-in-AllocStreams
unfolding kinds layout
returns-in-AllocStreams c = rw (c.few-in-AllocStreams.ensures, c.in-AllocStreams.is) (record { exact = refl; small = lit< tt; kind = refl; few = lit≤ tt; bare = λ z. refl; bytes = refl; fits = ((omega arith, tt), ((omega arith, tt), tt)) })

pub returns-in-FreeStreams : goal.returns-in-FreeStreams
unfolding kinds layout
returns-in-FreeStreams c = rw (c.few-in-FreeStreams.ensures, c.in-FreeStreams.is) (record { exact = refl; small = lit< tt; kind = refl; few = lit≤ tt; bare = λ z. refl; bytes = refl; fits = ((omega arith, tt), tt) })

pub returns-in-StreamsStatus : goal.returns-in-StreamsStatus
unfolding kinds layout
returns-in-StreamsStatus c = rw (c.few-in-StreamsStatus.ensures, c.in-StreamsStatus.is) (record { exact = refl; small = lit< tt; kind = refl; few = lit≤ tt; bare = λ z. refl; bytes = refl; fits = ((omega arith, tt), ((omega arith, tt), ((omega arith, tt), tt))) })

pub returns-in-Cancel : goal.returns-in-Cancel
unfolding kinds layout
returns-in-Cancel c = rw (c.few-in-Cancel.ensures, c.in-Cancel.is) (record { exact = refl; small = lit< tt; kind = refl; few = lit≤ tt; bare = λ z. refl; bytes = refl; fits = tt })

pub returns-in-FilterReject : goal.returns-in-FilterReject
unfolding kinds layout
returns-in-FilterReject c = rw (c.few-in-FilterReject.ensures, c.in-FilterReject.is) (record { exact = refl; small = lit< tt; kind = refl; few = lit≤ tt; bare = λ z. refl; bytes = refl; fits = tt })

pub returns-in-Filter : goal.returns-in-Filter
unfolding kinds layout
returns-in-Filter c = rw (c.with_rest-in-Filter.ensures, c.few-in-Filter.ensures, c.in-Filter.is) (record { exact = refl; small = lit< tt; kind = refl; few = lit≤ tt; bare = λ z. refl; bytes = refl; fits = tt })

pub returns-in-DisconnectAck : goal.returns-in-DisconnectAck
unfolding kinds layout
returns-in-DisconnectAck c = rw (c.few-in-DisconnectAck.ensures, c.in-DisconnectAck.is) (record { exact = refl; small = lit< tt; kind = refl; few = lit≤ tt; bare = λ z. refl; bytes = refl; fits = tt })

pub returns-in-StartBulkReceiving : goal.returns-in-StartBulkReceiving
unfolding kinds layout
returns-in-StartBulkReceiving c = rw (c.few-in-StartBulkReceiving.ensures, c.in-StartBulkReceiving.is) (record { exact = refl; small = lit< tt; kind = refl; few = lit≤ tt; bare = λ z. refl; bytes = refl; fits = ((omega arith, tt), ((omega arith, tt), ((omega arith, tt), ((omega arith, tt), tt)))) })

pub returns-in-StopBulkReceiving : goal.returns-in-StopBulkReceiving
unfolding kinds layout
returns-in-StopBulkReceiving c = rw (c.few-in-StopBulkReceiving.ensures, c.in-StopBulkReceiving.is) (record { exact = refl; small = lit< tt; kind = refl; few = lit≤ tt; bare = λ z. refl; bytes = refl; fits = ((omega arith, tt), ((omega arith, tt), tt)) })

pub returns-in-BulkReceivingStatus : goal.returns-in-BulkReceivingStatus
unfolding kinds layout
returns-in-BulkReceivingStatus c = rw (c.few-in-BulkReceivingStatus.ensures, c.in-BulkReceivingStatus.is) (record { exact = refl; small = lit< tt; kind = refl; few = lit≤ tt; bare = λ z. refl; bytes = refl; fits = ((omega arith, tt), ((omega arith, tt), ((omega arith, tt), tt))) })

pub returns-in-Control : goal.returns-in-Control
unfolding kinds layout
returns-in-Control c = rw (c.with_rest-in-Control.ensures, c.many-in-Control.ensures, c.in-Control.is) (record { exact = refl; small = lit< tt; kind = refl; few = lit≤ tt; bare = λ z. refl; bytes = refl; fits = ((omega arith, tt), ((omega arith, tt), ((omega arith, tt), ((omega arith, tt), ((omega arith, tt), ((omega (arith, c.struct_known-in-Control-6-1.given), tt), ((omega (arith, c.struct_known-in-Control-7-1.given), tt), tt))))))) })

pub returns-after-is_high : goal.returns-after-is_high
unfolding kinds layout
returns-after-is_high c =
    let n : c.if-is_high.count ≡ cond (has_bit c.args.caps 6 || ltb 65535 c.in-Bulk.x.length) 5 4 =
    elim c.if-is_high.branch [
      | then-is_high w ↦ rw (w.count-is, ← c.has_bit.ensures, w.if-is_high.true)
      | else-is_high w ↦ rw (w.count-is, ← c.has_bit.ensures, w.if-is_high.false)
    ] in
    rw (c.with_rest-in-Bulk.ensures, c.many-in-Bulk.ensures, n, c.in-Bulk.is)
    (given.bulk _ _ _ _ _ _ (omega arith) (omega arith) (omega arith) (omega arith))

pub returns-in-Iso : goal.returns-in-Iso
unfolding kinds layout
returns-in-Iso c = rw (c.with_rest-in-Iso.ensures, c.few-in-Iso.ensures, c.in-Iso.is) (record { exact = refl; small = lit< tt; kind = refl; few = lit≤ tt; bare = λ z. refl; bytes = refl; fits = ((omega arith, tt), ((omega arith, tt), ((omega arith, tt), tt))) })

pub returns-in-Interrupt : goal.returns-in-Interrupt
unfolding kinds layout
returns-in-Interrupt c = rw (c.with_rest-in-Interrupt.ensures, c.few-in-Interrupt.ensures, c.in-Interrupt.is) (record { exact = refl; small = lit< tt; kind = refl; few = lit≤ tt; bare = λ z. refl; bytes = refl; fits = ((omega arith, tt), ((omega arith, tt), ((omega arith, tt), tt))) })

pub returns-in-BufferedBulk : goal.returns-in-BufferedBulk
unfolding kinds layout
returns-in-BufferedBulk c = rw (c.with_rest-in-BufferedBulk.ensures, c.few-in-BufferedBulk.ensures, c.in-BufferedBulk.is) (record { exact = refl; small = lit< tt; kind = refl; few = lit≤ tt; bare = λ z. refl; bytes = refl; fits = ((omega arith, tt), ((omega arith, tt), ((omega arith, tt), ((omega arith, tt), tt)))) })
