-- `rules::findings_of` meets its contract: in each arm the packet is known, and what the calls give is what the kind's law of `EachKind` has.
-- Assumes nothing.
use Rattle.rules.proofs.EachKind as law
use Rattle.rules.proofs.findings_of.Goals as goal

pub returns-in-Hello : goal.returns-in-Hello
returns-in-Hello c = rw c.in-Hello.is (c.hello.ensures _ _)

pub returns-in-Connect : goal.returns-in-Connect
returns-in-Connect c = rw c.in-Connect.is (c.connect.ensures _ _)

pub returns-in-Disconnect : goal.returns-in-Disconnect
returns-in-Disconnect c = rw (c.plain.ensures, c.zero_id.ensures, c.in-Disconnect.is) (law.disconnect _ _ _ _)

pub returns-in-Reset : goal.returns-in-Reset
returns-in-Reset c = rw (c.plain-in-Reset.ensures, c.in-Reset.is) (law.reset _ _ _ _)

pub returns-in-InterfaceTable : goal.returns-in-InterfaceTable
returns-in-InterfaceTable c = rw c.in-InterfaceTable.is (c.interfaces.ensures _ _)

pub returns-in-EndpointTable : goal.returns-in-EndpointTable
returns-in-EndpointTable c = rw c.in-EndpointTable.is (c.endpoints.ensures _)

pub returns-in-SetConfiguration : goal.returns-in-SetConfiguration
returns-in-SetConfiguration c = rw (c.plain-in-SetConfiguration.ensures, c.in-SetConfiguration.is) (law.set-configuration _ _ _ _ _)

pub returns-in-GetConfiguration : goal.returns-in-GetConfiguration
returns-in-GetConfiguration c = rw (c.plain-in-GetConfiguration.ensures, c.in-GetConfiguration.is) (law.get-configuration _ _ _ _)

pub returns-in-ConfigurationStatus : goal.returns-in-ConfigurationStatus
returns-in-ConfigurationStatus c = rw (c.plain-in-ConfigurationStatus.ensures, c.in-ConfigurationStatus.is) (law.configuration-status _ _ _ _ _)

pub returns-in-SetAlt : goal.returns-in-SetAlt
returns-in-SetAlt c = rw (c.plain-in-SetAlt.ensures, c.in-SetAlt.is) (law.set_alt _ _ _ _ _)

pub returns-in-GetAlt : goal.returns-in-GetAlt
returns-in-GetAlt c = rw (c.plain-in-GetAlt.ensures, c.in-GetAlt.is) (law.get-alt _ _ _ _ _)

pub returns-in-AltStatus : goal.returns-in-AltStatus
returns-in-AltStatus c = rw (c.plain-in-AltStatus.ensures, c.in-AltStatus.is) (law.alt_status _ _ _ _ _)

pub returns-in-StartIso : goal.returns-in-StartIso
returns-in-StartIso c = rw (c.plain-in-StartIso.ensures, c.endpoint_at.ensures, c.in-StartIso.is) (law.start_iso _ _ _ _ _)

pub returns-in-StopIso : goal.returns-in-StopIso
returns-in-StopIso c = rw (c.plain-in-StopIso.ensures, c.endpoint_at-in-StopIso.ensures, c.in-StopIso.is) (law.stop_iso _ _ _ _ _)

pub returns-in-IsoStatus : goal.returns-in-IsoStatus
returns-in-IsoStatus c = rw (c.plain-in-IsoStatus.ensures, c.endpoint_at-in-IsoStatus.ensures, c.in-IsoStatus.is) (law.iso_status _ _ _ _ _)

pub returns-in-StartInterrupt : goal.returns-in-StartInterrupt
returns-in-StartInterrupt c = rw (c.plain-in-StartInterrupt.ensures, c.in_at.ensures, c.in-StartInterrupt.is) (law.start_interrupt _ _ _ _ _)

pub returns-in-StopInterrupt : goal.returns-in-StopInterrupt
returns-in-StopInterrupt c = rw (c.plain-in-StopInterrupt.ensures, c.in_at-in-StopInterrupt.ensures, c.in-StopInterrupt.is) (law.stop-interrupt _ _ _ _ _)

pub returns-in-InterruptStatus : goal.returns-in-InterruptStatus
returns-in-InterruptStatus c = rw (c.plain-in-InterruptStatus.ensures, c.endpoint_at-in-InterruptStatus.ensures, c.in-InterruptStatus.is) (law.interrupt-status _ _ _ _ _)

pub returns-in-AllocStreams : goal.returns-in-AllocStreams
returns-in-AllocStreams c = rw (c.plain-in-AllocStreams.ensures, c.checked.ensures, c.in-AllocStreams.is) (law.alloc-streams _ _ _ _ _)

pub returns-in-FreeStreams : goal.returns-in-FreeStreams
returns-in-FreeStreams c = rw (c.plain-in-FreeStreams.ensures, c.checked-in-FreeStreams.ensures, c.in-FreeStreams.is) (law.free-streams _ _ _ _ _)

pub returns-in-StreamsStatus : goal.returns-in-StreamsStatus
returns-in-StreamsStatus c = rw (c.plain-in-StreamsStatus.ensures, c.in-StreamsStatus.is) (law.streams-status _ _ _ _ _)

pub returns-in-Cancel : goal.returns-in-Cancel
returns-in-Cancel c = rw (c.plain-in-Cancel.ensures, c.in-Cancel.is) (law.cancel _ _ _ _)

pub returns-in-FilterReject : goal.returns-in-FilterReject
returns-in-FilterReject c = rw (c.plain-in-FilterReject.ensures, c.zero_id-in-FilterReject.ensures, c.in-FilterReject.is) (law.filter-reject _ _ _ _)

pub returns-in-Filter : goal.returns-in-Filter
returns-in-Filter c = rw c.in-Filter.is (c.filter.ensures _ _)

pub returns-in-DisconnectAck : goal.returns-in-DisconnectAck
returns-in-DisconnectAck c = rw (c.plain-in-DisconnectAck.ensures, c.zero_id-in-DisconnectAck.ensures, c.in-DisconnectAck.is) (law.disconnect-ack _ _ _ _)

pub returns-in-StartBulkReceiving : goal.returns-in-StartBulkReceiving
returns-in-StartBulkReceiving c = rw (c.plain-in-StartBulkReceiving.ensures, c.in_at-in-StartBulkReceiving.ensures, c.in-StartBulkReceiving.is) (law.start-bulk-receiving _ _ _ _ _)

pub returns-in-StopBulkReceiving : goal.returns-in-StopBulkReceiving
returns-in-StopBulkReceiving c = rw (c.plain-in-StopBulkReceiving.ensures, c.in_at-in-StopBulkReceiving.ensures, c.in-StopBulkReceiving.is) (law.stop-bulk-receiving _ _ _ _ _)

pub returns-in-BulkReceivingStatus : goal.returns-in-BulkReceivingStatus
returns-in-BulkReceivingStatus c = rw (c.plain-in-BulkReceivingStatus.ensures, c.in_at-in-BulkReceivingStatus.ensures, c.in-BulkReceivingStatus.is) (law.bulk-receiving-status _ _ _ _ _)

pub returns-in-Control : goal.returns-in-Control
returns-in-Control c = rw c.in-Control.is (c.control.ensures _)

pub returns-in-Iso : goal.returns-in-Iso
returns-in-Iso c = rw c.in-Iso.is (c.iso.ensures _)

pub returns-in-Interrupt : goal.returns-in-Interrupt
returns-in-Interrupt c = rw c.in-Interrupt.is (c.interrupt.ensures _)

pub returns-in-BufferedBulk : goal.returns-in-BufferedBulk
returns-in-BufferedBulk c = rw c.in-BufferedBulk.is (c.buffered_bulk.ensures _ _)
