-- `events::case_of` meets its contract: in each arm the packet is known, and what the calls give is what `means` has for it.
-- Assumes nothing.
use Rattle.events.proofs.EachKind.{means, iso-means, interrupt-means}
use Rattle.events.proofs.case_of.Goals as goal

pub returns-then-is_guest : goal.returns-then-is_guest
returns-then-is_guest c = rw c.in-Iso.is (iso-means _ _ _ _ _ _ c.is_guest.ensures c.if-is_guest.true)

pub returns-then-is_guest-is_in : goal.returns-then-is_guest-is_in
returns-then-is_guest-is_in c = rw c.in-Interrupt.is (interrupt-means _ _ _ _ _ _ _ c.is_guest-in-Interrupt.ensures c.is_in.ensures c.if-is_guest-is_in.true)

pub returns-in-Hello : goal.returns-in-Hello
returns-in-Hello c = rw (c.get32.ensures, c.part_of.ensures, c.in-Hello.is) (means _ _ _ _)

pub returns-in-Connect : goal.returns-in-Connect
returns-in-Connect c = rw c.in-Connect.is (means _ _ _ _)

pub returns-in-Disconnect : goal.returns-in-Disconnect
returns-in-Disconnect c = rw c.in-Disconnect.is (means _ _ _ _)

pub returns-in-Reset : goal.returns-in-Reset
returns-in-Reset c = rw c.in-Reset.is (means _ _ _ _)

pub returns-in-InterfaceTable : goal.returns-in-InterfaceTable
returns-in-InterfaceTable c = rw c.in-InterfaceTable.is (means _ _ _ _)

pub returns-in-EndpointTable : goal.returns-in-EndpointTable
returns-in-EndpointTable c = rw c.in-EndpointTable.is (means _ _ _ _)

pub returns-in-SetConfiguration : goal.returns-in-SetConfiguration
returns-in-SetConfiguration c = rw (c.asks_plainly.ensures, c.in-SetConfiguration.is) (means _ _ _ _)

pub returns-in-GetConfiguration : goal.returns-in-GetConfiguration
returns-in-GetConfiguration c = rw (c.asks_plainly-in-GetConfiguration.ensures, c.in-GetConfiguration.is) (means _ _ _ _)

pub returns-in-ConfigurationStatus : goal.returns-in-ConfigurationStatus
returns-in-ConfigurationStatus c = rw (c.answers_plainly.ensures, c.in-ConfigurationStatus.is) (means _ _ _ _)

pub returns-in-SetAlt : goal.returns-in-SetAlt
returns-in-SetAlt c = rw (c.asks_plainly-in-SetAlt.ensures, c.in-SetAlt.is) (means _ _ _ _)

pub returns-in-GetAlt : goal.returns-in-GetAlt
returns-in-GetAlt c = rw (c.asks_plainly-in-GetAlt.ensures, c.in-GetAlt.is) (means _ _ _ _)

pub returns-in-AltStatus : goal.returns-in-AltStatus
returns-in-AltStatus c = rw (c.answers_plainly-in-AltStatus.ensures, c.in-AltStatus.is) (means _ _ _ _)

pub returns-in-StartIso : goal.returns-in-StartIso
returns-in-StartIso c = rw (c.asks_stream.ensures, c.in-StartIso.is) (means _ _ _ _)

pub returns-in-StopIso : goal.returns-in-StopIso
returns-in-StopIso c = rw (c.asks_stream-in-StopIso.ensures, c.in-StopIso.is) (means _ _ _ _)

pub returns-in-IsoStatus : goal.returns-in-IsoStatus
returns-in-IsoStatus c = rw (c.reports_stream.ensures, c.in-IsoStatus.is) (means _ _ _ _)

pub returns-in-StartInterrupt : goal.returns-in-StartInterrupt
returns-in-StartInterrupt c = rw (c.asks_stream-in-StartInterrupt.ensures, c.in-StartInterrupt.is) (means _ _ _ _)

pub returns-in-StopInterrupt : goal.returns-in-StopInterrupt
returns-in-StopInterrupt c = rw (c.asks_stream-in-StopInterrupt.ensures, c.in-StopInterrupt.is) (means _ _ _ _)

pub returns-in-InterruptStatus : goal.returns-in-InterruptStatus
returns-in-InterruptStatus c = rw (c.reports_stream-in-InterruptStatus.ensures, c.in-InterruptStatus.is) (means _ _ _ _)

pub returns-in-AllocStreams : goal.returns-in-AllocStreams
returns-in-AllocStreams c = rw (c.asks_mask.ensures, c.in-AllocStreams.is) (means _ _ _ _)

pub returns-in-FreeStreams : goal.returns-in-FreeStreams
returns-in-FreeStreams c = rw (c.asks_mask-in-FreeStreams.ensures, c.in-FreeStreams.is) (means _ _ _ _)

pub returns-in-StreamsStatus : goal.returns-in-StreamsStatus
returns-in-StreamsStatus c = rw (c.answers_plainly-in-StreamsStatus.ensures, c.in-StreamsStatus.is) (means _ _ _ _)

pub returns-in-Cancel : goal.returns-in-Cancel
returns-in-Cancel c = rw c.in-Cancel.is (means _ _ _ _)

pub returns-in-FilterReject : goal.returns-in-FilterReject
returns-in-FilterReject c = rw c.in-FilterReject.is (means _ _ _ _)

pub returns-in-Filter : goal.returns-in-Filter
returns-in-Filter c = rw c.in-Filter.is (means _ _ _ _)

pub returns-in-DisconnectAck : goal.returns-in-DisconnectAck
returns-in-DisconnectAck c = rw c.in-DisconnectAck.is (means _ _ _ _)

pub returns-in-StartBulkReceiving : goal.returns-in-StartBulkReceiving
returns-in-StartBulkReceiving c = rw (c.asks_stream-in-StartBulkReceiving.ensures, c.in-StartBulkReceiving.is) (means _ _ _ _)

pub returns-in-StopBulkReceiving : goal.returns-in-StopBulkReceiving
returns-in-StopBulkReceiving c = rw (c.asks_stream-in-StopBulkReceiving.ensures, c.in-StopBulkReceiving.is) (means _ _ _ _)

pub returns-in-BulkReceivingStatus : goal.returns-in-BulkReceivingStatus
returns-in-BulkReceivingStatus c = rw (c.reports_stream-in-BulkReceivingStatus.ensures, c.in-BulkReceivingStatus.is) (means _ _ _ _)

pub returns-in-Control : goal.returns-in-Control
returns-in-Control c = rw (c.transfer.ensures, c.from.ensures, c.in-Control.is) (means _ _ _ _)

pub returns-in-Bulk : goal.returns-in-Bulk
returns-in-Bulk c = rw (c.transfer-in-Bulk.ensures, c.in-Bulk.is) (means _ _ _ _)

pub returns-else-is_guest : goal.returns-else-is_guest
returns-else-is_guest c = rw c.in-Iso.is (iso-means _ _ _ _ _ _ c.is_guest.ensures c.if-is_guest.false)

pub returns-else-is_guest-is_in : goal.returns-else-is_guest-is_in
returns-else-is_guest-is_in c = rw (c.transfer-else-is_guest-is_in.ensures, c.from-else-is_guest-is_in.ensures, c.in-Interrupt.is) (interrupt-means _ _ _ _ _ _ _ c.is_guest-in-Interrupt.ensures c.is_in.ensures c.if-is_guest-is_in.false)

pub returns-in-BufferedBulk : goal.returns-in-BufferedBulk
returns-in-BufferedBulk c = rw c.in-BufferedBulk.is (means _ _ _ _)
