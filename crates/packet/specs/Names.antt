-- A field's name in the code is its name in the table: what a packet says under the name of a field is the number in the packet's field of that
-- name, and what follows the fields is the part of its name (`NamedFields`). Each variant has its own kind's number. A bulk packet's count stands
-- in two fields of the table. A hello's version and the rows of the tables stand in a part of the body: the numbers of such a field are those of
-- that part, and a row's field is the cell of the column of its name.
-- Assumes nothing: these are statements; proofs/Names.antt shows them.
use Rattle.std.specs.Bool.{then_some}
use Rattle.std.specs.Prelude.{ℕ, ◌+◌, ◌*◌, Bool, true, false, cond, ◌≡◌, List, [], ◌∷◌, length, get_or, Some, None}
use Prim.Native.String.{String}
use lib.Text.{eqt}
use Rattle.kinds.specs.Table.{Field}
use Rattle.kinds.specs.Content.{Value, named}
use Rattle.kinds.specs.Codec.{layout}
use Rattle.packet.specs.declared.Hello.{Hello as HelloFields}
use Rattle.packet.specs.declared.Connect.{Connect as ConnectFields}
use Rattle.packet.specs.declared.InterfaceTable.{InterfaceTable as InterfaceTableFields}
use Rattle.packet.specs.declared.EndpointTable.{EndpointTable as EndpointTableFields}
use Rattle.packet.specs.declared.SetConfiguration.{SetConfiguration as SetConfigurationFields}
use Rattle.packet.specs.declared.ConfigurationStatus.{ConfigurationStatus as ConfigurationStatusFields}
use Rattle.packet.specs.declared.SetAlt.{SetAlt as SetAltFields}
use Rattle.packet.specs.declared.GetAlt.{GetAlt as GetAltFields}
use Rattle.packet.specs.declared.AltStatus.{AltStatus as AltStatusFields}
use Rattle.packet.specs.declared.StartIso.{StartIso as StartIsoFields}
use Rattle.packet.specs.declared.StopIso.{StopIso as StopIsoFields}
use Rattle.packet.specs.declared.IsoStatus.{IsoStatus as IsoStatusFields}
use Rattle.packet.specs.declared.StartInterrupt.{StartInterrupt as StartInterruptFields}
use Rattle.packet.specs.declared.StopInterrupt.{StopInterrupt as StopInterruptFields}
use Rattle.packet.specs.declared.InterruptStatus.{InterruptStatus as InterruptStatusFields}
use Rattle.packet.specs.declared.AllocStreams.{AllocStreams as AllocStreamsFields}
use Rattle.packet.specs.declared.FreeStreams.{FreeStreams as FreeStreamsFields}
use Rattle.packet.specs.declared.StreamsStatus.{StreamsStatus as StreamsStatusFields}
use Rattle.packet.specs.declared.Filter.{Filter as FilterFields}
use Rattle.packet.specs.declared.StartBulkReceiving.{StartBulkReceiving as StartBulkReceivingFields}
use Rattle.packet.specs.declared.StopBulkReceiving.{StopBulkReceiving as StopBulkReceivingFields}
use Rattle.packet.specs.declared.BulkReceivingStatus.{BulkReceivingStatus as BulkReceivingStatusFields}
use Rattle.packet.specs.declared.Control.{Control as ControlFields}
use Rattle.packet.specs.declared.Bulk.{Bulk as BulkFields}
use Rattle.packet.specs.declared.Iso.{Iso as IsoFields}
use Rattle.packet.specs.declared.Interrupt.{Interrupt as InterruptFields}
use Rattle.packet.specs.declared.BufferedBulk.{BufferedBulk as BufferedBulkFields}
use Rattle.packet.specs.declared.Packet.{Packet}
use Rattle.packet.specs.declared.Packet.TheVariants.{Hello, Connect, Disconnect, Reset, InterfaceTable, EndpointTable, SetConfiguration, GetConfiguration, ConfigurationStatus, SetAlt, GetAlt, AltStatus, StartIso, StopIso, IsoStatus, StartInterrupt, StopInterrupt, InterruptStatus, AllocStreams, FreeStreams, StreamsStatus, Cancel, FilterReject, Filter, DisconnectAck, StartBulkReceiving, StopBulkReceiving, BulkReceivingStatus, Control, Bulk, Iso, Interrupt, BufferedBulk}
use Rattle.packet.specs.Packet.{high, in_part, single, rows_in, content_of}
use Rattle.packet.specs.Fields.{or_zero}
use Rattle.packet.specs.Rows.{column, interface_row, endpoint_row, table_size, cell_at}

-- the field of that name, there or not; none where the line has no such field
abbrev pub value_of : String → List Field → List Value → Value
value_of n [] vs = None
value_of n (f ∷ fs) [] = None
value_of n (f ∷ fs) (v ∷ vs) = cond (eqt n f.name) v (value_of n fs vs)

abbrev pub is_there : Value → Bool
is_there None = false
is_there (Some xs) = true

module _ (caps id : ℕ) (body : List ℕ) where
  -- the number in the field of that name, 0 where it is not there
  abbrev pub says : String → Packet → ℕ
  says name p = named name (layout (content_of caps id p body).kind) (content_of caps id p body).fields

  -- that field itself, and all its numbers
  abbrev pub field : String → Packet → Value
  field name p = value_of name (layout (content_of caps id p body).kind) (content_of caps id p body).fields

  abbrev pub numbers_under : String → Packet → List ℕ
  numbers_under name p = column name (layout (content_of caps id p body).kind) (content_of caps id p body).fields

  -- number i of them
  abbrev pub number_under : String → Packet → ℕ → ℕ
  number_under name p i = get_or (numbers_under name p) i 0

  abbrev pub says_kind : Packet → ℕ
  says_kind p = (content_of caps id p body).kind

  -- the rows of the two tables: the part that they stand in, where it is as long as they are
  abbrev pub interface_bytes : InterfaceTableFields → List ℕ
  interface_bytes x = rows_in 128 (in_part x.rows body)

  abbrev pub endpoint_bytes : EndpointTableFields → List ℕ
  endpoint_bytes x = rows_in (table_size x.maxpacket x.maxstreams) (in_part x.rows body)

  abbrev pub follows : Packet → List ℕ
  follows p = (content_of caps id p body).rest

  pub record NamedFields : Type 0 where
    pub hello-kind : (x : HelloFields) → says_kind (Hello x) ≡ 0
    pub connect-kind : (x : ConnectFields) → says_kind (Connect x) ≡ 1
    pub disconnect-kind : says_kind Disconnect ≡ 2
    pub reset-kind : says_kind Reset ≡ 3
    pub interface-table-kind : (x : InterfaceTableFields) → says_kind (InterfaceTable x) ≡ 4
    pub endpoint-table-kind : (x : EndpointTableFields) → says_kind (EndpointTable x) ≡ 5
    pub set-configuration-kind : (x : SetConfigurationFields) → says_kind (SetConfiguration x) ≡ 6
    pub get-configuration-kind : says_kind GetConfiguration ≡ 7
    pub configuration-status-kind : (x : ConfigurationStatusFields) → says_kind (ConfigurationStatus x) ≡ 8
    pub set-alt-kind : (x : SetAltFields) → says_kind (SetAlt x) ≡ 9
    pub get-alt-kind : (x : GetAltFields) → says_kind (GetAlt x) ≡ 10
    pub alt-status-kind : (x : AltStatusFields) → says_kind (AltStatus x) ≡ 11
    pub start-iso-kind : (x : StartIsoFields) → says_kind (StartIso x) ≡ 12
    pub stop-iso-kind : (x : StopIsoFields) → says_kind (StopIso x) ≡ 13
    pub iso-status-kind : (x : IsoStatusFields) → says_kind (IsoStatus x) ≡ 14
    pub start-interrupt-kind : (x : StartInterruptFields) → says_kind (StartInterrupt x) ≡ 15
    pub stop-interrupt-kind : (x : StopInterruptFields) → says_kind (StopInterrupt x) ≡ 16
    pub interrupt-status-kind : (x : InterruptStatusFields) → says_kind (InterruptStatus x) ≡ 17
    pub alloc-streams-kind : (x : AllocStreamsFields) → says_kind (AllocStreams x) ≡ 18
    pub free-streams-kind : (x : FreeStreamsFields) → says_kind (FreeStreams x) ≡ 19
    pub streams-status-kind : (x : StreamsStatusFields) → says_kind (StreamsStatus x) ≡ 20
    pub cancel-kind : says_kind Cancel ≡ 21
    pub filter-reject-kind : says_kind FilterReject ≡ 22
    pub filter-kind : (x : FilterFields) → says_kind (Filter x) ≡ 23
    pub disconnect-ack-kind : says_kind DisconnectAck ≡ 24
    pub start-bulk-receiving-kind : (x : StartBulkReceivingFields) → says_kind (StartBulkReceiving x) ≡ 25
    pub stop-bulk-receiving-kind : (x : StopBulkReceivingFields) → says_kind (StopBulkReceiving x) ≡ 26
    pub bulk-receiving-status-kind : (x : BulkReceivingStatusFields) → says_kind (BulkReceivingStatus x) ≡ 27
    pub control-kind : (x : ControlFields) → says_kind (Control x) ≡ 100
    pub bulk-kind : (x : BulkFields) → says_kind (Bulk x) ≡ 101
    pub iso-kind : (x : IsoFields) → says_kind (Iso x) ≡ 102
    pub interrupt-kind : (x : InterruptFields) → says_kind (Interrupt x) ≡ 103
    pub buffered-bulk-kind : (x : BufferedBulkFields) → says_kind (BufferedBulk x) ≡ 104
    -- a version is of 64 bytes; of a part that is not, no number is read
    pub hello-version : (x : HelloFields) → length (in_part x.version body) ≡ 64 → numbers_under "version" (Hello x) ≡ in_part x.version body
    pub hello-version-cut : (x : HelloFields) → (length (in_part x.version body) ≡ 64 → ⊥) → numbers_under "version" (Hello x) ≡ []
    pub hello-words : (x : HelloFields) → follows (Hello x) ≡ in_part x.words body
    pub connect-speed : (x : ConnectFields) → says "speed" (Connect x) ≡ x.speed
    pub connect-class : (x : ConnectFields) → says "class" (Connect x) ≡ x.class
    pub connect-subclass : (x : ConnectFields) → says "subclass" (Connect x) ≡ x.subclass
    pub connect-protocol : (x : ConnectFields) → says "protocol" (Connect x) ≡ x.protocol
    pub connect-vendor : (x : ConnectFields) → says "vendor" (Connect x) ≡ x.vendor
    pub connect-product : (x : ConnectFields) → says "product" (Connect x) ≡ x.product
    pub connect-version : (x : ConnectFields) → says "version" (Connect x) ≡ or_zero x.version
    -- it is there exactly where it is present
    pub connect-version-there : (x : ConnectFields) → field "version" (Connect x) ≡ single x.version
    pub interface-table-count : (x : InterfaceTableFields) → says "count" (InterfaceTable x) ≡ x.count
    -- each column where it stands among the rows, and each field of a row
    pub interface-table-interface : (x : InterfaceTableFields) (i : ℕ) → number_under "interface" (InterfaceTable x) i ≡ cell_at (interface_bytes x) 0 1 i
    pub interface-table-class : (x : InterfaceTableFields) (i : ℕ) → number_under "class" (InterfaceTable x) i ≡ cell_at (interface_bytes x) 32 1 i
    pub interface-table-subclass : (x : InterfaceTableFields) (i : ℕ) → number_under "subclass" (InterfaceTable x) i ≡ cell_at (interface_bytes x) 64 1 i
    pub interface-table-protocol : (x : InterfaceTableFields) (i : ℕ) → number_under "protocol" (InterfaceTable x) i ≡ cell_at (interface_bytes x) 96 1 i
    pub interface-row-interface : (x : InterfaceTableFields) (i : ℕ) → (interface_row x body i).interface ≡ number_under "interface" (InterfaceTable x) i
    pub interface-row-class : (x : InterfaceTableFields) (i : ℕ) → (interface_row x body i).class ≡ number_under "class" (InterfaceTable x) i
    pub interface-row-subclass : (x : InterfaceTableFields) (i : ℕ) → (interface_row x body i).subclass ≡ number_under "subclass" (InterfaceTable x) i
    pub interface-row-protocol : (x : InterfaceTableFields) (i : ℕ) → (interface_row x body i).protocol ≡ number_under "protocol" (InterfaceTable x) i
    pub endpoint-table-type : (x : EndpointTableFields) (i : ℕ) → number_under "type" (EndpointTable x) i ≡ cell_at (endpoint_bytes x) 0 1 i
    pub endpoint-table-interval : (x : EndpointTableFields) (i : ℕ) → number_under "interval" (EndpointTable x) i ≡ cell_at (endpoint_bytes x) 32 1 i
    pub endpoint-table-interface : (x : EndpointTableFields) (i : ℕ) → number_under "interface" (EndpointTable x) i ≡ cell_at (endpoint_bytes x) 64 1 i
    -- max packet and max streams are there exactly where the packet says so
    pub endpoint-table-maxpacket : (x : EndpointTableFields) → is_there (field "max packet" (EndpointTable x)) ≡ x.maxpacket
    pub endpoint-table-maxstreams : (x : EndpointTableFields) → is_there (field "max streams" (EndpointTable x)) ≡ x.maxstreams
    pub endpoint-table-maxpacket-cells : (x : EndpointTableFields) (i : ℕ)
        → then_some x.maxpacket (number_under "max packet" (EndpointTable x) i) ≡ then_some x.maxpacket (cell_at (endpoint_bytes x) 96 2 i)
    pub endpoint-table-maxstreams-cells : (x : EndpointTableFields) (i : ℕ)
        → then_some x.maxstreams (number_under "max streams" (EndpointTable x) i) ≡ then_some x.maxstreams (cell_at (endpoint_bytes x) (cond x.maxpacket 160 96) 4 i)
    pub endpoint-row-type : (x : EndpointTableFields) (i : ℕ) → (endpoint_row x body i).ty ≡ number_under "type" (EndpointTable x) i
    pub endpoint-row-interval : (x : EndpointTableFields) (i : ℕ) → (endpoint_row x body i).interval ≡ number_under "interval" (EndpointTable x) i
    pub endpoint-row-interface : (x : EndpointTableFields) (i : ℕ) → (endpoint_row x body i).interface ≡ number_under "interface" (EndpointTable x) i
    pub endpoint-row-maxpacket : (x : EndpointTableFields) (i : ℕ) → (endpoint_row x body i).maxpacket ≡ then_some x.maxpacket (number_under "max packet" (EndpointTable x) i)
    pub endpoint-row-maxstreams : (x : EndpointTableFields) (i : ℕ) → (endpoint_row x body i).maxstreams ≡ then_some x.maxstreams (number_under "max streams" (EndpointTable x) i)
    pub set-configuration-configuration : (x : SetConfigurationFields) → says "configuration" (SetConfiguration x) ≡ x.configuration
    pub configuration-status-status : (x : ConfigurationStatusFields) → says "status" (ConfigurationStatus x) ≡ x.status
    pub configuration-status-configuration : (x : ConfigurationStatusFields) → says "configuration" (ConfigurationStatus x) ≡ x.configuration
    pub set-alt-interface : (x : SetAltFields) → says "interface" (SetAlt x) ≡ x.interface
    pub set-alt-alt : (x : SetAltFields) → says "alt" (SetAlt x) ≡ x.alt
    pub get-alt-interface : (x : GetAltFields) → says "interface" (GetAlt x) ≡ x.interface
    pub alt-status-status : (x : AltStatusFields) → says "status" (AltStatus x) ≡ x.status
    pub alt-status-interface : (x : AltStatusFields) → says "interface" (AltStatus x) ≡ x.interface
    pub alt-status-alt : (x : AltStatusFields) → says "alt" (AltStatus x) ≡ x.alt
    pub start-iso-endpoint : (x : StartIsoFields) → says "endpoint" (StartIso x) ≡ x.endpoint.0
    pub start-iso-packets : (x : StartIsoFields) → says "packets" (StartIso x) ≡ x.packets
    pub start-iso-urbs : (x : StartIsoFields) → says "urbs" (StartIso x) ≡ x.urbs
    pub stop-iso-endpoint : (x : StopIsoFields) → says "endpoint" (StopIso x) ≡ x.endpoint.0
    pub iso-status-status : (x : IsoStatusFields) → says "status" (IsoStatus x) ≡ x.status
    pub iso-status-endpoint : (x : IsoStatusFields) → says "endpoint" (IsoStatus x) ≡ x.endpoint.0
    pub start-interrupt-endpoint : (x : StartInterruptFields) → says "endpoint" (StartInterrupt x) ≡ x.endpoint.0
    pub stop-interrupt-endpoint : (x : StopInterruptFields) → says "endpoint" (StopInterrupt x) ≡ x.endpoint.0
    pub interrupt-status-status : (x : InterruptStatusFields) → says "status" (InterruptStatus x) ≡ x.status
    pub interrupt-status-endpoint : (x : InterruptStatusFields) → says "endpoint" (InterruptStatus x) ≡ x.endpoint.0
    pub alloc-streams-mask : (x : AllocStreamsFields) → says "mask" (AllocStreams x) ≡ x.mask
    pub alloc-streams-count : (x : AllocStreamsFields) → says "count" (AllocStreams x) ≡ x.count
    pub free-streams-mask : (x : FreeStreamsFields) → says "mask" (FreeStreams x) ≡ x.mask
    pub streams-status-mask : (x : StreamsStatusFields) → says "mask" (StreamsStatus x) ≡ x.mask
    pub streams-status-count : (x : StreamsStatusFields) → says "count" (StreamsStatus x) ≡ x.count
    pub streams-status-status : (x : StreamsStatusFields) → says "status" (StreamsStatus x) ≡ x.status
    pub filter-string : (x : FilterFields) → follows (Filter x) ≡ in_part x.string body
    pub start-bulk-receiving-stream : (x : StartBulkReceivingFields) → says "stream" (StartBulkReceiving x) ≡ x.stream
    pub start-bulk-receiving-bytes : (x : StartBulkReceivingFields) → says "bytes" (StartBulkReceiving x) ≡ x.bytes
    pub start-bulk-receiving-endpoint : (x : StartBulkReceivingFields) → says "endpoint" (StartBulkReceiving x) ≡ x.endpoint.0
    pub start-bulk-receiving-transfers : (x : StartBulkReceivingFields) → says "transfers" (StartBulkReceiving x) ≡ x.transfers
    pub stop-bulk-receiving-stream : (x : StopBulkReceivingFields) → says "stream" (StopBulkReceiving x) ≡ x.stream
    pub stop-bulk-receiving-endpoint : (x : StopBulkReceivingFields) → says "endpoint" (StopBulkReceiving x) ≡ x.endpoint.0
    pub bulk-receiving-status-stream : (x : BulkReceivingStatusFields) → says "stream" (BulkReceivingStatus x) ≡ x.stream
    pub bulk-receiving-status-endpoint : (x : BulkReceivingStatusFields) → says "endpoint" (BulkReceivingStatus x) ≡ x.endpoint.0
    pub bulk-receiving-status-status : (x : BulkReceivingStatusFields) → says "status" (BulkReceivingStatus x) ≡ x.status
    pub control-endpoint : (x : ControlFields) → says "endpoint" (Control x) ≡ x.endpoint.0
    pub control-request : (x : ControlFields) → says "request" (Control x) ≡ x.request
    pub control-requesttype : (x : ControlFields) → says "requesttype" (Control x) ≡ x.requesttype
    pub control-status : (x : ControlFields) → says "status" (Control x) ≡ x.status
    pub control-value : (x : ControlFields) → says "value" (Control x) ≡ x.value
    pub control-index : (x : ControlFields) → says "index" (Control x) ≡ x.index
    pub control-length : (x : ControlFields) → says "length" (Control x) ≡ x.length
    pub control-payload : (x : ControlFields) → follows (Control x) ≡ in_part x.payload body
    pub bulk-endpoint : (x : BulkFields) → says "endpoint" (Bulk x) ≡ x.endpoint.0
    pub bulk-status : (x : BulkFields) → says "status" (Bulk x) ≡ x.status
    pub bulk-length : (x : BulkFields) → says "length" (Bulk x) + 65536 * says "length high" (Bulk x) ≡ x.length
    pub bulk-length-high : (x : BulkFields) → field "length high" (Bulk x) ≡ single (high caps x.length)
    pub bulk-stream : (x : BulkFields) → says "stream" (Bulk x) ≡ x.stream
    pub bulk-payload : (x : BulkFields) → follows (Bulk x) ≡ in_part x.payload body
    pub iso-endpoint : (x : IsoFields) → says "endpoint" (Iso x) ≡ x.endpoint.0
    pub iso_status : (x : IsoFields) → says "status" (Iso x) ≡ x.status
    pub iso-length : (x : IsoFields) → says "length" (Iso x) ≡ x.length
    pub iso-payload : (x : IsoFields) → follows (Iso x) ≡ in_part x.payload body
    pub interrupt-endpoint : (x : InterruptFields) → says "endpoint" (Interrupt x) ≡ x.endpoint.0
    pub interrupt-status : (x : InterruptFields) → says "status" (Interrupt x) ≡ x.status
    pub interrupt-length : (x : InterruptFields) → says "length" (Interrupt x) ≡ x.length
    pub interrupt-payload : (x : InterruptFields) → follows (Interrupt x) ≡ in_part x.payload body
    pub buffered-bulk-stream : (x : BufferedBulkFields) → says "stream" (BufferedBulk x) ≡ x.stream
    pub buffered-bulk-length : (x : BufferedBulkFields) → says "length" (BufferedBulk x) ≡ x.length
    pub buffered-bulk-endpoint : (x : BufferedBulkFields) → says "endpoint" (BufferedBulk x) ≡ x.endpoint.0
    pub buffered-bulk-status : (x : BufferedBulkFields) → says "status" (BufferedBulk x) ≡ x.status
    pub buffered-bulk-payload : (x : BufferedBulkFields) → follows (BufferedBulk x) ≡ in_part x.payload body
