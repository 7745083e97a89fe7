-- `events::announced` meets its contract: an endpoint table announces its rows, every other packet those of the start (`others`).
-- Assumes nothing.
use Rattle.packet.specs.Packet.{content_of}
use Rattle.events.specs.Event.{event_of}
use Rattle.std.proofs.Common.{refl}
use Rattle.events.proofs.EachKind.{others}
use Rattle.events.proofs.announced.Goals as goal

pub returns-in-EndpointTable : goal.returns-in-EndpointTable
unfolding event_of content_of
returns-in-EndpointTable c = rw (c.rows_of.ensures, c.in-EndpointTable.is) (λ from caps id. refl)

pub returns-in_default : goal.returns-in_default
returns-in_default c = rw c.start_rows.ensures (others _ _ c.in_default.not-EndpointTable)
