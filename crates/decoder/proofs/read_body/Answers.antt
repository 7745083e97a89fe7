-- `decoder::read_body` meets its contract: each arm's packet is that of its kind's law (`EachKind`), by what the readers ensure.
-- Assumes nothing.
use mathlib.Core.Path.{refl}
use Rattle.decoder.proofs.EachKind.{reads-by, last, hello, connect, disconnect, reset, interface-table, endpoint_table_packet, set-configuration, get-configuration, configuration-status, set_alt, get-alt, alt_status, start_iso, stop_iso, iso_status, start_interrupt, stop-interrupt, interrupt-status, alloc-streams, free-streams, streams-status, cancel, filter-reject, filter, disconnect-ack, start-bulk-receiving, stop-bulk-receiving, bulk-receiving-status}
use Rattle.decoder.proofs.read_body.Goals as goal

pub returns-in-0 : goal.returns-in-0
returns-in-0 c = reads-by (hello _ _) c.requires c.in-0.is (rw (c.after.ensures, c.part_at.ensures))

pub returns-in-1 : goal.returns-in-1
returns-in-1 c = reads-by (connect _ _) c.requires c.in-1.is (rw (c.then_some.ensures, c.get16-in-1-2.ensures, c.has_bit.ensures, c.get16-in-1.ensures, c.get16.ensures, c.get8-in-1-3.ensures, c.get8-in-1-2.ensures, c.get8-in-1.ensures, c.get8.ensures))

pub returns-in-2 : goal.returns-in-2
returns-in-2 c = reads-by (disconnect _ _) c.requires c.in-2.is refl

pub returns-in-3 : goal.returns-in-3
returns-in-3 c = reads-by (reset _ _) c.requires c.in-3.is refl

pub returns-in-4 : goal.returns-in-4
returns-in-4 c = reads-by (interface-table _ _) c.requires c.in-4.is (rw (c.part_at-in-4.ensures, c.get32.ensures))

pub returns-in-5 : goal.returns-in-5
returns-in-5 c = reads-by (endpoint_table_packet _ _) c.requires c.in-5.is (rw (c.after-in-5.ensures, c.has_bit-in-5.ensures, c.has_bit-packets.ensures))

pub returns-in-6 : goal.returns-in-6
returns-in-6 c = reads-by (set-configuration _ _) c.requires c.in-6.is (rw c.get8-in-6.ensures)

pub returns-in-7 : goal.returns-in-7
returns-in-7 c = reads-by (get-configuration _ _) c.requires c.in-7.is refl

pub returns-in-8 : goal.returns-in-8
returns-in-8 c = reads-by (configuration-status _ _) c.requires c.in-8.is (rw (c.get8-in-8-2.ensures, c.get8-in-8.ensures))

pub returns-in-9 : goal.returns-in-9
returns-in-9 c = reads-by (set_alt _ _) c.requires c.in-9.is (rw (c.get8-in-9-2.ensures, c.get8-in-9.ensures))

pub returns-in-10 : goal.returns-in-10
returns-in-10 c = reads-by (get-alt _ _) c.requires c.in-10.is (rw c.get8-in-10.ensures)

pub returns-in-11 : goal.returns-in-11
returns-in-11 c = reads-by (alt_status _ _) c.requires c.in-11.is (rw (c.get8-in-11-3.ensures, c.get8-in-11-2.ensures, c.get8-in-11.ensures))

pub returns-in-12 : goal.returns-in-12
returns-in-12 c = reads-by (start_iso _ _) c.requires c.in-12.is (rw (c.get8-in-12-3.ensures, c.get8-in-12-2.ensures, c.get8-in-12.ensures))

pub returns-in-13 : goal.returns-in-13
returns-in-13 c = reads-by (stop_iso _ _) c.requires c.in-13.is (rw c.get8-in-13.ensures)

pub returns-in-14 : goal.returns-in-14
returns-in-14 c = reads-by (iso_status _ _) c.requires c.in-14.is (rw (c.get8-in-14-2.ensures, c.get8-in-14.ensures))

pub returns-in-15 : goal.returns-in-15
returns-in-15 c = reads-by (start_interrupt _ _) c.requires c.in-15.is (rw c.get8-in-15.ensures)

pub returns-in-16 : goal.returns-in-16
returns-in-16 c = reads-by (stop-interrupt _ _) c.requires c.in-16.is (rw c.get8-in-16.ensures)

pub returns-in-17 : goal.returns-in-17
returns-in-17 c = reads-by (interrupt-status _ _) c.requires c.in-17.is (rw (c.get8-in-17-2.ensures, c.get8-in-17.ensures))

pub returns-in-18 : goal.returns-in-18
returns-in-18 c = reads-by (alloc-streams _ _) c.requires c.in-18.is (rw (c.get32-in-18-2.ensures, c.get32-in-18.ensures))

pub returns-in-19 : goal.returns-in-19
returns-in-19 c = reads-by (free-streams _ _) c.requires c.in-19.is (rw c.get32-in-19.ensures)

pub returns-in-20 : goal.returns-in-20
returns-in-20 c = reads-by (streams-status _ _) c.requires c.in-20.is (rw (c.get8-in-20.ensures, c.get32-in-20-2.ensures, c.get32-in-20.ensures))

pub returns-in-21 : goal.returns-in-21
returns-in-21 c = reads-by (cancel _ _) c.requires c.in-21.is refl

pub returns-in-22 : goal.returns-in-22
returns-in-22 c = reads-by (filter-reject _ _) c.requires c.in-22.is refl

pub returns-in-23 : goal.returns-in-23
returns-in-23 c = reads-by (filter _ _) c.requires c.in-23.is (rw c.after-in-23.ensures)

pub returns-in-24 : goal.returns-in-24
returns-in-24 c = reads-by (disconnect-ack _ _) c.requires c.in-24.is refl

pub returns-in-25 : goal.returns-in-25
returns-in-25 c = reads-by (start-bulk-receiving _ _) c.requires c.in-25.is (rw (c.get8-in-25-2.ensures, c.get8-in-25.ensures, c.get32-in-25-2.ensures, c.get32-in-25.ensures))

pub returns-in-26 : goal.returns-in-26
returns-in-26 c = reads-by (stop-bulk-receiving _ _) c.requires c.in-26.is (rw (c.get8-in-26.ensures, c.get32-in-26.ensures))

pub returns-in_default : goal.returns-in_default
returns-in_default c = reads-by (bulk-receiving-status _ _) c.requires (last c.requires.small c.in_default.in_default-own.rest) (rw (c.get8-in_default-2.ensures, c.get8-in_default.ensures, c.get32-in_default.ensures))
