-- Runs of wire checks and judge on packets: the readings of document 01's session rules where they are easily taken otherwise, each with the
-- numbers that it gives. A packet that the wire checks refuse would show their number.
-- Assumes nothing: these are definitions and a statement. The proof is by computation.
use Rattle.std.specs.Prelude.{ℕ, zero, suc, cond, List, [], ◌∷◌, ◌++◌, ◌≡◌, eqb, replicate, set, Some}
use Rattle.header.specs.declared.Side.{Side}
use Rattle.header.specs.declared.Side.TheVariants.{Guest, Host}
use Rattle.kinds.specs.Content.{Value, packet_of, one}
use Rattle.kinds.specs.Number.{onward, wire_number}
use Rattle.events.specs.Event.{event_of}
use Rattle.watch.specs.declared.RowWatch.{RowWatch}
use Rattle.watch.specs.Watch.{watch_at}
use Rattle.session.specs.declared.Session.{Session}
use Rattle.session.specs.Session.{fresh_session, link_of}
use Rattle.session.specs.Step.{Judged, judged}
use Rattle.claims.specs.PacketLists.{SentPacket}

-- ---- packets

abbrev packet_with : Side → ℕ → ℕ → List Value → List ℕ → SentPacket
packet_with from kind id fs rest = record { from = from; packet = packet_of kind id fs rest }

abbrev bare_packet : Side → ℕ → ℕ → List Value → SentPacket
bare_packet from kind id fs = packet_with from kind id fs []

-- so many bytes of data, where the sender's data goes that way
abbrev data_for : Side → ℕ → ℕ → List ℕ
data_for from e n = cond (onward from e) (replicate n 0) []

abbrev guest_packet : ℕ → ℕ → List Value → SentPacket
guest_packet kind id fs = bare_packet Guest kind id fs

abbrev host_packet : ℕ → ℕ → List Value → SentPacket
host_packet kind id fs = bare_packet Host kind id fs

-- a hello that offers the bits of a byte
abbrev hello_packet : Side → ℕ → SentPacket
hello_packet from bits = packet_with from 0 0 (Some (replicate 64 0) ∷ []) (bits ∷ 0 ∷ 0 ∷ 0 ∷ [])

-- an endpoint table whose rows are of a type each, given for rows 1, 17, 2, 18, 3 and 19, and of an interface each
abbrev rows_with : ℕ → ℕ → ℕ → ℕ → ℕ → ℕ → List ℕ
rows_with a b c d e f = set (set (set (set (set (set (set (set (replicate 32 255) 0 0) 16 0) 1 a) 17 b) 2 c) 18 d) 3 e) 19 f

abbrev endpoint_table_packet : List ℕ → List ℕ → SentPacket
endpoint_table_packet types interfaces = host_packet 5 0 (Some types ∷ Some (replicate 32 0) ∷ Some interfaces ∷ Some (replicate 32 0) ∷ Some (replicate 32 0) ∷ [])

-- endpoint 1 is iso of interface 0, endpoint 2 bulk of interface 1, endpoint 3 interrupt of interface 2; OUT and IN alike
abbrev plain_interfaces : List ℕ
plain_interfaces = set (set (set (set (replicate 32 0) 2 1) 18 1) 3 2) 19 2

abbrev plain_table : SentPacket
plain_table = endpoint_table_packet (rows_with 1 1 2 2 3 3) plain_interfaces

abbrev interface_table : SentPacket
interface_table = host_packet 4 0 (one 0 ∷ Some (replicate 32 0) ∷ Some (replicate 32 0) ∷ Some (replicate 32 0) ∷ Some (replicate 32 0) ∷ [])

abbrev connect_packet : SentPacket
connect_packet = host_packet 1 0 (one 0 ∷ one 0 ∷ one 0 ∷ one 0 ∷ one 0 ∷ one 0 ∷ one 0 ∷ [])

abbrev disconnect_packet : SentPacket
disconnect_packet = host_packet 2 0 []

abbrev ack : SentPacket
ack = guest_packet 24 0 []

abbrev reset_packet : SentPacket
reset_packet = guest_packet 3 0 []

abbrev set_config : ℕ → SentPacket
set_config id = guest_packet 6 id (one 1 ∷ [])

abbrev get_config : ℕ → SentPacket
get_config id = guest_packet 7 id []

abbrev config_status : ℕ → ℕ → SentPacket
config_status id st = host_packet 8 id (one st ∷ one 1 ∷ [])

abbrev set_alt : ℕ → ℕ → SentPacket
set_alt id i = guest_packet 9 id (one i ∷ one 0 ∷ [])

abbrev alt_status : ℕ → ℕ → ℕ → SentPacket
alt_status id st i = host_packet 11 id (one st ∷ one i ∷ one 0 ∷ [])

abbrev start_iso : ℕ → ℕ → SentPacket
start_iso id e = guest_packet 12 id (one e ∷ one 1 ∷ one 1 ∷ [])

abbrev stop_iso : ℕ → ℕ → SentPacket
stop_iso id e = guest_packet 13 id (one e ∷ [])

abbrev iso_status : ℕ → ℕ → ℕ → SentPacket
iso_status id st e = host_packet 14 id (one st ∷ one e ∷ [])

abbrev start_interrupt : ℕ → ℕ → SentPacket
start_interrupt id e = guest_packet 15 id (one e ∷ [])

abbrev alloc : ℕ → ℕ → SentPacket
alloc id m = guest_packet 18 id (one m ∷ one 1 ∷ [])

abbrev alloc_status : ℕ → ℕ → SentPacket
alloc_status id m = host_packet 20 id (one m ∷ one 1 ∷ one 0 ∷ [])

abbrev cancel_packet : ℕ → SentPacket
cancel_packet id = guest_packet 21 id []

abbrev start_bulk : ℕ → ℕ → SentPacket
start_bulk id e = guest_packet 25 id (one 1 ∷ one 512 ∷ one e ∷ one 1 ∷ [])

abbrev control_packet : Side → ℕ → ℕ → ℕ → SentPacket
control_packet from id e n = packet_with from 100 id (one e ∷ one 6 ∷ one e ∷ one 0 ∷ one 0 ∷ one 0 ∷ one n ∷ []) (data_for from e n)

abbrev bulk_data_packet : Side → ℕ → ℕ → ℕ → SentPacket
bulk_data_packet from id e n = packet_with from 101 id (one e ∷ one 0 ∷ one n ∷ one 0 ∷ one 0 ∷ []) (data_for from e n)

abbrev iso_packet : Side → ℕ → ℕ → SentPacket
iso_packet from id e = bare_packet from 102 id (one e ∷ one 0 ∷ one 0 ∷ [])

abbrev interrupt_packet : Side → ℕ → ℕ → ℕ → SentPacket
interrupt_packet from id e n = packet_with from 103 id (one e ∷ one 0 ∷ one n ∷ []) (data_for from e n)

abbrev filter_packet : Side → SentPacket
filter_packet from = packet_with from 23 0 [] (0 ∷ [])

abbrev buffered : ℕ → ℕ → SentPacket
buffered stream e = host_packet 104 7 (one stream ∷ one 0 ∷ one e ∷ one 0 ∷ [])

-- requests with the ids from n down to 1
abbrev live_requests : ℕ → List SentPacket
live_requests zero = []
live_requests (suc n) = get_config (suc n) ∷ live_requests n

-- ---- runs

-- the number of a packet and the session after it: what the wire checks refuse is not judged
unfoldable pub answer_for : Session → SentPacket → Judged
answer_for s x =
    cond (eqb (wire_number (link_of x.from s) x.packet) 0)
    (judged s (event_of x.from x.packet))
    (record { session = s; number = wire_number (link_of x.from s) x.packet })

unfoldable pub after_sent : Session → List SentPacket → Session
after_sent s [] = s
after_sent s (x ∷ xs) = after_sent (answer_for s x).session xs

unfoldable pub numbers_for : Session → List SentPacket → List ℕ
numbers_for s [] = []
numbers_for s (x ∷ xs) = (answer_for s x).number ∷ numbers_for (answer_for s x).session xs

abbrev hello_packets : ℕ → List SentPacket
hello_packets bits = hello_packet Guest bits ∷ hello_packet Host 255 ∷ []

abbrev introduction : List SentPacket
introduction = plain_table ∷ interface_table ∷ connect_packet ∷ []

-- a run: what came before, what is sent, and its numbers
pub record ExampleRun : Type 0 where
  pub before : List SentPacket
  pub sends : List SentPacket
  pub gets : List ℕ

-- from a device that is there, with every bit shared
abbrev from_device : List SentPacket → List ℕ → ExampleRun
from_device xs ns = record { before = hello_packets 255 ++ introduction; sends = xs; gets = ns }

-- from no device
abbrev from_no_device : ℕ → List SentPacket → List ℕ → ExampleRun
from_no_device bits xs ns = record { before = hello_packets bits; sends = xs; gets = ns }

-- the same with requests already live
abbrev from_live : ℕ → List SentPacket → List ℕ → ExampleRun
from_live n xs ns = record { before = hello_packets 255 ++ introduction ++ live_requests n; sends = xs; gets = ns }

abbrev answers_of : List ExampleRun → List (List ℕ)
answers_of [] = []
answers_of (r ∷ rs) = numbers_for (after_sent fresh_session r.before) r.sends ∷ answers_of rs

abbrev expected_of : List ExampleRun → List (List ℕ)
expected_of [] = []
expected_of (r ∷ rs) = r.gets ∷ expected_of rs

-- ---- introduction, device, ack

abbrev devices : List ExampleRun
devices =
    -- 5, 4, 1 in this order; 4 at two passes
    from_no_device 255 (interface_table ∷ connect_packet ∷ plain_table ∷ connect_packet ∷ interface_table ∷ interface_table ∷ connect_packet ∷ connect_packet ∷ []) (26 ∷ 26 ∷ 0 ∷ 26 ∷ 0 ∷ 0 ∷ 0 ∷ 26 ∷ [])
    -- a 5 sets the introduction back to one
    ∷ from_no_device 255 (plain_table ∷ interface_table ∷ plain_table ∷ connect_packet ∷ interface_table ∷ connect_packet ∷ []) (0 ∷ 0 ∷ 0 ∷ 26 ∷ 0 ∷ 0 ∷ [])
    -- with a device 4 and 5 pass
    ∷ from_device (interface_table ∷ plain_table ∷ interface_table ∷ []) (0 ∷ 0 ∷ 0 ∷ [])
    -- without a device all but 0, 1, 4, 5, 22, 23, 24 get 25: cancel and reset too
    ∷ from_no_device 255 (cancel_packet 1 ∷ reset_packet ∷ disconnect_packet ∷ get_config 1 ∷ config_status 1 0 ∷ iso_packet Host 0 129 ∷ guest_packet 22 0 [] ∷ filter_packet Guest ∷ filter_packet Host ∷ ack ∷ []) (25 ∷ 25 ∷ 25 ∷ 25 ∷ 25 ∷ 25 ∷ 0 ∷ 0 ∷ 0 ∷ 26 ∷ [])
    -- while an ack is owed 1, 4, 5 get 27, also where they would get 26; an ack clears it, once
    ∷ from_device (disconnect_packet ∷ connect_packet ∷ interface_table ∷ plain_table ∷ get_config 1 ∷ guest_packet 22 0 [] ∷ ack ∷ ack ∷ connect_packet ∷ plain_table ∷ []) (0 ∷ 27 ∷ 27 ∷ 27 ∷ 25 ∷ 0 ∷ 0 ∷ 26 ∷ 26 ∷ 0 ∷ [])
    -- without bit 3 none is owed, and an ack is not allowed
    ∷ from_no_device 247 (plain_table ∷ interface_table ∷ connect_packet ∷ disconnect_packet ∷ ack ∷ plain_table ∷ []) (0 ∷ 0 ∷ 0 ∷ 0 ∷ 22 ∷ 0 ∷ [])
    -- a disconnect frees every place and returns rows and streams to the start; the hellos stay
    ∷ from_device (get_config 1 ∷ start_iso 2 129 ∷ iso_packet Host 0 129 ∷ disconnect_packet ∷ ack ∷ plain_table ∷ interface_table ∷ connect_packet ∷ iso_packet Host 0 129 ∷ config_status 1 0 ∷ get_config 1 ∷ []) (0 ∷ 0 ∷ 0 ∷ 0 ∷ 0 ∷ 0 ∷ 0 ∷ 0 ∷ 30 ∷ 33 ∷ 0 ∷ [])
    -- a reset frees every place, a set configuration that waits too, and closes all streams; rows and device stay
    ∷ from_device (set_config 1 ∷ start_iso 2 129 ∷ start_bulk 3 130 ∷ reset_packet ∷ config_status 1 0 ∷ iso_packet Host 0 129 ∷ buffered 1 130 ∷ control_packet Guest 4 0 0 ∷ []) (0 ∷ 0 ∷ 0 ∷ 0 ∷ 33 ∷ 30 ∷ 30 ∷ 0 ∷ [])
    ∷ []

-- ---- 28, 29

abbrev rows_and_settling : List ExampleRun
rows_and_settling =
    -- each kind wants its type: on an iso, a bulk, an interrupt and a control row
    from_device (start_iso 1 129 ∷ start_iso 2 130 ∷ start_interrupt 3 131 ∷ start_interrupt 4 129 ∷ start_bulk 5 130 ∷ start_bulk 6 131 ∷ control_packet Guest 7 128 8 ∷ control_packet Guest 8 2 0 ∷ bulk_data_packet Guest 9 130 8 ∷ bulk_data_packet Guest 10 3 0 ∷ interrupt_packet Guest 11 3 0 ∷ interrupt_packet Guest 12 2 0 ∷ []) (0 ∷ 28 ∷ 0 ∷ 28 ∷ 0 ∷ 28 ∷ 0 ∷ 28 ∷ 0 ∷ 28 ∷ 0 ∷ 28 ∷ [])
    -- an iso packet and a host's interrupt packet want theirs before their stream is asked for
    ∷ from_device (iso_packet Host 0 130 ∷ iso_packet Guest 0 2 ∷ interrupt_packet Host 0 130 0 ∷ buffered 1 131 ∷ []) (28 ∷ 28 ∷ 28 ∷ 28 ∷ [])
    -- every row of a mask is bulk: rows 2 and 18, then row 1 as well
    ∷ from_device (alloc 1 262148 ∷ alloc 2 262150 ∷ []) (0 ∷ 28 ∷ [])
    -- a reply passes though its row has changed type
    ∷ from_device (bulk_data_packet Guest 1 2 4 ∷ endpoint_table_packet (rows_with 1 1 3 2 3 3) plain_interfaces ∷ bulk_data_packet Host 1 2 4 ∷ []) (0 ∷ 0 ∷ 0 ∷ [])
    -- while a 6 waits, guest kinds 100 to 103 get 29, before 30 and 31; other requests and the host's packets pass
    ∷ from_device (start_iso 1 1 ∷ set_config 2 ∷ control_packet Guest 3 0 0 ∷ bulk_data_packet Guest 3 2 0 ∷ iso_packet Guest 0 1 ∷ interrupt_packet Guest 2 3 0 ∷ get_config 4 ∷ iso_status 1 0 1 ∷ config_status 2 1 ∷ control_packet Guest 3 0 0 ∷ []) (0 ∷ 0 ∷ 29 ∷ 29 ∷ 29 ∷ 29 ∷ 0 ∷ 0 ∷ 0 ∷ 0 ∷ [])
    -- while a 9 waits as well, whatever its interface; a 7 or a 10 settles nothing; 29 lasts until none is live
    ∷ from_device (get_config 1 ∷ guest_packet 10 2 (one 0 ∷ []) ∷ control_packet Guest 3 0 0 ∷ set_alt 4 77 ∷ set_alt 5 2 ∷ bulk_data_packet Guest 6 2 0 ∷ alt_status 4 0 77 ∷ bulk_data_packet Guest 6 2 0 ∷ alt_status 5 0 2 ∷ bulk_data_packet Guest 6 2 0 ∷ []) (0 ∷ 0 ∷ 0 ∷ 0 ∷ 0 ∷ 29 ∷ 0 ∷ 29 ∷ 0 ∷ 0 ∷ [])
    ∷ []

-- ---- streams

abbrev on_streams : List ExampleRun
on_streams =
    -- closed at first; a start opens at once; a guest's iso needs a stream on its OUT row
    from_device (iso_packet Host 0 129 ∷ iso_packet Guest 0 1 ∷ start_iso 1 129 ∷ iso_packet Host 9 129 ∷ iso_packet Guest 0 1 ∷ start_iso 2 1 ∷ iso_packet Guest 0 1 ∷ []) (30 ∷ 30 ∷ 0 ∷ 0 ∷ 30 ∷ 0 ∷ 0 ∷ [])
    -- a stop closes by its status, whatever that says
    ∷ from_device (start_iso 1 129 ∷ iso_status 1 0 129 ∷ stop_iso 2 129 ∷ iso_packet Host 0 129 ∷ iso_status 2 7 129 ∷ iso_packet Host 0 129 ∷ []) (0 ∷ 0 ∷ 0 ∷ 0 ∷ 0 ∷ 30 ∷ [])
    -- a start that is answered by an error closes
    ∷ from_device (start_iso 1 129 ∷ iso_status 1 1 129 ∷ iso_packet Host 0 129 ∷ start_iso 2 129 ∷ iso_status 2 128 129 ∷ iso_packet Host 0 129 ∷ []) (0 ∷ 0 ∷ 30 ∷ 0 ∷ 0 ∷ 30 ∷ [])
    -- in the order of the statuses: the one to the stop closes, then the one to the start opens again
    ∷ from_device (start_iso 1 129 ∷ stop_iso 2 129 ∷ iso_status 2 0 129 ∷ iso_packet Host 0 129 ∷ iso_status 1 0 129 ∷ iso_packet Host 0 129 ∷ []) (0 ∷ 0 ∷ 0 ∷ 30 ∷ 0 ∷ 0 ∷ [])
    -- an open stream may be started, a closed one stopped
    ∷ from_device (start_iso 1 129 ∷ start_iso 2 129 ∷ stop_iso 3 1 ∷ []) (0 ∷ 0 ∷ 0 ∷ [])
    -- one stream for a row: its number isn't looked at; alloc opens nothing
    ∷ from_device (alloc 1 262144 ∷ buffered 1 130 ∷ start_bulk 2 130 ∷ buffered 2 130 ∷ []) (0 ∷ 30 ∷ 0 ∷ 0 ∷ [])
    -- a new table closes the stream of a row that changes type, and only then; a status opens only a row of its type
    ∷ from_device (start_iso 1 129 ∷ endpoint_table_packet (rows_with 1 1 2 2 3 3) (replicate 32 9) ∷ iso_packet Host 0 129 ∷ endpoint_table_packet (rows_with 1 2 2 2 3 3) plain_interfaces ∷ iso_status 1 0 129 ∷ plain_table ∷ iso_packet Host 0 129 ∷ []) (0 ∷ 0 ∷ 0 ∷ 0 ∷ 0 ∷ 0 ∷ 30 ∷ [])
    -- unsolicited: passes on any row, closes only a row of its type
    ∷ from_device (start_bulk 1 130 ∷ iso_status 0 4 130 ∷ buffered 1 130 ∷ start_iso 2 129 ∷ iso_status 0 4 129 ∷ iso_packet Host 0 129 ∷ host_packet 17 0 (one 4 ∷ one 1 ∷ []) ∷ []) (0 ∷ 0 ∷ 0 ∷ 0 ∷ 0 ∷ 30 ∷ 0 ∷ [])
    -- id 0 in use: a status that matches is the reply; one that does not is unsolicited and leaves the request
    ∷ from_device (start_iso 0 129 ∷ iso_status 0 4 129 ∷ iso_status 0 0 129 ∷ get_config 0 ∷ iso_status 0 4 129 ∷ config_status 0 0 ∷ []) (0 ∷ 0 ∷ 33 ∷ 0 ∷ 0 ∷ 0 ∷ [])
    -- only with id 0 and status 4, and only 14, 17, 27
    ∷ from_device (iso_status 0 3 129 ∷ iso_status 0 7 129 ∷ iso_status 0 132 129 ∷ iso_status 1 4 129 ∷ config_status 0 4 ∷ alt_status 0 4 0 ∷ []) (33 ∷ 33 ∷ 33 ∷ 33 ∷ 33 ∷ 33 ∷ [])
    -- a host's interrupt packet is stream data on an IN endpoint, its id not looked up, and a reply on an OUT one
    ∷ from_device (start_interrupt 1 131 ∷ interrupt_packet Host 77 131 0 ∷ interrupt_packet Guest 2 3 4 ∷ interrupt_packet Host 77 3 4 ∷ interrupt_packet Host 2 3 4 ∷ []) (0 ∷ 0 ∷ 0 ∷ 33 ∷ 0 ∷ [])
    ∷ []

-- ---- requests and replies

abbrev matching : List ExampleRun
matching =
    -- a bulk packet, its reply, and that reply again
    from_device (bulk_data_packet Guest 9 2 2 ∷ bulk_data_packet Host 9 2 2 ∷ bulk_data_packet Host 9 2 2 ∷ []) (0 ∷ 0 ∷ 33 ∷ [])
    -- an id is in use whatever the kind of the request; cancel, reset and iso may carry any id
    ∷ from_device (get_config 5 ∷ control_packet Guest 5 0 0 ∷ start_iso 5 129 ∷ get_config 5 ∷ cancel_packet 5 ∷ config_status 5 0 ∷ control_packet Guest 5 0 0 ∷ []) (0 ∷ 31 ∷ 31 ∷ 31 ∷ 0 ∷ 0 ∷ 0 ∷ [])
    -- the request has to be of a kind that the reply answers; what does not match stays
    ∷ from_device (get_config 5 ∷ alt_status 5 0 0 ∷ control_packet Host 5 0 0 ∷ config_status 6 0 ∷ config_status 5 0 ∷ []) (0 ∷ 33 ∷ 33 ∷ 33 ∷ 0 ∷ [])
    -- the whole endpoint byte is compared, or the interface; a mask, a configuration, an alt are not
    ∷ from_device (control_packet Guest 1 0 4 ∷ control_packet Host 1 128 4 ∷ control_packet Host 1 0 4 ∷ set_alt 2 1 ∷ alt_status 2 0 2 ∷ alt_status 2 0 1 ∷ alloc 3 262144 ∷ alloc_status 3 4 ∷ []) (0 ∷ 33 ∷ 0 ∷ 0 ∷ 33 ∷ 0 ∷ 0 ∷ 0 ∷ [])
    -- a reply that is longer gets 34 and frees nothing; a wrong endpoint comes first
    ∷ from_device (bulk_data_packet Guest 1 130 100 ∷ bulk_data_packet Host 1 130 101 ∷ bulk_data_packet Host 1 2 101 ∷ bulk_data_packet Host 1 130 100 ∷ bulk_data_packet Host 1 130 0 ∷ []) (0 ∷ 34 ∷ 33 ∷ 0 ∷ 33 ∷ [])
    -- 96 requests live: the next gets 32, an id in use 31; after one reply it passes, a refused one takes no place
    ∷ from_live 96 (get_config 97 ∷ get_config 96 ∷ config_status 40 0 ∷ get_config 96 ∷ get_config 97 ∷ get_config 98 ∷ []) (32 ∷ 31 ∷ 0 ∷ 31 ∷ 0 ∷ 32 ∷ [])
    ∷ []

-- ---- set configuration and set alt

abbrev settings : List ExampleRun
settings =
    -- 8 with 0 to a 6 frees every data request, control too, and closes all streams; other requests stay
    from_device (control_packet Guest 1 0 0 ∷ bulk_data_packet Guest 2 2 0 ∷ interrupt_packet Guest 3 3 0 ∷ get_config 4 ∷ start_iso 5 129 ∷ set_config 6 ∷ config_status 6 0 ∷ control_packet Host 1 0 0 ∷ bulk_data_packet Host 2 2 0 ∷ interrupt_packet Host 3 3 0 ∷ iso_packet Host 0 129 ∷ config_status 4 0 ∷ iso_status 5 0 129 ∷ iso_packet Host 0 129 ∷ []) (0 ∷ 0 ∷ 0 ∷ 0 ∷ 0 ∷ 0 ∷ 0 ∷ 33 ∷ 33 ∷ 33 ∷ 30 ∷ 0 ∷ 0 ∷ 0 ∷ [])
    -- with an error, or to a 7, it frees its own request alone
    ∷ from_device (bulk_data_packet Guest 1 2 0 ∷ start_iso 2 129 ∷ set_config 3 ∷ config_status 3 7 ∷ get_config 4 ∷ config_status 4 0 ∷ iso_packet Host 0 129 ∷ bulk_data_packet Host 1 2 0 ∷ []) (0 ∷ 0 ∷ 0 ∷ 0 ∷ 0 ∷ 0 ∷ 0 ∷ 0 ∷ [])
    -- 11 with 0 to a 9: data requests and streams of that interface
    ∷ from_device (bulk_data_packet Guest 1 2 0 ∷ interrupt_packet Guest 2 3 0 ∷ control_packet Guest 3 0 0 ∷ start_bulk 4 130 ∷ start_interrupt 5 131 ∷ set_alt 6 1 ∷ alt_status 6 0 1 ∷ bulk_data_packet Host 1 2 0 ∷ buffered 1 130 ∷ interrupt_packet Host 2 3 0 ∷ interrupt_packet Host 0 131 0 ∷ control_packet Host 3 0 0 ∷ []) (0 ∷ 0 ∷ 0 ∷ 0 ∷ 0 ∷ 0 ∷ 0 ∷ 33 ∷ 30 ∷ 0 ∷ 0 ∷ 0 ∷ [])
    -- rows 0 and 16 are left out, though they have the interface
    ∷ from_device (control_packet Guest 1 0 0 ∷ control_packet Guest 2 128 8 ∷ start_iso 3 129 ∷ set_alt 4 0 ∷ alt_status 4 0 0 ∷ control_packet Host 1 0 0 ∷ control_packet Host 2 128 8 ∷ iso_packet Host 0 129 ∷ []) (0 ∷ 0 ∷ 0 ∷ 0 ∷ 0 ∷ 0 ∷ 0 ∷ 30 ∷ [])
    -- with an error, or to a 10, nothing else ends
    ∷ from_device (bulk_data_packet Guest 1 2 0 ∷ set_alt 2 1 ∷ alt_status 2 255 1 ∷ guest_packet 10 3 (one 1 ∷ []) ∷ alt_status 3 0 1 ∷ bulk_data_packet Host 1 2 0 ∷ []) (0 ∷ 0 ∷ 0 ∷ 0 ∷ 0 ∷ 0 ∷ [])
    -- rows by the table at that time: an invalid row keeps its interface, another interface takes the row out
    ∷ from_device (bulk_data_packet Guest 1 2 0 ∷ bulk_data_packet Guest 2 130 0 ∷ set_alt 3 1 ∷ endpoint_table_packet (rows_with 1 1 255 2 3 3) (set plain_interfaces 18 5) ∷ alt_status 3 0 1 ∷ bulk_data_packet Host 1 2 0 ∷ bulk_data_packet Host 2 130 0 ∷ []) (0 ∷ 0 ∷ 0 ∷ 0 ∷ 0 ∷ 33 ∷ 0 ∷ [])
    ∷ []

-- ---- the claim

abbrev runs : List ExampleRun
runs = devices ++ rows_and_settling ++ on_streams ++ matching ++ settings

-- each run gives its numbers
abbrev pub AsExpected : Type 0
AsExpected = answers_of runs ≡ expected_of runs

-- ---- C-11: the watch of endpoint 1 IN, whose row is 17, after packets from a device that is there, with ids of 64 bits

abbrev watch_after_all : List SentPacket → RowWatch
watch_after_all xs = watch_at (after_sent fresh_session (hello_packets 255 ++ introduction ++ xs)).watch 1

-- (`watched-as-expected`)
abbrev pub WatchedAsExpected : Type 0
WatchedAsExpected =
    -- 1, 2 and 3 are missing
    (watch_after_all (start_iso 1 129 ∷ iso_packet Host 0 129 ∷ iso_packet Host 4 129 ∷ []) ≡ record { expected = 5; gap = 3; breaks = 1 })
    -- the same packet twice; a start sets back the expected id alone
    × (watch_after_all (start_iso 1 129 ∷ iso_packet Host 0 129 ∷ iso_packet Host 0 129 ∷ start_iso 2 129 ∷ []) ≡ record { expected = 0; gap = 18446744073709551615; breaks = 1 })
    -- the last id of all, and 0 behind it
    × (watch_after_all (start_iso 1 129 ∷ iso_packet Host 18446744073709551615 129 ∷ iso_packet Host 0 129 ∷ []) ≡ record { expected = 1; gap = 18446744073709551615; breaks = 1 })
    -- a status 0 sets nothing back, an unasked status 4 does
    × (watch_after_all (start_iso 1 129 ∷ iso_packet Host 0 129 ∷ iso_status 1 0 129 ∷ []) ≡ record { expected = 1; gap = 0; breaks = 0 })
    × (watch_after_all (start_iso 1 129 ∷ iso_packet Host 0 129 ∷ iso_status 0 4 129 ∷ []) ≡ record { expected = 0; gap = 0; breaks = 0 })
    -- what is refused is not watched; a disconnect keeps count and gap
    × (watch_after_all (iso_packet Host 7 129 ∷ start_iso 1 129 ∷ iso_packet Host 2 129 ∷ disconnect_packet ∷ []) ≡ record { expected = 0; gap = 2; breaks = 1 })
