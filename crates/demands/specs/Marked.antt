-- Document 01's marked examples, M1 to M11: one list of examples under one claim (`AsMarked`), about the definitions that the contracts of the reader
-- and the writer cite. Each gives numbers: bytes put out, the numbers of reader calls, and of the packets that
-- these hand out kind, id and what stands behind the fields.
-- Assumes nothing: these are definitions and a statement. The proof is by computation.
use Rattle.std.specs.Prelude.{ℕ, zero, suc, true, false, List, [], ◌∷◌, ◌++◌, ◌≡◌, replicate, set, take, Option, Some, None}
use Prim.Native.String.{String}
use Rattle.octets.specs.Little.{bytes_of}
use Rattle.endpoint.specs.declared.Row.{Row}
use Rattle.endpoint.specs.Endpoint.{row_of}
use Rattle.header.specs.declared.Side.{Side}
use Rattle.header.specs.declared.Side.TheVariants.{Guest, Host}
use Rattle.device.specs.Device.{bulk, start_rows}
use Rattle.device.specs.declared.Introduction.TheVariants.{Two}
use Rattle.requests.specs.declared.Requests.{Requests}
use Rattle.requests.specs.Requests.{fresh_requests, with_request}
use Rattle.watch.specs.Watch.{start_watch}
use Rattle.kinds.specs.Content.{Content, packet_of, one}
use Rattle.decoder.specs.Reading.{PacketTold}
use Rattle.session.specs.declared.Session.{Session}
use Rattle.session.specs.Session.{fresh_session}
use Rattle.gate.specs.Write.{output, output_size}
use Rattle.demands.specs.CallLists.{Both, ReaderCall, answer_to, next}
use Rattle.demands.specs.Hellos.{hello_bytes}

-- ---- what the examples are run on

-- a session whose hellos both offered the same word, with a device whose endpoint 2 OUT is bulk, and these requests
abbrev device_session : ℕ → Requests → Session
device_session word requests =
    record {
      head =
          record {
            guest = Some word;
            host = Some word;
            stopped = false;
            held = record { guest = 0; host = 0 };
            present = true;
            introduction = Two;
            owed = false;
          };
      rows = record { types = set start_rows.types 2 bulk; interfaces = start_rows.interfaces; streams = start_rows.streams };
      requests = requests;
      watch = start_watch;
    }

-- with two holding buffers of the least size
abbrev with_buffers : Session → Both
with_buffers s = record { session = s; hold = λ d. replicate 32784 0 }

abbrev connected : ℕ → Both
connected word = with_buffers (device_session word fresh_requests)

abbrev from_guest : List ℕ → ReaderCall
from_guest bytes = record { from = Guest; piece = bytes }

abbrev from_host : List ℕ → ReaderCall
from_host bytes = record { from = Host; piece = bytes }

-- the numbers of calls, one after the other
unfoldable pub call_numbers : Both → List ReaderCall → List ℕ
call_numbers x [] = []
call_numbers x (c ∷ cs) = (answer_to x c).number ∷ call_numbers (next x c) cs

-- what the calls hand out: of each packet that passes kind, id and what stands behind its fields
abbrev told_by : Option PacketTold → List ℕ
told_by None = []
told_by (Some h) = h.content.kind ∷ h.content.id ∷ h.content.rest

unfoldable pub handed_out : Both → List ReaderCall → List ℕ
handed_out x [] = []
handed_out x (c ∷ cs) = told_by (answer_to x c).handed ++ handed_out (next x c) cs

-- the bytes that a side's packet is put out as, of 64 bytes of room
abbrev put_out : ℕ → Side → Content → List ℕ
put_out word from p = take (output_size from (connected word).session p 64) (output from (connected word).session p (replicate 64 0))

-- ---- packets

abbrev get_configuration : ℕ → Content
get_configuration id = packet_of 7 id [] []

-- a bulk packet on an endpoint, without bit 6
abbrev bulk_packet : ℕ → ℕ → ℕ → List ℕ → Content
bulk_packet id e n rest = packet_of 101 id (one e ∷ one 0 ∷ one n ∷ one 0 ∷ None ∷ []) rest

-- "bulk OUT endpoint 2, id 9, no bit 6, data AA BB", and "its reply"
abbrev m3 : List ℕ
m3 = 101 ∷ 0 ∷ 0 ∷ 0 ∷ 10 ∷ 0 ∷ 0 ∷ 0 ∷ 9 ∷ 0 ∷ 0 ∷ 0 ∷ 2 ∷ 0 ∷ 2 ∷ 0 ∷ 0 ∷ 0 ∷ 0 ∷ 0 ∷ 170 ∷ 187 ∷ []

abbrev m4 : List ℕ
m4 = 101 ∷ 0 ∷ 0 ∷ 0 ∷ 8 ∷ 0 ∷ 0 ∷ 0 ∷ 9 ∷ 0 ∷ 0 ∷ 0 ∷ 2 ∷ 0 ∷ 2 ∷ 0 ∷ 0 ∷ 0 ∷ 0 ∷ 0 ∷ []

-- a header with this length
abbrev header_saying : ℕ → List ℕ
header_saying n = bytes_of 4 101 ++ (bytes_of 4 n ++ bytes_of 4 9)

-- a hello with one word
abbrev hello_with : ℕ → List ℕ
hello_with word = hello_bytes (bytes_of 4 word)

-- get_config and its status, by id
abbrev asks_for : ℕ → ReaderCall
asks_for id = from_guest (bytes_of 4 7 ++ (bytes_of 4 0 ++ bytes_of 4 id))

abbrev answers_for : ℕ → ReaderCall
answers_for id = from_host (bytes_of 4 8 ++ (bytes_of 4 2 ++ (bytes_of 4 id ++ (0 ∷ 1 ∷ []))))

-- so many get-configs that wait, with ids from 0 up
abbrev waiting_requests : ℕ → Requests
waiting_requests zero = fresh_requests
waiting_requests (suc n) = with_request (waiting_requests n) n (record { id = n; kind = 7; target = 0; length = 0 })

-- ---- the examples

pub record Example : Type 0 where
  pub name : String
  pub gives : List ℕ
  pub expected : List ℕ

-- a row as a list: empty where the byte is no endpoint
abbrev row_as_list : Option Row → List ℕ
row_as_list (Some r) = r.0 ∷ []
row_as_list None = []

unfoldable pub marked : List Example
unfolding call_numbers handed_out
marked =
    record { name = "M1"; gives = put_out 0 Guest (get_configuration 7); expected = 7 ∷ 0 ∷ 0 ∷ 0 ∷ 0 ∷ 0 ∷ 0 ∷ 0 ∷ 7 ∷ 0 ∷ 0 ∷ 0 ∷ [] }
    ∷ record { name = "M1, read"; gives = call_numbers (connected 0) (from_guest (put_out 0 Guest (get_configuration 7)) ∷ []); expected = 0 ∷ [] }
    ∷ record { name = "M1, handed out"; gives = handed_out (connected 0) (from_guest (put_out 0 Guest (get_configuration 7)) ∷ []); expected = 7 ∷ 7 ∷ [] }
    ∷ record { name = "M2"; gives = put_out 32 Guest (get_configuration 7); expected = 7 ∷ 0 ∷ 0 ∷ 0 ∷ 0 ∷ 0 ∷ 0 ∷ 0 ∷ 7 ∷ 0 ∷ 0 ∷ 0 ∷ 0 ∷ 0 ∷ 0 ∷ 0 ∷ [] }
    ∷ record { name = "M2, read"; gives = call_numbers (connected 32) (from_guest (put_out 32 Guest (get_configuration 7)) ∷ []); expected = 0 ∷ [] }
    ∷ record { name = "M2, handed out"; gives = handed_out (connected 32) (from_guest (put_out 32 Guest (get_configuration 7)) ∷ []); expected = 7 ∷ 7 ∷ [] }
    ∷ record { name = "M3"; gives = put_out 0 Guest (bulk_packet 9 2 2 (170 ∷ 187 ∷ [])); expected = m3 }
    ∷ record { name = "M4"; gives = put_out 0 Host (bulk_packet 9 2 2 []); expected = m4 }
    ∷ record { name = "M3, M4, M5"; gives = call_numbers (connected 0) (from_guest m3 ∷ from_host m4 ∷ from_host m4 ∷ []); expected = 0 ∷ 0 ∷ 33 ∷ [] }
    ∷ record { name = "M3, M4, M5, handed out"; gives = handed_out (connected 0) (from_guest m3 ∷ from_host m4 ∷ from_host m4 ∷ []); expected = 101 ∷ 9 ∷ 170 ∷ 187 ∷ 101 ∷ 9 ∷ [] }
    ∷ record { name = "M6"; gives = call_numbers (connected 0) (from_guest (header_saying 32768) ∷ []); expected = 1 ∷ [] }
    ∷ record { name = "M7"; gives = call_numbers (connected 0) (from_guest (header_saying 32769) ∷ []); expected = 10 ∷ [] }
    ∷ record { name = "M8"; gives = row_as_list (row_of (record { 0 = 130 })); expected = 18 ∷ [] }
    ∷ record { name = "M9"; gives = call_numbers (connected 0) (from_guest (header_saying 8 ++ (18 ∷ 0 ∷ 0 ∷ 0 ∷ 0 ∷ 0 ∷ 0 ∷ 0 ∷ [])) ∷ []); expected = 24 ∷ [] }
    ∷ record { name = "M10, word 1"; gives = call_numbers (with_buffers fresh_session) (from_host (hello_with 1) ∷ []); expected = 13 ∷ [] }
    ∷ record { name = "M10, word 17"; gives = call_numbers (with_buffers fresh_session) (from_host (hello_with 17) ∷ []); expected = 0 ∷ [] }
    ∷ record { name = "M11"; gives = call_numbers (with_buffers (device_session 0 (waiting_requests 96))) (asks_for 96 ∷ answers_for 5 ∷ asks_for 96 ∷ []); expected = 32 ∷ 0 ∷ 0 ∷ [] }
    ∷ []

-- each example gives what is expected
abbrev pub AllAsExpected : List Example → Type 0
AllAsExpected [] = Unit {0}
AllAsExpected (e ∷ es) = (e.gives ≡ e.expected) × AllAsExpected es

-- the marked examples do
abbrev pub AsMarked : Type 0
AsMarked = AllAsExpected marked
