-- Demand 3 at work: a session, a list of writer calls of which one is refused, and the joined bytes offered in three pieces, of which the first two
-- cut across the packets, with the reply to the first packet between. So what demand 3 says of all lists is said of some.
-- Assumes nothing: these are definitions, and the statement that `proofs/AtWork.antt` proves.
use Rattle.std.specs.Prelude.{ℕ, true, false, List, [], ◌∷◌, ◌++◌, map, ◌≡◌, set, replicate, Some, None}
use Rattle.header.specs.declared.Side.TheVariants.{Guest, Host}
use Rattle.kinds.specs.Content.{one, Content, packet_of}
use Rattle.device.specs.declared.Introduction.TheVariants.{Two}
use Rattle.device.specs.Device.{bulk, start_rows}
use Rattle.requests.specs.Requests.{fresh_requests}
use Rattle.watch.specs.Watch.{start_watch}
use Rattle.wire.specs.Reader.{Call, this-way, other_way, Step, run, outs, taken, Cuts, accepted, joined}
use Rattle.wire.specs.Usbredir.{usbredir}
use Rattle.gate.specs.Offer.{offer_of}
use Rattle.demands.specs.Demand3.{GateState, read_call, other_by, reader, WriterCall, writer, Starts}

-- M3's session: both hellos offered nothing, a device is there, its endpoint 2 OUT is bulk, and no request waits. Both buffers are of the least size.
abbrev pub start : GateState
start =
    record {
      session =
          record {
            head = record { guest = Some 0; host = Some 0; stopped = false; held = record { guest = 0; host = 0 }; present = true; introduction = Two; owed = false };
            rows = record { types = set start_rows.types 2 bulk; interfaces = start_rows.interfaces; streams = start_rows.streams };
            requests = fresh_requests;
            watch = start_watch;
          };
      hold = replicate 32784 0;
      other = replicate 32784 0;
    }

-- M3, a get_config whose id takes more than 32 bits, and M1
abbrev pub m3 : Content
m3 = packet_of 101 9 (one 2 ∷ one 0 ∷ one 2 ∷ one 0 ∷ None ∷ []) (170 ∷ 187 ∷ [])

abbrev pub wide : Content
wide = packet_of 7 4294967296 [] []

abbrev pub m1 : Content
m1 = packet_of 7 7 [] []

-- M3 and M1 as their bytes: `65000000 0a000000 09000000 02 00 0200 00000000 aabb` and `07000000 00000000 07000000`; in three pieces
abbrev pub first : List ℕ
first = 101 ∷ 0 ∷ 0 ∷ 0 ∷ 10 ∷ []

abbrev pub second : List ℕ
second = 0 ∷ 0 ∷ 0 ∷ 9 ∷ 0 ∷ 0 ∷ 0 ∷ 2 ∷ 0 ∷ 2 ∷ 0 ∷ 0 ∷ 0 ∷ 0 ∷ 0 ∷ 170 ∷ 187 ∷ []

abbrev pub third : List ℕ
third = 7 ∷ 0 ∷ 0 ∷ 0 ∷ 0 ∷ 0 ∷ 0 ∷ 0 ∷ 7 ∷ 0 ∷ 0 ∷ 0 ∷ []

-- M4, the host's reply to M3: `65000000 08000000 09000000 02 00 0200 00000000`, in two pieces
abbrev pub reply_first : List ℕ
reply_first = 101 ∷ 0 ∷ 0 ∷ []

abbrev pub reply_second : List ℕ
reply_second = 0 ∷ 8 ∷ 0 ∷ 0 ∷ 0 ∷ 9 ∷ 0 ∷ 0 ∷ 0 ∷ 2 ∷ 0 ∷ 2 ∷ 0 ∷ 0 ∷ 0 ∷ 0 ∷ 0 ∷ []

-- the reader's calls: the host sends the begin of M4 between the first two pieces, and the rest of it when M3 is through; the second piece goes on into
-- M1, of which it takes nothing
abbrev pub second_on : List ℕ
second_on = second ++ (7 ∷ 0 ∷ 0 ∷ 0 ∷ [])

abbrev pub offers : List (Call usbredir (reader Guest))
offers = this-way first ∷ other_way reply_first ∷ this-way second_on ∷ other_way reply_second ∷ this-way third ∷ []

-- where the rest of M4 comes
abbrev pub asked : GateState
asked = (read_call Guest (other_by Guest (read_call Guest start first).next reply_first) second_on).next

abbrev pub steps : List (Step usbredir (reader Guest))
steps = run usbredir (reader Guest) start offers

pub record AtWork : Type 0 where
  pub starts : Starts Guest start
  -- three writer calls, each with an output of 64 bytes: the second is refused
  pub calls : List (WriterCall Guest start.session)
  pub packets : map (λ (w : WriterCall Guest start.session). w.packet) calls ≡ (m3 ∷ wide ∷ m1 ∷ [])
  pub numbers : map (writer Guest start.session).number calls ≡ (0 ∷ 22 ∷ 0 ∷ [])
  pub all-accepted : accepted usbredir (writer Guest start.session) calls ≡ (m3 ∷ m1 ∷ [])
  pub bytes : joined usbredir (writer Guest start.session) calls ≡ first ++ (second ++ third)
  -- the reader's pieces are cut from them, and all are taken
  pub cut : Cuts usbredir (reader Guest) steps (joined usbredir (writer Guest start.session) calls)
  pub all-taken : taken usbredir (reader Guest) steps ≡ 34
  pub answers : map (λ (t : Step usbredir (reader Guest)). t.answer.number) steps ≡ (1 ∷ 0 ∷ 0 ∷ [])
  -- and M4 passes between them
  pub reply : (offer_of Host asked.session asked.other reply_second).number ≡ 0
  -- what demand 3 says of these lists: the packets that came out are the accepted ones
  pub out : outs usbredir (reader Guest) steps ≡ (m3 ∷ m1 ∷ [])
  -- and they are handed out
  pub handed : map (λ (t : Step usbredir (reader Guest)). t.answer.handed) steps ≡ ([] ∷ (m3 ∷ []) ∷ (m1 ∷ []) ∷ [])
