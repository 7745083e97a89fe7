-- A script of reader calls on a fresh session: what each call tells, and what stands in the two holding buffers when the
-- script is over. The two are the halves of one buffer.
-- Assumes nothing: these are definitions.
use Rattle.std.specs.Prelude.{◌≡◌, ℕ, zero, suc, ◌+◌, ◌/◌, Bool, cond, List, [], ◌++◌, length, drop, nat_le, Option, Some, None}
use Rattle.std.proofs.lemmas.List.Edits.{sets}
use Rattle.std.proofs.Math.Seq.{slice}
use Rattle.octets.specs.Little.{le, bytes_of}
use Rattle.header.specs.declared.Side.{Side}
use Rattle.header.specs.declared.Side.TheVariants.{Guest, Host}
use Rattle.header.specs.Link.{side_of}
use Rattle.decoder.specs.Reading.{PacketTold}
use Rattle.watch.specs.declared.RowWatch.{RowWatch}
use Rattle.watch.specs.declared.Watch.{Watch}
use Rattle.watch.specs.Watch.{in_rows, watch_at}
use Rattle.session.specs.declared.Session.{Session}
use Rattle.session.specs.Session.{fresh_session}
use Rattle.frame.specs.declared.Location.{Location}
use Rattle.frame.specs.declared.Location.TheVariants.{Nowhere, Piece, Buffer}
use Rattle.gate.specs.Offer.{Outcome, offer_of}

-- ---- an item of the script: a byte for the sender, four for the size of the piece, and the piece

-- what an item takes of the script
abbrev pub item_size : List ℕ → ℕ
item_size script = 5 + le 4 script 1

abbrev pub item_whole : List ℕ → Bool
item_whole script = nat_le (item_size script) (length script)

abbrev pub sender_at : List ℕ → Side
sender_at script = side_of (le 1 script 0)

abbrev pub piece_at : List ℕ → List ℕ
piece_at script = slice 5 (item_size script) script

-- ---- the record of a call: 26 bytes

abbrev pub location_number : Location → ℕ
location_number Nowhere = 0
location_number Piece = 1
location_number Buffer = 2

-- where the part that a packet names starts and ends among the packet's bytes, and the packet's id; 0 where nothing is
-- handed out
abbrev pub start_of : Option PacketTold → ℕ
start_of None = 0
start_of (Some h) = h.header.size + h.rest.start

abbrev pub end_of : Option PacketTold → ℕ
end_of None = 0
end_of (Some h) = h.header.size + h.rest.end

abbrev pub id_handed : Option PacketTold → ℕ
id_handed None = 0
id_handed (Some h) = h.header.id

unfoldable pub record_bytes : ℕ → ℕ → ℕ → ℕ → ℕ → ℕ → ℕ → List ℕ
record_bytes number location taken size start end id =
    bytes_of 1 number ++ bytes_of 1 location ++ bytes_of 4 taken ++ bytes_of 4 size ++ bytes_of 4 start ++ bytes_of 4 end ++ bytes_of 8 id

abbrev pub record_of : Outcome → List ℕ
record_of o = record_bytes o.number (location_number o.location) o.taken o.size (start_of o.handed) (end_of o.handed) (id_handed o.handed)

-- ---- the watch: 18 bytes for each IN row, its breaks, its last gap and the id that it expects

abbrev pub row_bytes : RowWatch → List ℕ
row_bytes r = bytes_of 2 r.breaks ++ bytes_of 8 r.gap ++ bytes_of 8 r.expected

-- of n rows, from row i on
unfoldable pub rows_bytes : Watch → ℕ → ℕ → List ℕ
rows_bytes w i zero = []
rows_bytes w i (suc n) = row_bytes (watch_at w i) ++ rows_bytes w (suc i) n

abbrev pub watch_bytes : Watch → List ℕ
watch_bytes w = rows_bytes w 0 in_rows

-- ---- the halves of the buffer: the first is the guest's, the second the host's, and a last odd byte is in neither

abbrev pub half_of : List ℕ → ℕ
half_of holds = length holds / 2

-- where a side's own half starts
abbrev pub base_of : Side → ℕ → ℕ
base_of Guest half = 0
base_of Host half = half

abbrev pub own_of : Side → List ℕ → List ℕ
own_of from holds = slice (base_of from (half_of holds)) (base_of from (half_of holds) + half_of holds) holds

-- the buffer with a side's own half set
abbrev pub with_own : Side → List ℕ → List ℕ → List ℕ
with_own from own holds = sets holds (base_of from (half_of holds)) own

-- ---- a run

-- the session, the holding buffers, the records, one after the other, and the number of calls
pub record Run : Type 0 where
  pub session : Session
  pub holds : List ℕ
  pub records : List ℕ
  pub calls : ℕ

abbrev pub begun : List ℕ → Run
begun holds = record { session = fresh_session; holds = holds; records = []; calls = 0 }

abbrev pub recorded : Run → Side → Outcome → Run
recorded r from o =
    record { session = o.session; holds = with_own from o.hold r.holds; records = r.records ++ record_of o; calls = suc r.calls }

-- a call is made over the sender's own half, and the rest of the buffer stays
abbrev pub ran_call : Run → Side → List ℕ → Run
ran_call r from piece = recorded r from (offer_of from r.session (own_of from r.holds) piece)

-- the items of a script, at most so many; it ends at one that is cut short
unfoldable pub run_of : ℕ → Run → List ℕ → Run
run_of zero r script = r
run_of (suc n) r script = cond (item_whole script) (run_of n (ran_call r (sender_at script) (piece_at script)) (drop (item_size script) script)) r

-- as many calls as the output has room for
unfoldable pub driven : List ℕ → List ℕ → List ℕ → Run
driven script holds out = run_of (length out / 26) (begun holds) script

-- the records stand at the front of the output, the watch after all calls behind them, as far as it goes, and the number of
-- calls is told
pub record Drives (script holds out holds' out' : List ℕ) (count : ℕ) : Type 0 where
  pub count-is : count ≡ (driven script holds out).calls
  pub holds-are : holds' ≡ (driven script holds out).holds
  pub output : out' ≡ sets out 0 ((driven script holds out).records ++ watch_bytes (driven script holds out).session.watch)
