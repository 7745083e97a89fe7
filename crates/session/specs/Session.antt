-- A session: its head, the rows of the device, and the requests that wait.
-- Assumes nothing: these are definitions.
use Rattle.std.specs.Prelude.{ℕ, ◌-◌, Bool, not, ◌&&◌, ◌||◌, ltb, Option}
use Rattle.octets.specs.Bits.{has_bit}
use Rattle.header.specs.declared.Side.{Side}
use Rattle.header.specs.declared.Side.TheVariants.{Guest, Host}
use Rattle.header.specs.declared.Link.{Link}
use Rattle.header.specs.Link.{passed, shared_set}
use Rattle.header.specs.Header.{hold_size}
use Rattle.device.specs.declared.Head.{Head}
use Rattle.device.specs.declared.Held.{Held}
use Rattle.device.specs.Device.{start_head, start_rows, control_rows}
use Rattle.requests.specs.Requests.{fresh_requests, ids_differ}
use Rattle.watch.specs.Watch.{start_watch}
use Rattle.session.specs.declared.Session.{Session}

-- "Start: no device, no introduction, .. and a table of 96 places for requests, all free"
unfoldable pub fresh_session : Session
fresh_session = record { head = start_head; rows = start_rows; requests = fresh_requests; watch = start_watch }

-- one direction of it, as the wire checks see it
abbrev pub link_to : Side → Head → Link
link_to from h = record { sender = from; guest = h.guest; host = h.host }

abbrev pub link_of : Side → Session → Link
link_of from s = link_to from s.head

-- a bit is in the shared set, which is the same for both directions
abbrev pub shared_in : Head → ℕ → Bool
shared_in h j = has_bit (shared_set (link_to Guest h)) j

-- "id is u64 once both hellos have passed and bit 5 is shared"
abbrev pub is_wide : Head → Bool
is_wide h = shared_in h 5

-- ---- the held bytes of a direction: "Bytes of an unfinished packet are kept at its front"

abbrev pub held_in : Side → Head → ℕ
held_in Guest h = h.held.guest
held_in Host h = h.held.host

abbrev pub count_as : Side → ℕ → Held → Held
count_as Guest n h = record { guest = n; host = h.host }
count_as Host n h = record { guest = h.guest; host = n }

-- so many bytes are held in a direction, and the session is stopped or not
abbrev pub held_to : Side → ℕ → Bool → Head → Head
held_to from n stopped h =
    record { guest = h.guest; host = h.host; stopped = stopped; held = count_as from n h.held; present = h.present; introduction = h.introduction; owed = h.owed }

-- ---- 43, what it tests of a session

-- "a held count over 32,783": the longest packet but for its last byte
abbrev pub max_held : ℕ
max_held = hold_size - 1

-- "a held count over 32,783 or, own hello passed and other's not, over 0"
abbrev pub held_bad : Option ℕ → Option ℕ → ℕ → Bool
held_bad own other n = ltb max_held n || (passed own && not (passed other) && ltb 0 n)

-- of either direction; "two live requests with one id; row 0 or 16 not control"
unfoldable pub unfit : Session → Bool
unfit s =
    held_bad s.head.guest s.head.host s.head.held.guest
    || held_bad s.head.host s.head.guest s.head.held.host
    || not (ids_differ s.requests)
    || not (control_rows s.rows)
