-- What is said of the watch on stream packets, by kind numbers and in the words of document 02's C-11, without the classes of `events` and the
-- functions of `session`: what each IN row's watch is after a packet that passes (`WatchMoves`), what a user reads of it (`ReadByRow`), and the count over
-- a list of packets (`BreaksCounted`).
-- Assumes nothing: these are definitions and statements.
use Rattle.std.specs.Prelude.{ℕ, ◌+◌, ◌%◌, ◌^◌, ◌≤◌, ◌<◌, min, Bool, true, false, cond, not, ◌&&◌, ◌||◌, List, [], ◌∷◌, ◌⊎◌, ◌≡◌, eqb}
use Rattle.endpoint.specs.declared.Row.{Row}
use Rattle.header.specs.declared.Side.{Side}
use Rattle.header.specs.declared.Side.TheVariants.{Host}
use Rattle.header.specs.Link.{is_guest, passed, id_width}
use Rattle.watch.specs.declared.RowWatch.{RowWatch}
use Rattle.watch.specs.declared.Watch.{Watch}
use Rattle.watch.specs.Watch.{watch_at, breaks_on, gap_on}
use Rattle.kinds.specs.Content.{Content}
use Rattle.kinds.specs.Number.{wire_number}
use Rattle.events.specs.Event.{event_of}
use Rattle.session.specs.declared.Session.{Session}
use Rattle.session.specs.Session.{link_of}
use Rattle.session.specs.Step.{judged}
use Rattle.claims.specs.Allowed.{among, inward_of, stalled}
use Rattle.claims.specs.Movements.{names}
use Rattle.claims.specs.PacketLists.{SentPacket, next_by, after_packets, AllOutOfWire}

-- ---- which packets the sentences speak of

-- "passed host packets of kinds 102, 103 IN and 104"
abbrev pub is_watched : Side → Content → Bool
is_watched from p = not (is_guest from) && (among (102 ∷ 104 ∷ []) p.kind || (eqb p.kind 103 && inward_of p))

-- "each passed start, or 14, 17 or 27 with status 4"
abbrev pub restarts : Content → Bool
restarts p = among (12 ∷ 15 ∷ 25 ∷ []) p.kind || (among (14 ∷ 17 ∷ 27 ∷ []) p.kind && stalled p)

-- "at the width in force, 32 or 64 bits": how many ids a header of this kind can say
abbrev pub ids_of : Session → Side → ℕ → ℕ
ids_of s from kind = 256 ^ id_width (link_of from s) kind

-- ---- a row after a packet

-- a watched packet with this id came, of so many ids
pub record Follows (ids id : ℕ) (old new : RowWatch) : Type 0 where
  -- "the id after the last one wraps to 0"; an unexpected one "becomes the new base"
  pub expected : new.expected ≡ (id + 1) % ids
  -- the expected one: nothing is counted
  pub right : old.expected % ids ≡ id % ids → (new.gap ≡ old.gap) × (new.breaks ≡ old.breaks)
  -- "An unexpected id counts one break, sets the row's last gap to how far ahead it lies modulo the width"; "Break counts stop at 65,535"
  pub wrong : (old.expected % ids ≡ id % ids → ⊥) → (new.gap < ids) × ((old.expected + new.gap) % ids ≡ id % ids) × (old.breaks ≤ 65535 → new.breaks ≡ min (old.breaks + 1) 65535)

-- 0 is expected, and "counts and gaps are kept": what `begun` says, a second time
abbrev pub restarted : RowWatch → RowWatch
restarted w = record { expected = 0; gap = w.gap; breaks = w.breaks }

-- each IN row, which is row 16 + n
pub record WatchMoved (s : Session) (from : Side) (p : Content) (next : Session) : Type 0 where
  pub seen : (n : ℕ) → n < 16 → is_watched from p ≡ true → names p (16 + n) ≡ true → Follows (ids_of s from p.kind) p.id (watch_at s.watch n) (watch_at next.watch n)
  pub restart : (n : ℕ) → n < 16 → restarts p ≡ true → names p (16 + n) ≡ true → watch_at next.watch n ≡ restarted (watch_at s.watch n)
  -- a disconnect "returns to the start", which "counts and gaps .. outlast"
  pub disconnect : (n : ℕ) → n < 16 → p.kind ≡ 2 → watch_at next.watch n ≡ restarted (watch_at s.watch n)
  -- and no other packet moves it
  pub others : (n : ℕ) → n < 16 → (p.kind ≡ 2 → ⊥) → ((is_watched from p || restarts p) && names p (16 + n)) ≡ false → watch_at next.watch n ≡ watch_at s.watch n

-- of a packet that came out of the wire checks and passes the session checks (`watch-moves`)
abbrev pub WatchMoves : Type 0
WatchMoves =
    (s : Session) (from : Side) (p : Content) → wire_number (link_of from s) p ≡ 0 → (judged s (event_of from p)).number ≡ 0 → WatchMoved s from p (judged s (event_of from p)).session

-- "counts and gaps are kept in the session, .. and outlast a disconnect": every packet but a watched one keeps those of every row
abbrev pub CountsKept : Type 0
CountsKept =
    (s : Session) (from : Side) (p : Content) (n : ℕ) → n < 16 → wire_number (link_of from s) p ≡ 0 → is_watched from p ≡ false
    → ((watch_at (judged s (event_of from p)).session.watch n).gap ≡ (watch_at s.watch n).gap) × ((watch_at (judged s (event_of from p)).session.watch n).breaks ≡ (watch_at s.watch n).breaks)

-- ---- what a user reads

-- of IN row 16 + n its breaks and its last gap, and 0 of every other row (`read-by-row`)
abbrev pub ReadByRow : Type 0
ReadByRow =
    (w : Watch) (r : Row)
    → ((n : ℕ) → n < 16 → r.0 ≡ 16 + n → (breaks_on w r ≡ (watch_at w n).breaks) × (gap_on w r ≡ (watch_at w n).gap))
    × ((r.0 < 16) ⊎ (32 ≤ r.0) → (breaks_on w r ≡ 0) × (gap_on w r ≡ 0))

-- ---- a list of packets

-- of the packets of a list those that pass, in order
abbrev pub passed_of : Session → List SentPacket → List SentPacket
passed_of s [] = []
passed_of s (x ∷ xs) = cond (eqb (judged s (event_of x.from x.packet)).number 0) (x ∷ passed_of (next_by s x) xs) (passed_of (next_by s x) xs)

-- a packet of IN row 16 + n that is watched, and one after which 0 is expected there
abbrev pub watched_on : ℕ → SentPacket → Bool
watched_on n x = is_watched x.from x.packet && names x.packet (16 + n)

abbrev pub restarts_on : ℕ → SentPacket → Bool
restarts_on n x = eqb x.packet.kind 2 || (restarts x.packet && names x.packet (16 + n))

-- the id that row 16 + n expects after a packet, of so many ids, where it expected e before
abbrev pub expected_after : ℕ → ℕ → ℕ → SentPacket → ℕ
expected_after ids n e x = cond (watched_on n x) ((x.packet.id + 1) % ids) (cond (restarts_on n x) 0 e)

-- how many packets of a list did not have the expected id; the session is not looked at
abbrev pub unexpected : ℕ → ℕ → ℕ → List SentPacket → ℕ
unexpected ids n e [] = 0
unexpected ids n e (x ∷ xs) = cond (watched_on n x && not (eqb (e % ids) (x.packet.id % ids))) 1 0 + unexpected ids n (expected_after ids n e x) xs

-- once both hellos have passed, the count of a row is the number of packets that passed and did not have the expected id, on top of what it was
-- and as far as 65,535; the width is that of any packet of a stream (`breaks-counted`)
abbrev pub BreaksCounted : Type 0
BreaksCounted =
    (s : Session) (xs : List SentPacket) (n : ℕ) → n < 16 → passed s.head.guest ≡ true → passed s.head.host ≡ true → AllOutOfWire s xs
    → (watch_at s.watch n).breaks ≤ 65535
    → (watch_at (after_packets s xs).watch n).breaks ≡ min ((watch_at s.watch n).breaks + unexpected (ids_of s Host 102) n (watch_at s.watch n).expected (passed_of s xs)) 65535
