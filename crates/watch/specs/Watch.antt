-- The watch on stream packets. Document 02, C-11: "for each IN row, watch the ids of passed host packets of kinds 102, 103 IN and 104. At first
-- and after each passed start, or 14, 17 or 27 with status 4, on the row, 0 is expected; then the id after the last one wraps to 0 at the width in
-- force, 32 or 64 bits. An unexpected id counts one break, sets the row's last gap to how far ahead it lies modulo the width, and becomes the new
-- base." Which packet does what to it is `watch_after` in `session/specs/Step.antt`.
-- Assumes nothing: these are definitions.
use Rattle.std.specs.Prelude.{ℕ, ◌+◌, ◌-◌, ◌%◌, ◌^◌, Bool, cond, map, get_or, replicate, ◌==◌, nat_lt, Option, Some, None}
use Rattle.endpoint.specs.declared.Endpoint.{Endpoint}
use Rattle.endpoint.specs.declared.Row.{Row}
use Rattle.endpoint.specs.Endpoint.{row_of}
use Rattle.scan.specs.Scan.{put_at}
use Rattle.watch.specs.declared.RowWatch.{RowWatch}
use Rattle.watch.specs.declared.Watch.{Watch}

-- ---- one row

-- "At first .. 0 is expected"; "counts and gaps are kept in the session, 0 at first"
abbrev pub start_row : RowWatch
start_row = record { expected = 0; gap = 0; breaks = 0 }

-- "at the width in force, 32 or 64 bits": how many ids there are
abbrev pub modulus : Bool → ℕ
modulus wide = cond wide (2 ^ 64) (2 ^ 32)

-- "the id after the last one wraps to 0"
abbrev pub id_after : Bool → ℕ → ℕ
id_after wide id = (id + 1) % modulus wide

-- "how far ahead it lies modulo the width"
abbrev pub ahead : Bool → ℕ → ℕ → ℕ
ahead wide expected id = (id + (modulus wide - expected % modulus wide)) % modulus wide

abbrev pub is_expected : Bool → RowWatch → ℕ → Bool
is_expected wide w id = ahead wide w.expected id == 0

-- "Break counts stop at 65,535"
abbrev pub max_breaks : ℕ
max_breaks = 65535

abbrev pub one_more : ℕ → ℕ
one_more n = cond (nat_lt n max_breaks) (n + 1) n

-- a packet with this id came: "An unexpected id counts one break, sets the row's last gap .., and becomes the new base"
unfoldable pub seen : Bool → ℕ → RowWatch → RowWatch
seen wide id w =
    record {
      expected = id_after wide id;
      gap = cond (is_expected wide w id) w.gap (ahead wide w.expected id);
      breaks = cond (is_expected wide w id) w.breaks (one_more w.breaks);
    }

-- "after each passed start, or 14, 17 or 27 with status 4, on the row, 0 is expected"
abbrev pub begun : RowWatch → RowWatch
begun w = record { expected = 0; gap = w.gap; breaks = w.breaks }

-- ---- the IN rows

abbrev pub in_rows : ℕ
in_rows = 16

-- IN row 16 + i; past the last one it reads as a row at the start
abbrev pub watch_at : Watch → ℕ → RowWatch
watch_at w i = get_or w.rows i start_row

unfoldable pub start_watch : Watch
start_watch = record { rows = replicate in_rows start_row }

-- which of them a row is, from 0 on; 16 or more where it is none
unfoldable pub index_of : Row → ℕ
index_of r = cond (nat_lt r.0 16) in_rows (r.0 - 16)

-- and an endpoint's row; a byte that is no address has none
abbrev pub watched_in : Option Row → ℕ
watched_in (Some r) = index_of r
watched_in None = in_rows

unfoldable pub watched_row : Endpoint → ℕ
watched_row e = watched_in (row_of e)

-- row i changed, and none past the last
abbrev pub with_row : Watch → ℕ → RowWatch → Watch
with_row w i r = record { rows = put_at in_rows start_row w.rows i r }

unfoldable pub changed_at : (RowWatch → RowWatch) → Watch → ℕ → Watch
changed_at f w i = cond (nat_lt i in_rows) (with_row w i (f (watch_at w i))) w

-- a packet with this id came on an endpoint; the ids of an endpoint begin anew
abbrev pub seen_on : Bool → ℕ → Watch → Endpoint → Watch
seen_on wide id w e = changed_at (seen wide id) w (watched_row e)

abbrev pub begun_on : Watch → Endpoint → Watch
begun_on w e = changed_at begun w (watched_row e)

-- a disconnect: 0 is expected as at first; "counts and gaps .. outlast a disconnect"
unfoldable pub forgotten : Watch → Watch
forgotten w = record { rows = map begun w.rows }

-- ---- what a user reads: the breaks and the last gap of a row, 0 where it is not watched

unfoldable pub breaks_on : Watch → Row → ℕ
breaks_on w r = cond (nat_lt (index_of r) in_rows) (watch_at w (index_of r)).breaks 0

unfoldable pub gap_on : Watch → Row → ℕ
gap_on w r = cond (nat_lt (index_of r) in_rows) (watch_at w (index_of r)).gap 0
