-- The device as the session knows it: the head, which is small, and the rows of its endpoints with their streams.
-- Assumes nothing: these are definitions.
use Rattle.std.specs.Prelude.{ℕ, Bool, true, false, cond, not, ◌&&◌, ◌||◌, List, get_or, set, replicate, eqb, Option, Some, None}
use Rattle.octets.specs.Bits.{has_bit}
use Rattle.endpoint.specs.declared.Row.{Row}
use Rattle.endpoint.specs.declared.Endpoint.{Endpoint}
use Rattle.endpoint.specs.Endpoint.{row_of}
use Rattle.scan.specs.Scan.{any_at, tabulated, put_at}
use Rattle.device.specs.declared.Rows.{Rows}
use Rattle.device.specs.declared.Scope.{Scope}
use Rattle.device.specs.declared.Scope.TheVariants.{NoRow, EveryRow, OfInterface}
use Rattle.device.specs.declared.Introduction.TheVariants.{Unintroduced}
use Rattle.device.specs.declared.Head.{Head}

-- ---- the types of an endpoint: "0 control, 1 iso, 2 bulk, 3 interrupt or 255 invalid"

abbrev pub control : ℕ
control = 0

abbrev pub iso : ℕ
iso = 1

abbrev pub bulk : ℕ
bulk = 2

abbrev pub interrupt : ℕ
interrupt = 3

abbrev pub invalid : ℕ
invalid = 255

-- ---- rows

-- a row: the type and the interface of its endpoint as the endpoint table gave them, and whether its stream is open
pub record RowState : Type 0 where
  pub ty : ℕ
  pub interface : ℕ
  pub streaming : Bool

-- a row of a type, of interface 0, with its stream closed
abbrev pub closed_row : ℕ → RowState
closed_row ty = record { ty = ty; interface = 0; streaming = false }

-- row i; past the last one it reads as a closed control row
abbrev pub row_at : Rows → ℕ → RowState
row_at d i = record { ty = get_or d.types i 0; interface = get_or d.interfaces i 0; streaming = get_or d.streams i false }

-- the 32 rows
unfoldable pub rows_of : Rows → List RowState
rows_of d = tabulated (row_at d) 0 32

-- "Start: .. all rows invalid but 0 and 16 (control), interfaces 0, streams closed"
unfoldable pub start_rows : Rows
start_rows = record { types = set (set (replicate 32 invalid) 0 control) 16 control; interfaces = replicate 32 0; streams = replicate 32 false }

-- the row of an endpoint; a byte that is no address has an invalid one
abbrev pub row_in : Rows → Option Row → RowState
row_in d (Some r) = row_at d r.0
row_in d None = closed_row invalid

abbrev pub state_at : Rows → Endpoint → RowState
state_at d e = row_in d (row_of e)

-- r is the row that was found; a byte that is no address has none
abbrev pub is_row : Option Row → ℕ → Bool
is_row (Some q) r = eqb q.0 r
is_row None r = false

-- ---- 28: "18, 19 (every mask bit)"

-- a row of the mask has another type
abbrev pub mistyped : ℕ → ℕ → ℕ → RowState → Bool
mistyped mask ty i r = has_bit mask i && not (eqb r.ty ty)

abbrev pub mask_mistyped : Rows → ℕ → ℕ → Bool
mask_mistyped d mask ty = any_at (mistyped mask ty) 0 (rows_of d)

-- ---- streams

abbrev pub with_streams : Rows → List Bool → Rows
with_streams d b = record { types = d.types; interfaces = d.interfaces; streams = b }

-- the stream of a row opened or closed, "only where the row's type is that kind's"
abbrev pub stream_in : Rows → Option Row → ℕ → Bool → Rows
stream_in d (Some r) ty b = cond (eqb (row_at d r.0).ty ty) (with_streams d (put_at 32 false d.streams r.0 b)) d
stream_in d None ty b = d

unfoldable pub stream_to : Rows → Endpoint → ℕ → Bool → Rows
stream_to d e ty b = stream_in d (row_of e) ty b

-- ---- "5 replaces the rows and closes streams whose row changes type."

unfoldable pub replaced : Rows → Rows → Rows
replaced new d =
    record {
      types = new.types;
      interfaces = new.interfaces;
      streams = tabulated (λ (i : ℕ). (row_at d i).streaming && eqb (row_at d i).ty (row_at new i).ty) 0 32;
    }

-- ---- the rows whose requests and streams a passed packet ends

-- "for rows other than 0 and 16 of that interface"
abbrev pub touches : Scope → ℕ → ℕ → Bool
touches NoRow i interface = false
touches EveryRow i interface = true
touches (OfInterface n) i interface = not (eqb i 0 || eqb i 16) && eqb interface n

unfoldable pub closed : Rows → Scope → Rows
closed d NoRow = d
closed d EveryRow = with_streams d (replicate 32 false)
closed d (OfInterface n) = with_streams d (tabulated (λ (i : ℕ). (row_at d i).streaming && not (touches (OfInterface n) i (row_at d i).interface)) 0 32)

-- the row of an endpoint is one of them; a byte that is no address has no row of an interface
abbrev pub touched_in : Rows → Scope → Option Row → Bool
touched_in d NoRow r = false
touched_in d EveryRow r = true
touched_in d (OfInterface n) (Some r) = touches (OfInterface n) r.0 (row_at d r.0).interface
touched_in d (OfInterface n) None = false

unfoldable pub touched : Rows → Scope → Endpoint → Bool
touched d s e = touched_in d s (row_of e)

-- ---- 43: "row 0 or 16 not control"

abbrev pub control_rows : Rows → Bool
control_rows d = eqb (row_at d 0).ty control && eqb (row_at d 16).ty control

-- ---- the head

-- no hello has passed, nothing is held; "Start: no device, no introduction, .."
unfoldable pub start_head : Head
start_head =
    record { guest = None; host = None; stopped = false; held = record { guest = 0; host = 0 }; present = false; introduction = Unintroduced; owed = false }
