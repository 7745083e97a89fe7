-- What each change leaves at a row, and that none but a new endpoint table changes a type.
-- A column that a change makes is tabulated, so that its value at each of the 32 rows is that of its function (`tabulated-at`), whatever was
-- there before; the others are as they were. Rows 0 and 16 are control by their types alone (`closed-control`, `stream-control`,
-- `replaced-control`).
-- Assumes nothing.
use Rattle.std.specs.Prelude.{Option, Some, None}
use Prim.Native.Nat.{ℕ, ◌+◌, ◌<◌}
use mathlib.Core.Path.{◌≡◌, refl, sym, ap, ◌∙◌}
use mathlib.Core.Bool.{Bool, true, false, cond, not, ◌&&◌, ◌||◌, and-true, and-false}
use mathlib.Core.List.{List}
use native.Mathlib.Nat.{zero-add}
use lib.ListN.{length, get_or, set, replicate, get_or-replicate}
use lib.Dec.{eqb}
use borrow.Author.Tests.{eqb-true, eqb-false, eq-eqb, ne_eqb, not-false}
use borrow.Table.Steps.{cases}
use Rattle.octets.specs.Bits.{has_bit}
use Rattle.octets.proofs.Logic.{fails, failing, false-not}
use Rattle.endpoint.specs.declared.Row.{Row}
use Rattle.endpoint.specs.declared.Endpoint.{Endpoint}
use Rattle.endpoint.specs.Endpoint.{row_of}
use Rattle.scan.specs.Scan.{put_at}
use Rattle.scan.proofs.Searches.{get_d_set, any-absent, any-not, tabulated-length, tabulated-at}
use Rattle.device.specs.declared.Rows.{Rows}
use Rattle.device.specs.declared.Scope.{Scope}
use Rattle.device.specs.declared.Scope.TheVariants.{NoRow, EveryRow, OfInterface}
use Rattle.device.specs.Device.{control, invalid, RowState, closed_row, row_at, rows_of, start_rows, is_row, mistyped, mask_mistyped, with_streams, stream_in, stream_to, replaced, touches, closed, control_rows}

-- ---- the rows as a list

pub rows-length : (d : Rows) → length (rows_of d) ≡ 32
unfolding rows_of
rows-length d = tabulated-length (row_at d) 0 32

pub rows_at : (d : Rows) (i : ℕ) → i < 32 → get_or (rows_of d) i (closed_row 0) ≡ row_at d i
unfolding rows_of
rows_at d i h = tabulated-at (row_at d) 32 i (closed_row 0) h

-- ---- the start

pub start-at : (r : ℕ) → r < 32 → row_at start_rows r ≡ closed_row (cond (eqb r 0 || eqb r 16) control invalid)
unfolding start_rows
start-at r h = λ j. record { ty = type j; interface = get_or-replicate 32 r 0 0 h j; streaming = get_or-replicate 32 r false false h j }
  where
    either : (a b : Bool) (x y : ℕ) → cond b x (cond a x y) ≡ cond (a || b) x y
    either true true x y = refl
    either true false x y = refl
    either false b x y = refl

    type : get_or (set (set (replicate 32 invalid) 0 control) 16 control) r 0 ≡ cond (eqb r 0 || eqb r 16) control invalid
    type =
        rw (get_d_set (set (replicate 32 invalid) 0 control) 16 r control 0 h, get_d_set (replicate 32 invalid) 0 r control 0 h, get_or-replicate 32 r invalid 0 h)
        (either (eqb r 0) (eqb r 16) control invalid)

pub start-control : control_rows start_rows ≡ true
unfolding start_rows
start-control = refl

-- ---- closing the streams of a scope

-- a row with its stream set
abbrev pub with_stream : Bool → RowState → RowState
with_stream b r = record { ty = r.ty; interface = r.interface; streaming = b }

pub closed_at : (d : Rows) (s : Scope) (r : ℕ) → r < 32 → row_at (closed d s) r ≡ with_stream ((row_at d r).streaming && not (touches s r (row_at d r).interface)) (row_at d r)
unfolding closed
closed_at d NoRow r h = λ j. with_stream (sym (and-true (row_at d r).streaming) j) (row_at d r)
closed_at d EveryRow r h = λ j. with_stream ((get_or-replicate 32 r false false h ∙ sym (and-false (row_at d r).streaming)) j) (row_at d r)
closed_at d (OfInterface n) r h = λ j. with_stream (tabulated-at (λ (i : ℕ). (row_at d i).streaming && not (touches (OfInterface n) i (row_at d i).interface)) 32 r false h j) (row_at d r)

pub closed-control : (d : Rows) (s : Scope) → control_rows (closed d s) ≡ control_rows d
unfolding closed
closed-control d NoRow = refl
closed-control d EveryRow = refl
closed-control d (OfInterface n) = refl

-- ---- opening or closing the stream of an endpoint

-- a value that changes at q, where q passes the test
moved : (t : ℕ → Bool) (q r : ℕ) (b x : Bool) → cond (t q) (cond (eqb r q) b x) x ≡ cond (eqb q r && t r) b x
moved t q r b x = cases (eqb q r) there elsewhere
  where
    same : (a : Bool) → cond a x x ≡ x
    same true = refl
    same false = refl

    there : eqb q r ≡ true → cond (t q) (cond (eqb r q) b x) x ≡ cond (eqb q r && t r) b x
    there e = let p : q ≡ r = eqb-true q r e in rw (e, eq-eqb r q (sym p)) (ap (λ (i : ℕ). cond (t i) b x) p)

    elsewhere : eqb q r ≡ false → cond (t q) (cond (eqb r q) b x) x ≡ cond (eqb q r && t r) b x
    elsewhere e = rw (e, ne_eqb r q (λ p. eqb-false q r e (sym p))) (same (t q))

pub stream_at : (d : Rows) (e : Endpoint) (k : ℕ) (b : Bool) (r : ℕ) → r < 32 → row_at (stream_to d e k b) r ≡ with_stream (cond (is_row (row_of e) r && eqb (row_at d r).ty k) b (row_at d r).streaming) (row_at d r)
unfolding stream_to
stream_at d e k b r h = at (row_of e)
  where
    either : (t : Bool) (q : ℕ) → row_at (cond t (with_streams d (put_at 32 false d.streams q b)) d) r ≡ with_stream (cond t (cond (eqb r q) b (row_at d r).streaming) (row_at d r).streaming) (row_at d r)
    either true q = λ j. with_stream (tabulated-at (λ (i : ℕ). cond (eqb i q) b (row_at d i).streaming) 32 r false h j) (row_at d r)
    either false q = refl

    at : (o : Option Row) → row_at (stream_in d o k b) r ≡ with_stream (cond (is_row o r && eqb (row_at d r).ty k) b (row_at d r).streaming) (row_at d r)
    at (Some q) = either (eqb (row_at d q.0).ty k) q.0 ∙ (λ j. with_stream (moved (λ (i : ℕ). eqb (row_at d i).ty k) q.0 r b (row_at d r).streaming j) (row_at d r))
    at None = refl

pub stream-control : (d : Rows) (e : Endpoint) (k : ℕ) (b : Bool) → control_rows (stream_to d e k b) ≡ control_rows d
unfolding stream_to
stream-control d e k b = at (row_of e)
  where
    either : (t : Bool) (l : List Bool) → control_rows (cond t (with_streams d l) d) ≡ control_rows d
    either true l = refl
    either false l = refl

    at : (o : Option Row) → control_rows (stream_in d o k b) ≡ control_rows d
    at (Some q) = either (eqb (row_at d q.0).ty k) (put_at 32 false d.streams q.0 b)
    at None = refl

-- ---- a new endpoint table

pub replaced-at : (new d : Rows) (r : ℕ) → r < 32 → row_at (replaced new d) r ≡ with_stream ((row_at d r).streaming && eqb (row_at d r).ty (row_at new r).ty) (row_at new r)
unfolding replaced
replaced-at new d r h = λ j. with_stream (tabulated-at (λ (i : ℕ). (row_at d i).streaming && eqb (row_at d i).ty (row_at new i).ty) 32 r false h j) (row_at new r)

pub replaced-control : (new d : Rows) → control_rows (replaced new d) ≡ control_rows new
unfolding replaced
replaced-control new d = refl

-- ---- the rows of a mask

pub mask-absent : (d : Rows) (mask k : ℕ) → mask_mistyped d mask k ≡ false → (r : ℕ) → r < 32 → has_bit mask r ≡ true → (row_at d r).ty ≡ k
mask-absent d mask k e r h set =
    let here : mistyped mask k r (row_at d r) ≡ false =
    (λ j. mistyped mask k (sym (zero-add r) j) (sym (rows_at d r h) j)) ∙ any-absent (mistyped mask k) (rows_of d) 0 (closed_row 0) e r (rw (rows-length d) h) in
    eqb-true (row_at d r).ty k (not-false (eqb (row_at d r).ty k) (fails (has_bit mask r) (not (eqb (row_at d r).ty k)) here set))

pub mask-found : (d : Rows) (mask k r : ℕ) → r < 32 → has_bit mask r ≡ true → ((row_at d r).ty ≡ k → ⊥) → mask_mistyped d mask k ≡ true
mask-found d mask k r h set other = cases (mask_mistyped d mask k) (λ t. t) (λ t. absurd (other (mask-absent d mask k t r h set)))

pub mask-none : (d : Rows) (mask k : ℕ) → ((r : ℕ) → r < 32 → has_bit mask r ≡ true → (row_at d r).ty ≡ k) → mask_mistyped d mask k ≡ false
mask-none d mask k f = any-not (mistyped mask k) (rows_of d) 0 (closed_row 0) each
  where
    each : (r : ℕ) → r < length (rows_of d) → mistyped mask k (0 + r) (get_or (rows_of d) r (closed_row 0)) ≡ false
    each r g =
        let h : r < 32 = rw (rows-length d) at g in
        rw (zero-add r, rows_at d r h)
        (failing (has_bit mask r) (not (eqb (row_at d r).ty k)) (λ set. false-not (eqb (row_at d r).ty k) (eq-eqb (row_at d r).ty k (f r h set))))
