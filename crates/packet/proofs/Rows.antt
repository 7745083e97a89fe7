-- A cell of a column, read where it stands: the number that its bytes spell, or 0 where the column is not all there or has no row i
-- (`cell-there`, `cell-short`, `cell-past`). So the cells that the code reads are the rows (`interface-cells`, `endpoint-cells`).
-- Number i of a column stands i widths behind its start, by induction over the column (`at-number`). The layout splits one column off after the
-- other and the code adds their sizes up: `drop-drop` makes both one place, and the rest computes from the table of kinds.
-- Assumes nothing.
use Rattle.std.specs.Bool.{then_some}
use Rattle.std.specs.Prelude.{Some, None}
use mathlib.Core.Path.{◌≡◌, refl, sym, ap, ◌∙◌}
use mathlib.Core.Bool.{Bool, true, false, cond}
use mathlib.Core.List.{List, []}
use Prim.Native.Nat.{ℕ, zero, suc, ◌+◌, ◌*◌, ◌^◌, ◌≤◌, ◌<◌}
use native.Mathlib.Nat.{pow-suc, add-zero, zero-add, add_assoc, add_comm, suc-mul, zero-mul, not-suc-le-zero, le_of_suc-le-suc}
use native.Mathlib.Omega.{arith}
use lib.ListN.{length, get_or, drop, length-drop, get_or-eq_default}
use lib.Seq.{drop-drop}
use lib.Dec.{leb, lit<, lit≤}
use borrow.Author.Tests.{le-leb, lt-leb}
use Rattle.octets.specs.Little.{le}
use Rattle.octets.proofs.Integers.{le-drop}
use Rattle.kinds.specs.Table.{Field, kinds}
use Rattle.kinds.specs.Content.{Value, numbers, size, split}
use Rattle.kinds.specs.Codec.{layout}
use Rattle.kinds.proofs.FieldBytes.{length-numbers}
use Rattle.packet.specs.declared.EndpointRow.{EndpointRow}
use Rattle.packet.specs.declared.InterfaceRow.{InterfaceRow}
use Rattle.packet.specs.declared.InterfaceTable.{InterfaceTable}
use Rattle.packet.specs.declared.EndpointTable.{EndpointTable}
use Rattle.packet.specs.Packet.{in_part, rows_in, columns_of}
use Rattle.packet.specs.Rows.{table_size, cell_at, element, interface_row, endpoint_row}

at-number : (w n : ℕ) (s : List ℕ) (at i : ℕ) → i < n → get_or (numbers w n s at) i 0 ≡ le w s (at + i * w)
at-number w zero s at i h = absurd (not-suc-le-zero h)
at-number w (suc n) s at zero h = ap (le w s) (sym (ap (λ (m : ℕ). at + m) (zero-mul w) ∙ add-zero at))
at-number w (suc n) s at (suc i) h =
    at-number w n s (at + w) i (le_of_suc-le-suc h)
    ∙ ap (le w s) (add_assoc at w (i * w) ∙ ap (λ (m : ℕ). at + m) (add_comm w (i * w) ∙ sym (suc-mul i w)))

module _ (rows : List ℕ) (at w i : ℕ) where
  pub cell-there : i < 32 → at + w * 32 ≤ length rows → le w rows (at + i * w) ≡ cell_at rows at w i
  cell-there h l =
      rw (le-leb (w * 32) (length (drop at rows)) (rw (length-drop at rows) (omega arith)))
      (sym (at-number w 32 (drop at rows) 0 i h ∙ le-drop w at rows (0 + i * w) ∙ ap (λ (m : ℕ). le w rows (at + m)) (zero-add (i * w))))

  pub cell-short : length rows < at + w * 32 → 0 < w → 0 ≡ cell_at rows at w i
  cell-short l p = rw (lt-leb (w * 32) (length (drop at rows)) (rw (length-drop at rows) (omega arith)))

  pub cell-past : 32 ≤ i → 0 ≡ cell_at rows at w i
  cell-past h = go (leb (w * 32) (length (drop at rows)))
    where
      go : (b : Bool) → 0 ≡ get_or (cond b (numbers w 32 (drop at rows) 0) []) i 0
      go true = let l : length (numbers w 32 (drop at rows) 0) ≤ i = omega (arith, length-numbers w 32 (drop at rows) 0) in sym (get_or-eq_default (numbers w 32 (drop at rows) 0) 0 l)
      go false = refl

pub one_more : (w : ℕ) → 0 < 256 ^ w
one_more zero = lit< tt
one_more (suc w) = omega (arith, one_more w, pow-suc 256 w)

-- max streams stands behind max packet, or behind the interfaces where that is not there
pub streams-at : (b : Bool) → cond b 160 96 ≤ 1024
streams-at true = lit≤ tt
streams-at false = lit≤ tt

-- the columns behind one another, each by its own place
module _ (rows : List ℕ) where
  two : drop 64 rows ≡ drop 32 (drop 32 rows)
  two = sym (drop-drop 32 32 rows)

  three : drop 96 rows ≡ drop 32 (drop 32 (drop 32 rows))
  three = sym (ap (drop 32) (drop-drop 32 32 rows) ∙ drop-drop 32 64 rows)

  five : drop 160 rows ≡ drop 64 (drop 32 (drop 32 (drop 32 rows)))
  five = sym (ap (drop 64) (sym three) ∙ drop-drop 64 96 rows)

-- number i of a column that stands in s
abbrev in_column : ℕ → List ℕ → ℕ → ℕ
in_column w s i = get_or (cond (leb (w * 32) (length s)) (numbers w 32 s 0) []) i 0

-- a row of an interface table: four columns, each by its own place
pub interface-cells : (t : InterfaceTable) (body : List ℕ) (i : ℕ)
    → let rows : List ℕ = rows_in 128 (in_part t.rows body) in
    ◌≡◌ {A = InterfaceRow}
    (record { interface = cell_at rows 0 1 i; class = cell_at rows 32 1 i; subclass = cell_at rows 64 1 i; protocol = cell_at rows 96 1 i })
    (interface_row t body i)
unfolding kinds layout interface_row
interface-cells t body i =
    let rows : List ℕ = rows_in 128 (in_part t.rows body) in
    λ j.
    record { interface = in_column 1 rows i; class = in_column 1 (drop 32 rows) i; subclass = in_column 1 (two rows j) i; protocol = in_column 1 (three rows j) i }

-- a row of an endpoint table: three columns, and two that may not be there
table-cells : (rows : List ℕ) (packets streams : Bool) (i : ℕ)
    → let fs : List Field = layout 5 in
    let vs : List Value = split (columns_of packets streams) fs rows in
    ◌≡◌ {A = EndpointRow}
    (record {
      ty = cell_at rows 0 1 i;
      interval = cell_at rows 32 1 i;
      interface = cell_at rows 64 1 i;
      maxpacket = then_some packets (cell_at rows 96 2 i);
      maxstreams = then_some streams (cell_at rows (cond packets 160 96) 4 i);
    })
    (record {
      ty = element "type" fs vs i;
      interval = element "interval" fs vs i;
      interface = element "interface" fs vs i;
      maxpacket = then_some packets (element "max packet" fs vs i);
      maxstreams = then_some streams (element "max streams" fs vs i);
    })
unfolding kinds layout
table-cells rows true streams i = λ j.
    record {
      ty = in_column 1 rows i;
      interval = in_column 1 (drop 32 rows) i;
      interface = in_column 1 (two rows j) i;
      maxpacket = Some (in_column 2 (three rows j) i);
      maxstreams = behind streams j;
    }
  where
    behind : (b : Bool) → then_some b (in_column 4 (drop 160 rows) i) ≡ then_some b (element "max streams" (layout 5) (split (columns_of true b) (layout 5) rows) i)
    behind true = λ j. Some (in_column 4 (five rows j) i)
    behind false = refl
table-cells rows false streams i = λ j.
    record {
      ty = in_column 1 rows i;
      interval = in_column 1 (drop 32 rows) i;
      interface = in_column 1 (two rows j) i;
      maxpacket = None;
      maxstreams = behind streams j;
    }
  where
    behind : (b : Bool) → then_some b (in_column 4 (drop 96 rows) i) ≡ then_some b (element "max streams" (layout 5) (split (columns_of false b) (layout 5) rows) i)
    behind true = λ j. Some (in_column 4 (three rows j) i)
    behind false = refl

-- the table's bytes are the sum of its columns'
pub table-size : (p s : Bool) → table_size p s ≡ size (columns_of p s) (layout 5)
unfolding kinds layout
table-size true true = refl
table-size true false = refl
table-size false true = refl
table-size false false = refl

pub endpoint-cells : (t : EndpointTable) (body : List ℕ) (i : ℕ)
    → let rows : List ℕ = rows_in (table_size t.maxpacket t.maxstreams) (in_part t.rows body) in
    ◌≡◌ {A = EndpointRow}
    (record {
      ty = cell_at rows 0 1 i;
      interval = cell_at rows 32 1 i;
      interface = cell_at rows 64 1 i;
      maxpacket = then_some t.maxpacket (cell_at rows 96 2 i);
      maxstreams = then_some t.maxstreams (cell_at rows (cond t.maxpacket 160 96) 4 i);
    })
    (endpoint_row t body i)
unfolding endpoint_row
endpoint-cells t body i =
    rw (table-size t.maxpacket t.maxstreams)
    (table-cells (rows_in (size (columns_of t.maxpacket t.maxstreams) (layout 5)) (in_part t.rows body)) t.maxpacket t.maxstreams i)
