-- The rows of the two tables, read by row, and a hello's words.
-- Assumes nothing: these are definitions.
use Rattle.std.specs.Bool.{then_some}
use Rattle.std.specs.Prelude.{ℕ, ◌+◌, ◌*◌, Bool, true, cond, ◌&&◌, List, [], ◌∷◌, length, get_or, drop, leb, ltb, Option, Some, None}
use Prim.Native.String.{String}
use lib.Text.{eqt}
use Rattle.octets.specs.Little.{le}
use Rattle.kinds.specs.Table.{Field}
use Rattle.kinds.specs.Content.{Value, numbers}
use Rattle.kinds.specs.Codec.{layout}
use Rattle.packet.specs.declared.InterfaceTable.{InterfaceTable}
use Rattle.packet.specs.declared.EndpointTable.{EndpointTable}
use Rattle.packet.specs.Packet.{in_part, columns_of, columns_in}
use Rattle.packet.specs.declared.InterfaceRow.{InterfaceRow}
use Rattle.packet.specs.declared.EndpointRow.{EndpointRow}

abbrev pub numbers_of : Value → List ℕ
numbers_of None = []
numbers_of (Some xs) = xs

-- the numbers of the field of that name
abbrev pub column : String → List Field → List Value → List ℕ
column n [] vs = []
column n (f ∷ fs) [] = []
column n (f ∷ fs) (v ∷ vs) = cond (eqt n f.name) (numbers_of v) (column n fs vs)

-- number i of it; 0 past its end
abbrev pub element : String → List Field → List Value → ℕ → ℕ
element n fs vs i = get_or (column n fs vs) i 0

-- ---- interface tables: the fields behind the count

abbrev pub interface_fields : List Field
interface_fields = drop 1 (layout 4)

unfoldable pub interface_row : InterfaceTable → List ℕ → ℕ → InterfaceRow
interface_row t body i =
    let vs : List Value = columns_in (λ b. true) interface_fields (in_part t.rows body) in
    record {
      interface = element "interface" interface_fields vs i;
      class = element "class" interface_fields vs i;
      subclass = element "subclass" interface_fields vs i;
      protocol = element "protocol" interface_fields vs i;
    }

-- ---- endpoint tables, with max packet and max streams or without

abbrev pub table_size : Bool → Bool → ℕ
table_size packets streams = cond packets (cond streams 288 160) (cond streams 224 96)

unfoldable pub endpoint_row : EndpointTable → List ℕ → ℕ → EndpointRow
endpoint_row t body i =
    let fs : List Field = layout 5 in
    let vs : List Value = columns_in (columns_of t.maxpacket t.maxstreams) fs (in_part t.rows body) in
    record {
      ty = element "type" fs vs i;
      interval = element "interval" fs vs i;
      interface = element "interface" fs vs i;
      maxpacket = then_some t.maxpacket (element "max packet" fs vs i);
      maxstreams = then_some t.maxstreams (element "max streams" fs vs i);
    }

-- ---- a hello's words: "n 0..8"

abbrev pub word_of : List ℕ → ℕ → Option ℕ
word_of words i = then_some (ltb i 8 && leb (4 * i + 4) (length words)) (le 4 words (4 * i))

-- ---- as the code reads it

-- number i of a column of 32 numbers of w bytes each that starts at `at`
abbrev pub cell_at : List ℕ → ℕ → ℕ → ℕ → ℕ
cell_at rows at w i = get_or (cond (leb (w * 32) (length (drop at rows))) (numbers w 32 (drop at rows) 0) []) i 0
