-- A packet by its fields, as `packet::fields_of` lists them for those who write or show a packet without asking for its kind.
-- Assumes nothing: these are definitions.
use Rattle.std.specs.Prelude.{ℕ, zero, suc, ◌-◌, ◌≤◌, ◌<◌, ◌≡◌, cond, List, [], ◌∷◌, ◌++◌, map, length, take, drop, leb, Option, Some, None}
use Rattle.octets.specs.Little.{bytes_of}
use Rattle.kinds.specs.Table.{kind_at}
use Rattle.kinds.specs.Content.{size, bytes, padded, widths}
use Rattle.kinds.specs.Codec.{layout, Fitting}
use Rattle.packet.specs.declared.Part.{Part}
use Rattle.packet.specs.declared.Packet.{Packet}
use Rattle.packet.specs.declared.Fields.{Fields}
use Rattle.packet.specs.Packet.{shown_of, no_part, single}

-- how many fields are there
abbrev pub given : List (Option ℕ) → ℕ
given [] = 0
given (None ∷ vs) = given vs
given (Some x ∷ vs) = suc (given vs)

abbrev pub or_zero : Option ℕ → ℕ
or_zero None = 0
or_zero (Some x) = x

abbrev pub plain_fields : ℕ → ℕ → List ℕ → Fields
plain_fields slot count numbers = record { slot = slot; count = count; numbers = numbers; rows = no_part; rest = no_part }

abbrev pub with_rows : Fields → Part → Fields
with_rows f part = record { slot = f.slot; count = f.count; numbers = f.numbers; rows = part; rest = f.rest }

abbrev pub with_rest : Fields → Part → Fields
with_rest f part = record { slot = f.slot; count = f.count; numbers = f.numbers; rows = f.rows; rest = part }

-- where a kind of the table stands in it: 0 to 27 at their own number, 100 to 104 behind them
abbrev pub slot_of : ℕ → ℕ
slot_of kind = cond (leb kind 27) kind (kind - 72)

-- what `shown_of` shows, in the code's arrays
abbrev pub fields_of : ℕ → Packet → Fields
fields_of caps p =
    record {
      slot = slot_of (shown_of caps p).kind;
      count = given (shown_of caps p).front;
      numbers = padded 7 (map or_zero (shown_of caps p).front);
      rows = (shown_of caps p).rows;
      rest = (shown_of caps p).rest;
    }

-- n numbers, one behind the other, each in its width
abbrev pub in_widths : ℕ → List ℕ → List ℕ → List ℕ
in_widths zero ws xs = []
in_widths (suc n) [] xs = []
in_widths (suc n) (w ∷ ws) [] = []
in_widths (suc n) (w ∷ ws) (x ∷ xs) = bytes_of w x ++ in_widths n ws xs

-- the fields are those, their numbers are the bytes of the fields that the packet holds as numbers, and each fits its field, as its type says
pub record Lists (caps : ℕ) (p : Packet) (f : Fields) : Type 0 where
  pub exact : f ≡ fields_of caps p
  pub small : f.slot < 33
  pub kind : (kind_at f.slot).number ≡ (shown_of caps p).kind
  pub few : f.count ≤ 7
  -- without a field of many numbers there is no part for one
  pub bare : size (shown_of caps p).columns (drop (length (shown_of caps p).front) (layout (shown_of caps p).kind)) ≡ 0 → f.rows ≡ no_part
  pub bytes : in_widths f.count (widths (kind_at f.slot).fields) f.numbers ≡ bytes (layout (shown_of caps p).kind) (map single (shown_of caps p).front)
  pub fits : Fitting (take (length (shown_of caps p).front) (layout (shown_of caps p).kind)) (map single (shown_of caps p).front)
