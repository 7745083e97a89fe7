-- The rows that a loop over an endpoint table fills: after i steps the first i rows are the table's and the others as at the start (`filled`).
-- Assumes nothing.
use Prim.Native.Nat.{ℕ, ◌+◌, ◌≤◌, ◌<◌}
use Prim.Native.String.{String}
use mathlib.Core.Path.{◌≡◌, refl, ap, ◌∙◌}
use mathlib.Core.List.{List}
use native.Mathlib.Nat.{zero-add}
use lib.ListN.{length, set}
use Rattle.scan.specs.Scan.{tabulated}
use Rattle.scan.specs.Loop.{up_to, upto-none, upto_all}
use Rattle.scan.proofs.Searches.{each-length, each_at_lem, upto_step, tabulated-is}
use Rattle.kinds.specs.Codec.{layout}
use Rattle.packet.specs.declared.EndpointTable.{EndpointTable}
use Rattle.packet.specs.Packet.{in_part, columns_of, columns_in}
use Rattle.packet.specs.Rows.{element}
use Rattle.device.specs.declared.Rows.{Rows}
use Rattle.device.specs.Device.{start_rows}

-- ---- a column that a loop fills

-- the first i elements are those of g
abbrev pub up_from : (ℕ → ℕ) → List ℕ → ℕ → List ℕ
up_from g l i = up_to (λ (k x : ℕ). g k) 0 i l

whole : (g : ℕ → ℕ) (l : List ℕ) (i : ℕ) → length l ≡ 32 → 32 ≤ i → up_from g l i ≡ tabulated g 0 32
whole g l i long high =
    let f : ℕ → ℕ → ℕ = λ k x. g k in
    upto_all f 0 i l (rw long high)
    ∙ tabulated-is g _ 32 0 (each-length f l 0 ∙ long) (λ k h. each_at_lem f l 0 k 0 (rw long h) ∙ ap g (zero-add k))

types_long : length start_rows.types ≡ 32
unfolding start_rows
types_long = refl

interfaces-long : length start_rows.interfaces ≡ 32
unfolding start_rows
interfaces-long = refl

-- ---- two columns that are filled, with the streams as at the start

module _ (g h : ℕ → ℕ) where
  abbrev pub filled : ℕ → Rows
  filled i = record { types = up_from g start_rows.types i; interfaces = up_from h start_rows.interfaces i; streams = start_rows.streams }

  pub filled_none : start_rows ≡ filled 0
  filled_none = λ j. record { types = upto-none (λ (k x : ℕ). g k) start_rows.types j; interfaces = upto-none (λ (k x : ℕ). h k) start_rows.interfaces j; streams = start_rows.streams }

  module _ (out : Rows) (i : ℕ) (so : out ≡ filled i) where
    pub filled_more : (x y : ℕ) → i < 32 → x ≡ g i → y ≡ h i
        → ◌≡◌ {A = Rows} (record { types = set out.types i x; interfaces = set out.interfaces i y; streams = out.streams }) (filled (i + 1))
    filled_more x y low v w =
        let s = upto_step (λ (k x : ℕ). g k) i start_rows.types out.types 0 x (rw types_long low) (ap (λ (r : Rows). r.types) so) v in
        let t = upto_step (λ (k x : ℕ). h k) i start_rows.interfaces out.interfaces 0 y (rw interfaces-long low) (ap (λ (r : Rows). r.interfaces) so) w in
        λ j. record { types = s j; interfaces = t j; streams = (so j).streams }

    pub filled-all : 32 ≤ i → out ≡ record { types = tabulated g 0 32; interfaces = tabulated h 0 32; streams = start_rows.streams }
    filled-all high =
        so
        ∙ (λ j. record { types = whole g start_rows.types i types_long high j; interfaces = whole h start_rows.interfaces i interfaces-long high j; streams = start_rows.streams })

-- number k of a column of the table
abbrev pub told : EndpointTable → List ℕ → String → ℕ → ℕ
told t body name k = element name (layout 5) (columns_in (columns_of t.maxpacket t.maxstreams) (layout 5) (in_part t.rows body)) k
