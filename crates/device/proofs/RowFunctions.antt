-- What the functions of the rows do, in the values that the code has: a store into the streams (`stream_put`), and a loop that keeps the
-- streams that pass a test (`kept_none`, `kept_more`, `kept-all`, `closed-by`).
-- A loop that has passed the first i rows has changed the first i elements (`up_to`), and 32 of them are all.
-- Assumes nothing.
use Prim.Native.Nat.{ℕ, ◌+◌, ◌≤◌, ◌<◌}
use mathlib.Core.Path.{◌≡◌, ap, ◌∙◌}
use mathlib.Core.Bool.{Bool, false, not, ◌&&◌}
use mathlib.Core.List.{List}
use native.Mathlib.Nat.{zero-add}
use native.Mathlib.Omega.{arith}
use lib.ListN.{length, set}
use Rattle.scan.specs.Scan.{tabulated, put_at}
use Rattle.scan.specs.Loop.{up_to, upto-none, upto_all}
use Rattle.scan.proofs.Searches.{each-length, each_at_lem, upto_step, tabulated-is, set-put}
use Rattle.device.specs.declared.Rows.{Rows}
use Rattle.device.specs.declared.Scope.{Scope}
use Rattle.device.specs.declared.Scope.TheVariants.{OfInterface}
use Rattle.device.specs.Device.{row_at, with_streams, touches, closed}

-- ---- the stream of one row

pub stream_put : (l : List Bool) (i : ℕ) (x : Bool) → length l ≡ 32 → set l i x ≡ put_at 32 false l i x
stream_put l i x long = set-put 32 false l i x long

-- ---- a loop that keeps the streams that pass a test

-- of the first i rows the streams are open that were and pass
abbrev pub kept_to : (ℕ → Bool) → Rows → ℕ → Rows
kept_to t d i = with_streams d (up_to (λ (k : ℕ) (x : Bool). x && t k) 0 i d.streams)

module _ (t : ℕ → Bool) (d : Rows) where
  pub kept_none : d ≡ kept_to t d 0
  kept_none = ap (with_streams d) (upto-none (λ (k : ℕ) (x : Bool). x && t k) d.streams)

  module _ (out : Rows) (i : ℕ) (long : length d.streams ≡ 32) (so : out ≡ kept_to t d i) where
    pub kept_more : (y : Bool) → i < 32 → y ≡ t i → with_streams out (set out.streams i ((row_at out i).streaming && y)) ≡ kept_to t d (i + 1)
    kept_more y h v =
        let step = upto_step (λ (k : ℕ) (x : Bool). x && t k) i d.streams out.streams false _ (rw long h) (ap (λ (r : Rows). r.streams) so) (ap (λ (z : Bool). (row_at out i).streaming && z) v) in
        λ j. record { types = (so j).types; interfaces = (so j).interfaces; streams = step j }

    pub kept-all : i ≤ 32 → 32 ≤ i → out ≡ with_streams d (tabulated (λ (k : ℕ). (row_at d k).streaming && t k) 0 32)
    kept-all low high =
        let f : ℕ → Bool → Bool = λ k x. x && t k in
        let all = upto_all f 0 i d.streams (omega arith) in
        let made = tabulated-is (λ (k : ℕ). (row_at d k).streaming && t k) _ 32 false (each-length f d.streams 0 ∙ long) (λ k h. each_at_lem f d.streams 0 k false (rw long h) ∙ ap (λ (n : ℕ). (row_at d k).streaming && t n) (zero-add k)) in
        so ∙ ap (with_streams d) (all ∙ made)

-- those that a scope does not touch
pub closed-by : (d : Rows) (s : Scope) (n : ℕ) → s ≡ OfInterface n → with_streams d (tabulated (λ (k : ℕ). (row_at d k).streaming && not (touches s k (row_at d k).interface)) 0 32) ≡ closed d s
unfolding closed
closed-by d s n of = rw of
