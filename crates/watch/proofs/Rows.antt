-- What stands in each IN row of the watch after a change of one (`changed-at`) and after a disconnect (`forgotten-at`).
-- The changed rows are tabulated, so each of them is known.
-- Assumes nothing.
use Rattle.std.proofs.Common.{◌≡◌, ℕ, ◌<◌, true, false, cond, eqb, ltb, ◌∙◌, lt-ltb, eqb-true}
use lib.ListN.{get_or-map}
use borrow.Table.Steps.{cases}
use Rattle.scan.proofs.Searches.{tabulated-at}
use Rattle.watch.specs.declared.RowWatch.{RowWatch}
use Rattle.watch.specs.declared.Watch.{Watch}
use Rattle.watch.specs.Watch.{start_row, begun, in_rows, watch_at, with_row, changed_at, forgotten}

module _ (w : Watch) (n : ℕ) (h : n < in_rows) where
  with-row-at : (i : ℕ) (r : RowWatch) → watch_at (with_row w i r) n ≡ cond (eqb n i) r (watch_at w n)
  with-row-at i r = tabulated-at (λ (j : ℕ). cond (eqb j i) r (watch_at w j)) in_rows n start_row h

  pub changed-at : (f : RowWatch → RowWatch) (i : ℕ) → watch_at (changed_at f w i) n ≡ cond (eqb n i) (f (watch_at w n)) (watch_at w n)
  unfolding changed_at
  changed-at f i = cases (eqb n i) here there
    where
      here : eqb n i ≡ true → watch_at (changed_at f w i) n ≡ cond (eqb n i) (f (watch_at w n)) (watch_at w n)
      here t =
          let e : n ≡ i = eqb-true n i t in
          rw (lt-ltb i in_rows (rw (← e) h)) (with-row-at i (f (watch_at w i)) ∙ rw (t, e))

      there : eqb n i ≡ false → watch_at (changed_at f w i) n ≡ cond (eqb n i) (f (watch_at w n)) (watch_at w n)
      there t = rw t (cases (ltb i in_rows) (λ b. rw b (with-row-at i (f (watch_at w i)) ∙ rw t)) (λ b. rw b))

  pub forgotten-at : watch_at (forgotten w) n ≡ begun (watch_at w n)
  unfolding forgotten
  forgotten-at = get_or-map begun w.rows n start_row
