-- What the code stores is the watch with one row changed (`changed-here`): by a packet with the expected id (`seen-expected`) or another
-- (`seen-other`), and where the row is not watched it is as it was (`changed-nowhere`).
-- A disconnect changes them all (`all-begun`).
-- A store into the rows is the definition's `put_at` (`set-put`), since there is one for each IN row.
-- Assumes nothing.
use Rattle.std.proofs.Common.{◌≡◌, ℕ, suc, ◌<◌, ◌≤◌, ◌+◌, ◌^◌, ◌-◌, Bool, true, false, ltb, min, List, [], ◌∷◌, length, map, set, refl, sym, ap, ◌∙◌, le-ltb, lt-ltb, eq-eqb, ne_eqb, arith}
use borrow.Author.Tests.{ltb-true, ltb-false}
use borrow.Table.Steps.{cases}
use Rattle.scan.specs.Scan.{each_at}
use Rattle.scan.specs.Loop.{up_to, upto_all}
use Rattle.scan.proofs.Searches.{set-put}
use Rattle.watch.specs.declared.RowWatch.{RowWatch}
use Rattle.watch.specs.declared.Watch.{Watch}
use Rattle.watch.specs.Watch.{start_row, id_after, ahead, is_expected, max_breaks, one_more, seen, begun, in_rows, watch_at, changed_at, forgotten}

-- a count that stops at the last number of 16 bits
pub one_more_is : (n : ℕ) → n < 2 ^ 16 → min (n + 1) (2 ^ 16 - 1) ≡ one_more n
one_more_is n h = cases (ltb n max_breaks) (λ t. rw t (omega (arith, ltb-true n max_breaks t))) (λ t. rw t (omega (arith, ltb-false n max_breaks t)))

-- ---- the rows

module _ (f : RowWatch → RowWatch) (w : Watch) (n : ℕ) where
  pub changed-nowhere : in_rows ≤ n → w ≡ changed_at f w n
  unfolding changed_at
  changed-nowhere h = rw (le-ltb n in_rows h)

  pub changed-here : (i : ℕ) → i ≡ n → i < in_rows → length w.rows ≡ in_rows → {r : RowWatch} → r ≡ f (watch_at w i) → record { rows = set w.rows i r } ≡ changed_at f w n
  unfolding changed_at
  changed-here i here low long e =
      let stored = ap (set w.rows i) e ∙ set-put in_rows start_row w.rows i (f (watch_at w i)) long in
      rw (← here, lt-ltb i in_rows low) (λ z. record { rows = stored z })

-- ---- a row, from the distance and the next id that the code has

module _ (wide : Bool) (id : ℕ) (r : RowWatch) {d e : ℕ} (ed : d ≡ ahead wide r.expected id) (ee : e ≡ id_after wide id) where
  pub seen-expected : d ≡ 0 → record { expected = e; gap = r.gap; breaks = r.breaks } ≡ seen wide id r
  unfolding seen
  seen-expected h = let p : is_expected wide r id ≡ true = eq-eqb _ 0 (sym ed ∙ h) in rw (p, ee)

  pub seen-other : {m : ℕ} → (d ≡ 0 → ⊥) → m ≡ one_more r.breaks → record { expected = e; gap = d; breaks = m } ≡ seen wide id r
  unfolding seen
  seen-other h em = let p : is_expected wide r id ≡ false = ne_eqb _ 0 (λ x. h (ed ∙ x)) in rw (p, ee, ed, em)

-- ---- a disconnect

each-begun : (i : ℕ) (l : List RowWatch) → each_at (λ (k : ℕ). begun) i l ≡ map begun l
unfolding each_at
each-begun i [] = refl
each-begun i (x ∷ xs) = ap (λ (t : List RowWatch). begun x ∷ t) (each-begun (suc i) xs)

-- where as many rows are changed as there are, all are
pub all-begun : (w : Watch) (i : ℕ) {rows : List RowWatch} → rows ≡ up_to (λ (k : ℕ). begun) 0 i w.rows → length w.rows ≤ i → record { rows = rows } ≡ forgotten w
unfolding forgotten
all-begun w i so all =
    let whole = so ∙ upto_all (λ (k : ℕ). begun) 0 i w.rows all ∙ each-begun 0 w.rows in
    λ z. record { rows = whole z }
