-- Nothing is left of a request in a place that is freed (`freed-zero`). The start is a clean table and each change keeps a table so (`fresh-clean`,
-- `taken-clean`, `without-clean`). A clean table with no live request is that of the start (`free-fresh`), so one of which every place is freed is it
-- too (`cleared-fresh`).
-- What the columns hold at an index after a change, and what is live then, is by `Places.antt`; `used` ends at a live place, so with none it is 0.
-- Assumes nothing.
use Rattle.std.specs.Prelude.{Some}
use Prim.Native.Nat.{ℕ, zero, suc, ◌≤◌, ◌<◌}
use mathlib.Core.Path.{◌≡◌, refl, sym, ap, ◌∙◌}
use mathlib.Core.Bool.{Bool, true, false, cond, ◌||◌, true≢false}
use mathlib.Core.Logic.{◌⊎◌, inl, inr}
use mathlib.Core.List.{List}
use native.Mathlib.Omega.{arith}
use lib.ListN.{length, get_or, replicate, length-replicate, get_or-replicate}
use lib.Seq.{ext_get_or}
use lib.Dec.{eqb, ltb}
use borrow.Author.Tests.{eq-eqb, lt-leb}
use borrow.Table.Steps.{cases}
use Rattle.device.specs.declared.Rows.{Rows}
use Rattle.device.specs.declared.Scope.{Scope}
use Rattle.scan.specs.Scan.{tabulated}
use Rattle.scan.proofs.Searches.{tabulated-length, tabulated-at}
use Rattle.requests.specs.declared.Request.{Request}
use Rattle.requests.specs.declared.Requests.{Requests}
use Rattle.requests.specs.Requests.{places, Place, no_request, free_place, free_slot, fresh_requests, used_of, is_live, request_at, place_at, taken, Free, lowest, with_request, trimmed, without, ends, released, cleared}
use Rattle.requests.specs.Clean.{Zeroed, Clean}
use Rattle.requests.proofs.Places.{bound-low, place-live, lowest-found, taken_live, taken-request, place-taken, trimmed-low, without-live, without-request, place-without, cleared_at}

-- ---- a place that is freed

module _ (t : Requests) (f : ℕ → Bool) where
  request-gone : (j : ℕ) → j < places → f j ≡ true → request_at (without t f) j ≡ no_request
  unfolding without
  request-gone j h e =
      let id = tabulated-at (λ k. cond (f k) 0 (get_or t.ids k 0)) places j 0 h in
      let kind = tabulated-at (λ k. cond (f k) 0 (get_or t.kinds k 0)) places j 0 h in
      let slot = tabulated-at (λ k. cond (f k) free_slot (get_or t.slots k free_slot)) places j free_slot h in
      (λ z. record { id = id z; kind = kind z; target = (slot z).target; length = (slot z).length })
      ∙ rw e

  pub freed-zero : (j : ℕ) → j < places → f j ≡ true → Zeroed (without t f) j
  freed-zero j h e = record { request = request-gone j h e; flag = without-live t f j h ∙ rw e }

-- "A passed reply frees the place", and with it the data requests in scope
pub released-zero : (t : Requests) (i : ℕ) (rows : Rows) (s : Scope) (j : ℕ) → j < places → (eqb j i || ends rows s (place_at t j)) ≡ true → Zeroed (released t i rows s) j
unfolding released
released-zero t i rows s j h e = freed-zero t (λ k. eqb k i || ends rows s (place_at t k)) j h e

-- ---- a clean table

-- "a table of 96 places for requests, all free"
pub fresh-clean : Clean fresh_requests
unfolding fresh_requests
fresh-clean =
    record {
      lives = length-replicate places false;
      kinds = length-replicate {A = ℕ} places 0;
      ids = length-replicate {A = ℕ} places 0;
      slots = length-replicate places free_slot;
      used = omega arith;
      last = λ n e. absurd (omega (arith, e));
      free = λ i h e.
          let a = get_or-replicate {A = ℕ} places i 0 0 h in
          let b = get_or-replicate places i free_slot free_slot h in
          record {
            request = λ z. record { id = a z; kind = a z; target = (b z).target; length = (b z).length };
            flag = get_or-replicate places i false false h;
          };
    }

-- a request takes the lowest free place
module _ (t : Requests) (i : ℕ) (r : Request) (f : lowest t Free ≡ Some i) (c : Clean t) where
  low : i < places
  low = (lowest-found t Free i f).0

  taken-last : (n : ℕ) → n < places → (n ≡ i) ⊎ (get_or t.live n false ≡ true) → get_or (with_request t i r).live n false ≡ true
  taken-last n h (inl e) = taken_live t i r low n h ∙ rw (eq-eqb n i e)
  taken-last n h (inr e) = taken_live t i r low n h ∙ rw e (cases (eqb n i) (λ k. rw k) (λ k. rw k))

  used-after : ((with_request t i r).used ≡ t.used) ⊎ ((with_request t i r).used ≡ suc i)
  unfolding with_request
  used-after = cases (ltb i t.used) (λ e. inl (rw e)) (λ e. inr (rw (e, lt-leb places i low)))

  taken-within : (with_request t i r).used ≤ places
  taken-within = go used-after
    where
      go : ((with_request t i r).used ≡ t.used) ⊎ ((with_request t i r).used ≡ suc i) → (with_request t i r).used ≤ places
      go (inl e) = omega (arith, e, c.used)
      go (inr e) = omega (arith, e, low)

  taken-ends : (n : ℕ) → (with_request t i r).used ≡ suc n → get_or (with_request t i r).live n false ≡ true
  taken-ends n q = go used-after
    where
      go : ((with_request t i r).used ≡ t.used) ⊎ ((with_request t i r).used ≡ suc i) → get_or (with_request t i r).live n false ≡ true
      go (inl e) = taken-last n (omega (arith, taken-within, q)) (inr (c.last n (sym e ∙ q)))
      go (inr e) = taken-last n (omega (arith, taken-within, q)) (inl (omega (arith, e, q)))

  taken_free : (j : ℕ) → j < places → is_live (with_request t i r) j ≡ false → Zeroed (with_request t i r) j
  taken_free j h e = cases (eqb j i) (λ k. absurd (true≢false (sym (live-as ∙ rw k) ∙ not-live-now))) (λ k. other k (c.free j h (sym (place-live t j) ∙ sym (live-as ∙ rw k) ∙ not-live-now)))
    where
      not-live-now : (place_at (with_request t i r) j).live ≡ false
      not-live-now = place-live (with_request t i r) j ∙ e

      live-as : (place_at (with_request t i r) j).live ≡ (cond (eqb j i) (taken r) (place_at t j)).live
      live-as = ap (λ (p : Place). p.live) (place-taken t i r f j)

      other : eqb j i ≡ false → Zeroed t j → Zeroed (with_request t i r) j
      other k z = record { request = taken-request t i r low j h ∙ rw k z.request; flag = taken_live t i r low j h ∙ rw k z.flag }

  pub taken-clean : Clean (with_request t i r)
  unfolding with_request
  taken-clean =
      record {
        lives = tabulated-length _ 0 places;
        kinds = tabulated-length _ 0 places;
        ids = tabulated-length _ 0 places;
        slots = tabulated-length _ 0 places;
        used = taken-within;
        last = taken-ends;
        free = taken_free;
      }

-- the trimmed number is where a live place ends
trimmed-ends : (l : List Bool) (m n : ℕ) → trimmed l m ≡ suc n → get_or l n false ≡ true
unfolding trimmed
trimmed-ends l zero n e = absurd (omega (arith, e))
trimmed-ends l (suc m) n e =
    cases (get_or l m false)
    (λ b. let q : suc m ≡ suc n = rw b at e in let k : n ≡ m = omega (arith, q) in rw k b)
    (λ b. trimmed-ends l m n (rw b at e))

-- places are freed
module _ (t : Requests) (c : Clean t) where
  without-free : (f : ℕ → Bool) (j : ℕ) → j < places → is_live (without t f) j ≡ false → Zeroed (without t f) j
  without-free f j h e = cases (f j) (λ k. freed-zero t f j h k) (λ k. other k (c.free j h (sym (place-live t j) ∙ sym (live-as ∙ rw k) ∙ place-live (without t f) j ∙ e)))
    where
      live-as : (place_at (without t f) j).live ≡ (cond (f j) free_place (place_at t j)).live
      live-as = ap (λ (p : Place). p.live) (place-without t f j)

      other : f j ≡ false → Zeroed t j → Zeroed (without t f) j
      other k z = record { request = without-request t f j h k ∙ z.request; flag = without-live t f j h ∙ rw k z.flag }

  pub without-clean : (f : ℕ → Bool) → Clean (without t f)
  unfolding without
  without-clean f =
      let l = tabulated (λ (k : ℕ). cond (f k) false (get_or t.live k false)) 0 places in
      record {
        lives = tabulated-length _ 0 places;
        kinds = tabulated-length _ 0 places;
        ids = tabulated-length _ 0 places;
        slots = tabulated-length _ 0 places;
        used = omega (arith, trimmed-low l (used_of t), bound-low t.used);
        last = trimmed-ends l (used_of t);
        free = without-free f;
      }

  pub released-clean : (i : ℕ) (rows : Rows) (s : Scope) → Clean (released t i rows s)
  unfolding released
  released-clean i rows s = without-clean (λ j. eqb j i || ends rows s (place_at t j))

  pub cleared-clean : Clean (cleared t)
  unfolding cleared
  cleared-clean = without-clean (λ j. (place_at t j).live)

-- ---- a clean table with no live request is the table at the start

column-fresh : {A : Type 0} (d : A) (l : List A) → length l ≡ places → ((i : ℕ) → i < places → get_or l i d ≡ d) → l ≡ replicate places d
column-fresh d l e h = ext_get_or d l (replicate places d) (e ∙ sym (length-replicate places d)) (λ k g. let m : k < places = rw (← e) g in h k m ∙ sym (get_or-replicate places k d d m))

pub free-fresh : (t : Requests) → Clean t → ((i : ℕ) → place_at t i ≡ free_place) → t ≡ fresh_requests
unfolding fresh_requests
free-fresh t c all =
    let live = column-fresh false t.live c.lives (λ i h. (zeroed i h).flag) in
    let kinds = column-fresh 0 t.kinds c.kinds (λ i h z. ((zeroed i h).request z).kind) in
    let ids = column-fresh 0 t.ids c.ids (λ i h z. ((zeroed i h).request z).id) in
    let slots = column-fresh free_slot t.slots c.slots (λ i h z. record { length = ((zeroed i h).request z).length; target = ((zeroed i h).request z).target }) in
    λ z. record { used = None t.used refl z; live = live z; kinds = kinds z; ids = ids z; slots = slots z }
  where
    zeroed : (i : ℕ) → i < places → Zeroed t i
    zeroed i h = c.free i h (sym (place-live t i) ∙ ap (λ (p : Place). p.live) (all i))

    None : (n : ℕ) → t.used ≡ n → t.used ≡ 0
    None zero e = e
    None (suc n) e = absurd (true≢false (sym (c.last n e) ∙ (zeroed n (omega (arith, e, c.used))).flag))

-- "frees every place"
pub cleared-fresh : (t : Requests) → Clean t → cleared t ≡ fresh_requests
cleared-fresh t c = free-fresh (cleared t) (cleared-clean t c) (cleared_at t)
