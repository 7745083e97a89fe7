-- The table of requests: what stands at each place after a change (`place-taken`, `place-without`), what a search finds (`lowest-found`
-- and those after it), and that each change keeps the ids of live requests apart (`without-differ`, `taken-differ`).
-- A place is live below `used` only, so a change of the columns is followed at each index, and `used` by what lies below it. That the ids differ is
-- a test over the list of places and, by induction over it, a relation between any two of them (`differ-when`, `when-differ`). What a search finds
-- is `scan`'s.
-- Assumes nothing.
use Rattle.std.specs.Prelude.{Option, Some, None}
use Prim.Native.Nat.{ℕ, zero, suc, ◌≤◌, ◌<◌}
use mathlib.Core.Path.{◌≡◌, refl, sym, ap, ◌∙◌}
use mathlib.Core.Bool.{Bool, true, false, cond, not, ◌&&◌, ◌||◌, true≢false, false≢true, and-false, or-false}
use mathlib.Core.List.{List, [], ◌∷◌}
use native.Mathlib.Omega.{arith}
use lib.ListN.{length, get_or}
use lib.Dec.{eqb, leb, ltb}
use borrow.Author.Tests.{eqb-true, eqb-false, eq-eqb, ltb-true, ltb-false, lt-ltb, le-ltb, leb-true, leb-false, le-leb, lt-leb, not-true, not-false}
use borrow.Table.Steps.{cases}
use Rattle.octets.proofs.Logic.{and_parts, and-whole}
use Rattle.device.specs.declared.Rows.{Rows}
use Rattle.device.specs.declared.Scope.{Scope}
use Rattle.device.specs.declared.Scope.TheVariants.{NoRow}
use Rattle.device.specs.Device.{touched}
use Rattle.scan.specs.Scan.{exists, tabulated}
use Rattle.scan.proofs.Searches.{first_found, first-lowest, first_absent, first_some, first-when, first-never, exists-at, exists-not, tabulated-length, tabulated-at, tabulated-past, tabulated-same}
use Rattle.requests.specs.declared.Request.{Request}
use Rattle.requests.specs.declared.Requests.{Requests}
use Rattle.requests.specs.declared.Answerable.{Answerable}
use Rattle.requests.specs.Requests.{places, Place, free_place, fresh_requests, free_slot, slot_of, used_of, is_live, request_at, place_at, places_of, is_data, taken, Query, Free, Id, Answered, answers, meets, has_id, lowest, with_request, trimmed, without, freed, ends, released, cleared, same, distinct, live_ids, ids_differ}

-- ---- places

-- n, at most 96
module _ (n : ℕ) where
  pub bound-low : cond (leb n places) n places ≤ places
  bound-low = cases (leb n places) (λ e. rw e (leb-true n places e)) (λ e. rw e (omega arith))

  bound-within : cond (leb n places) n places ≤ n
  bound-within = cases (leb n places) (λ e. rw e (omega arith)) (λ e. rw e (omega (arith, leb-false n places e)))

  bound-below : (i : ℕ) → i < places → i < n → i < cond (leb n places) n places
  bound-below i h k = cases (leb n places) (λ e. rw e k) (λ e. rw e h)

  bound-is : n ≤ places → cond (leb n places) n places ≡ n
  bound-is h = rw (le-leb n places h)

-- a place by whether it is live
if-live : (b : Bool) (r : Request) → (cond b (taken r) free_place).live ≡ b
if-live true r = refl
if-live false r = refl

if-same : (a b : Bool) (r s : Request) → a ≡ b → (a ≡ true → r ≡ s) → cond a (taken r) free_place ≡ cond b (taken s) free_place
if-same true b r s e h = rw (← e, h refl)
if-same false b r s e h = rw (← e)

module _ (t : Requests) (i : ℕ) where
  -- what `live` and `used` say of it
  pub place-live : (place_at t i).live ≡ is_live t i
  unfolding place_at
  place-live = if-live (is_live t i) (request_at t i)

  place-free : is_live t i ≡ false → place_at t i ≡ free_place
  unfolding place_at
  place-free e = rw e

  -- a place that is not live is free
  not_live : (place_at t i).live ≡ false → place_at t i ≡ free_place
  not_live e = place-free (sym place-live ∙ e)

  -- a live place lies below `used`
  pub live_below : (place_at t i).live ≡ true → i < used_of t
  live_below e = ltb-true i (used_of t) (and_parts (ltb i (used_of t)) (get_or t.live i false) (sym place-live ∙ e)).0

  -- a live place is one of the 96
  pub live-within : (place_at t i).live ≡ true → i < places
  live-within e = omega (arith, live_below e, bound-low t.used)

  -- past those no place is live
  pub past-used : used_of t ≤ i → place_at t i ≡ free_place
  past-used h = place-free (rw (le-ltb i (used_of t) h))

  -- past the last there is none
  past-free : places ≤ i → place_at t i ≡ free_place
  past-free h = past-used (omega (arith, bound-low t.used))

same_place : (t u : Requests) (i : ℕ) → is_live t i ≡ is_live u i → (is_live t i ≡ true → request_at t i ≡ request_at u i) → place_at t i ≡ place_at u i
unfolding place_at
same_place t u i e h = if-same (is_live t i) (is_live u i) (request_at t i) (request_at u i) e h

module _ (t : Requests) where
  pub places-length : length (places_of t) ≡ places
  unfolding places_of
  places-length = tabulated-length (place_at t) 0 places

  pub places-at : (i : ℕ) → get_or (places_of t) i free_place ≡ place_at t i
  unfolding places_of
  places-at i =
      cases (ltb i places)
      (λ e. tabulated-at (place_at t) places i free_place (ltb-true i places e))
      (λ e. let h : places ≤ i = ltb-false i places e in tabulated-past (place_at t) places i free_place h ∙ sym (past-free t i h))

pub fresh_at : (i : ℕ) → place_at fresh_requests i ≡ free_place
unfolding fresh_requests
fresh_at i = past-used fresh_requests i (omega arith)

-- ---- the lowest place that meets a query

module _ (t : Requests) (q : Query) where
  -- it is one of the 96 and meets it
  pub lowest-found : (i : ℕ) → lowest t q ≡ Some i → (i < places) × (meets q (place_at t i) ≡ true)
  unfolding lowest
  lowest-found i e =
      let r = first_found (meets q) (places_of t) i free_place e in
      (rw (places-length t) at r.0, sym (ap (meets q) (places-at t i)) ∙ r.1)

  -- no lower one does
  pub lowest-lower : (i : ℕ) → lowest t q ≡ Some i → (j : ℕ) → j < i → meets q (place_at t j) ≡ false
  unfolding lowest
  lowest-lower i e j h = sym (ap (meets q) (places-at t j)) ∙ first-lowest (meets q) (places_of t) i free_place e j h

  -- where no place meets it, none is found
  pub lowest-none : ((j : ℕ) → j < places → meets q (place_at t j) ≡ false) → lowest t q ≡ None
  unfolding lowest
  lowest-none h =
      first-never (meets q) (places_of t) free_place (λ j k. ap (meets q) (places-at t j) ∙ h j (rw (places-length t) at k))

  -- where none is found, no place meets it
  pub lowest-absent : lowest t q ≡ None → (j : ℕ) → j < places → meets q (place_at t j) ≡ false
  unfolding lowest
  lowest-absent e j h = sym (ap (meets q) (places-at t j)) ∙ first_absent (meets q) (places_of t) free_place e j (rw (places-length t) h)

  -- where a place meets it, one is found
  pub lowest-some : (j : ℕ) → j < places → meets q (place_at t j) ≡ true → (i : ℕ) × (lowest t q ≡ Some i)
  unfolding lowest
  lowest-some j h e = first_some (meets q) (places_of t) free_place j (rw (places-length t) h) (ap (meets q) (places-at t j) ∙ e)

  -- the place that meets it, where no lower one does
  pub lowest-is : (i : ℕ) → i < places → meets q (place_at t i) ≡ true → ((j : ℕ) → j < i → meets q (place_at t j) ≡ false) → lowest t q ≡ Some i
  unfolding lowest
  lowest-is i h e lower =
      first-when (meets q) (places_of t) i free_place (rw (places-length t) h) (ap (meets q) (places-at t i) ∙ e)
      (λ j k. ap (meets q) (places-at t j) ∙ lower j k)

-- ---- what a change leaves

-- a number is below both or below neither
pub ltb-same : (j m n : ℕ) → (j < m → j < n) → (j < n → j < m) → ltb j m ≡ ltb j n
ltb-same j m n f g =
    cases (ltb j m)
    (λ e. e ∙ sym (lt-ltb j n (f (ltb-true j m e))))
    (λ e. e ∙ sym (le-ltb j n (cases (ltb j n) (λ k. absurd (no e (g (ltb-true j n k)))) (λ k. ltb-false j n k))))
  where
    no : ltb j m ≡ false → j < m → ⊥
    no e h = omega (arith, ltb-false j m e)

module _ (t : Requests) (i : ℕ) (r : Request) (low : i < places) where
  -- each column has the request's part at i
  pub taken_live : (j : ℕ) → j < places → get_or (with_request t i r).live j false ≡ cond (eqb j i) true (get_or t.live j false)
  unfolding with_request
  taken_live j h = tabulated-at (λ (k : ℕ). cond (eqb k i) true (get_or t.live k false)) places j false h

  pub taken-request : (j : ℕ) → j < places → request_at (with_request t i r) j ≡ cond (eqb j i) r (request_at t j)
  unfolding with_request
  taken-request j h =
      let id = tabulated-at (λ k. cond (eqb k i) r.id (get_or t.ids k 0)) places j 0 h in
      let kind = tabulated-at (λ k. cond (eqb k i) r.kind (get_or t.kinds k 0)) places j 0 h in
      let slot = tabulated-at (λ k. cond (eqb k i) (slot_of r) (get_or t.slots k free_slot)) places j free_slot h in
      (λ z. record { id = id z; kind = kind z; target = (slot z).target; length = (slot z).length })
      ∙ cases (eqb j i) (λ e. rw e) (λ e. rw e)

  -- live places lie below what they lay below, or below i and one more
  used-kept : i < t.used → used_of (with_request t i r) ≡ used_of t
  unfolding with_request
  used-kept h = rw (lt-ltb i t.used h)

  used-raised : t.used ≤ i → used_of (with_request t i r) ≡ suc i
  unfolding with_request
  used-raised h = rw (le-ltb i t.used h, lt-leb places i low, le-leb (suc i) places (omega arith))

  below-taken : i < used_of (with_request t i r)
  below-taken =
      cases (ltb i t.used)
      (λ e. rw (used-kept (ltb-true i t.used e)) (bound-below t.used i low (ltb-true i t.used e)))
      (λ e. rw (used-raised (ltb-false i t.used e)) (omega arith))

  -- where all below i are live, another place lies below it or not as before
  below_other : ((j : ℕ) → j < i → j < used_of t) → (j : ℕ) → (j ≡ i → ⊥) → ltb j (used_of (with_request t i r)) ≡ ltb j (used_of t)
  below_other full j n =
      cases (ltb i t.used)
      (λ e. ap (ltb j) (used-kept (ltb-true i t.used e)))
      (λ e.
      let h : t.used ≤ i = ltb-false i t.used e in
      ap (ltb j) (used-raised h) ∙ ltb-same j (suc i) (used_of t) (λ k. full j (apart k)) (λ k. omega (arith, bound-within t.used)))
    where
      apart : j < suc i → j < i
      apart k = cases (ltb j i) (λ e. ltb-true j i e) (λ e. absurd (n (omega (arith, ltb-false j i e))))

  taken_here : place_at (with_request t i r) i ≡ taken r
  unfolding place_at
  taken_here =
      let a : is_live (with_request t i r) i ≡ true = rw (lt-ltb i (used_of (with_request t i r)) below-taken, taken_live i low, eq-eqb i i refl) in
      let b : request_at (with_request t i r) i ≡ r = taken-request i low ∙ rw (eq-eqb i i refl) in
      rw (a, b)

  taken-other : ((j : ℕ) → j < i → j < used_of t) → (j : ℕ) → eqb j i ≡ false → place_at (with_request t i r) j ≡ place_at t j
  taken-other full j e = cases (ltb j places) (λ k. near (ltb-true j places k)) (λ k. past-free (with_request t i r) j (ltb-false j places k) ∙ sym (past-free t j (ltb-false j places k)))
    where
      near : j < places → place_at (with_request t i r) j ≡ place_at t j
      near h =
          same_place (with_request t i r) t j
          (rw (below_other full j (eqb-false j i e), taken_live j h, e))
          (λ a. taken-request j h ∙ rw e)

pub place-taken : (t : Requests) (i : ℕ) (r : Request) → lowest t Free ≡ Some i → (j : ℕ) → place_at (with_request t i r) j ≡ cond (eqb j i) (taken r) (place_at t j)
place-taken t i r free j = cases (eqb j i) (λ e. here e) (λ e. taken-other t i r low full j e ∙ rw e)
  where
    low : i < places
    low = (lowest-found t Free i free).0

    full : (k : ℕ) → k < i → k < used_of t
    full k h = live_below t k (not-false (place_at t k).live (lowest-lower t Free i free k h))

    here : eqb j i ≡ true → place_at (with_request t i r) j ≡ cond (eqb j i) (taken r) (place_at t j)
    here e = ap (place_at (with_request t i r)) (eqb-true j i e) ∙ taken_here t i r low ∙ rw e

-- all live places lie below the trimmed number
pub trimmed-low : (l : List Bool) (n : ℕ) → trimmed l n ≤ n
unfolding trimmed
trimmed-low l zero = omega arith
trimmed-low l (suc n) = cases (get_or l n false) (λ e. rw e (omega arith)) (λ e. rw e (omega (arith, trimmed-low l n)))

trimmed-live : (l : List Bool) (n j : ℕ) → j < n → get_or l j false ≡ true → j < trimmed l n
unfolding trimmed
trimmed-live l zero j h e = absurd (omega arith)
trimmed-live l (suc n) j h e =
    cases (get_or l n false) (λ b. rw b h)
    (λ b. rw b (trimmed-live l n j (cases (ltb j n) (λ k. ltb-true j n k) (λ k. absurd (last b (omega (arith, ltb-false j n k))))) e))
  where
    last : get_or l n false ≡ false → j ≡ n → ⊥
    last b q = true≢false (sym e ∙ ap (λ (k : ℕ). get_or l k false) q ∙ b)

module _ (t : Requests) (f : ℕ → Bool) where
  pub without-live : (j : ℕ) → j < places → get_or (without t f).live j false ≡ cond (f j) false (get_or t.live j false)
  unfolding without
  without-live j h = tabulated-at (λ (k : ℕ). cond (f k) false (get_or t.live k false)) places j false h

  pub without-request : (j : ℕ) → j < places → f j ≡ false → request_at (without t f) j ≡ request_at t j
  unfolding without
  without-request j h e =
      let id = tabulated-at (λ k. cond (f k) 0 (get_or t.ids k 0)) places j 0 h in
      let kind = tabulated-at (λ k. cond (f k) 0 (get_or t.kinds k 0)) places j 0 h in
      let slot = tabulated-at (λ k. cond (f k) free_slot (get_or t.slots k free_slot)) places j free_slot h in
      (λ z. record { id = id z; kind = kind z; target = (slot z).target; length = (slot z).length })
      ∙ rw e

  without-used : used_of (without t f) ≡ trimmed (without t f).live (used_of t)
  unfolding without
  without-used =
      let l = tabulated (λ (k : ℕ). cond (f k) false (get_or t.live k false)) 0 places in
      bound-is (trimmed l (used_of t)) (omega (arith, trimmed-low l (used_of t), bound-low t.used))

  without-below : (j : ℕ) → get_or (without t f).live j false ≡ true → ltb j (used_of (without t f)) ≡ ltb j (used_of t)
  without-below j e =
      let l = (without t f).live in
      ap (ltb j) without-used
      ∙ ltb-same j (trimmed l (used_of t)) (used_of t) (λ h. omega (arith, trimmed-low l (used_of t))) (λ h. trimmed-live l (used_of t) j h e)

  without-near : (j : ℕ) → j < places → place_at (without t f) j ≡ cond (f j) free_place (place_at t j)
  without-near j h =
      cases (f j)
      (λ e. place-free u j (rw (without-live j h, e) (and-false (ltb j (used_of u)))) ∙ rw e)
      (λ e. same_place u t j (alike e) (λ a. without-request j h e) ∙ rw e)
    where
      u : Requests
      u = without t f

      alike : f j ≡ false → is_live u j ≡ is_live t j
      alike e =
          let q : get_or u.live j false ≡ get_or t.live j false = without-live j h ∙ rw e in
          cases (get_or u.live j false)
          (λ b. rw (without-below j b, q))
          (λ b. rw (b, sym q ∙ b, and-false (ltb j (used_of u)), and-false (ltb j (used_of t))))

  pub place-without : (j : ℕ) → place_at (without t f) j ≡ cond (f j) free_place (place_at t j)
  place-without j = cases (ltb j places) (λ e. without-near j (ltb-true j places e)) (λ e. past (ltb-false j places e))
    where
      past : places ≤ j → place_at (without t f) j ≡ cond (f j) free_place (place_at t j)
      past h = past-free (without t f) j h ∙ rw (past-free t j h) (cases (f j) (λ e. rw e) (λ e. rw e))

-- which places are freed is told by the first 96
pub without-same : (t : Requests) (f g : ℕ → Bool) → ((j : ℕ) → j < places → f j ≡ g j) → without t f ≡ without t g
unfolding without
without-same t f g h =
    let live = column false t.live in
    let kinds = column 0 t.kinds in
    let ids = column 0 t.ids in
    let slots = column free_slot t.slots in
    λ z. record { used = trimmed (live z) (used_of t); live = live z; kinds = kinds z; ids = ids z; slots = slots z }
  where
    column : {A : Type 0} (d : A) (l : List A) → tabulated (λ (j : ℕ). cond (f j) d (get_or l j d)) 0 places ≡ tabulated (λ (j : ℕ). cond (g j) d (get_or l j d)) 0 places
    column d l = tabulated-same (λ j. cond (f j) d (get_or l j d)) (λ j. cond (g j) d (get_or l j d)) places d (λ j b. ap (λ (x : Bool). cond x d (get_or l j d)) (h j b))

-- trimmed twice: the second list has no more flags than the first
trimmed-twice : (l m : List Bool) (n : ℕ) → ((j : ℕ) → get_or l j false ≡ false → get_or m j false ≡ false) → trimmed m (trimmed l n) ≡ trimmed m n
unfolding trimmed
trimmed-twice l m zero h = refl
trimmed-twice l m (suc n) h = cases (get_or l n false) (λ e. rw e) (λ e. rw (e, h n e) (trimmed-twice l m n h))

-- places are freed, and then others
module _ (t : Requests) (f g : ℕ → Bool) where
  abbrev one : {A : Type 0} → A → List A → List A
  one d l = tabulated (λ (j : ℕ). cond (f j) d (get_or l j d)) 0 places

  abbrev both : {A : Type 0} → A → List A → List A
  both d l = tabulated (λ (j : ℕ). cond (g j) d (get_or (one d l) j d)) 0 places

  both-column : {A : Type 0} (d : A) (l : List A) → both d l ≡ tabulated (λ (j : ℕ). cond (f j || g j) d (get_or l j d)) 0 places
  both-column d l =
      tabulated-same (λ j. cond (g j) d (get_or (one d l) j d)) (λ j. cond (f j || g j) d (get_or l j d)) places d
      (λ j h.
      ap (cond (g j) d) (tabulated-at (λ k. cond (f k) d (get_or l k d)) places j d h)
      ∙ cases (f j) (λ e. rw e (cases (g j) (λ k. rw k) (λ k. rw k))) (λ e. rw e))

  fewer : (j : ℕ) → get_or (one false t.live) j false ≡ false → get_or (both false t.live) j false ≡ false
  fewer j e =
      let both-at = λ (k : ℕ). cond (g k) false (get_or (one false t.live) k false) in
      cases (ltb j places)
      (λ h. tabulated-at both-at places j false (ltb-true j places h) ∙ rw e (cases (g j) (λ k. rw k) (λ k. rw k)))
      (λ h. tabulated-past both-at places j false (ltb-false j places h))

  pub without-twice : without (without t f) g ≡ without t (λ (j : ℕ). f j || g j)
  unfolding without
  without-twice =
      let live = both-column false t.live in
      let kinds = both-column 0 t.kinds in
      let ids = both-column 0 t.ids in
      let slots = both-column free_slot t.slots in
      let used = ap (trimmed (both false t.live)) (without-used t f) ∙ trimmed-twice (one false t.live) (both false t.live) (used_of t) fewer in
      λ z. record { used = (used ∙ ap (λ (l : List Bool). trimmed l (used_of t)) live) z; live = live z; kinds = kinds z; ids = ids z; slots = slots z }

pub released-at : (t : Requests) (i : ℕ) (rows : Rows) (s : Scope) (j : ℕ)
    → place_at (released t i rows s) j ≡ cond (eqb j i || ends rows s (place_at t j)) free_place (place_at t j)
unfolding released
released-at t i rows s j = place-without t (λ k. eqb k i || ends rows s (place_at t k)) j

pub cleared_at : (t : Requests) (j : ℕ) → place_at (cleared t) j ≡ free_place
unfolding cleared
cleared_at t j = place-without t (λ k. (place_at t k).live) j ∙ cases (place_at t j).live (λ e. rw e) (λ e. rw (e, not_live t j e))

-- in a scope of no row no request ends
pub released-nowhere : (t : Requests) (i : ℕ) (rows : Rows) → released t i rows NoRow ≡ freed t i
unfolding released touched
released-nowhere t i rows =
    without-same t (λ j. eqb j i || ends rows NoRow (place_at t j)) (λ j. eqb j i)
    (λ j h. rw (and-false ((place_at t j).live && is_data (place_at t j).request.kind)) (or-false (eqb j i)))

-- ---- the ids of live requests differ, in a relation

-- two places that are live and have one id are one place
abbrev Apart : (ℕ → Place) → ℕ → ℕ → Type 0
Apart at i j = (at i).live ≡ true → (at j).live ≡ true → (at i).request.id ≡ (at j).request.id → i ≡ j

abbrev Differ : List Place → Type 0
Differ l = (i j : ℕ) → i < length l → j < length l → Apart (λ (k : ℕ). get_or l k free_place) i j

abbrev differs : List Place → Bool
differs l = distinct (live_ids l)

module _ (n : ℕ) (p : Place) where
  -- a live request with this id
  has-id : p.live ≡ true → p.request.id ≡ n → has_id n p ≡ true
  has-id e q = rw (e, eq-eqb p.request.id n q)

  id-had : has_id n p ≡ true → (p.live ≡ true) × (p.request.id ≡ n)
  id-had e = let r = and_parts p.live (eqb p.request.id n) e in (r.0, eqb-true p.request.id n r.1)

-- n is the id of a live request where it is among their ids
live-has : (n : ℕ) (l : List Place) → exists (same n) (live_ids l) ≡ exists (has_id n) l
unfolding live_ids exists
live-has n [] = refl
live-has n (p ∷ ps) =
    cases p.live
    (λ e. rw (e, live-has n ps))
    (λ e. rw (e, live-has n ps))

module _ (p : Place) (ps : List Place) where
  -- where the first place is live, no later one has its id
  first-apart : differs (p ∷ ps) ≡ true → p.live ≡ true → exists (has_id p.request.id) ps ≡ false
  unfolding distinct live_ids
  first-apart d e =
      let n = p.request.id in
      sym (live-has n ps) ∙ not-true (exists (same n) (live_ids ps)) (and_parts (not (exists (same n) (live_ids ps))) (distinct (live_ids ps)) (rw e at d)).0

  -- nor do the later ones have one id
  later-apart : differs (p ∷ ps) ≡ true → differs ps ≡ true
  unfolding distinct live_ids
  later-apart d =
      cases p.live
      (λ e. (and_parts (not (exists (same p.request.id) (live_ids ps))) (distinct (live_ids ps)) (rw e at d)).1)
      (λ e. rw e at d)

  -- so the ids of all differ
  all_apart : (p.live ≡ true → exists (has_id p.request.id) ps ≡ false) → differs ps ≡ true → differs (p ∷ ps) ≡ true
  unfolding distinct live_ids
  all_apart f d =
      cases p.live
      (λ e. rw (e, live-has p.request.id ps, f e) d)
      (λ e. rw e d)

  -- a later place with the id of the first, which is live
  clash : differs (p ∷ ps) ≡ true → p.live ≡ true → (j : ℕ) → j < length ps
      → (get_or ps j free_place).live ≡ true → (get_or ps j free_place).request.id ≡ p.request.id → ⊥
  clash d e j h f q =
      let n = p.request.id in
      true≢false (sym (exists-at (has_id n) ps free_place j h (has-id n (get_or ps j free_place) f q)) ∙ first-apart d e)

list-apart : (l : List Place) → differs l ≡ true → Differ l
list-apart [] d i j h k e f q = absurd (omega arith)
list-apart (p ∷ ps) d zero zero h k e f q = refl
list-apart (p ∷ ps) d zero (suc j) h k e f q = absurd (clash p ps d e j (omega arith) f (sym q))
list-apart (p ∷ ps) d (suc i) zero h k e f q = absurd (clash p ps d f i (omega arith) e q)
list-apart (p ∷ ps) d (suc i) (suc j) h k e f q = ap suc (list-apart ps (later-apart p ps d) i j (omega arith) (omega arith) e f q)

apart-list : (l : List Place) → Differ l → differs l ≡ true
unfolding distinct live_ids
apart-list [] d = refl
apart-list (p ∷ ps) d = all_apart p ps (λ e. exists-not (has_id n) ps free_place (other e)) (apart-list ps rest)
  where
    n : ℕ
    n = p.request.id

    later : p.live ≡ true → (j : ℕ) → j < length ps → has_id n (get_or ps j free_place) ≡ true → ⊥
    later e j h m =
        let r = id-had n (get_or ps j free_place) m in
        let z : 0 ≡ suc j = d 0 (suc j) (omega arith) (omega arith) e r.0 (sym r.1) in
        omega (arith, z)

    other : p.live ≡ true → (j : ℕ) → j < length ps → has_id n (get_or ps j free_place) ≡ false
    other e j h = cases (has_id n (get_or ps j free_place)) (λ m. absurd (later e j h m)) (λ m. m)

    rest : Differ ps
    rest i j h k e f q = let z : suc i ≡ suc j = d (suc i) (suc j) (omega arith) (omega arith) e f q in omega arith

module _ (t : Requests) where
  pub differ-when : ids_differ t ≡ true → (i j : ℕ) → (place_at t i).live ≡ true → (place_at t j).live ≡ true → (place_at t i).request.id ≡ (place_at t j).request.id → i ≡ j
  unfolding ids_differ
  differ-when d i j e f q =
      let a = places-at t i in
      let b = places-at t j in
      list-apart (places_of t) d i j (rw (places-length t) (live-within t i e)) (rw (places-length t) (live-within t j f))
      ((λ z. (a z).live) ∙ e) ((λ z. (b z).live) ∙ f) ((λ z. (a z).request.id) ∙ q ∙ sym (λ z. (b z).request.id))

  pub when-differ : ((i j : ℕ) → Apart (place_at t) i j) → ids_differ t ≡ true
  unfolding ids_differ
  when-differ d = apart-list (places_of t) (λ i j h k e f q.
      let a = places-at t i in
      let b = places-at t j in
      d i j (sym (λ z. (a z).live) ∙ e) (sym (λ z. (b z).live) ∙ f) (sym (λ z. (a z).request.id) ∙ q ∙ (λ z. (b z).request.id)))

-- ---- kept by every change

-- the places of a table are given by a function, and that keeps them apart
differ-by : (t : Requests) (at : ℕ → Place) → ((j : ℕ) → place_at t j ≡ at j) → ((i j : ℕ) → Apart at i j) → ids_differ t ≡ true
differ-by t at each d = when-differ t (λ i j e f q.
    let a = each i in
    let b = each j in
    d i j (sym (λ z. (a z).live) ∙ e) (sym (λ z. (b z).live) ∙ f) (sym (λ z. (a z).request.id) ∙ q ∙ (λ z. (b z).request.id)))

pub fresh-differ : ids_differ fresh_requests ≡ true
fresh-differ = differ-by fresh_requests (λ j. free_place) fresh_at (λ i j e f q. absurd (false≢true e))

module _ (t : Requests) (d : ids_differ t ≡ true) where
  pub without-differ : (f : ℕ → Bool) → ids_differ (without t f) ≡ true
  without-differ f = differ-by (without t f) (λ j. now (f j) j) (place-without t f) (λ i j. apart i j (f i) (f j))
    where
      now : Bool → ℕ → Place
      now b j = cond b free_place (place_at t j)

      apart : (i j : ℕ) (a b : Bool) → (now a i).live ≡ true → (now b j).live ≡ true → (now a i).request.id ≡ (now b j).request.id → i ≡ j
      apart i j true b e f q = absurd (false≢true e)
      apart i j false true e f q = absurd (false≢true f)
      apart i j false false e f q = differ-when t d i j e f q

  pub released-differ : (i : ℕ) (rows : Rows) (s : Scope) → ids_differ (released t i rows s) ≡ true
  unfolding released
  released-differ i rows s = without-differ (λ j. eqb j i || ends rows s (place_at t j))

  pub cleared-differ : ids_differ (cleared t) ≡ true
  unfolding cleared
  cleared-differ = without-differ (λ j. (place_at t j).live)

  -- the new request clashes with no place, since none that is live has its id; two other places are as they were
  pub taken-differ : (i : ℕ) (r : Request) → lowest t Free ≡ Some i → lowest t (Id r.id) ≡ None → ids_differ (with_request t i r) ≡ true
  taken-differ i r free n =
      differ-by (with_request t i r) (λ j. now (eqb j i) j) (place-taken t i r free) (λ j k. apart j k (eqb j i) (eqb k i) refl refl)
    where
      now : Bool → ℕ → Place
      now b j = cond b (taken r) (place_at t j)

      absent : (j : ℕ) → (place_at t j).live ≡ true → (place_at t j).request.id ≡ r.id → ⊥
      absent j e q = true≢false (sym (has-id r.id (place_at t j) e q) ∙ lowest-absent t (Id r.id) n j (live-within t j e))

      apart : (j k : ℕ) (a b : Bool) → eqb j i ≡ a → eqb k i ≡ b
          → (now a j).live ≡ true → (now b k).live ≡ true → (now a j).request.id ≡ (now b k).request.id → j ≡ k
      apart j k true true u v e f q = eqb-true j i u ∙ sym (eqb-true k i v)
      apart j k true false u v e f q = absurd (absent k f (sym q))
      apart j k false true u v e f q = absurd (absent j e q)
      apart j k false false u v e f q = differ-when t d j k e f q

-- ---- a reply's request is the live one with its id

abbrev pub answered_by : Request → Answerable → Requests → Option ℕ → Option ℕ
answered_by r a t None = None
answered_by r a t (Some i) = cond (answers r a (place_at t i).request) (Some i) None

-- a request that is answered has the reply's id
answered-id : (r : Request) (a : Answerable) (p : Place) → meets (Answered r a) p ≡ true → meets (Id r.id) p ≡ true
answered-id r a p e =
    let n = eqb p.request.id r.id in
    let k = eqb p.request.kind a.first || eqb p.request.kind a.second in
    let w = not a.targeted || eqb p.request.target r.target in
    let h = and_parts p.live ((n && k) && w) e in
    and-whole p.live n h.0 (and_parts n k (and_parts (n && k) w h.1).0).0

-- one with another id is not answered
other-id : (r : Request) (a : Answerable) (p : Place) → meets (Id r.id) p ≡ false → meets (Answered r a) p ≡ false
other-id r a p e = cases (meets (Answered r a) p) (λ m. absurd (true≢false (sym (answered-id r a p m) ∙ e))) (λ m. m)

pub answered-by-id : (t : Requests) → ids_differ t ≡ true → (r : Request) (a : Answerable)
    → lowest t (Answered r a) ≡ answered_by r a t (lowest t (Id r.id))
answered-by-id t d r a = go (lowest t (Id r.id)) refl
  where
    q : Query
    q = Answered r a

    -- another place is not answered, since it has not the id of place i
    none-else : (i : ℕ) → lowest t (Id r.id) ≡ Some i → answers r a (place_at t i).request ≡ false → (j : ℕ) → j < places → meets q (place_at t j) ≡ true → ⊥
    none-else i e f j h m =
        let x = id-had r.id (place_at t i) (lowest-found t (Id r.id) i e).1 in
        let y = id-had r.id (place_at t j) (answered-id r a (place_at t j) m) in
        let s : i ≡ j = differ-when t d i j x.0 y.0 (x.1 ∙ sym y.1) in
        true≢false (sym (and_parts (place_at t j).live (answers r a (place_at t j).request) m).1 ∙ sym (ap (λ (k : ℕ). answers r a (place_at t k).request) s) ∙ f)

    at_place : (i : ℕ) → lowest t (Id r.id) ≡ Some i → lowest t q ≡ answered_by r a t (Some i)
    at_place i e =
        cases (answers r a (place_at t i).request)
        (λ b.
        let f = lowest-found t (Id r.id) i e in
        let live = (id-had r.id (place_at t i) f.1).0 in
        lowest-is t q i f.0 (and-whole (place_at t i).live (answers r a (place_at t i).request) live b)
        (λ j h. other-id r a (place_at t j) (lowest-lower t (Id r.id) i e j h))
        ∙ rw b)
        (λ b. lowest-none t q (λ j h. cases (meets q (place_at t j)) (λ m. absurd (none-else i e b j h m)) (λ m. m)) ∙ rw b)

    go : (o : Option ℕ) → lowest t (Id r.id) ≡ o → lowest t q ≡ answered_by r a t (lowest t (Id r.id))
    go None e = lowest-none t q (λ j h. other-id r a (place_at t j) (lowest-absent t (Id r.id) e j h)) ∙ sym (ap (answered_by r a t) e)
    go (Some i) e = at_place i e ∙ sym (ap (answered_by r a t) e)
