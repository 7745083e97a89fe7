-- What one turn of each loop does, and what the stores of one call come to.
-- A search: what the test of one place says of `meets` (`id-is`, `settling-is`), and where none below i passed it,
-- `lowest` is told by the next (`search-hit`, `search-none`, `free-first`). The bound from the last place down:
-- `trimmed-hit`, `trimmed-miss`. A store into a column is the definition's `put_at` (`taken_at`, `freed-at`), past the
-- last place it changes nothing; a loop that frees places has gone over the first k (`gone`), and the others are as
-- they were. Ids are gathered place by place (`gathered-more`, `gathered-same`) and asked for doubles number by number
-- (`distinct-not`, `distinct_more`): the list from i on is split at its first element (`drop-cons`), and `live_ids` or
-- `distinct` computes one step.
-- Assumes nothing.
use Rattle.std.specs.Prelude.{Option, Some, None, max, position}
use Rattle.std.specs.List.{position_from}
use Rattle.std.specs.Bool.{then_some}
use Rattle.std.specs.Option.{option_or}
use Rattle.std.proofs.lemmas.Iterator.Adapters.{position_from-zero}
use Prim.Native.Nat.{ℕ, zero, suc, ◌+◌, ◌-◌, ◌≤◌, ◌<◌}
use mathlib.Core.Path.{◌≡◌, refl, sym, ap, ◌∙◌}
use mathlib.Core.Bool.{Bool, true, false, cond, not, ◌&&◌, ◌||◌, and-false, or-true, or-false, false≢true}
use mathlib.Core.List.{List, [], ◌∷◌, ◌++◌, append_assoc}
use native.Mathlib.Numerals.{add-one}
use native.Mathlib.Omega.{arith}
use lib.ListN.{length, take, drop, get_or, set, drop_of_length-le}
use lib.Seq.{drop-cons, take-suc-set, set_out, get_or-drop, get_or-take, length-take-le, take-length}
use Rattle.std.proofs.Common.{length-drop}
use lib.Dec.{eqb, leb, ltb}
use borrow.Author.Tests.{eqb-true, eqb-false, ltb-true, ltb-false, lt-ltb, le-ltb, le-leb, lt-leb}
use borrow.Table.Steps.{cases}
use Rattle.device.specs.declared.Rows.{Rows}
use Rattle.device.specs.declared.Scope.{Scope}
use Rattle.device.specs.Device.{touched}
use Rattle.scan.specs.Scan.{first_at, exists, tabulated, put_at}
use Rattle.scan.proofs.Searches.{first_found, first-lowest, first_absent, tabulated-is, set-put}
use Rattle.requests.specs.declared.Request.{Request}
use Rattle.requests.specs.declared.Slot.{Slot}
use Rattle.requests.specs.declared.Requests.{Requests}
use Rattle.requests.specs.Requests.{places, Place, free_place, free_slot, slot_of, with_request, without, freed, is_data, ends, ids_differ, places_of, taken, is_setting, used_of, is_live, request_at, place_at, Query, Free, Id, Settling, meets, lowest, trimmed, same, distinct, live_ids}
use Rattle.requests.proofs.Places.{lowest-is, lowest-none, place-live, live_below, past-used, places-length, places-at, ltb-same, place-without, without-same, without-twice, when-differ}

-- ---- numbers and ids, one by one

module _ (l : List ℕ) (i : ℕ) (h : i < length l) where
  pub distinct-not : exists (same (get_or l i 0)) (drop (i + 1) l) ≡ true → distinct (drop i l) ≡ false
  unfolding distinct
  distinct-not e = rw (drop-cons l i 0 h) (rw (rw add-one at e))

  pub distinct_more : exists (same (get_or l i 0)) (drop (i + 1) l) ≡ false → distinct (drop i l) ≡ distinct (drop (i + 1) l)
  unfolding distinct
  distinct_more e = rw (add-one, drop-cons l i 0 h) (rw (rw add-one at e))

-- a number is found at i or after it
pub exists-from : (n : ℕ) (l : List ℕ) (i : ℕ) → i < length l → exists (same n) (drop i l) ≡ (same n (get_or l i 0) || exists (same n) (drop (i + 1) l))
unfolding exists
exists-from n l i h = rw (add-one, drop-cons l i 0 h) refl

pub or-or : (a b c : Bool) → (a || (b || c)) ≡ ((a || b) || c)
or-or true b c = refl
or-or false b c = refl

pub or-none : (a : Bool) → (a || false) ≡ a
or-none true = refl
or-none false = refl

-- the numbers after i, as a part of the list
pub rest-is : (l : List ℕ) (k n : ℕ) → exists (same n) (drop k l) ≡ exists (same n) (take (length l - k) (drop k l))
rest-is l k n = rw (← length-drop k l, take-length) refl

pub distinct_none : (l : List ℕ) (i : ℕ) → length l ≤ i → distinct (drop i l) ≡ true
unfolding distinct
distinct_none l i h = rw (drop_of_length-le l h)

-- n ids are gathered, and the places from i on have the others
module _ (ids : List ℕ) (n : ℕ) (l : List Place) (i : ℕ) (h : i < length l) where
  live_more : n < length ids → (get_or l i free_place).live ≡ true
      → take (n + 1) (set ids n (get_or l i free_place).request.id) ++ live_ids (drop (i + 1) l) ≡ take n ids ++ live_ids (drop i l)
  unfolding live_ids
  live_more k e = rw (add-one, add-one, drop-cons l i free_place h, e, take-suc-set, append_assoc)

  live_same : (get_or l i free_place).live ≡ false → take n ids ++ live_ids (drop (i + 1) l) ≡ take n ids ++ live_ids (drop i l)
  unfolding live_ids
  live_same e = rw (add-one, drop-cons l i free_place h, e)

-- ---- a search

if-id : (b l : Bool) (r : Request) (m : ℕ) → meets (Id m) (cond (b && l) (taken r) free_place) ≡ (b && (l && eqb r.id m))
if-id true true r m = refl
if-id true false r m = refl
if-id false l r m = refl

if-settling : (b l : Bool) (r : Request) → meets Settling (cond (b && l) (taken r) free_place) ≡ (b && (l && is_setting r.kind))
if-settling true true r = refl
if-settling true false r = refl
if-settling false l r = refl

if-free : (b : Bool) (r : Request) → meets Free (cond b (taken r) free_place) ≡ not b
if-free true r = refl
if-free false r = refl

-- n is the bound of the table
module _ (t : Requests) (n : ℕ) (b : n ≡ used_of t) where
  pub id-is : (m j : ℕ) → meets (Id m) (place_at t j) ≡ (ltb j n && (get_or t.live j false && eqb (get_or t.ids j 0) m))
  unfolding place_at
  id-is m j = rw b (if-id (ltb j (used_of t)) (get_or t.live j false) (request_at t j) m)

  pub settling-is : (j : ℕ) → meets Settling (place_at t j) ≡ (ltb j n && (get_or t.live j false && is_setting (get_or t.kinds j 0)))
  unfolding place_at
  settling-is j = rw b (if-settling (ltb j (used_of t)) (get_or t.live j false) (request_at t j))

  free-is : (j : ℕ) → meets Free (place_at t j) ≡ not (ltb j n && get_or t.live j false)
  unfolding place_at
  free-is j = rw b (if-free (is_live t j) (request_at t j))

-- a search of n places by a test that none below i passes
module _ (t : Requests) (q : Query) (n : ℕ) (test : ℕ → Bool) (is : (j : ℕ) → meets q (place_at t j) ≡ (ltb j n && test j)) where
  module _ (i : ℕ) (before : (j : ℕ) → j < i → test j ≡ false) where
    pub search-hit : n ≤ places → i < n → test i ≡ true → Some i ≡ lowest t q
    search-hit low h e =
        sym (lowest-is t q i (omega arith) (is i ∙ rw (lt-ltb i n h, e)) (λ j k. is j ∙ rw (before j k) (and-false (ltb j n))))

    pub search-none : n ≤ i → None ≡ lowest t q
    search-none h =
        sym (lowest-none t q (λ j k. is j ∙ cases (ltb j n) (λ e. rw (before j (omega (arith, ltb-true j n e))) (and-false (ltb j n))) (λ e. rw e)))

from-first : (p : Bool → Bool) (i : ℕ) (l : List Bool) → position_from p i l ≡ first_at p i l
unfolding first_at
from-first p i [] = refl
from-first p i (x ∷ xs) = ap (cond (p x) (Some i)) (rw add-one (from-first p (suc i) xs))

position-first : (p : Bool → Bool) (l : List Bool) → position p l ≡ first_at p 0 l
position-first p l = position_from-zero p l ∙ from-first p 0 l

-- the first of the n flags that is not set, or the place after them
module _ (t : Requests) (n : ℕ) (b : n ≡ used_of t) (low : n ≤ places) (long : length t.live ≡ places) where
  many : length (take n t.live) ≡ n
  many = length-take-le n t.live (rw long low)

  flag : (j : ℕ) → j < n → meets Free (place_at t j) ≡ not (get_or (take n t.live) j false)
  flag j h = free-is t n b j ∙ rw (lt-ltb j n h, get_or-take n t.live j false h)

  past : meets Free (place_at t n) ≡ true
  past = free-is t n b n ∙ rw (le-ltb n n (omega arith))

  pub free-first : option_or (position not (take n t.live)) (then_some (ltb n places) n) ≡ lowest t Free
  free-first = rw (position-first not (take n t.live)) (go (first_at not 0 (take n t.live)) refl)
    where
      go : (o : Option ℕ) → first_at not 0 (take n t.live) ≡ o → option_or o (then_some (ltb n places) n) ≡ lowest t Free
      go (Some i) q =
          let f = first_found not (take n t.live) i false q in
          let h : i < n = rw many at f.0 in
          sym (lowest-is t Free i (omega arith) (flag i h ∙ f.1)
          (λ j k. flag j (omega arith) ∙ first-lowest not (take n t.live) i false q j k))
      go None q =
          let set : (j : ℕ) → j < n → meets Free (place_at t j) ≡ false = λ j h. flag j h ∙ first_absent not (take n t.live) false q j (rw many h) in
          cases (ltb n places)
          (λ w. rw w (sym (lowest-is t Free n (ltb-true n places w) past set)))
          (λ w. rw w (sym (lowest-none t Free (λ j k. set j (omega (arith, ltb-false n places w))))))

-- ---- a loop from the last place down

module _ (l : List Bool) where
  pub trimmed-hit : (n : ℕ) → 0 < n → get_or l (n - 1) false ≡ true → trimmed l n ≡ n - 1 + 1
  unfolding trimmed
  trimmed-hit zero h e = absurd (omega arith)
  trimmed-hit (suc n) h e = let q : suc n - 1 ≡ n = omega arith in rw (rw q at e) (omega arith)

  pub trimmed-miss : (n : ℕ) → 0 < n → get_or l (n - 1) false ≡ false → trimmed l n ≡ trimmed l (n - 1)
  unfolding trimmed
  trimmed-miss zero h e = absurd (omega arith)
  trimmed-miss (suc n) h e = let q : suc n - 1 ≡ n = omega arith in rw (q, rw q at e)

  pub trimmed-none : trimmed l 0 ≡ 0
  unfolding trimmed
  trimmed-none = refl

-- ---- columns of a table that is owned

-- each has an element for each place
pub record Long (t : Requests) : Type 0 where
  pub live : length t.live ≡ places
  pub kinds : length t.kinds ≡ places
  pub ids : length t.ids ≡ places
  pub slots : length t.slots ≡ places

-- a store past the last place changes nothing
put-past : {A : Type 0} (d : A) (l : List A) (i : ℕ) (x : A) → length l ≡ places → places ≤ i → l ≡ put_at places d l i x
put-past d l i x n h = sym (set_out l i x (rw n h)) ∙ set-put places d l i x n

-- the number that the live places lie below is set last
abbrev with_used : Requests → ℕ → Requests
with_used u n = record { used = n; live = u.live; kinds = u.kinds; ids = u.ids; slots = u.slots }

without-by : (t : Requests) (f : ℕ → Bool) (u : Requests)
    → u.live ≡ tabulated (λ (j : ℕ). cond (f j) false (get_or t.live j false)) 0 places
    → u.kinds ≡ tabulated (λ (j : ℕ). cond (f j) 0 (get_or t.kinds j 0)) 0 places
    → u.ids ≡ tabulated (λ (j : ℕ). cond (f j) 0 (get_or t.ids j 0)) 0 places
    → u.slots ≡ tabulated (λ (j : ℕ). cond (f j) free_slot (get_or t.slots j free_slot)) 0 places
    → (n : ℕ) → n ≡ trimmed u.live (used_of t) → with_used u n ≡ without t f
unfolding without
without-by t f u live kinds ids slots n e =
    let used = e ∙ ap (λ (l : List Bool). trimmed l (used_of t)) live in
    λ z. record { used = used z; live = live z; kinds = kinds z; ids = ids z; slots = slots z }

pub raised : (m i : ℕ) → i < places → max m (i + 1) ≡ cond (ltb i m || leb places i) m (suc i)
raised m i h = cases (ltb i m)
    (λ e. let k : i < m = ltb-true i m e in rw e (omega arith))
    (λ e. let k : m ≤ i = ltb-false i m e in rw (e, lt-leb places i h) (omega arith))

module _ (t : Requests) (long : Long t) (i : ℕ) where
  pub taken_at : (r : Request) (u : ℕ) → u ≡ cond (ltb i t.used || leb places i) t.used (suc i)
      → record {
        used = u;
        live = set t.live i true;
        kinds = set t.kinds i r.kind;
        ids = set t.ids i r.id;
        slots = set t.slots i (slot_of r);
      } ≡ with_request t i r
  unfolding with_request
  taken_at r u e =
      λ z.
      record {
        used = e z;
        live = set-put places false t.live i true long.live z;
        kinds = set-put places 0 t.kinds i r.kind long.kinds z;
        ids = set-put places 0 t.ids i r.id long.ids z;
        slots = set-put places free_slot t.slots i (slot_of r) long.slots z;
      }

  pub taken-past : (r : Request) → places ≤ i → t ≡ with_request t i r
  unfolding with_request
  taken-past r h =
      let u : t.used ≡ cond (ltb i t.used || leb places i) t.used (suc i) = rw (le-leb places i h, or-true (ltb i t.used)) in
      λ z.
      record {
        used = u z;
        live = put-past false t.live i true long.live h z;
        kinds = put-past 0 t.kinds i r.kind long.kinds h z;
        ids = put-past 0 t.ids i r.id long.ids h z;
        slots = put-past free_slot t.slots i (slot_of r) long.slots h z;
      }

  -- u is the table with the columns stored to; its number is trimmed then
  module _ (u : Requests) (n : ℕ) (cut : n ≡ trimmed u.live (used_of u)) where
    pub freed-at : (x : Slot) → x ≡ free_slot
        → u ≡ record {
          used = t.used;
          live = set t.live i false;
          kinds = set t.kinds i 0;
          ids = set t.ids i 0;
          slots = set t.slots i x;
        }
        → with_used u n ≡ freed t i
    freed-at x y e =
        without-by t (λ j. eqb j i) u
        ((λ z. (e z).live) ∙ set-put places false t.live i false long.live)
        ((λ z. (e z).kinds) ∙ set-put places 0 t.kinds i 0 long.kinds)
        ((λ z. (e z).ids) ∙ set-put places 0 t.ids i 0 long.ids)
        ((λ z. (e z).slots) ∙ ap (set t.slots i) y ∙ set-put places free_slot t.slots i free_slot long.slots)
        n (cut ∙ (λ z. trimmed u.live (used_of (e z))))

    pub freed-past : places ≤ i → u ≡ t → with_used u n ≡ freed t i
    freed-past h e =
        without-by t (λ j. eqb j i) u
        ((λ z. (e z).live) ∙ put-past false t.live i false long.live h)
        ((λ z. (e z).kinds) ∙ put-past 0 t.kinds i 0 long.kinds h)
        ((λ z. (e z).ids) ∙ put-past 0 t.ids i 0 long.ids h)
        ((λ z. (e z).slots) ∙ put-past free_slot t.slots i free_slot long.slots h)
        n (cut ∙ (λ z. trimmed u.live (used_of (e z))))

-- ---- places freed one by one

-- the number is trimmed, and no place is freed
pub trimmed-free : (t : Requests) → Long t → (n : ℕ) → n ≡ trimmed t.live (used_of t) → with_used t n ≡ without t (λ (j : ℕ). false)
trimmed-free t long n e = without-by t (λ j. false) t (whole false t.live long.live) (whole 0 t.kinds long.kinds) (whole 0 t.ids long.ids) (whole free_slot t.slots long.slots) n e
  where
    whole : {A : Type 0} (d : A) (l : List A) → length l ≡ places → l ≡ tabulated (λ (j : ℕ). get_or l j d) 0 places
    whole d l h = tabulated-is (λ j. get_or l j d) l places d h (λ j k. refl)

-- the places below k that pass the test are freed, besides those that f names
module _ (t : Requests) (f : ℕ → Bool) (p : Place → Bool) where
  abbrev pub gone : ℕ → ℕ → Bool
  gone k j = f j || (ltb j k && p (place_at t j))

  pub gone-none : without t f ≡ without t (gone 0)
  gone-none = without-same t f (gone 0) (λ j h. rw (le-ltb j 0 (omega arith)) (sym (or-false (f j))))

  pub gone-all : without t (gone places) ≡ without t (λ (j : ℕ). f j || p (place_at t j))
  gone-all = without-same t (gone places) (λ j. f j || p (place_at t j)) (λ j h. rw (lt-ltb j places h))

  -- u is the table then; its place k is as it was, if f does not name it
  module _ (k : ℕ) (u : Requests) (e : u ≡ without t (gone k)) where
    not_yet : f k ≡ false → p (place_at u k) ≡ p (place_at t k)
    not_yet h = ap (λ v. p (place_at v k)) e ∙ ap p (place-without t (gone k) k ∙ rw (h, le-ltb k k (omega arith)))

    gone-here : (b : Bool) → p (place_at u k) ≡ b → gone (k + 1) k ≡ (f k || b)
    gone-here b h = cases (f k) (λ c. rw c) (λ c. rw (c, lt-ltb k (k + 1) (omega arith)) (sym (not_yet c) ∙ h))

    gone-other : (j : ℕ) → eqb j k ≡ false → gone (k + 1) j ≡ gone k j
    gone-other j n = ap (λ b. f j || (b && p (place_at t j))) (ltb-same j (k + 1) k (λ h. omega (arith, eqb-false j k n)) (λ h. omega arith))

    pub gone-more : p (place_at u k) ≡ true → freed u k ≡ without t (gone (k + 1))
    gone-more h =
        ap (λ v. freed v k) e ∙ without-twice t (gone k) (λ j. eqb j k)
        ∙ without-same t (λ j. gone k j || eqb j k) (gone (k + 1)) (λ j w. cases (eqb j k)
        (λ c. rw (c, or-true (gone k j), eqb-true j k c) (sym (gone-here true h ∙ or-true (f k))))
        (λ c. rw (c, or-false (gone k j)) (sym (gone-other j c))))

    pub gone-same : p (place_at u k) ≡ false → u ≡ without t (gone (k + 1))
    gone-same h =
        e ∙ without-same t (gone k) (gone (k + 1)) (λ j w. cases (eqb j k)
        (λ c. rw (eqb-true j k c, le-ltb k k (omega arith)) (sym (gone-here false h)))
        (λ c. sym (gone-other j c)))

-- what `ends` says of a place
if-ends : (rows : Rows) (s : Scope) (b : Bool) (r : Request)
    → ends rows s (cond b (taken r) free_place) ≡ (b && is_data r.kind && touched rows s (record { 0 = r.target }))
if-ends rows s true r = refl
if-ends rows s false r = refl

pub ends-is : (rows : Rows) (s : Scope) (t : Requests) (i : ℕ)
    → ends rows s (place_at t i) ≡ ((place_at t i).live && is_data (get_or t.kinds i 0) && touched rows s (record { 0 = (get_or t.slots i free_slot).target }))
unfolding place_at
ends-is rows s t i = if-ends rows s (is_live t i) (request_at t i) ∙ ap (λ b. b && is_data (get_or t.kinds i 0) && touched rows s (record { 0 = (get_or t.slots i free_slot).target })) (sym (place-live t i))

-- ---- the ids that are gathered

-- no place is live
none-live : (l : List Place) → ((j : ℕ) → (get_or l j free_place).live ≡ false) → live_ids l ≡ []
unfolding live_ids
none-live [] f = refl
none-live (p ∷ ps) f = rw (f 0) (none-live ps (λ j. f (suc j)))

if-request : (b : Bool) (r : Request) → b ≡ true → (cond b (taken r) free_place).request ≡ r
if-request true r e = refl
if-request false r e = absurd (false≢true e)

-- n is the bound of the table
module _ (t : Requests) (n : ℕ) (b : n ≡ used_of t) where
  -- of fewer than two places none has the id of another
  pub few-differ : n < 2 → true ≡ ids_differ t
  few-differ h = sym (when-differ t (λ j k e f same. omega (arith, live_below t j e, live_below t k f)))

  module _ (i : ℕ) where
    below-live : i < n → (place_at t i).live ≡ get_or t.live i false
    below-live h = place-live t i ∙ rw (lt-ltb i (used_of t) (omega arith))

    -- one more id is gathered
    pub gathered-more : (got : List ℕ) (k : ℕ) → i < n → n ≤ places → k < length got → get_or t.live i false ≡ true
        → take (k + 1) (set got k (get_or t.ids i 0)) ++ live_ids (drop (i + 1) (places_of t)) ≡ take k got ++ live_ids (drop i (places_of t))
    unfolding place_at
    gathered-more got k h low room e =
        let p = places-at t i in
        let on : (place_at t i).live ≡ true = below-live h ∙ e in
        let r : (place_at t i).request ≡ request_at t i = if-request (is_live t i) (request_at t i) (sym (place-live t i) ∙ on) in
        let id : (get_or (places_of t) i free_place).request.id ≡ get_or t.ids i 0 = (λ z. (p z).request.id) ∙ (λ z. (r z).id) in
        rw (← id) (live_more got k (places_of t) i (rw (places-length t) (omega arith)) room ((λ z. (p z).live) ∙ on))

    -- or the place is free
    pub gathered-same : (got : List ℕ) (k : ℕ) → i < n → n ≤ places → get_or t.live i false ≡ false
        → take k got ++ live_ids (drop (i + 1) (places_of t)) ≡ take k got ++ live_ids (drop i (places_of t))
    gathered-same got k h low e =
        let p = places-at t i in
        live_same got k (places_of t) i (rw (places-length t) (omega arith)) ((λ z. (p z).live) ∙ below-live h ∙ e)

    -- past the bound nothing is left
    pub gathered-all : n ≤ i → live_ids (drop i (places_of t)) ≡ []
    gathered-all h = none-live (drop i (places_of t)) free
      where
        free : (j : ℕ) → (get_or (drop i (places_of t)) j free_place).live ≡ false
        free j =
            let p : get_or (drop i (places_of t)) j free_place ≡ free_place = get_or-drop i (places_of t) j free_place ∙ places-at t (i + j) ∙ past-used t (i + j) (omega arith) in
            λ z. (p z).live
