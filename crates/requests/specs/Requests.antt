-- The table of 96 places for requests: what a place holds, what is looked for, taking and freeing places.
-- Assumes nothing: these are definitions.
use Rattle.std.specs.Prelude.{ℕ, zero, suc, Bool, true, false, cond, not, ◌&&◌, ◌||◌, List, [], ◌∷◌, ◌++◌, get_or, replicate, eqb, leb, ltb, Option}
use Rattle.device.specs.declared.Rows.{Rows}
use Rattle.device.specs.declared.Scope.{Scope}
use Rattle.device.specs.Device.{touched}
use Rattle.scan.specs.Scan.{first_at, exists, tabulated, put_at}
use Rattle.requests.specs.declared.Request.{Request}
use Rattle.requests.specs.declared.Slot.{Slot}
use Rattle.requests.specs.declared.Requests.{Requests}
use Rattle.requests.specs.declared.Answerable.{Answerable}

-- ---- places

-- a place: whether a request waits there, and which
pub record Place : Type 0 where
  pub live : Bool
  pub request : Request

-- no request: "0 for what the kind lacks"
abbrev pub no_request : Request
no_request = record { id = 0; kind = 0; target = 0; length = 0 }

-- "A freed place is as at the start and used again."
abbrev pub free_place : Place
free_place = record { live = false; request = no_request }

abbrev pub taken : Request → Place
taken r = record { live = true; request = r }

-- what a slot keeps of a request besides its id and kind
abbrev pub free_slot : Slot
free_slot = record { length = 0; target = 0 }

abbrev pub slot_of : Request → Slot
slot_of r = record { length = r.length; target = r.target }

-- "a table of 96 places for requests, all free"
abbrev pub places : ℕ
places = 96

unfoldable pub fresh_requests : Requests
fresh_requests = record { used = 0; live = replicate places false; kinds = replicate places 0; ids = replicate places 0; slots = replicate places free_slot }

-- live places lie below this
abbrev pub used_of : Requests → ℕ
used_of t = cond (leb t.used places) t.used places

abbrev pub is_live : Requests → ℕ → Bool
is_live t i = ltb i (used_of t) && get_or t.live i false

abbrev pub request_at : Requests → ℕ → Request
request_at t i =
    record { id = get_or t.ids i 0; kind = get_or t.kinds i 0; target = (get_or t.slots i free_slot).target; length = (get_or t.slots i free_slot).length }

-- the place at i, a free one past the last
unfoldable pub place_at : Requests → ℕ → Place
place_at t i = cond (is_live t i) (taken (request_at t i)) free_place

-- the 96 places
unfoldable pub places_of : Requests → List Place
places_of t = tabulated (place_at t) 0 places

-- ---- what is looked for

-- a request of these kinds, by its packet's number
abbrev pub is_setting : ℕ → Bool
is_setting kind = eqb kind 6 || eqb kind 9

abbrev pub is_data : ℕ → Bool
is_data kind = eqb kind 100 || eqb kind 101 || eqb kind 103

-- "Id and, where both carry one, the endpoint or interface must match", and the request is of a kind that the reply answers
abbrev pub answers : Request → Answerable → Request → Bool
answers reply a q =
    eqb q.id reply.id && (eqb q.kind a.first || eqb q.kind a.second) && (not a.targeted || eqb q.target reply.target)

pub data Query : Type 0 where
  Free : Query
  -- a live request with this id
  Id : ℕ → Query
  -- a live set configuration or set alt
  Settling : Query
  -- a live request that this reply answers
  Answered : Request → Answerable → Query

abbrev pub meets : Query → Place → Bool
meets Free p = not p.live
meets (Id n) p = p.live && eqb p.request.id n
meets Settling p = p.live && is_setting p.request.kind
meets (Answered reply a) p = p.live && answers reply a p.request

-- a live request with this id
abbrev pub has_id : ℕ → Place → Bool
has_id n p = meets (Id n) p

-- the lowest place that meets it
unfoldable pub lowest : Requests → Query → Option ℕ
lowest t q = first_at (meets q) 0 (places_of t)

-- ---- taking and freeing

-- a request takes place i, of 96; nothing changes past the last
unfoldable pub with_request : Requests → ℕ → Request → Requests
with_request t i r =
    record {
      used = cond (ltb i t.used || leb places i) t.used (suc i);
      live = put_at places false t.live i true;
      kinds = put_at places 0 t.kinds i r.kind;
      ids = put_at places 0 t.ids i r.id;
      slots = put_at places free_slot t.slots i (slot_of r);
    }

-- the lowest number of places, at most n, that has all the live ones
unfoldable pub trimmed : List Bool → ℕ → ℕ
trimmed live zero = 0
trimmed live (suc n) = cond (get_or live n false) (suc n) (trimmed live n)

-- the places that a test names are freed
unfoldable pub without : Requests → (ℕ → Bool) → Requests
without t f =
    record {
      used = trimmed (tabulated (λ (i : ℕ). cond (f i) false (get_or t.live i false)) 0 places) (used_of t);
      live = tabulated (λ (i : ℕ). cond (f i) false (get_or t.live i false)) 0 places;
      kinds = tabulated (λ (i : ℕ). cond (f i) 0 (get_or t.kinds i 0)) 0 places;
      ids = tabulated (λ (i : ℕ). cond (f i) 0 (get_or t.ids i 0)) 0 places;
      slots = tabulated (λ (i : ℕ). cond (f i) free_slot (get_or t.slots i free_slot)) 0 places;
    }

-- "A passed reply frees the place."
abbrev pub freed : Requests → ℕ → Requests
freed t i = without t (λ (j : ℕ). eqb j i)

-- "frees every data request (kind 100, 101 or 103)" of the rows in scope
abbrev pub ends : Rows → Scope → Place → Bool
ends rows s p = p.live && is_data p.request.kind && touched rows s (record { 0 = p.request.target })

-- place i is freed, and with it the data requests in scope
unfoldable pub released : Requests → ℕ → Rows → Scope → Requests
released t i rows s = without t (λ (j : ℕ). eqb j i || ends rows s (place_at t j))

-- "frees every place"
unfoldable pub cleared : Requests → Requests
cleared t = without t (λ (i : ℕ). (place_at t i).live)

-- ---- 43: "two live requests with one id"

abbrev pub same : ℕ → ℕ → Bool
same n m = eqb m n

-- no number stands there twice
unfoldable pub distinct : List ℕ → Bool
distinct [] = true
distinct (n ∷ ns) = not (exists (same n) ns) && distinct ns

-- the ids of the live requests, in the order of their places
unfoldable pub live_ids : List Place → List ℕ
live_ids [] = []
live_ids (p ∷ ps) = cond p.live (p.request.id ∷ []) [] ++ live_ids ps

unfoldable pub ids_differ : Requests → Bool
ids_differ t = distinct (live_ids (places_of t))
