-- Searches of the request table by id, one after the other, each for an id that depends on where the one before it matched.
-- Assumes nothing: these are definitions.
use Rattle.std.specs.Prelude.{ℕ, zero, suc, List, [], ◌∷◌, get_or, Option, Some, None}
use Rattle.requests.specs.declared.Request.{Request}
use Rattle.requests.specs.declared.Requests.{Requests}
use Rattle.requests.specs.Requests.{fresh_requests, with_request, lowest, Id}

-- a control request with this id
abbrev pub request_with : ℕ → Request
request_with id = record { id = id; kind = 100; target = 0; length = 0 }

-- requests with these ids take the places from i on, as far as there are places
unfoldable pub with_ids : Requests → ℕ → List ℕ → Requests
with_ids t i [] = t
with_ids t i (id ∷ ids) = with_ids (with_request t i (request_with id)) (suc i) ids

abbrev pub table_with : List ℕ → Requests
table_with ids = with_ids fresh_requests 0 ids

-- the id to search for next: what `next` has for the place of the match; 0 where it has none, and where nothing matched
abbrev pub next_id : List ℕ → Option ℕ → ℕ
next_id next None = 0
next_id next (Some i) = get_or next i 0

-- the id that comes after n searches
unfoldable pub searched : Requests → List ℕ → ℕ → ℕ → ℕ
searched t next zero id = id
searched t next (suc n) id = searched t next n (next_id next (lowest t (Id id)))
