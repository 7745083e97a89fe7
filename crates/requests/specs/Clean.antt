-- "A freed place is as at the start and used again.": nothing is left of a request in a place that is freed (`Zeroed`), and in a clean table
-- (`Clean`) every place that is not live is as at the start.
-- Assumes nothing: these are definitions.
use Rattle.std.specs.Prelude.{ℕ, suc, ◌≤◌, ◌<◌, ◌≡◌, true, false, length, get_or}
use Rattle.requests.specs.declared.Requests.{Requests}
use Rattle.requests.specs.Requests.{places, no_request, is_live, request_at}

-- nothing of a request stands there: its id, kind, target and length are 0, and it is not marked live
pub record Zeroed (t : Requests) (i : ℕ) : Type 0 where
  pub request : request_at t i ≡ no_request
  pub flag : get_or t.live i false ≡ false

-- the places that are not live are as at the start
pub record Clean (t : Requests) : Type 0 where
  -- 96 places
  pub lives : length t.live ≡ places
  pub kinds : length t.kinds ≡ places
  pub ids : length t.ids ≡ places
  pub slots : length t.slots ≡ places
  -- `used` is where the last live place ends
  pub used : t.used ≤ places
  pub last : (n : ℕ) → t.used ≡ suc n → get_or t.live n false ≡ true
  -- nothing is left at a place that is not live, and no flag is set from `used` on
  pub free : (i : ℕ) → i < places → is_live t i ≡ false → Zeroed t i
