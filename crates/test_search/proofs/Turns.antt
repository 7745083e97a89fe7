-- A turn of each loop computes its definition by one step. Filling the table is stated of the ids from i on (`fill-goes-on`, `fill_done`), the
-- searches of those still to be made (`search-goes-on`, `search-done`).
-- Assumes nothing.
use mathlib.Core.Path.{◌≡◌}
use mathlib.Core.List.{List}
use Prim.Native.Nat.{ℕ, suc, ◌+◌, ◌-◌, ◌≤◌, ◌<◌}
use native.Mathlib.Numerals.{add-one}
use native.Mathlib.Omega.{arith}
use lib.ListN.{length, drop, get_or}
use lib.Seq.{drop-cons, drop-length}
use Rattle.requests.specs.declared.Requests.{Requests}
use Rattle.requests.specs.Requests.{Id, lowest, with_request}
use Rattle.test_search.specs.Search.{request_with, with_ids, next_id, searched}

-- ---- the table

-- the request at the next place
pub fill-goes-on : (t : Requests) (ids : List ℕ) (i : ℕ) → i < length ids
    → with_ids (with_request t i (request_with (get_or ids i 0))) (i + 1) (drop (i + 1) ids) ≡ with_ids t i (drop i ids)
unfolding with_ids
fill-goes-on t ids i h = rw (drop-cons ids i 0 h, add-one i)

-- no request is left
pub fill_done : (t : Requests) (ids : List ℕ) (i : ℕ) → i ≡ length ids → with_ids t i (drop i ids) ≡ t
unfolding with_ids
fill_done t ids i e = rw (e, drop-length ids)

-- ---- the searches

-- one search more
pub search-goes-on : (t : Requests) (next : List ℕ) (n k id : ℕ) → k < n
    → searched t next (n - (k + 1)) (next_id next (lowest t (Id id))) ≡ searched t next (n - k) id
unfolding searched
search-goes-on t next n k id h =
    let e : n - k ≡ suc (n - (k + 1)) = omega arith in
    rw e

-- no search is left
pub search-done : (t : Requests) (next : List ℕ) (n k id : ℕ) → n ≤ k → searched t next (n - k) id ≡ id
unfolding searched
search-done t next n k id h =
    let e : n - k ≡ 0 = omega arith in
    rw e
