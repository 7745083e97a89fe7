-- `Requests::ids_differ` meets its contract: fewer than two places cannot clash; else the ids gathered and those of
-- the places from i on are those of all places.
-- Assumes nothing.
use Rattle.std.proofs.Common.{◌≡◌, ◌≤◌, ◌++◌, length, take, drop}
use Rattle.requests.specs.Requests.{live_ids, places_of}
use Rattle.requests.proofs.Requests.ids_differ.Given as goal

abbrev pub invariant-loop-i : goal.invariant-loop-i
invariant-loop-i l = record {
  few : l.k ≤ l.i;
  room : length l.gathered ≡ 96;
  all : take l.k l.gathered ++ live_ids (drop l.i (places_of l.self)) ≡ live_ids (places_of l.self);
}
