-- `requests::fresh` meets its contract: 96 times what `free_slot` ensures.
-- Assumes nothing.
use mathlib.Core.Path.{ap}
use mathlib.Core.Bool.{false}
use lib.ListN.{replicate}
use Rattle.requests.specs.declared.Slot.{Slot}
use Rattle.requests.specs.Requests.{fresh_requests}
use Rattle.requests.proofs.fresh.Goals as goal

pub returns : goal.returns
unfolding fresh_requests
returns c = ap (λ (s : Slot). record { used = 0; live = replicate 96 false; kinds = replicate 96 0; ids = replicate 96 0; slots = replicate 96 s }) c.free_slot-f.ensures
