-- `Requests::free` meets its contract: each column is stored to at i (`freed-at`) or, past the last place, left
-- (`freed-past`), and the number is trimmed.
-- Assumes nothing.
use native.Mathlib.Omega.{arith}
use borrow.Author.Rules.{rules}
use Rattle.scan.specs.Loop.{long_of}
use Rattle.requests.proofs.Loops.{Long, freed-at, freed-past}
use Rattle.requests.proofs.Requests.free.Goals as goal
use Rattle.requests.proofs.Requests.free.Goals.{then-i-lt-PLACES, else-i-lt-PLACES}

pub returns : goal.returns
returns c =
    let t = c.args.self.now in
    let i = c.args.i in
    let u = c.if-i-lt-PLACES.self in
    let long : Long t = record { live = search rules; kinds = search rules; ids = search rules; slots = search (rules, long_of) } in
    elim c.if-i-lt-PLACES.branch [
      | then-i-lt-PLACES w ↦ freed-at t long i u c.trim-self.result c.trim-self.ensures _ w.free_slot.ensures w.self-is
      | else-i-lt-PLACES w ↦ freed-past t long i u c.trim-self.result c.trim-self.ensures (omega arith) w.self-is
    ]
