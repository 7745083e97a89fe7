-- `Requests::take` meets its contract: each column is stored to at i (`taken_at`), and past the last place none is
-- (`taken-past`).
-- Assumes nothing.
use mathlib.Core.Path.{◌∙◌}
use native.Mathlib.Omega.{arith}
use borrow.Author.Rules.{rules}
use Rattle.scan.specs.Loop.{long_of}
use Rattle.requests.proofs.Loops.{Long, raised, taken_at, taken-past}
use Rattle.requests.proofs.Requests.take.Goals as goal

pub returns-then-i-lt-PLACES : goal.returns-then-i-lt-PLACES
returns-then-i-lt-PLACES c =
    let a = c.args in
    let t = a.self.now in
    let long : Long t = record { live = search rules; kinds = search rules; ids = search rules; slots = search (rules, long_of) } in
    rw c.slot_for.ensures (taken_at t long a.i a.r c.max-self.result (c.max-self.ensures ∙ raised t.used a.i (omega arith)))

pub returns-else-i-lt-PLACES : goal.returns-else-i-lt-PLACES
returns-else-i-lt-PLACES c =
    let t = c.args.self.now in
    let long : Long t = record { live = search rules; kinds = search rules; ids = search rules; slots = search (rules, long_of) } in
    taken-past t long c.args.i c.args.r (omega arith)
