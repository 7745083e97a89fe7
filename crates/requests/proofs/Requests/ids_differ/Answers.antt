-- `Requests::ids_differ` meets its contract: fewer than two places cannot clash; else the ids gathered and those of
-- the places from i on are those of all places.
-- Assumes nothing.
use Rattle.std.proofs.Common.{◌≡◌, ◌+◌, ◌++◌, [], ap, sym, ◌∙◌, arith, set, take, drop, get_or, length-set}
use mathlib.Core.List.{append-nil}
use Rattle.requests.specs.Requests.{distinct, ids_differ, live_ids, places_of}
use Rattle.requests.proofs.Loops.{few-differ, gathered-more, gathered-same, gathered-all}
use Rattle.requests.proofs.Requests.ids_differ.Goals as goal
use Rattle.requests.proofs.Requests.ids_differ.Goals.{then-self-i, else-self-i}

pub returns-then-is_few : goal.returns-then-is_few
returns-then-is_few c = few-differ c.args.self.now _ c.bound-n.ensures.0 c.if-is_few.true

pub loop-i-preserved : goal.loop-i-preserved
loop-i-preserved c =
    let t = c.args.self.now in
    let b = c.bound-n in
    let k = c.loop-i in
    elim c.if-self-i.branch [
      | then-self-i w ↦
          let e : c.if-self-i.gathered ≡ set k.gathered k.k (get_or t.ids k.i 0) = w.gathered-is in
          let m : c.if-self-i.k ≡ k.k + 1 = w.k-is in
          record {
            few = omega arith;
            room = rw (e, length-set) k.invariant.room;
            all = rw (e, m) (gathered-more t _ b.ensures.0 k.i k.gathered k.k (omega arith) (omega arith) (omega arith) w.if-self-i.true ∙ k.invariant.all);
          }
      | else-self-i w ↦
          let e : c.if-self-i.gathered ≡ k.gathered = w.gathered-is in
          let m : c.if-self-i.k ≡ k.k = w.k-is in
          record {
            few = omega arith;
            room = rw e k.invariant.room;
            all = rw (e, m) (gathered-same t _ b.ensures.0 k.i k.gathered k.k (omega arith) (omega arith) w.if-self-i.false ∙ k.invariant.all);
          }
    ]

pub returns : goal.returns
unfolding ids_differ
returns c =
    let t = c.args.self.now in
    let k = c.loop-i in
    let got = take k.k k.gathered in
    let rest : live_ids (drop k.i (places_of t)) ≡ [] = gathered-all t _ c.bound-n.ensures.0 k.i (omega arith) in
    let all : got ≡ live_ids (places_of t) = sym (append-nil got) ∙ ap (λ r. got ++ r) (sym rest) ∙ k.invariant.all in
    c.all_differ.ensures ∙ ap distinct all
