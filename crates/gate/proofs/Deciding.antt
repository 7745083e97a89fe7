-- A call decided by the code comes to the call's outcome, case by case: barred (`barred-decides`), more wanted (`more-decides`, with what can be held,
-- `keeps`), a refused header (`header-decides`); a whole packet is what `take_packet` asks for (`is-ready`, `cuts`).
-- The cut of the held bytes with the piece behind them tells 43 whether the held bytes are
-- whole by themselves (`held_whole_lem`).
-- Assumes nothing.
use Rattle.std.specs.Prelude.{Result, Ok, Err}
use Prim.Native.Nat.{ℕ, ◌+◌, ◌-◌, ◌≤◌}
use mathlib.Core.Path.{◌≡◌, refl, sym, ap, ◌∙◌}
use mathlib.Core.Bool.{Bool, true}
use mathlib.Core.List.{List, [], ◌++◌}
use lib.ListN.{length, take}
use lib.Seq.{sets}
use Rattle.header.specs.declared.Side.{Side}
use Rattle.header.specs.declared.Link.{Link}
use Rattle.header.specs.declared.Refusal.{Refusal}
use Rattle.header.specs.Refusal.{number_of, number_in}
use Rattle.header.proofs.Refusals.{refused}
use Rattle.frame.specs.declared.Cut.{Cut as CutFound}
use Rattle.frame.specs.declared.Cut.TheVariants.{More, BadHeader, WholePacket}
use Rattle.frame.specs.declared.Location.{Location}
use Rattle.frame.specs.declared.Location.TheVariants.{Nowhere}
use Rattle.frame.specs.Frame.{told, cut_for, ends_within, completed, location_for}
use Rattle.frame.specs.Frame.{Cuts}
use Rattle.frame.proofs.Framed.{cut-more, cut-bad, cut-whole}
use Rattle.session.specs.declared.Session.{Session}
use Rattle.session.specs.Session.{max_held, link_of, held_in}
use Rattle.gate.specs.declared.Decided.{Decided}
use Rattle.gate.specs.Offer.{held_bytes, held_whole, barred}
use Rattle.gate.specs.Decide.{ended_with, Decides}
use Rattle.gate.specs.Ready.{Ready}
use Rattle.gate.proofs.Ready.{ready, held-few, held_whole_lem, more-few}
use Rattle.gate.proofs.Outcomes.{barred-call, more-call, header-call}

module _ (from : Side) (s : Session) (hold piece : List ℕ) {l : Link} {held : ℕ} (el : l ≡ link_of from s) (ed : held ≡ held_in from s.head)
    {begun : List ℕ} (eb : begun ≡ take held hold) (c : CutFound) (ec : told c ≡ cut_for l (begun ++ piece)) where
  begun-is : begun ≡ held_bytes from s hold
  begun-is = eb ∙ ap (λ (n : ℕ). take n hold) ed

  cut-is : told c ≡ cut_for (link_of from s) (held_bytes from s hold ++ piece)
  cut-is = ec ∙ rw (el, begun-is) refl

  pub whole_is : {whole : Bool} → whole ≡ ends_within (told c) (length begun) → whole ≡ held_whole from s hold
  whole_is ew = ew ∙ rw (cut-is, begun-is) (held_whole_lem (link_of from s) (held_bytes from s hold) piece)

  module _ {o : Result (Unit {0}) Refusal} (en : number_in o ≡ barred from s hold) where
    pub barred-decides : {r : Refusal} → o ≡ Err r → {d : Decided} → d ≡ ended_with (number_of r) 0 Nowhere 0 held s.head.stopped → Decides from s d hold piece hold
    barred-decides {r} e q = rw (q, ed) (barred-call from s hold piece (number_of r) (sym (ap number_in e) ∙ en) (refused r))

    module _ {x : Unit {0}} (z : o ≡ Ok x) where
      pub is-ready : Ready from s hold
      is-ready = ready from s hold (sym en ∙ ap number_in z)

      pub keeps : c ≡ More → held + length piece ≤ max_held
      keeps e =
          let f : held_in from s.head + length piece ≤ max_held =
          more-few (link_of from s) hold piece (held_in from s.head) is-ready.room (held-few from s is-ready.fit) (cut-more (link_of from s) (held_bytes from s hold ++ piece) (sym cut-is ∙ ap told e)) in
          rw ed f

      pub more-decides : c ≡ More → {d : Decided} {after : List ℕ} → after ≡ sets hold held piece
          → d ≡ ended_with 1 (length piece) Nowhere 0 (held + length piece) s.head.stopped → Decides from s d hold piece after
      more-decides e ea q =
          rw (q, ea, ed) (more-call from s hold piece is-ready (cut-more (link_of from s) (held_bytes from s hold ++ piece) (sym cut-is ∙ ap told e)))

      pub header-decides : {m : Refusal} {size : ℕ} → c ≡ BadHeader m size → {d : Decided} {taken : ℕ} {location : Location} {after : List ℕ} → taken ≡ size - held → location ≡ location_for held
          → after ≡ completed hold held piece size → d ≡ ended_with (number_of m) taken location size 0 true → Decides from s d hold piece after
      header-decides {m} {size} e et ep ea q =
          let b = cut-bad (link_of from s) (held_bytes from s hold ++ piece) (sym cut-is ∙ ap told e) in
          rw (q, et, ep, ea, ed) (header-call from s hold piece is-ready (number_of m) b.0 size b.1)

  pub cuts : {kind head size : ℕ} → c ≡ WholePacket kind head size → Cuts l (take held hold ++ piece) kind head size
  cuts e = cut-whole l (take held hold ++ piece) (ap (λ (b : List ℕ). cut_for l (b ++ piece)) (sym eb) ∙ sym ec ∙ ap told e)
