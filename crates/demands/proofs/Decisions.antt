-- Two decisions of one call by one session are the same (`decided-alike`), and so are two packets that are handed out of one outcome
-- (`same-handed`): what the packet says and the part that it names decide it (`same-packet`).
-- The outcome has the answer, and, as no change moves them (`stays`), the bytes held and the stop; the change is given.
-- Assumes nothing.
use Rattle.std.specs.Prelude.{Some, None}
use Prim.Native.Nat.{ℕ}
use mathlib.Core.List.{List}
use Rattle.std.proofs.lemmas.Option.{none-some, same_Some}
use mathlib.Core.Path.{◌≡◌, refl, sym, ap, ◌∙◌}
use lib.ListN.{drop}
use Rattle.header.specs.declared.Side.{Side}
use Rattle.header.specs.declared.Side.TheVariants.{Guest, Host}
use Rattle.header.specs.Link.{shared_set}
use Rattle.header.specs.declared.Link.{Link}
use Rattle.device.specs.declared.Head.{Head}
use Rattle.device.specs.declared.Held.{Held}
use Rattle.packet.proofs.Same.{same-packet}
use Rattle.decoder.specs.Reading.{PacketTold}
use Rattle.checks.specs.declared.Change.{Change}
use Rattle.checks.specs.declared.Change.TheVariants as changes
use Rattle.session.specs.declared.Session.{Session}
use Rattle.session.specs.Session.{link_of, held_to, count_as}
use Rattle.session.specs.Step.{applied, head_after}
use Rattle.gate.specs.Verdict.{handed_as}
use Rattle.gate.specs.Offer.{Outcome}
use Rattle.gate.specs.Verdict.{Handed}
use Rattle.gate.specs.declared.Decided.{Decided}
use Rattle.gate.specs.Decide.{outcome_by, Decides}

-- what is handed out, of any two runs of bytes
pub same-handed : (l : Link) (b c : List ℕ) (h k : Handed) → handed_as l b h ≡ handed_as l c k → h ≡ k
same-handed l b c None None e = refl
same-handed l b c None (Some (h, p)) e = absurd (none-some _ e)
same-handed l b c (Some (h, p)) None e = absurd (none-some _ (sym e))
same-handed l b c (Some (h, p)) (Some (k, q)) e =
    let o = same_Some _ _ e in
    let s : p ≡ q = same-packet (shared_set l) h.id k.id p q (drop h.size b) (drop k.size c) (ap (λ (x : PacketTold). x.content) o) (ap (λ (x : PacketTold). x.rows) o) (ap (λ (x : PacketTold). x.rest) o) in
    λ i. Some ((o i).header, s i)

-- ---- a decision

-- no change moves the held bytes or the stop
stays : (h : Head) (from : Side) (c : Change) → ((head_after h from c).held ≡ h.held) × ((head_after h from c).stopped ≡ h.stopped)
stays h from changes.NoChange = (refl, refl)
stays h from (changes.Seen e id) = (refl, refl)
stays h from (changes.Hello word) = (refl, refl)
stays h from changes.Connect = (refl, refl)
stays h from changes.Interfaces = (refl, refl)
stays h from changes.Endpoints = (refl, refl)
stays h from changes.Disconnect = (refl, refl)
stays h from changes.Reset = (refl, refl)
stays h from changes.Acknowledge = (refl, refl)
stays h from (changes.Take i q) = (refl, refl)
stays h from (changes.TakeAndOpen i q typed) = (refl, refl)
stays h from (changes.Release i typed stream scope) = (refl, refl)

same_count : (from : Side) (h : Held) (n m : ℕ) → count_as from n h ≡ count_as from m h → n ≡ m
same_count Guest h n m e = ap (λ (x : Held). x.guest) e
same_count Host h n m e = ap (λ (x : Held). x.host) e

module _ (from : Side) (s : Session) (piece after : List ℕ) where
  -- the bytes held and the stop
  same-left : (d k : Decided) → outcome_by from s d piece after ≡ outcome_by from s k piece after → (d.held ≡ k.held) × (d.stopped ≡ k.stopped)
  unfolding outcome_by applied
  same-left d k e =
      let x = stays (held_to from d.held d.stopped s.head) from d.change in
      let y = stays (held_to from k.held k.stopped s.head) from k.change in (
        same_count from s.head.held d.held k.held (sym x.0 ∙ ap (λ (o : Outcome). o.session.head.held) e ∙ y.0),
        sym x.1 ∙ ap (λ (o : Outcome). o.session.head.stopped) e ∙ y.1,
      )

  same-answer : (d k : Decided) → outcome_by from s d piece after ≡ outcome_by from s k piece after → d.answer ≡ k.answer
  unfolding outcome_by
  same-answer d k e =
      let h = same-handed (link_of from s) _ _ d.answer.handed k.answer.handed (ap (λ (o : Outcome). o.handed) e) in
      λ i. record { number = (e i).number; taken = (e i).taken; location = (e i).location; size = (e i).size; handed = h i }

pub decided-alike : (from : Side) (s : Session) (hold piece after : List ℕ) (d k : Decided) → Decides from s d hold piece after → Decides from s k hold piece after → d ≡ k
decided-alike from s hold piece after d k a b =
    let e = a.comes ∙ sym b.comes in
    let t = same-answer from s piece after d k e in
    let m = same-left from s piece after d k e in
    let c = a.change ∙ sym b.change in
    λ i. record { answer = t i; held = m.0 i; stopped = m.1 i; change = c i }
