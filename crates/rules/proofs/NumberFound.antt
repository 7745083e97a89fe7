-- A packet's number, from what the code finds of it (`number`).
-- Both are `in_order` of five tests, and `Finds` makes each test of the content that of the findings. The rules are found only where the size is
-- right; where it is not, 23 holds, and 24 and 13 behind it are not asked.
-- Assumes nothing.
use Rattle.std.specs.Prelude.{Option, Some, None, is_some}
use Prim.Native.Nat.{ℕ, ◌^◌, ◌<◌}
use mathlib.Core.Path.{◌≡◌, refl, sym, ap, ◌∙◌}
use mathlib.Core.Bool.{Bool, true, false, cond, not, ◌&&◌, ◌||◌}
use mathlib.Core.List.{List}
use lib.Dec.{eqb, leb}
use Rattle.octets.specs.Bits.{has_bit}
use Rattle.header.specs.declared.Link.{Link}
use Rattle.header.specs.Link.{shared_set, id_width}
use Rattle.kinds.specs.Table.{Kind, kinds, kind_at}
use Rattle.kinds.specs.Content.{Content, shared, find}
use Rattle.kinds.specs.Number.{sends, wide_id, bad, is_none, in_order, kind_number, by_kind, wire_number}
use Rattle.kinds.proofs.FieldBytes.{wide-id}
use Rattle.kinds.specs.Slots.{found, only-hello}
use Rattle.packet.specs.declared.Packet.{Packet}
use Rattle.packet.specs.Packet.{content_of}
use Rattle.rules.specs.declared.Findings.{Findings}
use Rattle.rules.specs.Findings.{Finds}

none-bad : (o : Option ℕ) → not (is_none o) ≡ is_some o
none-bad None = refl
none-bad (Some a) = refl

-- the number by the slot, the id and the findings
abbrev pub number_by : Link → ℕ → ℕ → Findings → ℕ
number_by l slot id f =
    in_order (not (sends (kind_at slot).sender l.sender))
    (not (shared (shared_set l) (kind_at slot).needs) || f.surplus || (not (eqb slot 0) && not (has_bit (shared_set l) 5) && leb 4294967296 id))
    (not f.sized)
    (is_some f.fault)
    f.alone

pub number : (l : Link) (id : ℕ) (p : Packet) (body : List ℕ) (f : Findings) → id < 256 ^ 8 → Finds l.sender (shared_set l) id p body f
    → wire_number l (content_of (shared_set l) id p body) ≡ number_by l f.slot id f
unfolding wire_number kind_number content_of id_width
number l id p body f small s = ap (λ (o : Option Kind). by_kind l o q) known ∙ go f.sized refl
  where
    caps : ℕ
    caps = shared_set l

    q : Content
    q = content_of (shared_set l) id p body

    k : Kind
    k = kind_at f.slot

    known : find q.kind kinds ≡ Some k
    known = ap (λ (m : ℕ). find m kinds) (sym s.kind) ∙ found f.slot s.small

    hello : eqb q.kind 0 ≡ eqb f.slot 0
    hello = ap (λ (m : ℕ). eqb m 0) (sym s.kind) ∙ only-hello f.slot s.small

    wide : wide_id l q ≡ (not (eqb f.slot 0) && not (has_bit caps 5) && leb 4294967296 id)
    wide =
        ap (λ (b : Bool). not b && leb (256 ^ cond (not b && has_bit caps 5) 8 4) id) hello
        ∙ wide-id (eqb f.slot 0) (has_bit caps 5) id small

    go : (t : Bool) → f.sized ≡ t → kind_number l k q ≡ number_by l f.slot id f
    go true t =
        let kept : not (is_none (bad l.sender caps k q)) ≡ is_some f.fault = none-bad (bad l.sender caps k q) ∙ ap is_some (sym (s.fault t)) in
        λ i. in_order (not (sends k.sender l.sender)) (not (shared caps k.needs) || sym s.surplus i || wide i) (not (sym s.sized i)) (kept i) (sym s.alone i)
    go false t =
        (λ i. in_order (not (sends k.sender l.sender)) (not (shared caps k.needs) || sym s.surplus i || wide i) (not (sym s.sized i))
        (not (is_none (bad l.sender caps k q))) (sym s.alone i))
        ∙ rw t
