-- All that the checks go by is the same of a packet's event and of its kind's number (`agrees`).
-- A line for each kind and each end that may send it, by computation, whatever its id and fields (`every-kind-agrees`); the host's interrupt packets
-- also go by their direction. What holds for every kind of the table holds for the one that is found by its number, by induction over the table
-- (`found-kind`).
-- Assumes nothing.
use Rattle.std.specs.Prelude.{Some}
use Prim.Native.Nat.{ℕ}
use mathlib.Core.Bool.{true, false≢true}
use mathlib.Core.List.{List, [], ◌∷◌}
use Rattle.std.proofs.lemmas.Option.{none-some, same_Some}
use mathlib.Core.Path.{◌≡◌, refl, sym, ap, subst, ◌∙◌}
use lib.Dec.{eqb}
use borrow.Author.Tests.{eqb-true}
use borrow.Table.Steps.{cases}
use Rattle.header.specs.declared.Side.{Side}
use Rattle.header.specs.declared.Side.TheVariants.{Guest, Host}
use Rattle.kinds.specs.Table.{G, H, Kind, kinds}
use Rattle.kinds.specs.Content.{Value, find, packet_of}
use Rattle.kinds.specs.Codec.{layout}
use Rattle.kinds.specs.Number.{sends}
use Rattle.events.specs.Meaning.{meanings}
use Rattle.events.specs.Event.{meaning_of, event_of}
use Rattle.claims.specs.Allowed.{inward_of}
use Rattle.claims.specs.Grounds.{grounds_of, grounds_by, Agrees}

-- ---- what holds for each kind of the table, from whoever may send it

infixr 40 ◌also◌
pub ◌also◌ : {A B : Type 0} → A → B → A × B
a also b = (a, b)

module _ (P : Side → ℕ → Type 0) where
  abbrev pub HoldsFor : Kind → Type 0
  HoldsFor k = (from : Side) → sends k.sender from ≡ true → P from k.number

  abbrev pub Every : List Kind → Type 0
  Every [] = Unit {0}
  Every (k ∷ ks) = HoldsFor k × Every ks

  pub by-guest : (n : ℕ) → P Guest n → (from : Side) → sends G from ≡ true → P from n
  by-guest n a Guest h = a
  by-guest n a Host h = absurd (false≢true h)

  pub by-host : (n : ℕ) → P Host n → (from : Side) → sends H from ≡ true → P from n
  by-host n a Guest h = absurd (false≢true h)
  by-host n a Host h = a

  pub by_both : (n : ℕ) → P Guest n → P Host n → (from : Side) → true ≡ true → P from n
  by_both n a b Guest h = a
  by_both n a b Host h = b

  -- what holds for every kind of a list holds for the one that is found by its number
  pub found-kind : (ks : List Kind) (n : ℕ) (k : Kind) → find n ks ≡ Some k → Every ks → (from : Side) → sends k.sender from ≡ true → P from n
  found-kind [] n k e a = absurd (none-some k e)
  found-kind (x ∷ ks) n k e a = cases (eqb n x.number) here (λ t. found-kind ks n k (sym (rw t) ∙ e) a.1)
    where
      here : eqb n x.number ≡ true → (from : Side) → sends k.sender from ≡ true → P from n
      here t from h =
          let q : x ≡ k = same_Some x k (sym (rw t) ∙ e) in
          subst (λ (m : ℕ). P from m) (sym (eqb-true n x.number t)) (a.0 from (ap (λ (y : Kind). sends y.sender from) q ∙ h))

-- ---- the two agree

-- for packets of a kind from one side
abbrev KindAgrees : Side → ℕ → Type 0
KindAgrees from n = (id : ℕ) (vs : List Value) (rest : List ℕ) → grounds_of (event_of from (packet_of n id vs rest)) ≡ grounds_by from (packet_of n id vs rest)

interrupt-agrees : KindAgrees Host 103
unfolding meaning_of event_of meanings layout kinds
interrupt-agrees id vs rest = cases (inward_of (packet_of 103 id vs rest)) (λ t. rw t) (λ t. rw t)

-- a line for each kind, by computation
every-kind-agrees : Every KindAgrees kinds
unfolding meaning_of event_of meanings layout kinds
every-kind-agrees =
    by_both KindAgrees 0 (λ id vs rest. refl) (λ id vs rest. refl)
    also by-host KindAgrees 1 (λ id vs rest. refl)
    also by-host KindAgrees 2 (λ id vs rest. refl)
    also by-guest KindAgrees 3 (λ id vs rest. refl)
    also by-host KindAgrees 4 (λ id vs rest. refl)
    also by-host KindAgrees 5 (λ id vs rest. refl)
    also by-guest KindAgrees 6 (λ id vs rest. refl)
    also by-guest KindAgrees 7 (λ id vs rest. refl)
    also by-host KindAgrees 8 (λ id vs rest. refl)
    also by-guest KindAgrees 9 (λ id vs rest. refl)
    also by-guest KindAgrees 10 (λ id vs rest. refl)
    also by-host KindAgrees 11 (λ id vs rest. refl)
    also by-guest KindAgrees 12 (λ id vs rest. refl)
    also by-guest KindAgrees 13 (λ id vs rest. refl)
    also by-host KindAgrees 14 (λ id vs rest. refl)
    also by-guest KindAgrees 15 (λ id vs rest. refl)
    also by-guest KindAgrees 16 (λ id vs rest. refl)
    also by-host KindAgrees 17 (λ id vs rest. refl)
    also by-guest KindAgrees 18 (λ id vs rest. refl)
    also by-guest KindAgrees 19 (λ id vs rest. refl)
    also by-host KindAgrees 20 (λ id vs rest. refl)
    also by-guest KindAgrees 21 (λ id vs rest. refl)
    also by-guest KindAgrees 22 (λ id vs rest. refl)
    also by_both KindAgrees 23 (λ id vs rest. refl) (λ id vs rest. refl)
    also by-guest KindAgrees 24 (λ id vs rest. refl)
    also by-guest KindAgrees 25 (λ id vs rest. refl)
    also by-guest KindAgrees 26 (λ id vs rest. refl)
    also by-host KindAgrees 27 (λ id vs rest. refl)
    also by_both KindAgrees 100 (λ id vs rest. refl) (λ id vs rest. refl)
    also by_both KindAgrees 101 (λ id vs rest. refl) (λ id vs rest. refl)
    also by_both KindAgrees 102 (λ id vs rest. refl) (λ id vs rest. refl)
    also by_both KindAgrees 103 (λ id vs rest. refl) interrupt-agrees
    also by-host KindAgrees 104 (λ id vs rest. refl)
    also tt

pub agrees : Agrees
agrees from p k e h = found-kind KindAgrees kinds p.kind k e every-kind-agrees from h p.id p.fields p.rest
