-- Zeros behind a list change no number of it (`padded-at`), a number that may not be there is 0 in the code's list as in the content
-- (`numbers_of_lem`), and the columns of a row are those of the row that it is (`interface-cell`, `endpoint-cell`).
-- Past its end a list reads as 0: by induction over the list and the index. A number that may not be there goes by its two cases; a row is
-- replaced by its equal.
-- Assumes nothing.
use Rattle.std.specs.Prelude.{Option}
use mathlib.Core.Path.{◌≡◌, refl, ap, ◌∙◌}
use mathlib.Core.List.{List, [], ◌∷◌, map}
use Prim.Native.Nat.{ℕ, zero, suc, ◌≤◌}
use native.Mathlib.Omega.{arith}
use lib.ListN.{length, get_or}
use Rattle.kinds.specs.Content.{first_number, padded}
use Rattle.packet.proofs.Names.{first-single}
use Rattle.packet.specs.Packet.{single}
use Rattle.packet.specs.Fields.{or_zero}
use Rattle.packet.specs.declared.InterfaceRow.{InterfaceRow}
use Rattle.packet.specs.declared.EndpointRow.{EndpointRow}

-- ---- numbers with zeros behind them

zeros : (k i : ℕ) → get_or (padded k []) i 0 ≡ 0
zeros zero i = refl
zeros (suc k) zero = refl
zeros (suc k) (suc i) = zeros k i

pub padded-at : (k : ℕ) (xs : List ℕ) (i : ℕ) → length xs ≤ k → get_or (padded k xs) i 0 ≡ get_or xs i 0
padded-at k [] i h = zeros k i
padded-at zero (x ∷ xs) i h = absurd (omega (arith, h))
padded-at (suc k) (x ∷ xs) zero h = refl
padded-at (suc k) (x ∷ xs) (suc i) h = padded-at k xs i (omega (arith, h))

pub numbers_of_lem : (vs : List (Option ℕ)) → map or_zero vs ≡ map first_number (map single vs)
numbers_of_lem [] = refl
numbers_of_lem (v ∷ vs) = rw (← first-single v, numbers_of_lem vs)

-- ---- a row of the code and the row that it is

module _ (i : ℕ) {n : ℕ} where
  pub interface-cell : {r q : InterfaceRow} → r ≡ q → n ≡ get_or (r.interface ∷ r.class ∷ r.subclass ∷ r.protocol ∷ 0 ∷ 0 ∷ 0 ∷ []) i 0
      → n ≡ get_or (q.interface ∷ q.class ∷ q.subclass ∷ q.protocol ∷ 0 ∷ 0 ∷ 0 ∷ []) i 0
  interface-cell e h = h ∙ ap (λ (r : InterfaceRow). get_or (r.interface ∷ r.class ∷ r.subclass ∷ r.protocol ∷ 0 ∷ 0 ∷ 0 ∷ []) i 0) e

  pub endpoint-cell : {r q : EndpointRow} {v w : ℕ} → r ≡ q → v ≡ or_zero r.maxpacket → w ≡ or_zero r.maxstreams
      → n ≡ get_or (r.ty ∷ r.interval ∷ r.interface ∷ v ∷ w ∷ 0 ∷ 0 ∷ []) i 0
      → n ≡ get_or (q.ty ∷ q.interval ∷ q.interface ∷ or_zero q.maxpacket ∷ or_zero q.maxstreams ∷ 0 ∷ 0 ∷ []) i 0
  endpoint-cell e f g h = cc
