-- `rules::zero_at` meets its contract: the first position whose byte is 0, or the length, is where `zero_at` ends.
-- Assumes nothing.
use Rattle.std.specs.Prelude.{ℕ, suc, ◌≡◌, ◌+◌, ◌≤◌, Bool, true, false, cond, not, List, [], ◌∷◌, Some, None, unwrap_or, length, position, nat_lt, eqb, ◌==◌, refl}
use Rattle.std.specs.List.{prefix_len}
use native.Mathlib.Omega.{arith}
use borrow.Author.Rules.{rules}
use borrow.Author.Tests.{ltb-false}
use Rattle.std.proofs.lemmas.Iterator.{YieldsList-from_slice}
use Rattle.std.proofs.lemmas.Iterator.Search.{position_from_yields_List}
use Rattle.std.proofs.Common.{tests}
use Rattle.kinds.specs.Number.{zero_at}
use Rattle.rules.proofs.zero_at.Goals as goal

ends : (s : List ℕ) → prefix_len (λ b. not (b == 0)) s ≡ zero_at s
ends [] = refl
ends (b ∷ s) = go (b == 0) (ends s)
  where
    go : (t : Bool) → prefix_len (λ b. not (b == 0)) s ≡ zero_at s → cond (not t) (1 + prefix_len (λ b. not (b == 0)) s) 0 ≡ cond t 0 (suc (zero_at s))
    go true e = refl
    go false e = omega (arith, e)

within : (s : List ℕ) → zero_at s ≤ length s
within [] = omega arith
within (b ∷ s) = go (eqb b 0) (within s)
  where
    go : (t : Bool) → zero_at s ≤ length s → cond t 0 (suc (zero_at s)) ≤ suc (length s)
    go true h = omega arith
    go false h = omega arith

or_length : (n m : ℕ) → n ≤ m → unwrap_or (cond (nat_lt n m) (Some n) None) m ≡ n
or_length n m h = go (nat_lt n m) (λ t. ltb-false n m t)
  where
    go : (t : Bool) → (t ≡ false → m ≤ n) → unwrap_or (cond t (Some n) None) m ≡ n
    go true e = refl
    go false e = omega (arith, e refl)

pub returns : goal.returns
returns c =
    let s : List ℕ = c.args.s.now in
    let e : c.position.result ≡ position (λ b. b == 0) s = position_from_yields_List (λ b. b == 0) _ _ c.position.result c.position.ensures.ran (YieldsList-from_slice s cc) (λ x b q k. search (rules, tests)) in
    let z : c.unwrap_or.result ≡ zero_at s = rw (c.unwrap_or.ensures, e) (rw (ends s) (or_length (zero_at s) (length s) (within s))) in
    (z, rw z (within s))
