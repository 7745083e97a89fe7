-- What it tells of bytes that they are more, bad or whole (`more-is`, `bad-is`, `whole_is`): how long they are, and that of bytes which become a
-- packet with what follows them, fewer are there than the packet has (`more-less`, `more-head`).
-- By the three tests of `cut_of` (`by_tests`). Every header has 12 bytes at least. From 12 bytes on its width does not change with what follows,
-- nor, once it is whole, its number and its length: so what the bytes become is longer than they are.
-- Assumes nothing: all is proved of every wire layer that has the laws.
use Rattle.std.specs.Prelude.{ℕ, ◌+◌, ◌≤◌, ◌<◌, ◌≡◌, Bool, List, ◌++◌, length}
use Rattle.std.proofs.Common.{arith, sym, ap, ◌∙◌, inl, inr, length-append, ltb-true, ltb-false, eqb-true, eq-eqb}
use Rattle.std.proofs.Math.Decide.{dec_lt}
use Rattle.std.proofs.Math.Path.{refl}
use Rattle.std.proofs.Math.Bool.{true, false, true≢false}
use Rattle.std.proofs.Math.Dec.{ltb, eqb}
use Rattle.frame.specs.Cut.{Cut, more, bad, whole, cut_of}
use Rattle.wire.specs.Wire.{Wire, WireLaws, cut}
use Rattle.wire.specs.Told.{IsWhole, IsBad, IsMore}

module _ (N : Wire) (k : N.K) (b : List ℕ) where
  -- which of the three, by the tests that decide it
  by_tests : (P : Cut → Type 0)
      → (length b < N.width k b → P more)
      → (N.width k b ≤ length b → (N.head_no k b ≡ 0 → ⊥) → P (bad (N.head_no k b)))
      → (N.head_no k b ≡ 0 → length b < N.width k b + N.length_of b → P more)
      → (N.head_no k b ≡ 0 → N.width k b + N.length_of b ≤ length b → P (whole (N.width k b + N.length_of b)))
      → P (cut N k b)
  unfolding cut_of
  by_tests P short refused part full = go (ltb (length b) (N.width k b)) refl (eqb (N.head_no k b) 0) refl (ltb (length b) (N.width k b + N.length_of b)) refl
    where
      go : (x : Bool) → ltb (length b) (N.width k b) ≡ x → (y : Bool) → eqb (N.head_no k b) 0 ≡ y → (z : Bool) → ltb (length b) (N.width k b + N.length_of b) ≡ z → P (cut N k b)
      go true ex y ey z ez = rw ex (short (ltb-true _ _ ex))
      go false ex false ey z ez = rw (ex, ey) (refused (ltb-false _ _ ex) (λ e. true≢false (sym (eq-eqb _ _ e) ∙ ey)))
      go false ex true ey true ez = rw (ex, ey, ez) (part (eqb-true _ _ ey) (ltb-true _ _ ez))
      go false ex true ey false ez = rw (ex, ey, ez) (full (eqb-true _ _ ey) (ltb-false _ _ ez))

  pub whole_is : (n : ℕ) → cut N k b ≡ whole n → IsWhole N k b n
  whole_is n =
      by_tests (λ c. c ≡ whole n → IsWhole N k b n)
      (λ _ e. let z : ◌≡◌ {A = ℕ} 0 1 = cc in absurd (omega arith))
      (λ _ _ e. let z : ◌≡◌ {A = ℕ} 0 1 = cc in absurd (omega arith))
      (λ _ _ e. let z : ◌≡◌ {A = ℕ} 0 1 = cc in absurd (omega arith))
      (λ z l e. let q : N.width k b + N.length_of b ≡ n = cc in record { header = z; size = sym q; there = omega arith })

  pub bad-is : (n : ℕ) → cut N k b ≡ bad n → IsBad N k b n
  bad-is n =
      by_tests (λ c. c ≡ bad n → IsBad N k b n)
      (λ _ e. let z : ◌≡◌ {A = ℕ} 0 1 = cc in absurd (omega arith))
      (λ l r e. let q : N.head_no k b ≡ n = cc in record { number = q; refused = λ z. r (q ∙ z); there = l })
      (λ _ _ e. let z : ◌≡◌ {A = ℕ} 0 1 = cc in absurd (omega arith))
      (λ _ _ e. let z : ◌≡◌ {A = ℕ} 0 1 = cc in absurd (omega arith))

  more-is : cut N k b ≡ more → IsMore N k b
  more-is =
      by_tests (λ c. c ≡ more → IsMore N k b)
      (λ l e. inl l)
      (λ _ _ e. let z : ◌≡◌ {A = ℕ} 0 1 = cc in absurd (omega arith))
      (λ z l e. inr (z, l))
      (λ _ _ e. let z : ◌≡◌ {A = ℕ} 0 1 = cc in absurd (omega arith))

module _ (N : Wire) (W : WireLaws N) (k : N.K) where
  -- 43: "a held count over 32,783": fewer bytes than the longest packet has
  pub more-short : (b : List ℕ) → cut N k b ≡ more → length b ≤ 32783
  more-short b e = go (more-is N k b e)
    where
      go : IsMore N k b → length b ≤ 32783
      go (inl l) = omega (arith, W.narrow k b)
      go (inr h) = omega (arith, W.narrow k b, W.short k b h.0, h.1)

  -- a packet has 12 to 32,784 bytes
  pub whole-fits : (b : List ℕ) (n : ℕ) → cut N k b ≡ whole n → (12 ≤ n) × (n ≤ 32784)
  whole-fits b n e =
      let w = whole_is N k b n e in
      (omega (arith, w.size, W.wide k b), omega (arith, w.size, W.narrow k b, W.short k b w.header))

  module _ (a r : List ℕ) (m : cut N k a ≡ more) where
    -- the bytes a are not a packet yet, and with r behind them they are one of n bytes
    pub more-less : (n : ℕ) → cut N k (a ++ r) ≡ whole n → length a < n
    more-less n e =
        let w = whole_is N k (a ++ r) n e in
        elim (dec_lt (length a) 12) [
          | yes h ↦ omega (arith, w.size, W.wide k (a ++ r))
          | no h ↦ long w (omega arith) (more-is N k a m)
        ]
      where
        long : IsWhole N k (a ++ r) n → 12 ≤ length a → IsMore N k a → length a < n
        long w h (inl l) = omega (arith, w.size, W.same_width k a r h)
        long w h (inr l) = elim (dec_lt (length a) (N.width k a)) [
          | yes g ↦ omega (arith, w.size, W.same_width k a r h)
          | no g ↦ omega (arith, w.size, W.same_width k a r h, W.same_length k a r (omega arith), l.1)
        ]

    -- with r behind them they are a header that is refused
    pub more-head : (n : ℕ) → cut N k (a ++ r) ≡ bad n → length a < N.width k (a ++ r)
    more-head n e =
        let w = bad-is N k (a ++ r) n e in
        elim (dec_lt (length a) 12) [
          | yes h ↦ omega (arith, W.wide k (a ++ r))
          | no h ↦ long w (omega arith) (more-is N k a m)
        ]
      where
        long : IsBad N k (a ++ r) n → 12 ≤ length a → IsMore N k a → length a < N.width k (a ++ r)
        long w h (inl l) = omega (arith, W.same_width k a r h)
        long w h (inr l) = elim (dec_lt (length a) (N.width k a)) [
          | yes g ↦ omega (arith, W.same_width k a r h)
          | no g ↦ absurd (w.refused (sym w.number ∙ W.same_number k a r (omega arith) ∙ l.0))
        ]

  module _ (a r : List ℕ) where
    -- what follows a refused header or a whole packet changes neither
    pub bad-stays : (n : ℕ) → cut N k a ≡ bad n → cut N k (a ++ r) ≡ bad n
    bad-stays n e =
        let b = bad-is N k a n e in
        let w : 12 ≤ length a = omega (arith, b.there, W.wide k a) in
        let q : N.head_no k (a ++ r) ≡ n = W.same_number k a r b.there ∙ b.number in
        by_tests N k (a ++ r) (λ c. c ≡ bad n)
        (λ h. absurd (omega (arith, h, b.there, W.same_width k a r w, length-append a r)))
        (λ _ _. ap bad q)
        (λ z _. absurd (b.refused (sym q ∙ z)))
        (λ z _. absurd (b.refused (sym q ∙ z)))

    pub whole-stays : (n : ℕ) → cut N k a ≡ whole n → cut N k (a ++ r) ≡ whole n
    whole-stays n e =
        let b = whole_is N k a n e in
        let w : 12 ≤ length a = omega (arith, b.there, b.size, W.wide k a) in
        let h : N.width k a ≤ length a = omega (arith, b.there, b.size) in
        let q : N.head_no k (a ++ r) ≡ 0 = W.same_number k a r h ∙ b.header in
        let m : N.width k (a ++ r) + N.length_of (a ++ r) ≡ n = omega (arith, b.size, W.same_width k a r w, W.same_length k a r h) in
        by_tests N k (a ++ r) (λ c. c ≡ whole n)
        (λ g. absurd (omega (arith, g, h, W.same_width k a r w, length-append a r)))
        (λ _ z. absurd (z q))
        (λ _ g. absurd (omega (arith, g, m, b.there, length-append a r)))
        (λ _ _. ap whole m)
