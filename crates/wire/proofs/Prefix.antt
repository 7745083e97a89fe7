-- Where one accepted packet's bytes begin a list of bytes, no other's do (`first`). So different lists of accepted packets have different bytes
-- (`apart`), and one list's bytes begin another's only where the list does (`begins`).
-- A header's own bytes decide its width, its number and its length, whatever follows: so bytes that begin with a packet's are cut behind that
-- packet (`cut-whole`), and fewer bytes are no packet yet (`cut-more`). Two packets that begin one list are cut at one length, have the same
-- bytes, and are read as one packet. Lists go by induction.
-- Assumes nothing: all is proved of every wire layer that has the laws.
use Prim.Native.Nat.{ℕ, ◌+◌, ◌≤◌, ◌<◌}
use native.Mathlib.Omega.{arith}
use Rattle.std.specs.Prelude.{◌≡◌, Bool, take}
use Rattle.std.proofs.Math.Path.{refl, sym, ap}
use Rattle.std.proofs.Common.{◌∙◌, take-append-drop}
use Rattle.std.proofs.Math.Bool.{true, false}
use mathlib.Core.List.{List, [], ◌∷◌, ◌++◌, append_assoc, append-nil, append_cancel_left}
use Rattle.std.proofs.Math.ListN.{length, drop, length-append}
use Rattle.std.proofs.lemmas.List.{take-append-le}
use Rattle.std.proofs.Math.Seq.{take-append_seam}
use Rattle.std.proofs.Math.Dec.{ltb}
use borrow.Author.Tests.{lt-ltb, le-ltb, ltb-false}
use Rattle.frame.specs.Cut.{more, whole, cut_of}
use Rattle.wire.specs.Wire.{Wire, Good, WireLaws, cut}
use Rattle.wire.specs.Prefix.{all_bytes, AllAccepted}

-- of two ways to split one list, the longer first part begins with the shorter one
pub front : (a r e s : List ℕ) → a ++ r ≡ e ++ s → length e ≤ length a → take (length e) a ≡ e
front a r e s q h = sym (take-append-le (length e) a r h) ∙ ap (take (length e)) q ∙ take-append_seam e s

longer : (a r e s : List ℕ) → a ++ r ≡ e ++ s → length e ≤ length a → a ≡ e ++ drop (length e) a
longer a r e s q h = sym (take-append-drop (length e) a) ∙ ap (λ (b : List ℕ). b ++ drop (length e) a) (front a r e s q h)

module _ (N : Wire) (W : WireLaws N) (k : N.K) where
  -- an empty list of bytes is not a packet yet
  pub cut-none : cut N k [] ≡ more
  unfolding cut_of
  cut-none = let h : 0 < N.width k [] = omega (arith, W.wide k []) in rw (lt-ltb 0 (N.width k []) h)

  -- a packet with a round trip has 12 to 32,784 bytes
  pub long : (p : N.P) → Good N k p → 12 ≤ length (N.encode k p)
  long p g = omega (arith, g.size, W.wide k (N.encode k p))

  pub fits : (p : N.P) → Good N k p → length (N.encode k p) ≤ 32784
  fits p g = omega (arith, g.size, W.narrow k (N.encode k p), W.short k (N.encode k p) g.header)

  -- the bytes a with what comes after them, r, are a packet's bytes with what comes after these, s
  module _ (p : N.P) (g : Good N k p) (a r s : List ℕ) (q : a ++ r ≡ N.encode k p ++ s) where
    -- a has fewer bytes than the packet: it is not a packet yet
    pub cut-more : length a < length (N.encode k p) → cut N k a ≡ more
    unfolding cut_of
    cut-more h = go (ltb (length a) (N.width k a)) refl
      where
        go : (b : Bool) → ltb (length a) (N.width k a) ≡ b → cut N k a ≡ more
        go true t = rw t
        go false t =
            let e : List ℕ = N.encode k p in
            let d : List ℕ = drop (length a) e in
            let w : N.width k a ≤ length a = ltb-false (length a) (N.width k a) t in
            let x : e ≡ a ++ d = longer e s a r (sym q) (omega arith) in
            let f : N.width k e ≡ N.width k a = ap (N.width k) x ∙ W.same_width k a d (omega (arith, W.wide k a)) in
            let l : N.length_of e ≡ N.length_of a = ap N.length_of x ∙ W.same_length k a d w in
            let z : N.head_no k a ≡ 0 = sym (ap (N.head_no k) x ∙ W.same_number k a d w) ∙ g.header in
            let n : length a < N.width k a + N.length_of a = omega (arith, g.size) in
            simp (t, z, lt-ltb (length a) (N.width k a + N.length_of a) n)

    -- a has as many or more: it holds a whole packet, of as many bytes as the packet has
    pub cut-whole : length (N.encode k p) ≤ length a → cut N k a ≡ whole (length (N.encode k p))
    unfolding cut_of
    cut-whole h =
        let e : List ℕ = N.encode k p in
        let d : List ℕ = drop (length e) a in
        let v : N.width k e ≤ length e = omega (arith, g.size) in
        let x : a ≡ e ++ d = longer a r e s q h in
        let f : N.width k a ≡ N.width k e = ap (N.width k) x ∙ W.same_width k e d (long p g) in
        let l : N.length_of a ≡ N.length_of e = ap N.length_of x ∙ W.same_length k e d v in
        let z : N.head_no k a ≡ 0 = ap (N.head_no k) x ∙ W.same_number k e d v ∙ g.header in
        let w : N.width k a ≤ length a = omega arith in
        let n : N.width k a + N.length_of a ≡ length e = omega (arith, g.size) in
        simp (le-ltb (length a) (N.width k a) w, z, n, le-ltb (length a) (length e) h)

  -- where the bytes of two accepted packets begin one list, the packets are the same, and so is what follows
  pub first : (p q : N.P) (s t : List ℕ) → N.Accepted k p → N.Accepted k q → N.encode k p ++ s ≡ N.encode k q ++ t → (p ≡ q) × (s ≡ t)
  first p q s t hp hq e =
      let gp : Good N k p = W.good k p hp in
      let gq : Good N k q = W.good k q hq in
      let a : List ℕ = N.encode k p ++ s in
      let cp : cut N k a ≡ whole (length (N.encode k p)) =
      cut-whole p gp a [] s (append-nil a) (omega (arith, length-append (N.encode k p) s)) in
      let cq : cut N k a ≡ whole (length (N.encode k q)) =
      cut-whole q gq a [] t (append-nil a ∙ e) (omega (arith, ap length e, length-append (N.encode k q) t)) in
      let n : length (N.encode k p) ≡ length (N.encode k q) = cc in
      let b : N.encode k p ≡ N.encode k q =
      sym (take-append_seam (N.encode k p) s)
      ∙ ap (λ (m : ℕ). take m a) n
      ∙ ap (take (length (N.encode k q))) e
      ∙ take-append_seam (N.encode k q) t in (
        sym gp.back ∙ ap (N.decode k) b ∙ gq.back,
        append_cancel_left (N.encode k q) s t (ap (λ (l : List ℕ). l ++ s) (sym b) ∙ e),
      )

  -- two accepted packets with the same bytes are the same
  pub same : (p q : N.P) → N.Accepted k p → N.Accepted k q → N.encode k p ≡ N.encode k q → p ≡ q
  same p q hp hq e = (first p q [] [] hp hq (ap (λ (b : List ℕ). b ++ []) e)).0

  -- no accepted packet's bytes begin another's
  pub not-begun : (p q : N.P) (s : List ℕ) → N.Accepted k p → N.Accepted k q → N.encode k p ++ s ≡ N.encode k q → (p ≡ q) × (s ≡ [])
  not-begun p q s hp hq e = first p q s [] hp hq (e ∙ sym (append-nil (N.encode k q)))

  -- where the bytes of accepted packets qs begin those of accepted packets ps, the list qs begins the list ps
  pub begins : (ps qs : List N.P) (rest : List ℕ) → AllAccepted N k ps → AllAccepted N k qs → all_bytes N k ps ≡ all_bytes N k qs ++ rest
      → (more : List N.P) × (ps ≡ qs ++ more)
  unfolding all_bytes
  begins ps [] rest hp hq e = (ps, refl)
  begins [] (q ∷ qs) rest hp hq e = absurd (omega (arith, simp length-append at (ap length e), long q (W.good k q hq.0)))
  begins (p ∷ ps) (q ∷ qs) rest hp hq e =
      let f = first p q (all_bytes N k ps) (all_bytes N k qs ++ rest) hp.0 hq.0 (e ∙ append_assoc (N.encode k q) (all_bytes N k qs) rest) in
      let ih = begins ps qs rest hp.1 hq.1 f.1 in
      (ih.0, cc (f.0, ih.1))

  -- two lists of accepted packets with the same bytes are the same
  pub apart : (ps qs : List N.P) → AllAccepted N k ps → AllAccepted N k qs → all_bytes N k ps ≡ all_bytes N k qs → ps ≡ qs
  unfolding all_bytes
  apart [] [] hp hq e = refl
  apart [] (q ∷ qs) hp hq e = absurd (omega (arith, simp length-append at (ap length e), long q (W.good k q hq.0)))
  apart (p ∷ ps) [] hp hq e = absurd (omega (arith, simp length-append at (ap length e), long p (W.good k p hp.0)))
  apart (p ∷ ps) (q ∷ qs) hp hq e =
      let f = first p q (all_bytes N k ps) (all_bytes N k qs) hp.0 hq.0 e in
      cc (f.0, apart ps qs hp.1 hq.1 f.1)
