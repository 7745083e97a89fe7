-- Demand 3 holds of every wire layer, reader and writer that have the laws, from every state that it starts from (`demand3`).
-- By induction over the writer's calls, what they put out is the bytes of a list of accepted packets (`wrote`). What a list of reader calls does
-- with such bytes is `runs`, here from a state with nothing held; that these bytes belong to no other list is `apart` and `begins`.
-- Assumes nothing.
use Rattle.std.specs.Prelude.{ℕ, ◌-◌, ◌≡◌, Bool, cond, leb}
use Rattle.std.proofs.Common.{arith, sym, ◌∙◌, subst}
use Rattle.std.proofs.Math.Path.{refl, ap}
use mathlib.Core.List.{List, [], ◌∷◌, ◌++◌}
use Rattle.std.proofs.Math.Bool.{true, false}
use Rattle.std.proofs.Math.ListN.{length}
use Rattle.std.proofs.Math.Dec.{eqb}
use borrow.Author.Tests.{eqb-true}
use Rattle.wire.specs.Wire.{Wire, WireLaws}
use Rattle.wire.specs.Prefix.{all_bytes, AllAccepted}
use Rattle.wire.proofs.Prefix.{begins, apart}
use Rattle.wire.specs.Reader.{Reader, ReaderLaws, Writer, WriterLaws, Call, Step, run, outs, taken, Cuts, within, Steady, AllAbsent, accepted, joined, Start, Read, Demand3}
use Rattle.wire.proofs.Calls.{Shown, begun-none, runs}

module _ (N : Wire) (W : WireLaws N) (k : N.K) where
  -- no packet within n bytes of accepted ones has a field that is not shared
  all-absent : (n : ℕ) (ps : List N.P) → AllAccepted N k ps → AllAbsent N k (within N k n ps)
  unfolding within
  all-absent n [] a = tt
  all-absent n (p ∷ ps) a = go (leb (length (N.encode k p)) n) (all-absent (n - length (N.encode k p)) ps a.1)
    where
      go : (b : Bool) → AllAbsent N k (within N k (n - length (N.encode k p)) ps)
          → AllAbsent N k (cond b (p ∷ within N k (n - length (N.encode k p)) ps) [])
      go true ih = (W.absent k p a.0, ih)
      go false ih = tt

module _ (N : Wire) (W : WireLaws N) (R : Reader N) (Q : ReaderLaws N R) (x : R.X) (s : Start N R x) (Y : Writer N) (Z : WriterLaws N (R.ctx x) Y) where
  -- the calls with number 0 have accepted packets, and put out their bytes
  wrote : (ws : List Y.W) → AllAccepted N (R.ctx x) (accepted N Y ws) × (joined N Y ws ≡ all_bytes N (R.ctx x) (accepted N Y ws))
  unfolding accepted joined all_bytes
  wrote [] = (tt, refl)
  wrote (w ∷ ws) = go (eqb (Y.number w) 0) refl (wrote ws)
    where
      go : (b : Bool) → eqb (Y.number w) 0 ≡ b
          → AllAccepted N (R.ctx x) (accepted N Y ws) × (joined N Y ws ≡ all_bytes N (R.ctx x) (accepted N Y ws))
          → AllAccepted N (R.ctx x) (accepted N Y (w ∷ ws)) × (joined N Y (w ∷ ws) ≡ all_bytes N (R.ctx x) (accepted N Y (w ∷ ws)))
      go true e ih =
          let z : Y.number w ≡ 0 = eqb-true _ _ e in
          rw (e, Z.bytes w z)
          ((Z.checked w z, ih.0), ap (λ (r : List ℕ). N.encode (R.ctx x) (Y.packet w) ++ r) ih.1)
      go false e ih = rw e ih

  -- the calls begin with nothing held, and all of the packets still to come out
  reads : (ws : List Y.W) (cs : List (Call N R)) → Cuts N R (run N R x cs) (joined N Y ws)
      → Read N R (R.ctx x) (accepted N Y ws) (run N R x cs)
  reads ws cs cuts =
      let h = wrote ws in
      let k : N.K = R.ctx x in
      let ps : List N.P = accepted N Y ws in
      let ts : List (Step N R) = run N R x cs in
      let r : Shown N R k ps (length (R.held x)) ts =
      runs N W k R Q cs x ps (joined N Y ws)
      (record {
        ctx = refl;
        sound = s.sound;
        all = h.0;
        begun = begun-none N W k ps (R.held x) s.fresh h.0;
        bytes = rw s.fresh h.1;
      })
      cuts in
      let z : length (R.held x) ≡ 0 = ap length s.fresh in
      let o : outs N R ts ≡ within N k (taken N R ts) ps = r.out ∙ ap (λ (m : ℕ). within N k m ps) (omega arith) in
      record {
        out = o;
        absent = subst (AllAbsent N k) (sym o) (all-absent N W k (taken N R ts) ps h.0);
        steady = subst (λ (m : ℕ). Steady N R k ps m ts) z r.steady;
      }

  -- for the last two, equal bytes put out are equal bytes of accepted packets
  pub demand3 : Demand3 N R Y x
  demand3 =
      record {
        read = reads;
        unshared = Z.unshared;
        unsuited = Z.unsuited;
        apart =
            λ vs ws e. apart N W (R.ctx x) (accepted N Y vs) (accepted N Y ws) (wrote vs).0 (wrote ws).0
            (sym (wrote vs).1 ∙ e ∙ (wrote ws).1);
        begins =
            λ vs ws rest e. begins N W (R.ctx x) (accepted N Y vs) (accepted N Y ws) rest (wrote vs).0 (wrote ws).0
            (sym (wrote vs).1 ∙ e ∙ ap (λ (l : List ℕ). l ++ rest) (wrote ws).1);
      }
