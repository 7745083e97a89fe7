-- What a list of reader calls shows, by induction over the list (`runs`): a stopped session, a packet that is not whole, a whole packet, and a
-- call for the other direction.
-- Between two calls (`Between`) the held bytes and those not yet taken are the bytes of the packets that have not come out, and fewer are held
-- than the first of these has. So the held bytes with a piece are less than that packet (`cut-more`) or begin with it (`cut-whole`); the reader's
-- law for the case says what the call does, and that gives `Between` again.
-- Assumes nothing: all is proved of every wire layer and every reader that have the laws.
use Prim.Native.Nat.{ℕ, ◌+◌, ◌-◌, ◌≤◌, ◌<◌, min}
use native.Mathlib.Omega.{arith}
use Rattle.std.proofs.Common.{add_assoc, ◌∙◌, true≢false, le-leb}
use Rattle.std.proofs.Math.Decide.{dec_lt}
use Rattle.std.specs.Prelude.{◌≡◌, Bool, true, false, eqb}
use Rattle.std.proofs.Math.Path.{refl, sym, ap, subst}
use mathlib.Core.List.{List, [], ◌∷◌, ◌++◌, append_assoc}
use Rattle.std.proofs.Math.Bool.{cond}
use Rattle.std.proofs.Math.ListN.{length, take, drop, length-append}
use Rattle.std.proofs.Math.Seq.{drop-append_seam, take-append-add, drop-append-add}
use Rattle.std.proofs.lemmas.Bool.{lt-leb}
use Rattle.frame.specs.Cut.{more}
use Rattle.wire.specs.Wire.{Wire, Good, WireLaws, cut}
use Rattle.wire.specs.Prefix.{all_bytes, AllAccepted}
use Rattle.wire.proofs.Prefix.{front, cut-none, cut-more, cut-whole, long, fits}
use Rattle.wire.specs.Reader.{Reader, Kept, Stopped, Part, Full, Open, ReaderLaws, Call, this-way, other_way, Step, run, comes_out, outs, taken, Cuts, within, left, Steady}

-- ---- lists

-- what is left of rest where held, with what is taken of it, is e
behind : (held rest e s : List ℕ) → held ++ rest ≡ e ++ s → length held ≤ length e → drop (length e - length held) rest ≡ s
behind held rest e s q h =
    let n : length held + (length e - length held) ≡ length e = omega arith in
    sym (drop-append-add held rest (length e - length held))
    ∙ ap (λ (m : ℕ). drop m (held ++ rest)) n
    ∙ ap (drop (length e)) q
    ∙ drop-append_seam e s

-- a packet's bytes are those held and those taken of the piece
joins : (held piece e : List ℕ) → take (length e) (held ++ piece) ≡ e → length held ≤ length e
    → held ++ take (length e - length held) piece ≡ e
joins held piece e q h =
    let n : length held + (length e - length held) ≡ length e = omega arith in
    sym (take-append-add held piece (length e - length held)) ∙ ap (λ (m : ℕ). take m (held ++ piece)) n ∙ q

append-nil-left : {A : Type 0} (a b : List A) → a ++ b ≡ [] → a ≡ []
append-nil-left [] b e = refl
append-nil-left (x ∷ a) b e = absurd (omega (arith, ap length e))

-- a number at which no packet comes out is not 0
not-zero : (n : ℕ) → comes_out n ≡ false → eqb n 0 ≡ false
unfolding comes_out
not-zero n e = go (eqb n 0) refl
  where
    go : (b : Bool) → eqb n 0 ≡ b → eqb n 0 ≡ false
    go true t = absurd (true≢false (simp t at e))
    go false t = t

-- ---- what holds between two calls, and what the calls from there show

-- the held bytes are fewer than the next packet has; none where there is no next
abbrev pub Begun : (N : Wire) → N.K → List N.P → List ℕ → Type 0
Begun N k [] held = held ≡ []
Begun N k (q ∷ qs) held = length held < length (N.encode k q)

-- qs are the packets that have not come out, rest the bytes not yet taken
pub record Between (N : Wire) (R : Reader N) (k : N.K) (x : R.X) (qs : List N.P) (rest : List ℕ) : Type 0 where
  pub ctx : R.ctx x ≡ k
  pub sound : R.Sound x
  pub all : AllAccepted N k qs
  pub begun : Begun N k qs (R.held x)
  pub bytes : R.held x ++ rest ≡ all_bytes N k qs

pub record Shown (N : Wire) (R : Reader N) (k : N.K) (qs : List N.P) (n : ℕ) (ts : List (Step N R)) : Type 0 where
  pub out : outs N R ts ≡ within N k (n + taken N R ts) qs
  pub steady : Steady N R k qs n ts

abbrev pub Runs : (N : Wire) (R : Reader N) → N.K → List (Call N R) → Type 0
Runs N R k cs =
    (x : R.X) (qs : List N.P) (rest : List ℕ) → Between N R k x qs rest → Cuts N R (run N R x cs) rest
    → Shown N R k qs (length (R.held x)) (run N R x cs)

module _ (N : Wire) (W : WireLaws N) (k : N.K) where
  -- ---- packets within n bytes, and what is left of the one under way

  within_none : (p : N.P) (ps : List N.P) (n : ℕ) → n < length (N.encode k p) → within N k n (p ∷ ps) ≡ []
  unfolding within
  within_none p ps n h = rw (lt-leb _ _ h)

  within-past : (p : N.P) (ps : List N.P) (n : ℕ) → within N k (length (N.encode k p) + n) (p ∷ ps) ≡ p ∷ within N k n ps
  unfolding within
  within-past p ps n =
      let h : length (N.encode k p) ≤ length (N.encode k p) + n = omega arith in
      let d : length (N.encode k p) + n - length (N.encode k p) ≡ n = omega arith in
      simp (le-leb _ _ h, d)

  left_here : (p : N.P) (ps : List N.P) (n : ℕ) → n < length (N.encode k p) → left N k n (p ∷ ps) ≡ length (N.encode k p) - n
  unfolding left
  left_here p ps n h = rw (lt-leb _ _ h)

  left-past : (p : N.P) (ps : List N.P) (n : ℕ) → left N k (length (N.encode k p) + n) (p ∷ ps) ≡ left N k n ps
  unfolding left
  left-past p ps n =
      let h : length (N.encode k p) ≤ length (N.encode k p) + n = omega arith in
      let d : length (N.encode k p) + n - length (N.encode k p) ≡ n = omega arith in
      simp (le-leb _ _ h, d)

  -- ---- what is held

  -- it is no whole packet and no refused header, and within 43's bound
  held_more : (qs : List N.P) (held rest : List ℕ) → AllAccepted N k qs → Begun N k qs held → held ++ rest ≡ all_bytes N k qs
      → (cut N k held ≡ more) × (length held ≤ 32783)
  unfolding all_bytes
  held_more [] held rest a b e = rw b (cut-none N W k, omega arith)
  held_more (q ∷ qs) held rest a b e =
      let g : Good N k q = W.good k q a.0 in
      (cut-more N W k q g held rest (all_bytes N k qs) e b, omega (arith, fits N W k q g))

  pub begun-none : (qs : List N.P) (held : List ℕ) → held ≡ [] → AllAccepted N k qs → Begun N k qs held
  begun-none [] held e a = e
  begun-none (q ∷ qs) held e a = omega (arith, ap length e, long N W k q (W.good k q a.0))

  none_yet : (qs : List N.P) (held : List ℕ) → Begun N k qs held → [] ≡ within N k (length held + 0) qs
  unfolding within
  none_yet [] held b = refl
  none_yet (q ∷ qs) held b = sym (within_none q qs (length held + 0) (omega arith))

  module _ (R : Reader N) (Q : ReaderLaws N R) where
    steady-past : (q : N.P) (qs : List N.P) (n : ℕ) (ts : List (Step N R)) → Steady N R k qs n ts
        → Steady N R k (q ∷ qs) (length (N.encode k q) + n) ts
    steady-past q qs n [] s = tt
    steady-past q qs n (t ∷ ts) s = (
      λ r. let z = s.0 r in (z.0 ∙ ap (min (length t.piece)) (sym (left-past q qs n)), z.1),
      s.1,
      rw (add_assoc (length (N.encode k q)) n t.answer.taken) (steady-past q qs (n + t.answer.taken) ts s.2),
    )

    opened : (x : R.X) (qs : List N.P) (rest : List ℕ) → Between N R k x qs rest → R.stopped x ≡ false → Open N R x
    opened x qs rest v s =
        let h = held_more qs (R.held x) rest v.all v.begun v.bytes in
        record { sound = v.sound; running = s; count = h.1; begun = rw v.ctx h.0 }

    -- ---- a call, given that what is claimed holds of the calls after it

    module _ (cs : List (Call N R)) (ih : Runs N R k cs) (x : R.X) (piece : List ℕ) (qs : List N.P) (rest : List ℕ) (v : Between N R k x qs rest)
        (cuts : Cuts N R (run N R x (this-way piece ∷ cs)) rest) where
      -- it finds the session stopped
      stopped : Stopped N R x piece → R.stopped x ≡ true → Shown N R k qs (length (R.held x)) (run N R x (this-way piece ∷ cs))
      unfolding outs taken run
      stopped h s =
          let y : R.X = (R.read x piece).next in
          let v' : Between N R k y qs (drop (R.read x piece).taken rest) = rw (h.next, h.taken) v in
          let r = ih y qs (drop (R.read x piece).taken rest) v' cuts.1 in
          let n : length (R.held y) ≡ length (R.held x) = ap (λ (z : R.X). length (R.held z)) h.next in
          record {
            out = rw h.number (r.out ∙ ap (λ (m : ℕ). within N k m qs) (omega (arith, h.taken)));
            steady = (
              λ f. absurd (true≢false (sym s ∙ f)),
              simp (h.handed, not-zero (R.read x piece).number h.number),
              subst (λ (m : ℕ). Steady N R k qs m (run N R y cs)) (omega (arith, h.taken)) r.steady,
            );
          }

      -- the packet is not whole after it
      part : Part N R x piece → Begun N k qs (R.held x ++ piece) → length piece ≤ left N k (length (R.held x)) qs
          → Shown N R k qs (length (R.held x)) (run N R x (this-way piece ∷ cs))
      unfolding outs taken run comes_out
      part h b l =
          let y : R.X = (R.read x piece).next in
          let tail : List ℕ = cuts.0.0 in
          let d : drop (R.read x piece).taken rest ≡ tail =
          ap (λ (m : ℕ). drop m rest) h.taken ∙ ap (drop (length piece)) (sym cuts.0.1) ∙ drop-append_seam piece tail in
          let v' : Between N R k y qs (drop (R.read x piece).taken rest) =
          record {
            ctx = h.kept.ctx ∙ v.ctx;
            sound = h.kept.sound;
            all = v.all;
            begun = rw h.held b;
            bytes = rw (h.held, d) (append_assoc (R.held x) piece tail ∙ ap (λ (r : List ℕ). R.held x ++ r) cuts.0.1 ∙ v.bytes);
          } in
          let r = ih y qs (drop (R.read x piece).taken rest) v' cuts.1 in
          let n : length (R.held y) ≡ length (R.held x) + (R.read x piece).taken =
          omega (arith, ap length h.held, length-append (R.held x) piece, h.taken) in
          record {
            out = rw h.number (r.out ∙ ap (λ (m : ℕ). within N k m qs) (omega arith));
            steady = (
              λ f. (omega (arith, h.taken), h.running),
              simp (h.handed, h.number),
              subst (λ (m : ℕ). Steady N R k qs m (run N R y cs)) n r.steady,
            );
          }

    -- the packet is whole
    full : (cs : List (Call N R)) → Runs N R k cs → (x : R.X) (piece : List ℕ) (q : N.P) (qs : List N.P) (rest : List ℕ)
        → Between N R k x (q ∷ qs) rest → Cuts N R (run N R x (this-way piece ∷ cs)) rest → Full N R x piece (length (N.encode k q)) q
        → length (N.encode k q) ≤ length (R.held x) + length piece → take (length (N.encode k q)) (R.held x ++ piece) ≡ N.encode k q
        → Shown N R k (q ∷ qs) (length (R.held x)) (run N R x (this-way piece ∷ cs))
    unfolding outs taken run all_bytes
    full cs ih x piece q qs rest v cuts h l t =
        let y : R.X = (R.read x piece).next in
        let e : List ℕ = N.encode k q in
        let b : length (R.held x) < length e = v.begun in
        let le : length (R.held x) ≤ length e = omega arith in
        let d : drop (R.read x piece).taken rest ≡ all_bytes N k qs =
        ap (λ (m : ℕ). drop m rest) h.taken ∙ behind (R.held x) rest e (all_bytes N k qs) v.bytes le in
        let v' : Between N R k y qs (drop (R.read x piece).taken rest) =
        record {
          ctx = h.kept.ctx ∙ v.ctx;
          sound = h.kept.sound;
          all = v.all.1;
          begun = begun-none qs (R.held y) h.held v.all.1;
          bytes = rw h.held d;
        } in
        let r = ih y qs (drop (R.read x piece).taken rest) v' cuts.1 in
        let rd : N.decode (R.ctx x) (R.held x ++ take (R.read x piece).taken piece) ≡ q =
        simp (v.ctx, h.taken, joins (R.held x) piece e t le, (W.good k q v.all.0).back) in
        let n : length e + length (R.held y) ≡ length (R.held x) + (R.read x piece).taken = omega (arith, ap length h.held, h.taken) in
        record {
          out =
              simp (h.number, rd)
              (ap (λ (ps : List N.P). q ∷ ps) r.out
              ∙ sym (within-past q qs (length (R.held y) + taken N R (run N R y cs)))
              ∙ ap (λ (i : ℕ). within N k i (q ∷ qs)) (omega arith));
          steady = (
            λ f. (omega (arith, h.taken, left_here q qs (length (R.held x)) b), h.running),
            h.handed ∙ ap (λ (p : N.P). cond (eqb (R.read x piece).number 0) (p ∷ []) []) (sym rd),
            subst (λ (m : ℕ). Steady N R k (q ∷ qs) m (run N R y cs)) n (steady-past q qs (length (R.held y)) (run N R y cs) r.steady),
          );
        }

    first-cut : (x : R.X) (rest piece : List ℕ) (cs : List (Call N R)) → Cuts N R (run N R x (this-way piece ∷ cs)) rest
        → (tail : List ℕ) × (piece ++ tail ≡ rest)
    unfolding run
    first-cut x rest piece cs cuts = cuts.0

    -- it finds the session running
    running : (cs : List (Call N R)) → Runs N R k cs → (x : R.X) (piece : List ℕ) (qs : List N.P) (rest : List ℕ)
        → Between N R k x qs rest → Cuts N R (run N R x (this-way piece ∷ cs)) rest → R.stopped x ≡ false
        → Shown N R k qs (length (R.held x)) (run N R x (this-way piece ∷ cs))
    unfolding all_bytes left
    running cs ih x piece [] rest v cuts s =
        let c = first-cut x rest piece cs cuts in
        let e : R.held x ++ piece ++ c.0 ≡ [] =
        append_assoc (R.held x) piece c.0 ∙ ap (λ (r : List ℕ). R.held x ++ r) c.1 ∙ v.bytes in
        let n : R.held x ++ piece ≡ [] = append-nil-left (R.held x ++ piece) c.0 e in
        part cs ih x piece [] rest v cuts (Q.part x piece (opened x [] rest v s) (rw (v.ctx, n) (cut-none N W k)))
        n (omega (arith, simp length-append at (ap length n)))
    running cs ih x piece (q ∷ qs) rest v cuts s =
        let c = first-cut x rest piece cs cuts in
        let o : Open N R x = opened x (q ∷ qs) rest v s in
        let e : List ℕ = N.encode k q in
        let g : Good N k q = W.good k q v.all.0 in
        let b : length (R.held x) < length e = v.begun in
        let j : R.held x ++ piece ++ c.0 ≡ e ++ all_bytes N k qs =
        append_assoc (R.held x) piece c.0 ∙ ap (λ (r : List ℕ). R.held x ++ r) c.1 ∙ v.bytes in
        elim (dec_lt (length (R.held x) + length piece) (length e)) [
          | yes h ↦
              let h' : length (R.held x ++ piece) < length e = omega (arith, length-append (R.held x) piece) in
              part cs ih x piece (q ∷ qs) rest v cuts
              (Q.part x piece o (rw v.ctx (cut-more N W k q g (R.held x ++ piece) c.0 (all_bytes N k qs) j h')))
              h' (omega (arith, left_here q qs (length (R.held x)) b))
          | no h ↦
              let h' : length e ≤ length (R.held x ++ piece) = omega (arith, length-append (R.held x) piece) in
              let t : take (length e) (R.held x ++ piece) ≡ e = front (R.held x ++ piece) c.0 e (all_bytes N k qs) j h' in
              full cs ih x piece q qs rest v cuts
              (Q.full x piece (length e) q o (rw v.ctx (cut-whole N W k q g (R.held x ++ piece) c.0 (all_bytes N k qs) j h'))
              (rw (v.ctx, t) g.wire) (rw (v.ctx, t) g.back) (rw v.ctx v.all.0))
              (omega arith) t
        ]

    -- a call for the direction
    this : (cs : List (Call N R)) → Runs N R k cs → (piece : List ℕ) → Runs N R k (this-way piece ∷ cs)
    this cs ih piece x qs rest v cuts = go (R.stopped x) refl
      where
        go : (b : Bool) → R.stopped x ≡ b → Shown N R k qs (length (R.held x)) (run N R x (this-way piece ∷ cs))
        go true s = stopped cs ih x piece qs rest v cuts (Q.stopped x piece v.sound s) s
        go false s = running cs ih x piece qs rest v cuts s

    -- a call for the other direction
    other : (cs : List (Call N R)) → Runs N R k cs → (o : R.O) → Runs N R k (other_way o ∷ cs)
    unfolding run
    other cs ih o x qs rest v cuts =
        let kept : Kept N R x (R.other x o) = Q.other x o v.sound in
        let same : R.held (R.other x o) ≡ R.held x = Q.other-held x o v.sound in
        rw (← same)
        (ih (R.other x o) qs rest
        (record { ctx = kept.ctx ∙ v.ctx; sound = kept.sound; all = v.all; begun = rw same v.begun; bytes = rw same v.bytes })
        cuts)

    pub runs : (cs : List (Call N R)) → Runs N R k cs
    unfolding run outs taken
    runs [] = λ x qs rest v cuts. record { out = none_yet qs (R.held x) v.begun; steady = tt }
    runs (this-way piece ∷ cs) = this cs (runs cs) piece
    runs (other_way o ∷ cs) = other cs (runs cs) o
