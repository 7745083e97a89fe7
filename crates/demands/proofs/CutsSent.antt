-- Cuts don't matter, of bytes sent (`cuts-sent`).
-- What was sent is what was taken and what was not, and `plays-on` of `CutsDontMatter.antt` holds whatever bytes stand behind those taken.
-- Assumes nothing.
use Prim.Native.Nat.{ℕ, ◌≤◌}
use mathlib.Core.List.{List, [], ◌∷◌, ◌++◌, append_assoc, append-nil}
use mathlib.Core.Path.{◌≡◌, refl, sym, ap, ◌∙◌}
use lib.ListN.{drop, length, take, take-append-drop}
use lib.Seq.{take-append-le}
use Rattle.header.specs.declared.Side.{Side}
use Rattle.header.specs.declared.Side.TheVariants.{Guest, Host}
use Rattle.demands.specs.CallLists.{of_side, Both, ReaderCall, answer_to, next, held_by, final, endings, sides, bytes_taken}
use Rattle.demands.specs.CutsDontMatter.{WithinLimits, Played, with_ended, play, unheld}
use Rattle.demands.specs.CutsSent.{bytes_after, CutFrom, untaken, CutsSent}
use Rattle.demands.proofs.Demand1.{demand-1}
use Rattle.demands.proofs.CutsDontMatter.{left_by, plays-on, cuts}

-- what was sent is what was taken and what was not
sent_is : (x : Both) (cs : List ReaderCall) (b : Side → List ℕ) → CutFrom x cs b → (d : Side) → bytes_taken d x cs ++ untaken x cs b d ≡ b d
unfolding bytes_taken untaken
sent_is x [] b q d = refl
sent_is x (c ∷ cs) b q d =
    append_assoc (of_side c.from (take (answer_to x c).taken c.piece) (λ e. []) d) (bytes_taken d (next x c) cs) (untaken (next x c) cs (bytes_after x c b) d)
    ∙ ap (λ (t : List ℕ). of_side c.from (take (answer_to x c).taken c.piece) (λ e. []) d ++ t) (sent_is (next x c) cs (bytes_after x c b) q.1 d)
    ∙ one c.from (answer_to x c).taken c.piece q.0.0 (demand-1.read c.from x.session (x.hold c.from) c.piece).taken q.0.1 d
  where
    own : (n : ℕ) (piece rest bytes : List ℕ) → n ≤ length piece → piece ++ rest ≡ bytes → take n piece ++ drop n bytes ≡ bytes
    own n piece rest bytes h e = rw (← e, ← take-append-le n piece rest h) (take-append-drop n (piece ++ rest))

    one : (from : Side) (n : ℕ) (piece rest : List ℕ) → n ≤ length piece → piece ++ rest ≡ b from → (d : Side)
        → of_side from (take n piece) (λ e. []) d ++ of_side from (drop n (b from)) b d ≡ b d
    one Guest n piece rest h e Guest = own n piece rest (b Guest) h e
    one Guest n piece rest h e Host = refl
    one Host n piece rest h e Guest = refl
    one Host n piece rest h e Host = own n piece rest (b Host) h e

-- a run is what `play` makes of the bytes sent and of its order
plays-sent : (x : Both) (cs : List ReaderCall) (b : Side → List ℕ) → WithinLimits x → CutFrom x cs b
    → play (sides (endings x cs)) (unheld x.session) (λ d. held_by x d ++ b d) ≡ with_ended (endings x cs) (left_by (final x cs) (untaken x cs b))
plays-sent x cs b f q =
    (λ i. play (sides (endings x cs)) (unheld x.session) (λ d. held_by x d ++ sym (sent_is x cs b q d) i)) ∙ plays-on x cs (untaken x cs b) f

pub cuts-sent : CutsSent
cuts-sent x cs₁ cs₂ b f q₁ q₂ o =
    let e : with_ended (endings x cs₁) (left_by (final x cs₁) (untaken x cs₁ b)) ≡ with_ended (endings x cs₂) (left_by (final x cs₂) (untaken x cs₂ b)) =
    sym (plays-sent x cs₁ b f q₁) ∙ (λ i. play (o i) (unheld x.session) (λ d. held_by x d ++ b d)) ∙ plays-sent x cs₂ b f q₂ in
    record {
      answers = sym (append-nil (endings x cs₁)) ∙ ap (λ (p : Played). p.ended) e ∙ append-nil (endings x cs₂);
      session = ap (λ (p : Played). p.session) e;
      rest = λ d. ap (λ (p : Played). p.rest d) e;
      all = λ t. cuts x cs₁ cs₂ f (record { taken = t; order = o });
    }
