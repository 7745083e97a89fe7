-- What the proofs of this crate's functions cite: that a line starts with a prefix as the library compares it (`strips`); what one turn of a loop does
-- to the bytes that digits spell and to a decimal; what each branch of `decode_line` has decoded; and that a part of a text laid behind another is
-- one part with it (`adds_then`).
-- A turn is stated of the rest of a list, from i on: `drop-cons` splits its first element off, and the definition computes one step. Of a decimal
-- `Making` says that the digits made, with those of n / 10 in front, are all, and that n has at most i + 1 digits: so 20 places are enough.
-- Assumes nothing.
use Rattle.std.specs.Prelude.{Some, None, is_some, Result, Ok, Err}
use Rattle.std.specs.Borrow.{MutBor}
use Rattle.std.specs.Cmp.Lexicographic.{pointwise}
use mathlib.Core.Path.{◌≡◌, refl, sym, ap, ◌∙◌}
use mathlib.Core.Bool.{Bool, true, false, cond, ◌&&◌}
use mathlib.Core.List.{List, [], ◌∷◌, ◌++◌, append_assoc}
use Prim.Native.Nat.{ℕ, zero, suc, ◌+◌, ◌-◌, ◌*◌, ◌/◌, ◌%◌, ◌^◌, ◌≤◌, ◌<◌, min}
use native.Mathlib.Nat.{pow-suc, add-zero}
use native.Mathlib.Numerals.{add-one}
use native.Mathlib.Omega.{arith}
use borrow.Author.Tests.{not-true, not-false, ltb-true, ltb-false, le-ltb, lt-ltb}
use lib.ListN.{length, replicate, get_or, set, take, drop, length-append, length-drop, length-set}
use lib.Seq.{sets, take_all, drop-cons, drop-set-lt, get_or-set_same, length-sets}
use lib.Dec.{eqb, ltb}
use Rattle.octets.specs.Saturated.{largest}
use Rattle.octets.proofs.Integers.{sets-append, sets-out}
use Rattle.header.specs.declared.Side.{Side}
use Rattle.header.specs.declared.Side.TheVariants.{Guest, Host}
use Rattle.capture.specs.declared.Piece.{Piece}
use Rattle.capture.specs.declared.Text.{Text}
use Rattle.capture.specs.declared.Flaw.{Flaw}
use Rattle.capture.specs.declared.Flaw.TheVariants.{Start}
use Rattle.capture.proofs.LineLaws.{length-spelt, spells-not}
use Rattle.capture.specs.Flaws.{digits_flaw, flaw_of}
use Rattle.capture.specs.Lines.{start_of, is_spelling, piece_of, line_of, Decodes, starts_with, hex_value, spelt, digits, decimal, Starts, Adds, Forms}

-- ---- a prefix

-- as the library compares it
pub strips : (p l : List ℕ) → pointwise eqb (take (length p) l) p ≡ starts_with p l
unfolding starts_with
strips [] l = refl
strips (x ∷ p) [] = refl
strips (x ∷ p) (b ∷ l) = ap (λ (t : Bool). eqb b x && t) (strips p l)

-- ---- what digits spell

spelt-short : (s : List ℕ) → length s < 2 → spelt s ≡ []
unfolding spelt
spelt-short [] h = refl
spelt-short (a ∷ []) h = refl
spelt-short (a ∷ b ∷ s) h = absurd (omega arith)

pub spelt-ends : (s : List ℕ) (i : ℕ) → length s / 2 ≤ i → spelt (drop (2 * i) s) ≡ []
spelt-ends s i h = spelt-short (drop (2 * i) s) (omega (arith, length-drop (2 * i) s))

-- one byte less, off the front of what is still to be laid
pub spelt-step : (out s : List ℕ) (i x : ℕ) → i < length s / 2
    → x ≡ 16 * hex_value (get_or s (2 * i) 0) + hex_value (get_or s (2 * i + 1) 0)
    → sets out i (spelt (drop (2 * i) s)) ≡ sets (set out i x) (i + 1) (spelt (drop (2 * (i + 1)) s))
unfolding spelt
spelt-step out s i x h e =
    let l : 2 * i < length s = omega arith in
    let m : suc (2 * i) < length s = omega arith in
    let e₁ : suc (2 * i) ≡ 2 * i + 1 = omega arith in
    let e₂ : suc (suc (2 * i)) ≡ 2 * (i + 1) = omega arith in
    rw (drop-cons s (2 * i) 0 l, drop-cons s (suc (2 * i)) 0 m, e₁, ← e, sym (ap suc e₁) ∙ e₂, add-one i)

-- ---- an input line

module _ (from : Side) (s : List ℕ) {out : List ℕ} where
  pub decodes-piece : {after : List ℕ} → None ≡ digits_flaw s → after ≡ sets out 0 (spelt s)
      → Decodes (piece_of from s) (digits_flaw s) out (Ok (record { from = from; size = length s / 2 })) after
  decodes-piece n e =
      let h : is_spelling s ≡ true = not-false (is_spelling s) (sym (spells-not s) ∙ sym (ap is_some n)) in
      rw h (record { told = ap (λ (n : ℕ). Some (record { from = from; size = n })) (sym (length-spelt s)); why = n; output = e })

  pub decodes-nothing : {f : Flaw} → Some f ≡ digits_flaw s → Decodes (piece_of from s) (digits_flaw s) out (Err f) out
  decodes-nothing n =
      let h : is_spelling s ≡ false = not-true (is_spelling s) (sym (spells-not s) ∙ sym (ap is_some n)) in
      rw h (record { told = refl; why = n; output = refl })

module _ (line : List ℕ) {out : List ℕ} where
  pub decodes-guest : {s after : List ℕ} {r : Result Piece Flaw} → starts_with (start_of Guest) line ≡ true → s ≡ drop 17 line
      → Decodes (piece_of Guest s) (digits_flaw s) out r after
      → Decodes (line_of line) (flaw_of line) out r after
  unfolding line_of flaw_of
  decodes-guest h e d = rw h (rw e at d)

  pub decodes-host : {s after : List ℕ} {r : Result Piece Flaw} → starts_with (start_of Guest) line ≡ false
      → starts_with (start_of Host) line ≡ true
      → s ≡ drop 16 line
      → Decodes (piece_of Host s) (digits_flaw s) out r after
      → Decodes (line_of line) (flaw_of line) out r after
  unfolding line_of flaw_of
  decodes-host g h e d = rw (g, h) (rw e at d)

  pub decodes-other : starts_with (start_of Guest) line ≡ false → starts_with (start_of Host) line ≡ false
      → Decodes (line_of line) (flaw_of line) out (Err Start) out
  unfolding line_of flaw_of
  decodes-other g h = rw (g, h) (record { told = refl; why = refl; output = refl })

-- ---- a line, laid part by part

-- two places that are the same as far as there is anything
pub sets-cut : (l xs : List ℕ) (i j m : ℕ) → length l ≤ m → min i m ≡ min j m → sets l i xs ≡ sets l j xs
sets-cut l xs i j m h e = go (ltb i m) refl
  where
    go : (b : Bool) → ltb i m ≡ b → sets l i xs ≡ sets l j xs
    go true t = let q : i ≡ j = omega (arith, ltb-true i m t) in ap (λ (k : ℕ). sets l k xs) q
    go false t = sets-out l xs i (omega (arith, ltb-false i m t)) ∙ sym (sets-out l xs j (omega (arith, ltb-false i m t)))

-- a part behind another is one part
pub adds_then : {t u v : Text} {xs ys : List ℕ} → Adds xs t u → Adds ys u v → Adds (xs ++ ys) t v
adds_then {t} {u} {xs = xs} {ys} p q =
    record {
      same = q.same ∙ p.same;
      start = q.start ∙ p.start;
      size = omega (arith, p.size, q.size, length-append xs ys);
      output = q.output
          ∙ rw (p.output, p.start) (sets-cut (sets t.out.now (t.at + t.size) xs) ys (t.at + u.size) (t.at + t.size + length xs) largest (rw length-sets p.few) (omega (arith, p.size))
          ∙ sym (sets-append t.out.now (t.at + t.size) xs ys));
      few = p.few;
    }

module _ {out : MutBor (List ℕ)} {at : ℕ} {t : Text} (s : Starts out at t) where
  -- nothing of a text
  pub adds_none : Adds [] t t
  adds_none = record { same = refl; start = refl; size = omega (arith, s.size); output = refl; few = omega (arith, ap length s.before, s.few) }

  -- a line, or a few, that are whole, and not too long to count
  pub forms-few : {line after : List ℕ} {u : Text} → length line ≤ 256 → Adds line t u → after ≡ u.out.now → Forms line at out.now u.size after
  forms-few h p e =
      record { size = omega (arith, p.size, s.size); output = e ∙ p.output ∙ rw (s.before, s.start, s.size, add-zero) }

  pub forms-all : {line after : List ℕ} {u : Text} → length line ≤ 117 → Adds line t u → after ≡ u.out.now → Forms line at out.now u.size after
  forms-all h p e = forms-few (omega (arith, h)) p e

-- ---- a number in decimal

-- the digits of x from place i on are made, the first of them the last of n; those in front are still to come
pub record Making (x : ℕ) (made : List ℕ) (i n : ℕ) : Type 0 where
  pub within : i < 20
  pub few : n < 10 ^ suc i
  pub room : length made ≡ 20
  pub all : decimal x ≡ cond (ltb n 10) [] (digits i (n / 10)) ++ drop i made

pub making-starts : (x : ℕ) → x < 2 ^ 64 → Making x (set (replicate 20 0) 19 (48 + x % 10)) 19 x
unfolding digits
making-starts x h = record { within = omega arith; few = omega arith; room = refl; all = refl }

digit-stored : (made : List ℕ) (i v : ℕ) → i < length made → drop i (set made i v) ≡ v ∷ drop (suc i) made
digit-stored made i v h =
    drop-cons (set made i v) i 0 (rw length-set h) ∙ rw (get_or-set_same made i v 0 h, drop-set-lt (suc i) made i v (omega arith))

digit-made : (made : List ℕ) (i n : ℕ) → i < length made
    → digits (suc i) n ++ drop (suc i) made ≡ cond (ltb n 10) [] (digits i (n / 10)) ++ drop i (set made i (48 + n % 10))
unfolding digits
digit-made made i n h =
    append_assoc (cond (ltb n 10) [] (digits i (n / 10))) ((48 + n % 10) ∷ []) (drop (suc i) made)
    ∙ ap (λ (l : List ℕ). cond (ltb n 10) [] (digits i (n / 10)) ++ l) (sym (digit-stored made i (48 + n % 10) h))

module _ {x : ℕ} {made : List ℕ} {i n : ℕ} (p : Making x made i n) where
  -- a number of more than one digit is not at the first place
  pub making-room : 10 ≤ n → 0 < i
  making-room h = go i p.few
    where
      go : (k : ℕ) → n < 10 ^ suc k → 0 < k
      go zero l = absurd (omega arith)
      go (suc k) l = omega arith

  pub making-goes-on : 10 ≤ n → Making x (set made (i - 1) (48 + n / 10 % 10)) (i - 1) (n / 10)
  making-goes-on h =
      let l = making-room h in
      let e : i ≡ suc (i - 1) = omega arith in
      record {
        within = omega (arith, p.within);
        few = omega (arith, p.few, pow-suc 10 i, ap (λ (k : ℕ). 10 ^ k) e);
        room = length-set made (i - 1) (48 + n / 10 % 10) ∙ p.room;
        all = rw (le-ltb n 10 h) at p.all
            ∙ ap (λ (k : ℕ). digits k (n / 10) ++ drop k made) e
            ∙ digit-made made (i - 1) (n / 10) (omega (arith, p.room, p.within));
      }

  pub making-ends : n < 10 → take (20 - i) (drop i made) ≡ decimal x
  making-ends h =
      take_all (20 - i) (drop i made) (omega (arith, length-drop i made, p.room)) ∙ sym (rw (lt-ltb n 10 h) at p.all)
