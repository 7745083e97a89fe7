-- The bytes of a watch: none at first (`none-laid`), one row more (`rows_more`), how many they are (`rows-length`), and a
-- row laid behind the others by three numbers (`row_laid`); and bytes laid at the front of a part that reaches to the
-- end, which are laid where the part begins (`rest_back`).
-- Assumes nothing.
use Rattle.std.proofs.Common.{◌≡◌, ℕ, zero, suc, ◌+◌, ◌-◌, ◌*◌, ◌≤◌, List, [], ◌∷◌, ◌++◌, length, take, drop, set, sym, refl, ap, ◌∙◌, append_assoc, append-nil, add-zero, add-suc, suc-add, zero-add, add-one, arith, length-append, length-drop, take-append-drop, drop_of_length-le, length-take-le, take_all}
use lib.Seq.{sets}
use borrow.Rule.Slice.PartMut.{mid_of, post_of, put_mid, Post-is}
use Rattle.octets.specs.Little.{bytes_of}
use Rattle.watch.specs.declared.RowWatch.{RowWatch}
use Rattle.watch.specs.declared.Watch.{Watch}
use Rattle.watch.specs.Watch.{watch_at}
use Rattle.test_drive.specs.Drive.{row_bytes, rows_bytes}
use Rattle.test_drive.proofs.RecordBytes.{behind}

module _ (w : Watch) where
  pub none-laid : (out : List ℕ) → out ≡ sets out 0 (rows_bytes w 0 0)
  unfolding rows_bytes
  none-laid out = refl

  rows_more : (i n : ℕ) → rows_bytes w i (suc n) ≡ rows_bytes w i n ++ row_bytes (watch_at w (i + n))
  unfolding rows_bytes
  rows_more i zero = rw (add-zero i) refl
  rows_more i (suc n) =
      ap (λ (t : List ℕ). row_bytes (watch_at w i) ++ t) (rows_more (suc i) n)
      ∙ sym (append_assoc (row_bytes (watch_at w i)) (rows_bytes w (suc i) n) (row_bytes (watch_at w (suc i + n))))
      ∙ ap (λ (k : ℕ). (row_bytes (watch_at w i) ++ rows_bytes w (suc i) n) ++ row_bytes (watch_at w k)) (suc-add i n ∙ sym (add-suc i n))

  rows-length : (i n : ℕ) → length (rows_bytes w i n) ≡ n * 18
  unfolding rows_bytes
  rows-length i zero = refl
  rows-length i (suc n) = length-append (row_bytes (watch_at w i)) (rows_bytes w (suc i) n) ∙ omega (arith, rows-length (suc i) n)

  -- its breaks, its gap and the id that it expects, each behind the one before
  pub row_laid : (out₀ : List ℕ) {out out₁ out₂ out₃ : List ℕ} (i : ℕ) → out ≡ sets out₀ 0 (rows_bytes w 0 i) → out₁ ≡ sets out (i * 18) (bytes_of 2 (watch_at w i).breaks)
      → out₂ ≡ sets out₁ (i * 18 + 2) (bytes_of 8 (watch_at w i).gap)
      → out₃ ≡ sets out₂ (i * 18 + 10) (bytes_of 8 (watch_at w i).expected)
      → out₃ ≡ sets out₀ 0 (rows_bytes w 0 (i + 1))
  row_laid out₀ {out} i e a b c =
      let r : RowWatch = watch_at w i in
      let y₁ = bytes_of 2 r.breaks in
      let y₂ = bytes_of 8 r.gap in
      let y₃ = bytes_of 8 r.expected in
      let more : rows_bytes w 0 (i + 1) ≡ rows_bytes w 0 i ++ row_bytes r = rw add-one (rows_more 0 i ∙ ap (λ (k : ℕ). rows_bytes w 0 i ++ row_bytes (watch_at w k)) (zero-add i)) in
      let two = behind out (i * 18) 2 (i * 18 + 2) y₁ y₂ refl refl a b in
      let three = behind out (i * 18) 10 (i * 18 + 10) (y₁ ++ y₂) y₃ refl refl two c in
      behind out₀ 0 (i * 18) (i * 18) (rows_bytes w 0 i) ((y₁ ++ y₂) ++ y₃) (rows-length 0 i) (omega arith) e three
      ∙ ap (λ (t : List ℕ). sets out₀ 0 (rows_bytes w 0 i ++ t)) (append_assoc y₁ y₂ y₃)
      ∙ ap (sets out₀ 0) (sym more)

-- ---- a part that reaches to the end

set-behind : (p q : List ℕ) (i x : ℕ) → set (p ++ q) (length p + i) x ≡ p ++ set q i x
set-behind [] q i x = rw (zero-add i) refl
set-behind (y ∷ p) q i x = rw (suc-add (length p) i) (ap (λ (t : List ℕ). y ∷ t) (set-behind p q i x))

sets_behind : (p q : List ℕ) (i : ℕ) (xs : List ℕ) → p ++ sets q i xs ≡ sets (p ++ q) (length p + i) xs
sets_behind p q i [] = refl
sets_behind p q i (x ∷ xs) =
    sets_behind p (set q i x) (suc i) xs
    ∙ ap (λ (k : ℕ). sets (p ++ set q i x) k xs) (add-suc (length p) i)
    ∙ ap (λ (l : List ℕ). sets l (suc (length p + i)) xs) (sym (set-behind p q i x))

pub rest_back : (l xs : List ℕ) {r : List ℕ} (a : ℕ) → a ≤ length l → r ≡ sets (mid_of a (length l - a) l) 0 xs → put_mid a (length l - a) l r ≡ sets l a xs
rest_back l xs {r} a h e =
    let mid : mid_of a (length l - a) l ≡ drop a l = take_all (length l - a) (drop a l) (omega (arith, length-drop a l)) in
    let post : post_of a (length l - a) l ≡ [] = Post-is a (length l) l h ∙ drop_of_length-le l {i = length l} (omega arith) in
    ap (λ (z : List ℕ). take a l ++ (r ++ z)) post
    ∙ ap (λ (z : List ℕ). take a l ++ z) (append-nil r ∙ e ∙ ap (λ (z : List ℕ). sets z 0 xs) mid)
    ∙ sets_behind (take a l) (drop a l) 0 xs
    ∙ rw (take-append-drop a l, length-take-le a l h, add-zero a) refl
