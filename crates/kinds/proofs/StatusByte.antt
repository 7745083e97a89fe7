-- A body with another byte in the place of its status reads as the packet with that status (`status-byte`); so it has the same number
-- (`any-status-byte`).
-- Of the table's lines: a status is one byte, is there whatever is shared, and no other follows (`all-single`). By induction over the fields:
-- those before the status are read off bytes that stay (`value_before`), the status is the byte that was put there (`put_byte`), and those behind
-- it are read off what follows, none of them replaced (`none-replaced`). What follows the fields stays, as the status stands before it (`within`).
-- Assumes nothing.
use Rattle.std.specs.Prelude.{Some, None}
use Prim.Native.Nat.{ℕ, zero, suc, ◌+◌, ◌*◌, ◌≤◌, ◌<◌}
use native.Mathlib.Nat.{add-zero, mul-suc}
use native.Mathlib.Omega.{arith}
use mathlib.Core.Path.{◌≡◌, refl, sym, ap, ap₂, ◌∙◌}
use mathlib.Core.Bool.{Bool, true, false, cond, not, ◌&&◌, false≢true}
use mathlib.Core.List.{List, [], ◌∷◌}
use lib.ListN.{length, set, drop, replicate, length-set}
use lib.Seq.{get_or-set_other, drop-set-lt, drop-set-add}
use lib.Dec.{eqb, leb}
use lib.Text.{eqt}
use borrow.Author.Tests.{eqb-true, le-leb, not-true}
use borrow.Table.Steps.{cases}
use Rattle.octets.specs.Little.{le}
use Rattle.header.specs.Link.{shared_set}
use Rattle.octets.proofs.Logic.{and_parts}
use Rattle.kinds.specs.Table.{Bits, always, bit, bits, Field, kinds}
use Rattle.kinds.specs.Content.{Value, shared, size_of, size, numbers, whole, split}
use Rattle.kinds.specs.Number.{wire_number}
use Rattle.kinds.specs.Codec.{layout, content_at}
use Rattle.kinds.proofs.TableLines.{every_line, found-line}
use Rattle.kinds.proofs.AnyStatus.{any-status, none-replaced}
use Rattle.kinds.specs.AnyStatus.{status_in, has_status, status_at, StatusByte, AnyStatusByte}

-- ---- of the table: a status is one byte that is always there, and no other follows

abbrev is_always : Bits → Bool
is_always always = true
is_always (bit j) = false
is_always (bits j k) = false

always-shared : (caps : ℕ) (b : Bits) → is_always b ≡ true → shared caps b ≡ true
always-shared caps always e = refl
always-shared caps (bit j) e = absurd (false≢true e)
always-shared caps (bits j k) e = absurd (false≢true e)

abbrev one_byte : Field → Bool
one_byte f = eqb f.width 1 && eqb f.times 1 && is_always f.there

abbrev single : List Field → Bool
single [] = true
single (f ∷ fs) = cond (eqt "status" f.name) (one_byte f && not (has_status fs)) (single fs)

all-single : every_line single kinds ≡ true
unfolding kinds
all-single = refl

-- ---- what is read before place i is read the same with another byte there

le-before : (w : ℕ) (s : List ℕ) (at i x : ℕ) → at + w ≤ i → le w (set s i x) at ≡ le w s at
le-before zero s at i x h = refl
le-before (suc w) s at i x h =
    ap₂ (λ (a b : ℕ). a + 256 * b) (get_or-set_other s i at x 0 (λ e. omega arith)) (le-before w s (suc at) i x (omega arith))

numbers-before : (w n : ℕ) (s : List ℕ) (at i x : ℕ) → at + w * n ≤ i → numbers w n (set s i x) at ≡ numbers w n s at
numbers-before w zero s at i x h = refl
numbers-before w (suc n) s at i x h =
    ap₂ (λ (a : ℕ) (r : List ℕ). a ∷ r) (le-before w s at i x (omega (arith, mul-suc w n))) (numbers-before w n s (at + w) i x (omega (arith, mul-suc w n)))

whole_before : (f : Field) (s : List ℕ) (i x : ℕ) → f.width * f.times ≤ i → whole f (set s i x) ≡ whole f s
whole_before f s i x h = rw (length-set s i x, numbers-before f.width f.times s 0 i x (omega arith))

-- ---- a status that stands first is the byte that was put there; none where there is no byte

put_byte : (s : List ℕ) (x : ℕ) → cond (leb 1 (length (set s 0 x))) (numbers 1 1 (set s 0 x) 0) [] ≡ replicate (length (cond (leb 1 (length s)) (numbers 1 1 s 0) [])) x
put_byte [] x = refl
put_byte (b ∷ s) x = rw (le-leb 1 (suc (length s)) (omega arith)) (ap (λ (n : ℕ). n ∷ []) (add-zero x))

-- ---- the fields, one of them a status

module _ (caps : ℕ) where
  -- what `single` says of a status f and of the fields fs behind it
  record Lone (f : Field) (fs : List Field) : Type 0 where
    width : f.width ≡ 1
    times : f.times ≡ 1
    there : shared caps f.there ≡ true
    last : has_status fs ≡ false

  lone : (f : Field) (fs : List Field) → (one_byte f && not (has_status fs)) ≡ true → Lone f fs
  lone f fs e =
      let h = and_parts (one_byte f) (not (has_status fs)) e in
      let b = and_parts (eqb f.width 1 && eqb f.times 1) (is_always f.there) h.0 in
      let n = and_parts (eqb f.width 1) (eqb f.times 1) b.0 in
      record {
        width = eqb-true f.width 1 n.0;
        times = eqb-true f.times 1 n.1;
        there = always-shared caps f.there b.1;
        last = not-true (has_status fs) h.1;
      }

  -- a field before the status
  value_before : (f : Field) (s : List ℕ) (k x : ℕ)
      → cond (shared caps f.there) (Some (whole f (set s (size_of (shared caps) f + k) x))) None ≡ cond (shared caps f.there) (Some (whole f s)) None
  value_before f s k x = cases (shared caps f.there) (λ t. rw t (ap Some (whole_before f s (f.width * f.times + k) x (omega arith)))) (λ t. rw t)

  split-set : (fs : List Field) (s : List ℕ) (x : ℕ) → single fs ≡ true → has_status fs ≡ true
      → split (shared caps) fs (set s (status_at (shared caps) fs) x) ≡ status_in x fs (split (shared caps) fs s)
  split-set [] s x a h = absurd (false≢true h)
  split-set (f ∷ fs) s x a h =
      let n : ℕ = size_of (shared caps) f in
      let k : ℕ = status_at (shared caps) fs in
      cases (eqt "status" f.name)
      (λ t.
      let l : Lone f fs = lone f fs (rw t at a) in
      let rest = ap (split (shared caps) fs) (drop-set-lt 1 s 0 x (omega arith)) ∙ sym (none-replaced x fs (split (shared caps) fs (drop 1 s)) l.last) in
      rw (t, l.there, l.width, l.times) (ap₂ (λ (v : List ℕ) (vs : List Value). Some v ∷ vs) (put_byte s x) rest))
      (λ t.
      let rest = ap (split (shared caps) fs) (drop-set-add n s k x) ∙ split-set fs (drop n s) x (rw t at a) (rw t at h) in
      rw t (ap₂ (λ (v : Value) (vs : List Value). v ∷ vs) (value_before f s k x) rest))

  -- the status stands before what follows the fields
  within : (fs : List Field) → single fs ≡ true → has_status fs ≡ true → status_at (shared caps) fs < size (shared caps) fs
  within [] a h = absurd (false≢true h)
  within (f ∷ fs) a h =
      cases (eqt "status" f.name)
      (λ t. let l : Lone f fs = lone f fs (rw t at a) in rw (t, l.there, l.width, l.times) (omega arith))
      (λ t. let rest = within fs (rw t at a) (rw t at h) in rw t (omega arith))

pub status-byte : StatusByte
unfolding content_at layout
status-byte caps kind id body x h =
    let a : single (layout kind) ≡ true = found-line single refl kind kinds all-single in
    let at : ℕ = status_at (shared caps) (layout kind) in
    λ i. record {
      kind = kind;
      id = id;
      fields = split-set caps (layout kind) body x a h i;
      rest = drop-set-lt (size (shared caps) (layout kind)) body at x (within caps (layout kind) a h) i;
    }

pub any-status-byte : AnyStatusByte
any-status-byte l kind id body x h = ap (wire_number l) (status-byte (shared_set l) kind id body x h) ∙ any-status l (content_at (shared_set l) kind id body) x
