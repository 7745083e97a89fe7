-- A header's bytes are read back (`kind-back`, `length_back`, `id-back`), for both widths of an id in one proof over the width; a header has 12
-- to 16 bytes (`wide`, `narrow`), and one that nothing refuses says at most 32,768 (`short`).
-- Kind and length have four bytes each and stand in front; the id is read behind these eight (`le-after`). Each number comes back by `le_bytes`,
-- where it fits its width. What depends on the id's width is shown for 4 and for 8 (`id-widths`).
-- Assumes nothing.
use mathlib.Core.Path.{◌≡◌, refl, ◌∙◌}
use mathlib.Core.Bool.{Bool, true, false, cond, not, ◌&&◌}
use mathlib.Core.List.{List, [], ◌++◌, append_assoc}
use Prim.Native.Nat.{ℕ, ◌+◌, ◌^◌, ◌≤◌, ◌<◌}
use native.Mathlib.Omega.{arith}
use lib.ListN.{length}
use lib.Dec.{eqb, ltb}
use borrow.Author.Tests.{ltb-false}
use Rattle.octets.specs.Bits.{has_bit}
use Rattle.octets.specs.Little.{le, bytes_of}
use Rattle.octets.proofs.Integers.{le_bytes, le-after, length-bytes}
use Rattle.header.specs.declared.Link.{Link}
use Rattle.header.specs.Link.{id_width, shared_set}
use Rattle.header.specs.Header.{header_size, header_bytes, header_number}

-- an id has 4 or 8 bytes
pub id-widths : (P : ℕ → Type 0) → P 4 → P 8 → (l : Link) (kind : ℕ) → P (id_width l kind)
unfolding id_width
id-widths P four eight l kind = go (not (eqb kind 0) && has_bit (shared_set l) 5)
  where
    go : (b : Bool) → P (cond b 8 4)
    go true = eight
    go false = four

pub wide : (l : Link) (kind : ℕ) → 12 ≤ header_size l kind
unfolding header_size
wide l kind = id-widths (λ w. 12 ≤ 8 + w) (omega arith) (omega arith) l kind

pub narrow : (l : Link) (kind : ℕ) → header_size l kind ≤ 16
unfolding header_size
narrow l kind = id-widths (λ w. 8 + w ≤ 16) (omega arith) (omega arith) l kind

pub header-length : (l : Link) (kind n id : ℕ) → length (header_bytes l kind n id) ≡ header_size l kind
unfolding header_size header_bytes
header-length l kind n id = omega (arith, length-bytes (id_width l kind) id)

module _ (l : Link) (kind n id : ℕ) (q : List ℕ) where
  pub kind-back : kind < 256 ^ 4 → le 4 (header_bytes l kind n id ++ q) 0 ≡ kind
  unfolding header_bytes
  kind-back h = le_bytes 4 kind [] h

  pub length_back : n < 256 ^ 4 → le 4 (header_bytes l kind n id ++ q) 4 ≡ n
  unfolding header_bytes
  length_back h = le_bytes 4 n [] h

  pub id-back : id < 256 ^ id_width l kind → le (id_width l kind) (header_bytes l kind n id ++ q) 8 ≡ id
  unfolding header_bytes
  id-back h =
      rw (append_assoc (bytes_of 4 kind) (bytes_of 4 n ++ bytes_of (id_width l kind) id) q, append_assoc (bytes_of 4 n) (bytes_of (id_width l kind) id) q)
      (le-after (bytes_of 4 kind ++ bytes_of 4 n) (bytes_of (id_width l kind) id ++ q) (id_width l kind) 8 refl ∙ le_bytes (id_width l kind) id q h)

-- a header that nothing refuses says at most 32,768
pub short : (l : Link) (kind n : ℕ) → header_number l kind n ≡ 0 → n ≤ 32768
unfolding header_number
short l kind n e = go (ltb 32768 n) refl
  where
    go : (b : Bool) → ltb 32768 n ≡ b → n ≤ 32768
    go true t = let z : ◌≡◌ {A = ℕ} 10 0 = simp t at e in absurd (omega arith)
    go false t = ltb-false 32768 n t
