-- What a call of the writer has to leave, by the number of the packet, over any content: no byte where it is refused (`unwritten`) or there is no
-- room (`no_room`), else the packet in front (`put-out`); and which number it is, by the header or by the wire checks (`by-header`, `by-wire`).
-- With the packet's number known, `write_number`, `written_size` and `written` compute. The code takes a part of more than 65,536 bytes for one of
-- 65,536, so that no sum wraps: 10 refuses both (`capped`).
-- Assumes nothing.
use mathlib.Core.Path.{◌≡◌, refl, sym}
use mathlib.Core.Bool.{Bool, true, false}
use mathlib.Core.List.{List}
use Prim.Native.Nat.{ℕ, ◌+◌, ◌≤◌, ◌<◌, min}
use native.Mathlib.Nat.{min-eq_left, min-eq_right}
use native.Mathlib.Omega.{arith}
use lib.ListN.{length}
use lib.Seq.{sets}
use lib.Dec.{eqb, ltb}
use borrow.Author.Tests.{ne_eqb, lt-ltb, le-ltb, ltb-true, ltb-false}
use Rattle.header.specs.declared.Link.{Link}
use Rattle.header.specs.declared.Refusal.{Refusal}
use Rattle.header.specs.Refusal.{number_of}
use Rattle.header.specs.Header.{header_number}
use Rattle.header.proofs.Refusals.{refused}
use Rattle.kinds.specs.Content.{Content}
use Rattle.kinds.specs.Number.{wire_number}
use Rattle.kinds.specs.Codec.{body_length, encode, packet_number, write_number, written, written_size, Accepted}
use Rattle.encoder.specs.declared.Written.{Written}
use Rattle.encoder.specs.Written.{Writes}
use Rattle.encoder.proofs.Laid.{laid}

-- a length over 65,536 is refused as one of 65,536 is
pub capped : (l : Link) (kind a n : ℕ) → header_number l kind (a + min n 65536) ≡ header_number l kind (a + n)
unfolding header_number
capped l kind a n = go (ltb 65536 n) refl
  where
    go : (b : Bool) → ltb 65536 n ≡ b → header_number l kind (a + min n 65536) ≡ header_number l kind (a + n)
    go true t =
        let h : 65536 < n = ltb-true 65536 n t in
        let m : min n 65536 ≡ 65536 = min-eq_right (omega arith) in
        rw (m, lt-ltb 32768 (a + 65536) (omega arith), lt-ltb 32768 (a + n) (omega arith))
    go false t = rw (min-eq_left (ltb-false 65536 n t))

abbrev answer : ℕ → ℕ → Written
answer number size = record { number = number; size = size }

-- ---- the packet's number

module _ (l : Link) (q : Content) where
  pub by-header : (r : Refusal) → number_of r ≡ header_number l q.kind (body_length l q) → packet_number l q ≡ number_of r
  unfolding packet_number
  by-header r e = rw (← e, ne_eqb (number_of r) 0 (refused r))

  pub by-wire : (n : ℕ) → header_number l q.kind (body_length l q) ≡ 0 → n ≡ wire_number l q → packet_number l q ≡ n
  unfolding packet_number
  by-wire n z e = rw (z, ← e)

-- ---- what is left behind

module _ (l : Link) (q : Content) (out : List ℕ) where
  pub unwritten : (r : Refusal) → packet_number l q ≡ number_of r → Writes l q out (answer (number_of r) 0) out
  unfolding write_number written_size written
  unwritten r e =
      let n : ℕ = number_of r in
      let h : eqb n 0 ≡ false = ne_eqb n 0 (refused r) in
      let w : write_number l q (length out) ≡ n = rw (e, h) in
      record { number = sym w; size = rw (w, h); output = rw (w, h); accepted = λ z. absurd (refused r z) }

  -- "40 writer only: output shorter than the packet"
  pub no_room : packet_number l q ≡ 0 → length out < length (encode l q) → Writes l q out (answer 40 0) out
  unfolding write_number written_size written
  no_room e h =
      let w : write_number l q (length out) ≡ 40 = rw (e, lt-ltb (length out) (length (encode l q)) h) in
      record { number = sym w; size = rw w; output = rw w; accepted = λ z. absurd (omega arith) }

  pub put-out : (n : ℕ) (b after : List ℕ) → Accepted l q → length (encode l q) ≡ n → n ≤ length out → encode l q ≡ b → after ≡ sets out 0 b
      → Writes l q out (answer 0 n) after
  unfolding write_number written_size written
  put-out n b after a m h d r =
      let e : packet_number l q ≡ 0 = a.number in
      let k : length (encode l q) ≤ length out = omega (arith, m) in
      let w : write_number l q (length out) ≡ 0 = rw (e, le-ltb (length out) (length (encode l q)) k) in
      record { number = sym w; size = rw w (sym m); output = rw (w, r, ← d) (laid out (encode l q) k); accepted = λ z. a }
