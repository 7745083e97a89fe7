-- What the bytes at hand are, counted from a packet's first byte.
-- Assumes nothing: these are definitions.
use Rattle.std.specs.Prelude.{ℕ, ◌+◌, cond, List, length, ltb, eqb}

-- The three things that they can be:
-- more: they are not a whole packet yet, and their header, where it is whole, is not refused;
-- bad n: their header is whole and is refused with the number n;
-- whole n: the first n of them are a packet.
pub data Cut : Type 0 where
  more : Cut
  bad : ℕ → Cut
  whole : ℕ → Cut

-- Which of the three the bytes `all` are. The arguments before them are the header's width, the number that the header is refused
-- with (0 where it is not), and the length of the body that the header says. Each is given all bytes at hand, and reads only the header.
unfoldable pub cut_of : (List ℕ → ℕ) → (List ℕ → ℕ) → (List ℕ → ℕ) → List ℕ → Cut
cut_of width head_no length_of all =
    cond (ltb (length all) (width all))
    more
    (cond (eqb (head_no all) 0)
    (cond (ltb (length all) (width all + length_of all)) more (whole (width all + length_of all)))
    (bad (head_no all)))
