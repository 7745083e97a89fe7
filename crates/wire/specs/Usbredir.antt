-- usbredir packets as a wire layer: its parts are header's and kinds' definitions. That it has the laws, and that what the shared set doesn't
-- allow is refused by number, is in `proofs/Usbredir.antt`.
-- Assumes nothing: these are definitions.
use Rattle.std.specs.Prelude.{ℕ, ◌≡◌, Bool, true, false, not, ◌&&◌, ◌||◌, List, [], ◌∷◌, eqb, Option, Some, None}
use Rattle.octets.specs.Bits.{has_bit}
use Rattle.header.specs.declared.Link.{Link}
use Rattle.header.specs.Link.{shared_set}
use Rattle.header.specs.Header.{kind_of, length_of, header_size, header_number}
use Rattle.kinds.specs.Table.{Bits, always, bit, bits, Field, Kind, kinds}
use Rattle.kinds.specs.Content.{Value, Content, shared, named, find}
use Rattle.kinds.specs.Number.{surplus, wide_id}
use Rattle.kinds.specs.Codec.{layout, decode, encode, read_number, Accepted}
use Rattle.wire.specs.Wire.{Wire}

-- each field has its place among the values, and one that is not there by `has` has none
abbrev pub AbsentIn : (Bits → Bool) → List Field → List Value → Type 0
AbsentIn has [] vs = Unit {0}
AbsentIn has (f ∷ fs) [] = ⊥
AbsentIn has (f ∷ fs) (v ∷ vs) = (has f.there ≡ false → v ≡ None) × AbsentIn has fs vs

-- "each field not shared is shown as absent"
abbrev pub Absent : Link → Content → Type 0
Absent l p = AbsentIn (shared (shared_set l)) (layout p.kind) p.fields

-- what the shared set doesn't allow in a packet of a known kind: "needed bit not shared", "a field that the shared set leaves out ..
-- but is present" (of a "bulk count over 65,535 without bit 6" the high part), "a non-hello's id over 32 bits without bit 5"
abbrev pub unshared : Link → Option Kind → Content → Bool
unshared l None p = false
unshared l (Some k) p = not (shared (shared_set l) k.needs) || surplus (shared_set l) k.fields p.fields || wide_id l p

abbrev pub Unshared : Link → Content → Type 0
Unshared l p = unshared l (find p.kind kinds) p ≡ true

-- a field is there only where some bit is shared
abbrev pub depends : Bits → Bool
depends always = false
depends (bit j) = true
depends (bits j k) = true

-- a field that the shared set may leave out is "missing where shared"
abbrev pub missing : ℕ → List Field → List Value → Bool
missing caps [] vs = false
missing caps (f ∷ fs) [] = false
missing caps (f ∷ fs) (None ∷ vs) = (depends f.there && shared caps f.there) || missing caps fs vs
missing caps (f ∷ fs) (Some xs ∷ vs) = missing caps fs vs

-- "Stream is 0 in kind 101 without bit 0."
abbrev pub stream_unshared : ℕ → List Field → Content → Bool
stream_unshared caps fs p = eqb p.kind 101 && not (has_bit caps 0) && not (eqb (named "stream" fs p.fields) 0)

abbrev pub unsuited : Link → Option Kind → Content → Bool
unsuited l None p = false
unsuited l (Some k) p = missing (shared_set l) k.fields p.fields || stream_unshared (shared_set l) k.fields p

abbrev pub Unsuited : Link → Content → Type 0
Unsuited l p = unsuited l (find p.kind kinds) p ≡ true

-- packets of one direction under one pair of hellos
abbrev pub usbredir : Wire
usbredir =
    record {
      K = Link;
      P = Content;
      width = λ l b. header_size l (kind_of b);
      length_of = length_of;
      head_no = λ l b. header_number l (kind_of b) (length_of b);
      wire_no = read_number;
      decode = decode;
      encode = encode;
      Accepted = Accepted;
      Absent = Absent;
      Unshared = Unshared;
      unshared_numbers = 10 ∷ 21 ∷ 22 ∷ [];
      Unsuited = Unsuited;
      unsuited_numbers = 10 ∷ 21 ∷ 22 ∷ 23 ∷ 24 ∷ [];
    }
