-- A packet's bytes and back; the number of bytes that were read and of a packet to be written.
-- Assumes nothing: these are definitions.
use Rattle.std.specs.Prelude.{ℕ, ◌+◌, ◌^◌, ◌<◌, cond, List, [], ◌∷◌, ◌++◌, ◌≡◌, length, drop, eqb, ltb, Some, None}
use Rattle.header.specs.declared.Link.{Link}
use Rattle.header.specs.Link.{shared_set}
use Rattle.header.specs.Header.{kind_of, length_of, id_of, header_size, header_bytes, header_number}
use Rattle.kinds.specs.Table.{Field, kinds}
use Rattle.kinds.specs.Content.{Value, Content, shared, size, split, bytes, find, fields_of}
use Rattle.kinds.specs.Number.{wire_number}

-- the fields of a kind, none for an unknown one
unfoldable pub layout : ℕ → List Field
layout kind = fields_of (find kind kinds)

-- ---- reading

-- what a body says, under a shared set
unfoldable pub content_at : ℕ → ℕ → ℕ → List ℕ → Content
content_at caps kind id body =
    record {
      kind = kind;
      id = id;
      fields = split (shared caps) (layout kind) body;
      rest = drop (size (shared caps) (layout kind)) body;
    }

-- what a packet's bytes say
unfoldable pub decode : Link → List ℕ → Content
decode l b = content_at (shared_set l) (kind_of b) (id_of l b) (drop (header_size l (kind_of b)) b)

-- a number that is not 0, or the next
abbrev pub or_next : ℕ → ℕ → ℕ
or_next n m = cond (eqb n 0) m n

-- the number of bytes that should be one packet: 10 to 12 as soon as the header is whole; 23 where the bytes are not as many as the
-- header says, or no header; else the wire checks
unfoldable pub read_number : Link → List ℕ → ℕ
read_number l b =
    cond (ltb (length b) (header_size l (kind_of b))) 23
    (or_next (header_number l (kind_of b) (length_of b))
    (cond (eqb (length b) (header_size l (kind_of b) + length_of b)) (wire_number l (decode l b)) 23))

-- ---- writing

abbrev pub body_of : Content → List ℕ
body_of p = bytes (layout p.kind) p.fields ++ p.rest

unfoldable pub encode : Link → Content → List ℕ
encode l p = header_bytes l p.kind (length (body_of p)) p.id ++ body_of p

-- the body's length as the shared set lays it out: a field that is not shared does not count, one that is missing does
abbrev pub body_length : Link → Content → ℕ
body_length l p = size (shared (shared_set l)) (layout p.kind) + length p.rest

-- the number of a packet to be written, but for the output's room
unfoldable pub packet_number : Link → Content → ℕ
packet_number l p = or_next (header_number l p.kind (body_length l p)) (wire_number l p)

-- with it: "40 writer only: output shorter than the packet", after all others
unfoldable pub write_number : Link → Content → ℕ → ℕ
write_number l p room = or_next (packet_number l p) (cond (ltb room (length (encode l p))) 40 0)

-- what the output holds after it: the packet in front, or what it held
unfoldable pub written : Link → Content → List ℕ → List ℕ
written l p out = cond (eqb (write_number l p (length out)) 0) (encode l p ++ drop (length (encode l p)) out) out

-- the bytes put out
unfoldable pub written_size : Link → Content → ℕ → ℕ
written_size l p room = cond (eqb (write_number l p room) 0) (length (encode l p)) 0

-- ---- a packet that the writer accepts

-- numbers of at most w bytes: what the types of the code's fields say
abbrev pub Below : ℕ → List ℕ → Type 0
Below w [] = Unit {0}
Below w (x ∷ xs) = (x < 256 ^ w) × Below w xs

abbrev pub Fitting : List Field → List Value → Type 0
Fitting [] [] = Unit {0}
Fitting [] (v ∷ vs) = ⊥
Fitting (f ∷ fs) [] = ⊥
Fitting (f ∷ fs) (None ∷ vs) = Fitting fs vs
Fitting (f ∷ fs) (Some xs ∷ vs) = Below f.width xs × Fitting fs vs

pub record Accepted (l : Link) (p : Content) : Type 0 where
  pub fields : Fitting (layout p.kind) p.fields
  pub id : p.id < 256 ^ 8
  pub number : packet_number l p ≡ 0
