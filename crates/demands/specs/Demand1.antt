-- Demand 1: every call gets a number of document 01, takes no more than its piece, and on refusal changes no endpoint, stream or request; a
-- refused write puts no byte out, an accepted one its packet's, and none changes a byte behind those that it puts out. That no call strays outside its memory is the checker's
-- own condition on every access.
-- Assumes nothing: these are definitions and a statement.
use Rattle.std.specs.Prelude.{ℕ, ◌≤◌, true, List, [], ◌∷◌, ◌++◌, ◌≡◌, drop, length}
use Rattle.header.specs.declared.Side.{Side}
use Rattle.kinds.specs.Content.{Content}
use Rattle.kinds.specs.Codec.{encode}
use Rattle.session.specs.declared.Session.{Session}
use Rattle.session.specs.Session.{link_of}
use Rattle.gate.specs.Offer.{Outcome, offer_of}
use Rattle.gate.specs.Write.{write_by, output, output_size}
use Rattle.claims.specs.Allowed.{among}

-- the numbers of document 01 that a reader call can give, and those that a writer call can
abbrev pub read_numbers : List ℕ
read_numbers = 0 ∷ 1 ∷ 2 ∷ 3 ∷ 10 ∷ 11 ∷ 12 ∷ 13 ∷ 20 ∷ 21 ∷ 22 ∷ 23 ∷ 24 ∷ 25 ∷ 26 ∷ 27 ∷ 28 ∷ 29 ∷ 30 ∷ 31 ∷ 32 ∷ 33 ∷ 34 ∷ 41 ∷ 43 ∷ []

abbrev pub write_numbers : List ℕ
write_numbers = 0 ∷ 2 ∷ 3 ∷ 10 ∷ 11 ∷ 12 ∷ 13 ∷ 20 ∷ 21 ∷ 22 ∷ 23 ∷ 24 ∷ 40 ∷ 43 ∷ []

-- what a refusal leaves: hellos, the device, the rows of its endpoints with their streams, the requests, and the watch
pub record Unchanged (s t : Session) : Type 0 where
  pub guest : t.head.guest ≡ s.head.guest
  pub host : t.head.host ≡ s.head.host
  pub present : t.head.present ≡ s.head.present
  pub introduction : t.head.introduction ≡ s.head.introduction
  pub owed : t.head.owed ≡ s.head.owed
  pub rows : t.rows ≡ s.rows
  pub requests : t.requests ≡ s.requests
  pub watch : t.watch ≡ s.watch

-- of a reader call
pub record Answered (s : Session) (hold piece : List ℕ) (o : Outcome) : Type 0 where
  -- "Any bytes, in any cuts, from either end, get an answer"; "Bad input is refused by a number in document 01."
  pub number : among read_numbers o.number ≡ true
  pub taken : o.taken ≤ length piece
  -- the buffer stays as long as it was
  pub buffer : length o.hold ≡ length hold
  -- "A refused packet changes no endpoint, stream or outstanding request"
  pub refusal : (o.number ≡ 0 → ⊥) → Unchanged s o.session

-- of a writer call
pub record Put (from : Side) (s : Session) (p : Content) (out : List ℕ) : Type 0 where
  pub number : among write_numbers (write_by from s p (length out)) ≡ true
  -- "every byte of memory it was handed, also on refusal": behind the bytes put out the output is as it was, and as long
  pub behind : drop (output_size from s p (length out)) (output from s p out) ≡ drop (output_size from s p (length out)) out
  pub as_long : length (output from s p out) ≡ length out
  -- an accepted packet's bytes stand in front
  pub accepted : write_by from s p (length out) ≡ 0
      → (output from s p out ≡ encode (link_of from s) p ++ drop (length (encode (link_of from s) p)) out) × (output_size from s p (length out) ≡ length (encode (link_of from s) p))
  -- "a refused write puts no byte out"
  pub output : (write_by from s p (length out) ≡ 0 → ⊥) → output from s p out ≡ out
  pub size : (write_by from s p (length out) ≡ 0 → ⊥) → output_size from s p (length out) ≡ 0

pub record Demand1 : Type 0 where
  pub read : (from : Side) (s : Session) (hold piece : List ℕ) → Answered s hold piece (offer_of from s hold piece)
  pub write : (from : Side) (s : Session) (p : Content) (out : List ℕ) → Put from s p out
