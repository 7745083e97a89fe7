-- What the class of a packet says of its kind and of its rows, for every packet, also of a kind that is not known: a transfer is a plain request
-- or stream data of the guest (`transfer-asks`), and stream data wants its endpoint to have a type (`stream-typed`).
-- The kind of a transfer is one of four numbers (`one-of-four`), and the line of each is computed. What holds of the meaning of each line, and of
-- that for a packet without a line, holds of the meaning that `look_up` finds (`found`): a test over the lines of the table.
-- Assumes nothing.
use Rattle.std.specs.Prelude.{ℕ, ◌≤◌, ◌≡◌, refl, Bool, true, false, cond, not, ◌&&◌, ◌||◌, List, [], ◌∷◌, ◌⊎◌, eqb, leb}
use Rattle.std.proofs.Common.{inl, inr, arith, leb-true, eqb-true}
use Rattle.std.proofs.lemmas.Bool.{false≢true, eqb-false}
use borrow.Table.Steps.{cases}
use Rattle.octets.proofs.Logic.{and_parts, implied}
use Rattle.endpoint.specs.declared.Endpoint.{Endpoint}
use Rattle.header.specs.declared.Side.{Side}
use Rattle.header.specs.declared.Side.TheVariants.{Guest, Host}
use Rattle.header.specs.Link.{is_guest}
use Rattle.kinds.specs.Content.{Content}
use Rattle.events.specs.declared.Typed.{Typed}
use Rattle.events.specs.declared.Typed.TheVariants.{Untyped, OfEndpoint, OfMask}
use Rattle.events.specs.Meaning.{Class, Cancel, PlainRequest, StreamOut, StreamIn, Meaning, plain, Line, meanings, admits, look_up}
use Rattle.events.specs.Event.{meaning_of, typed_of, event_of, is_transfer}
use Rattle.events.specs.Examples.{among}

-- ---- a transfer asks, or is data on a stream

one-of-four : (P : ℕ → Type 0) (k : ℕ) → 100 ≤ k → k ≤ 103 → P 100 → P 101 → P 102 → P 103 → P k
one-of-four P k low high a b c d =
    cases (eqb k 100) (λ t. rw (eqb-true k 100 t) a)
    (λ s. cases (eqb k 101) (λ t. rw (eqb-true k 101 t) b)
    (λ t. cases (eqb k 102) (λ u. rw (eqb-true k 102 u) c)
    (λ u. let e : k ≡ 103 = omega (arith, eqb-false k 100 s, eqb-false k 101 t, eqb-false k 102 u) in rw e d)))

abbrev Asks : Class → Type 0
Asks c = (c ≡ PlainRequest) ⊎ (c ≡ StreamOut)

guest-asks : (from : Side) (k : ℕ) (inward : Bool) → (is_guest from && leb 100 k && leb k 103) ≡ true → Asks (look_up meanings from k inward).class
unfolding meanings
guest-asks Guest k inward h =
    let r = and_parts (leb 100 k) (leb k 103) h in
    one-of-four (λ (n : ℕ). Asks (look_up meanings Guest n inward).class) k (leb-true 100 k r.0) (leb-true k 103 r.1) (inl refl) (inl refl) (inr refl) (inl refl)
guest-asks Host k inward h = absurd (false≢true h)

pub transfer-asks : (from : Side) (p : Content) → is_transfer (event_of from p) ≡ true
    → ((event_of from p).class ≡ PlainRequest) ⊎ ((event_of from p).class ≡ StreamOut)
unfolding event_of meaning_of
transfer-asks from p h = guest-asks from p.kind _ h

-- ---- what is found in the table

-- the meaning of each line passes the test
abbrev each : (Meaning → Bool) → List Line → Bool
each t [] = true
each t (l ∷ ls) = t l.meaning && each t ls

found : (t : Meaning → Bool) (ls : List Line) (from : Side) (k : ℕ) (inward : Bool) → t (plain Cancel) ≡ true → each t ls ≡ true
    → t (look_up ls from k inward) ≡ true
found t [] from k inward none h = none
found t (l ∷ ls) from k inward none h =
    let r = and_parts (t l.meaning) (each t ls) h in
    go (eqb k l.kind && admits l.who from inward) r.0 (found t ls from k inward none r.1)
  where
    go : (b : Bool) {m n : Meaning} → t m ≡ true → t n ≡ true → t (cond b m n) ≡ true
    go true x y = x
    go false x y = y

-- ---- stream data is about an endpoint of a type

abbrev is_of_endpoint : Typed → Bool
is_of_endpoint Untyped = false
is_of_endpoint (OfEndpoint x k) = true
is_of_endpoint (OfMask m k) = false

-- data on a stream, of either end
abbrev pub is_stream : Class → Bool
is_stream c = among (StreamOut ∷ StreamIn ∷ []) c

-- a meaning that is stream data wants an endpoint's type
abbrev proper : Content → Meaning → Bool
proper p m = not (is_stream m.class) || is_of_endpoint (typed_of m.wants m.about p)

all-proper : (p : Content) → each (proper p) meanings ≡ true
unfolding meanings
all-proper p = refl

pub stream-typed : (from : Side) (p : Content) → is_stream (event_of from p).class ≡ true → (x : Endpoint) × (k : ℕ) × ((event_of from p).typed ≡ OfEndpoint x k)
unfolding event_of meaning_of
stream-typed from p h =
    of _ (implied _ _ (found (proper p) meanings from p.kind _ refl (all-proper p)) h)
  where
    of : (t : Typed) → is_of_endpoint t ≡ true → (x : Endpoint) × (k : ℕ) × (t ≡ OfEndpoint x k)
    of Untyped e = absurd (false≢true e)
    of (OfEndpoint x k) e = (x, k, refl)
    of (OfMask m k) e = absurd (false≢true e)
