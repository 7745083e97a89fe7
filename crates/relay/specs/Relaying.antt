-- What the relay's calls for an end come to: the session, the end's holding buffer and the bytes taken.
-- Assumes nothing: these are definitions.
use Rattle.std.specs.Prelude.{ℕ, zero, suc, ◌+◌, ◌-◌, ◌≤◌, min, ◌≡◌, Bool, true, false, ◌||◌, ◌⊎◌, List, length, drop, eqb, ltb}
use Rattle.std.proofs.lemmas.List.Edits.{sets}
use Rattle.std.proofs.Math.Seq.{slice}
use Rattle.header.specs.declared.Side.{Side}
use Rattle.session.specs.declared.Session.{Session}
use Rattle.gate.specs.Offer.{Outcome, offer_of}
use Rattle.relay.specs.declared.Relay.{Relay}

-- after some calls
pub record CallsMade : Type 0 where
  pub session : Session
  pub hold : List ℕ
  pub taken : ℕ

-- the next call is offered the bytes behind those taken
abbrev pub answer : Side → List ℕ → CallsMade → Outcome
answer from bytes c = offer_of from c.session c.hold (drop c.taken bytes)

abbrev pub next : Side → List ℕ → CallsMade → CallsMade
next from bytes c =
    record {
      session = (answer from bytes c).session;
      hold = (answer from bytes c).hold;
      taken = c.taken + (answer from bytes c).taken;
    }

-- after n calls, from a session and a holding buffer on
unfoldable pub after : ℕ → Side → List ℕ → Session → List ℕ → CallsMade
after zero from bytes s hold = record { session = s; hold = hold; taken = 0 }
after (suc n) from bytes s hold = next from bytes (after n from bytes s hold)

-- the last of n calls took nothing
pub record Barred (n : ℕ) (from : Side) (bytes : List ℕ) (s : Session) (hold : List ℕ) : Type 0 where
  pub before : ℕ
  pub last : n ≡ suc before
  pub nothing : (answer from bytes (after before from bytes s hold)).taken ≡ 0

-- The calls go on until the bytes are used up or one takes nothing; or a packet cannot be sent on. It is over then, and where the session is
-- stopped.
pub record OffersAll (from : Side) (s : Session) (hold bytes : List ℕ) (r : Relay) (hold-after : List ℕ) : Type 0 where
  pub calls : ℕ
  pub session : r.session ≡ (after calls from bytes s hold).session
  pub buffer : hold-after ≡ (after calls from bytes s hold).hold
  pub within : (after calls from bytes s hold).taken ≤ length bytes
  pub waiting : r.waiting ≡ length bytes - (after calls from bytes s hold).taken
  pub failed : Bool
  pub over : r.over ≡ (failed || r.session.head.stopped)
  pub ended : failed ≡ false → (length bytes ≤ (after calls from bytes s hold).taken) ⊎ Barred calls from bytes s hold

-- ---- a piece

-- something is left of a piece, or it is empty, or the relay is over
abbrev pub halts : Relay → List ℕ → Bool
halts q piece = ltb 0 q.waiting || eqb (length piece) 0 || q.over

-- A piece of an end is offered. Where something is left of it, this is laid behind the bytes that wait, and without room for it the relay is over.
-- Where nothing is, the bytes that wait are offered, as the other end's.
pub record RelaysPiece (p : Relay) (from to : Side) (hold other piece kept : List ℕ) (r : Relay) (hold-after other-after kept-after : List ℕ) : Type 0 where
  pub offered : Relay
  pub first : OffersAll from p.session hold piece offered hold-after
  pub keeps : halts offered piece ≡ true
      → (r ≡ record { session = offered.session; waiting = p.waiting + min offered.waiting (length kept - p.waiting); over = offered.over || ltb (length kept - p.waiting) offered.waiting })
      × (kept-after ≡ sets kept p.waiting (slice (length piece - offered.waiting) (length piece) piece))
      × (other-after ≡ other)
  pub goes_on : halts offered piece ≡ false → OffersAll to offered.session other (slice 0 p.waiting kept) r other-after × (kept-after ≡ kept)
