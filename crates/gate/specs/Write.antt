-- A writer call: its number, the bytes put out, and every byte of the output. It changes no session.
-- Assumes nothing: these are definitions.
use Rattle.std.specs.Prelude.{ℕ, Bool, cond, not, ◌&&◌, List, ◌≡◌, length, eqb}
use Rattle.header.specs.declared.Side.{Side}
use Rattle.kinds.specs.Content.{Content}
use Rattle.kinds.specs.Codec.{or_next, write_number, written_size, written, Accepted}
use Rattle.encoder.specs.declared.Written.{Written}
use Rattle.session.specs.declared.Session.{Session}
use Rattle.session.specs.Session.{link_of, unfit}
use Rattle.gate.specs.Offer.{is_waiting}

-- "It gives 43 (held bytes untested), 3, 2 (for a non-hello) as the reader does": 0 where the call can go on
unfoldable pub shut : Side → Session → Bool → ℕ
shut from s hello =
    cond (unfit s) 43
    (cond s.head.stopped 3
    (cond (is_waiting (link_of from s) && not hello) 2 0))

-- "then makes the wire checks, 10 to 12 included, then 40, and accepts all else"
unfoldable pub write_by : Side → Session → Content → ℕ → ℕ
write_by from s p room = or_next (shut from s (eqb p.kind 0)) (write_number (link_of from s) p room)

-- the packet in front where the number is 0, else all as it was
unfoldable pub output : Side → Session → Content → List ℕ → List ℕ
output from s p out = cond (eqb (shut from s (eqb p.kind 0)) 0) (written (link_of from s) p out) out

unfoldable pub output_size : Side → Session → Content → ℕ → ℕ
output_size from s p room = cond (eqb (shut from s (eqb p.kind 0)) 0) (written_size (link_of from s) p room) 0

pub record WritesBy (from : Side) (s : Session) (p : Content) (out : List ℕ) (r : Written) (after : List ℕ) : Type 0 where
  pub number : r.number ≡ write_by from s p (length out)
  pub size : r.size ≡ output_size from s p (length out)
  pub output : after ≡ output from s p out
  pub accepted : r.number ≡ 0 → Accepted (link_of from s) p
