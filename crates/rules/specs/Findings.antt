-- What the code finds of a packet before it gives the number: each is what the definition of the wire checks (kinds/specs/Number.antt) asks of the
-- packet's content, which check for which.
-- Assumes nothing: these are definitions.
use Rattle.std.specs.Prelude.{ℕ, zero, suc, ◌%◌, ◌<◌, ◌≡◌, Bool, true, false, cond, not, ◌&&◌, ◌||◌, List, eqb, leb, Option, Some, None}
use Rattle.octets.specs.Little.{le}
use Rattle.octets.specs.Bits.{has_bit}
use Rattle.header.specs.declared.Side.{Side}
use Rattle.header.specs.declared.Link.{Link}
use Rattle.header.specs.Link.{shared_set}
use Rattle.kinds.specs.Table.{kind_at}
use Rattle.kinds.specs.Content.{shared}
use Rattle.kinds.specs.Number.{sends, surplus, size_ok, bad, streams_alone, in_order}
use Rattle.packet.specs.declared.Packet.{Packet}
use Rattle.packet.specs.Packet.{content_of}
use Rattle.rules.specs.declared.Findings.{Findings}

abbrev pub findings : ℕ → Bool → Bool → Option ℕ → Bool → Findings
findings slot surplus sized fault alone = record { slot = slot; surplus = surplus; sized = sized; fault = fault; alone = alone }

pub record Finds (from : Side) (caps id : ℕ) (p : Packet) (body : List ℕ) (f : Findings) : Type 0 where
  pub small : f.slot < 33
  pub kind : (kind_at f.slot).number ≡ (content_of caps id p body).kind
  pub surplus : f.surplus ≡ surplus caps (kind_at f.slot).fields (content_of caps id p body).fields
  pub sized : f.sized ≡ size_ok from (kind_at f.slot) (content_of caps id p body)
  -- where the size is wrong 23 comes first, so the rules are asked of a whole packet
  pub fault : f.sized ≡ true → f.fault ≡ (bad from caps (kind_at f.slot) (content_of caps id p body))
  pub alone : f.alone ≡ streams_alone (kind_at f.slot).tail (content_of caps id p body).rest

-- ---- rules that several kinds share

abbrev pub no_id : ℕ → Option ℕ
no_id id = cond (eqb id 0) None (Some 65535)

-- row i's type may be t
abbrev pub type_ok : ℕ → ℕ → Bool
type_ok i t = cond (eqb (i % 16) 0) (eqb t 0) (leb t 3 || eqb t 255)

-- the first of n rows from row i on whose type is none, else next
abbrev pub type_fault : List ℕ → ℕ → ℕ → Option ℕ → Option ℕ
type_fault rows zero i next = next
type_fault rows (suc n) i next = cond (type_ok i (le 1 rows i)) (type_fault rows n (suc i) next) (Some i)

-- ---- the number of a body whose size is wrong, by its kind's slot and its id

abbrev pub missized : Link → ℕ → ℕ → ℕ
missized l slot id =
    in_order (not (sends (kind_at slot).sender l.sender))
    (not (shared (shared_set l) (kind_at slot).needs) || (not (eqb slot 0) && not (has_bit (shared_set l) 5) && leb 4294967296 id))
    true false false
