-- The verdict on a whole packet, by its reading and by a ruling on it: what the wire checks refuse (`verdict-refused`), and what is ruled on
-- (`verdict-ruled`).
-- What is ruled on is the case of the packet's event, so the ruling is that of the rules (`ruled-is`) where no two live requests have one id; and
-- the judge passes a packet or refuses it as the rules do (`judged-as`).
-- Assumes nothing.
use Rattle.std.specs.Prelude.{None, Result, Ok, Err}
use Prim.Native.Nat.{ℕ}
use mathlib.Core.Path.{◌≡◌, refl, sym, ap, ◌∙◌}
use mathlib.Core.Bool.{true}
use mathlib.Core.List.{List}
use lib.ListN.{drop}
use lib.Dec.{eqb}
use borrow.Table.Steps.{cases}
use Rattle.header.specs.declared.Side.{Side}
use Rattle.header.specs.declared.Header.{Header}
use Rattle.header.specs.declared.Refusal.{Refusal}
use Rattle.header.specs.Refusal.{number_of as number_told}
use Rattle.header.specs.Link.{shared_set}
use Rattle.header.specs.Header.{kind_of}
use Rattle.kinds.specs.Content.{Content}
use Rattle.kinds.specs.Codec.{decode}
use Rattle.packet.specs.declared.Packet.{Packet}
use Rattle.packet.specs.Packet.{content_of}
use Rattle.decoder.specs.Reading.{told, read_of}
use Rattle.decoder.proofs.Decoded.{refusing, passing}
use Rattle.requests.specs.Requests.{ids_differ}
use Rattle.events.specs.declared.Case.{Case}
use Rattle.events.specs.Event.{Event, event_of, case_of, Shows}
use Rattle.events.specs.Proper.{transfer-asks, stream-typed}
use Rattle.checks.specs.declared.Change.{Change}
use Rattle.checks.specs.Checks.{match_of, number_of}
use Rattle.checks.specs.Change.{change_for, numbered, ruled_by, ruling_of}
use Rattle.checks.specs.Ruled.{ruled}
use Rattle.checks.proofs.Agree.{Proper, ruled-is}
use Rattle.session.specs.declared.Session.{Session}
use Rattle.session.specs.Session.{link_of}
use Rattle.session.specs.Step.{next_for, judged}
use Rattle.gate.specs.Verdict.{ruled_as, refused_as, verdict_of}

module _ (s : Session) (from : Side) (bytes : List ℕ) where
  -- "10 to 24"
  pub verdict-refused : (r : Refusal) → told (link_of from s) bytes (Err r) ≡ read_of (link_of from s) bytes
      → verdict_of s from bytes ≡ record { session = refused_as s (kind_of bytes); number = number_told r; handed = None }
  unfolding verdict_of
  verdict-refused r t = let g = refusing t refl in rw (g.nonzero, ← g.number)

  -- a packet that came out of the wire checks
  module _ (h : Header) (p : Packet) (t : told (link_of from s) bytes (Ok (h, p)) ≡ read_of (link_of from s) bytes) where
    abbrev event : Event
    event = event_of from (decode (link_of from s) bytes)

    abbrev number : ℕ
    number = number_of s.head s.rows s.requests event

    abbrev change : Change
    change = change_for s.requests event (match_of s.requests event)

    -- what the packet says, and the rows that it announces
    abbrev content : Content
    content = content_of (shared_set (link_of from s)) h.id p (drop h.size bytes)

    content-is : content ≡ decode (link_of from s) bytes
    content-is = (passing t refl).content

    proper : Proper event
    proper = record { transfer = transfer-asks from (decode (link_of from s) bytes); streamed = stream-typed from (decode (link_of from s) bytes) }

    judged-as : verdict_of s from bytes ≡ ruled_as s from (read_of (link_of from s) bytes).handed event.rows (ruled_by number change)
    unfolding verdict_of judged next_for event_of number_of
    judged-as = rw (passing t refl).number (cases (eqb number 0) (λ b. rw b) (λ b. rw b (rw b)))

    -- the case that it shows is that of its event
    pub case-is : (x : Case) → Shows from h.id p (drop h.size bytes) x → x ≡ case_of event
    case-is x m = m (shared_set (link_of from s)) ∙ ap (λ (y : Content). case_of (event_of from y)) content-is

    pub verdict-ruled : ids_differ s.requests ≡ true → (x : Case) (u : Result Change Refusal) → Shows from h.id p (drop h.size bytes) x
        → u ≡ ruled s.head s.rows s.requests x
        → verdict_of s from bytes ≡ ruled_as s from (told (link_of from s) bytes (Ok (h, p))).handed (event_of from content).rows (numbered u)
    unfolding ruling_of
    verdict-ruled d x u m q =
        let z : numbered u ≡ ruled_by number change = ap numbered (q ∙ ap (ruled s.head s.rows s.requests) (case-is x m)) ∙ ruled-is s.head s.rows s.requests d event proper in
        judged-as ∙ sym (λ i. ruled_as s from (t i).handed (event_of from (content-is i)).rows (z i))
