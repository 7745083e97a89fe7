-- A whole packet taken by the code comes to the call's outcome: one that the wire checks refuse (`packet-refused`), and one that is ruled on
-- (`packet-passed`, `packet-ruled-out`).
-- The bytes that the code reads are the packet's (`lying`), and the header that it puts together is theirs (`header_is`), so that its reading is
-- theirs too (`read_is`).
-- Assumes nothing.
use Rattle.std.specs.Prelude.{Result, Ok, Err}
use Prim.Native.Nat.{ℕ, ◌+◌, ◌-◌, min}
use mathlib.Core.Path.{◌≡◌, refl, sym, ap, ◌∙◌}
use mathlib.Core.Bool.{◌||◌}
use mathlib.Core.List.{List, ◌++◌}
use lib.ListN.{length, take, drop}
use lib.Seq.{slice, take-length}
use lib.Dec.{eqb}
use Rattle.octets.specs.Little.{le}
use Rattle.header.specs.declared.Side.{Side}
use Rattle.header.specs.declared.Link.{Link}
use Rattle.header.specs.declared.Header.{Header}
use Rattle.header.specs.declared.Refusal.{Refusal}
use Rattle.header.specs.Refusal.{number_of}
use Rattle.header.specs.Header.{length_of}
use Rattle.packet.specs.declared.Packet.{Packet}
use Rattle.decoder.specs.Reading.{Reading, told_behind, told, behind_of, read_of}
use Rattle.decoder.proofs.Decoded.{passing, behind-told}
use Rattle.frame.specs.declared.Location.{Location}
use Rattle.frame.specs.Frame.{completed, location_for, bytes_at}
use Rattle.frame.specs.Frame.{Cuts}
use Rattle.frame.proofs.Framed.{Framed, framed, header_is}
use Rattle.events.specs.declared.Case.{Case}
use Rattle.events.specs.Event.{Shows}
use Rattle.checks.specs.declared.Change.{Change}
use Rattle.checks.specs.Ruled.{ruled}
use Rattle.session.specs.declared.Session.{Session}
use Rattle.session.specs.Session.{link_of, held_in}
use Rattle.gate.specs.declared.Decided.{Decided}
use Rattle.gate.specs.Offer.{held_bytes}
use Rattle.gate.specs.Decide.{ended_with, passed_with, Decides}
use Rattle.gate.specs.Ready.{Ready}
use Rattle.gate.proofs.Outcomes.{lying, refused-call, ruled-call}

module _ (from : Side) (s : Session) (hold piece : List ℕ) {l : Link} {held : ℕ} (el : l ≡ link_of from s) (ed : held ≡ held_in from s.head)
    (r : Ready from s hold) {kind head size : ℕ} (c : Cuts l (take held hold ++ piece) kind head size) where
  cut : Cuts (link_of from s) (held_bytes from s hold ++ piece) kind head size
  cut = rw (el, ed) at c

  abbrev bytes : List ℕ
  bytes = take size (held_bytes from s hold ++ piece)

  of-bytes : Framed (link_of from s) bytes kind head size
  of-bytes = framed (link_of from s) (held_bytes from s hold ++ piece) cut

  module _ {taken : ℕ} {location : Location} {after : List ℕ} (et : taken ≡ size - held) (ep : location ≡ location_for held) (ea : after ≡ completed hold held piece size)
      {lent body : List ℕ} (en : lent ≡ bytes_at location size piece after) (eb : body ≡ slice head (length lent) lent)
      (reading : Reading) (t : told_behind l body reading ≡ behind_of l (record { kind = kind; length = size - head; id = le (min (head - 8) 8) lent 8; size = head }) body) where
    lent_is : lent ≡ bytes
    lent_is = en ∙ rw (ep, ea, ed) (lying from s hold piece r cut)

    body_is : body ≡ drop head bytes
    body_is = eb ∙ ap (drop head) (take-length lent ∙ lent_is)

    pub read_is : told (link_of from s) bytes reading ≡ read_of (link_of from s) bytes
    read_is =
        let f = of-bytes in
        let u : told_behind (link_of from s) (drop head bytes) reading ≡ behind_of (link_of from s) (record { kind = kind; length = size - head; id = le (min (head - 8) 8) bytes 8; size = head }) (drop head bytes) =
        rw (el, body_is, lent_is) at t in
        behind-told (link_of from s) bytes (f.there ∙ f.says ∙ ap (λ (w : ℕ). w + length_of bytes) (sym f.size)) f.number reading (header_is (link_of from s) bytes f) (ap (λ (w : ℕ). drop w bytes) (sym f.size)) u

    pub packet-refused : {d : Decided} {v : Refusal} → reading ≡ Err v → d ≡ ended_with (number_of v) taken location size 0 (s.head.stopped || eqb kind 0) → Decides from s d hold piece after
    packet-refused {v = v} e q = rw (q, et, ep, ea, ed) (refused-call from s hold piece r cut v (rw e at read_is))

    -- a packet that came out of the wire checks, its case, and what is ruled on it
    module _ {g : Header} {p : Packet} {x : Case} (e : reading ≡ Ok (g, p)) (m : Shows from g.id p body x) {u : Result Change Refusal} (q : u ≡ ruled s.head s.rows s.requests x) where
      passed_is : told (link_of from s) bytes (Ok (g, p)) ≡ read_of (link_of from s) bytes
      passed_is = rw e at read_is

      shown : Shows from g.id p (drop g.size bytes) x
      shown =
          let w : head ≡ g.size = sym (ap (λ (y : Header). y.size) (passing passed_is refl).header ∙ of-bytes.size) in
          rw (body_is, w) at m

      pub packet-passed : {d : Decided} {v : Change} → u ≡ Ok v → d ≡ passed_with taken location size g p s.head.stopped v → Decides from s d hold piece after
      packet-passed {v = v} k z = rw (z, et, ep, ea, ed) (ruled-call from s hold piece r cut g p passed_is x (Ok v) shown (sym k ∙ q))

      pub packet-ruled-out : {d : Decided} {v : Refusal} → u ≡ Err v → d ≡ ended_with (number_of v) taken location size 0 s.head.stopped → Decides from s d hold piece after
      packet-ruled-out {v = v} k z = rw (z, et, ep, ea, ed) (ruled-call from s hold piece r cut g p passed_is x (Err v) shown (sym k ∙ q))
