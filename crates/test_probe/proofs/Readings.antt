-- What a reading tells the functions of this crate: from `told l bytes r ≡ read_of l bytes`, for a packet that passed (`passing`) and for one that
-- did not (`refusing`), and by function (`number_passed`, `field-passed`, `part-start` and the others).
-- Both sides of that equation hand something on only where the number is 0, so that what is handed on can be compared. The numbers that a packet
-- holds are the first of its content's fields, since they are as many as its kind has in front: a line for each variant, by computation
-- (`front-counts`); and the code's list of them, which ends in zeros, reads like them (`numbers-front`).
-- Assumes nothing.
use Rattle.std.specs.Prelude.{Option, Ok, Err}
use mathlib.Core.Path.{◌≡◌, refl, sym, ap, ◌∙◌}
use mathlib.Core.List.{List, map}
use Prim.Native.Nat.{ℕ, ◌≤◌}
use lib.ListN.{length, get_or, drop, length-map}
use lib.Seq.{take_at}
use lib.Dec.{lit≤}
use borrow.Author.Tests.{ne_eqb}
use Rattle.header.specs.declared.Refusal.{Refusal}
use Rattle.header.specs.Refusal.{number_of}
use Rattle.header.specs.declared.Header.{Header}
use Rattle.header.specs.declared.Link.{Link}
use Rattle.header.specs.Link.{shared_set}
use Rattle.kinds.specs.Table.{kinds}
use Rattle.kinds.specs.Content.{first_number}
use Rattle.kinds.specs.Codec.{layout, read_number}
use Rattle.packet.specs.declared.Part.{Part}
use Rattle.packet.specs.declared.Packet.{Packet}
use Rattle.packet.specs.declared.Packet.TheVariants.{Hello, Connect, Disconnect, Reset, InterfaceTable, EndpointTable, SetConfiguration, GetConfiguration, ConfigurationStatus, SetAlt, GetAlt, AltStatus, StartIso, StopIso, IsoStatus, StartInterrupt, StopInterrupt, InterruptStatus, AllocStreams, FreeStreams, StreamsStatus, Cancel, FilterReject, Filter, DisconnectAck, StartBulkReceiving, StopBulkReceiving, BulkReceivingStatus, Control, Bulk, Iso, Interrupt, BufferedBulk}
use Rattle.packet.specs.Packet.{shown_of, rest_of, single, content_of}
use Rattle.packet.specs.Fields.{or_zero, fields_of}
use Rattle.packet.proofs.Same.{shown-same}
use Rattle.decoder.specs.Reading.{Reading, told, read_of, front_fields}
use Rattle.decoder.proofs.Decoded.{refusing, passing}
use Rattle.test_probe.specs.Probe.{front_of, field_in, part_in}
use Rattle.test_probe.proofs.Listed.{padded-at, numbers_of_lem}

-- ---- the fields that a packet holds as numbers are its kind's front fields

-- as many, and no more than seven: a line for each variant
front-counts : (caps : ℕ) (p : Packet)
    → (length (shown_of caps p).front ≡ length (front_fields (layout (shown_of caps p).kind))) × (length (shown_of caps p).front ≤ 7)
unfolding kinds layout
front-counts caps (Hello x) = (refl, lit≤ tt)
front-counts caps (Connect x) = (refl, lit≤ tt)
front-counts caps Disconnect = (refl, lit≤ tt)
front-counts caps Reset = (refl, lit≤ tt)
front-counts caps (InterfaceTable x) = (refl, lit≤ tt)
front-counts caps (EndpointTable x) = (refl, lit≤ tt)
front-counts caps (SetConfiguration x) = (refl, lit≤ tt)
front-counts caps GetConfiguration = (refl, lit≤ tt)
front-counts caps (ConfigurationStatus x) = (refl, lit≤ tt)
front-counts caps (SetAlt x) = (refl, lit≤ tt)
front-counts caps (GetAlt x) = (refl, lit≤ tt)
front-counts caps (AltStatus x) = (refl, lit≤ tt)
front-counts caps (StartIso x) = (refl, lit≤ tt)
front-counts caps (StopIso x) = (refl, lit≤ tt)
front-counts caps (IsoStatus x) = (refl, lit≤ tt)
front-counts caps (StartInterrupt x) = (refl, lit≤ tt)
front-counts caps (StopInterrupt x) = (refl, lit≤ tt)
front-counts caps (InterruptStatus x) = (refl, lit≤ tt)
front-counts caps (AllocStreams x) = (refl, lit≤ tt)
front-counts caps (FreeStreams x) = (refl, lit≤ tt)
front-counts caps (StreamsStatus x) = (refl, lit≤ tt)
front-counts caps Cancel = (refl, lit≤ tt)
front-counts caps FilterReject = (refl, lit≤ tt)
front-counts caps (Filter x) = (refl, lit≤ tt)
front-counts caps DisconnectAck = (refl, lit≤ tt)
front-counts caps (StartBulkReceiving x) = (refl, lit≤ tt)
front-counts caps (StopBulkReceiving x) = (refl, lit≤ tt)
front-counts caps (BulkReceivingStatus x) = (refl, lit≤ tt)
front-counts caps (Control x) = (refl, lit≤ tt)
front-counts caps (Bulk x) = (refl, lit≤ tt)
front-counts caps (Iso x) = (refl, lit≤ tt)
front-counts caps (Interrupt x) = (refl, lit≤ tt)
front-counts caps (BufferedBulk x) = (refl, lit≤ tt)

front_of_lem : (caps id : ℕ) (p : Packet) (body : List ℕ) → front_of (content_of caps id p body) ≡ map single (shown_of caps p).front
unfolding content_of
front_of_lem caps id p body = take_at (map single (shown_of caps p).front) _ (length (front_fields (layout (shown_of caps p).kind))) (length-map (shown_of caps p).front single ∙ (front-counts caps p).0)

numbers-front : (caps id : ℕ) (p : Packet) (body : List ℕ) (i : ℕ)
    → get_or (fields_of caps p).numbers i 0 ≡ get_or (map first_number (front_of (content_of caps id p body))) i 0
numbers-front caps id p body i =
    let vs : List (Option ℕ) = (shown_of caps p).front in
    padded-at 7 (map or_zero vs) i (rw (length-map vs or_zero) (front-counts caps p).1) ∙ rw (front_of_lem caps id p body, ← numbers_of_lem vs)

-- ---- by function, with the link as the code has it

module _ {l m : Link} (same-link : l ≡ m) (bytes : List ℕ) {r : Reading} (t : told l bytes r ≡ read_of l bytes) where
  pub number-refused : {v : Refusal} {n : ℕ} → r ≡ Err v → n ≡ number_of v → n ≡ read_number m bytes
  number-refused e k = k ∙ (refusing t e).number ∙ ap (λ (x : Link). read_number x bytes) same-link

  pub number_passed : {h : Header} {p : Packet} → r ≡ Ok (h, p) → 0 ≡ read_number m bytes
  number_passed e = sym (passing t e).number ∙ ap (λ (x : Link). read_number x bytes) same-link

  pub field-refused : (i : ℕ) {v : Refusal} → r ≡ Err v → 0 ≡ field_in m bytes i
  field-refused i e = rw (← same-link, (refusing t e).nonzero)

  pub field-passed : {h : Header} {p : Packet} {caps n : ℕ} (i : ℕ) → r ≡ Ok (h, p) → caps ≡ shared_set l
      → n ≡ get_or (fields_of caps p).numbers i 0
      → n ≡ field_in m bytes i
  field-passed {h} {p} {caps} i e f g =
      let q = passing t e in
      rw (← same-link, q.number, ← q.content) (g ∙ rw f (numbers-front (shared_set l) h.id p (drop h.size bytes) i))

  pub part-refused : (end : ℕ) {v : Refusal} → r ≡ Err v → 0 ≡ part_in m bytes end
  part-refused end e = rw (← same-link, (refusing t e).nonzero)

  pub part-start : {h : Header} {p : Packet} {end : ℕ} {q : Part} → r ≡ Ok (h, p) → q ≡ rest_of p → end ≡ 0 → q.start ≡ part_in m bytes end
  part-start {p = p} e g z = let s = passing t e in rw (← same-link, s.number, z) (ap (λ (x : Part). x.start) (g ∙ sym (shown-same (shared_set l) p).1 ∙ s.rest))

  pub part_end : {h : Header} {p : Packet} {end : ℕ} {q : Part} → r ≡ Ok (h, p) → q ≡ rest_of p → (end ≡ 0 → ⊥) → q.end ≡ part_in m bytes end
  part_end {p = p} {end = end} e g z = let s = passing t e in rw (← same-link, s.number, ne_eqb end 0 z) (ap (λ (x : Part). x.end) (g ∙ sym (shown-same (shared_set l) p).1 ∙ s.rest))
