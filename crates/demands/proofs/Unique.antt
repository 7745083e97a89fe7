-- Each contract leaves one answer. What is told of a packet decides it (`same-packet`), and every other part of an answer stands in what is told.
-- Assumes nothing.
use Rattle.std.specs.Prelude.{Result, Ok, Err}
use native.Mathlib.Omega.{arith}
use Prim.Native.Nat.{ℕ}
use mathlib.Core.List.{List}
use Rattle.std.proofs.lemmas.Option.{none-some, same_Some}
use mathlib.Core.Path.{◌≡◌, refl, sym, ap, subst, ◌∙◌}
use lib.ListN.{drop}
use Rattle.header.specs.declared.Side.{Side}
use Rattle.header.specs.declared.Header.{Header}
use Rattle.header.specs.declared.Link.{Link}
use Rattle.header.specs.declared.Refusal.{Refusal}
use Rattle.header.proofs.Refusals.{refused, same-number}
use Rattle.frame.specs.declared.Cut.TheVariants.{More, BadHeader, WholePacket}
use Rattle.frame.specs.Frame.{CutTold, more_bytes, bad_header, whole_packet}
use Rattle.header.specs.Link.{shared_set}
use Rattle.packet.specs.declared.Packet.{Packet}
use Rattle.packet.proofs.Same.{same-packet}
use Rattle.decoder.specs.Reading.{Reading, PacketTold, Told, told, told_behind}
use Rattle.encoder.specs.declared.Written.{Written}
use Rattle.session.specs.declared.Session.{Session}
use Rattle.session.specs.Session.{link_of}
use Rattle.gate.specs.declared.Decided.{Decided}
use Rattle.gate.specs.declared.Offered.{Offered}
use Rattle.gate.specs.Offer.{Outcome, offer_of, outcome}
use Rattle.gate.specs.Decide.{outcome_by, Decides}
use Rattle.demands.specs.Unique.{OneOffer, OneDecision, OneReading, OneReadingBehind, OneCut, OneCheck, OneWriting, OneEncoding}
use Rattle.demands.proofs.Decisions.{same-handed, decided-alike}

-- ---- packets

-- two that are read and tell the same
same_read : (l : Link) (h k : Header) (p q : Packet) (b c : List ℕ) → (told_behind l b (Ok (h, p))).handed ≡ (told_behind l c (Ok (k, q))).handed → (h ≡ k) × (p ≡ q)
same_read l h k p q b c e =
    let o = same_Some _ _ e in (
      ap (λ (x : PacketTold). x.header) o,
      same-packet (shared_set l) h.id k.id p q b c (ap (λ (x : PacketTold). x.content) o) (ap (λ (x : PacketTold). x.rows) o) (ap (λ (x : PacketTold). x.rest) o),
    )

behind-same : (l : Link) (b c : List ℕ) (v w : Reading) → told_behind l b v ≡ told_behind l c w → v ≡ w
behind-same l b c (Err r) (Err t) e = ap {B = Reading} Err (same-number r t (ap (λ (o : Told). o.number) e))
behind-same l b c (Err r) (Ok (h, p)) e = absurd (none-some _ (ap (λ (o : Told). o.handed) e))
behind-same l b c (Ok (h, p)) (Err t) e = absurd (none-some _ (sym (ap (λ (o : Told). o.handed) e)))
behind-same l b c (Ok (h, p)) (Ok (k, q)) e = let s = same_read l h k p q b c (ap (λ (o : Told). o.handed) e) in λ i. Ok (s.0 i, s.1 i)

-- ---- the reader

outcome-same : (l : Link) (piece : List ℕ) (r t : Offered) (after later : List ℕ) → outcome l r piece after ≡ outcome l t piece later → (r ≡ t) × (after ≡ later)
outcome-same l piece r t after later e =
    let h = same-handed l _ _ r.answer.handed t.answer.handed (ap (λ (o : Outcome). o.handed) e) in (
      (λ i. record { session = (e i).session; answer = record { number = (e i).number; taken = (e i).taken; location = (e i).location; size = (e i).size; handed = h i } }),
      ap (λ (o : Outcome). o.hold) e,
    )

pub one-offer : OneOffer
one-offer from s hold piece r t after later a b = outcome-same (link_of from s) piece r t after later (a ∙ sym b)

-- the buffer after a decision is that of the call
buffer-of : (from : Side) (s : Session) (d : Decided) (hold piece after : List ℕ) → Decides from s d hold piece after → after ≡ (offer_of from s hold piece).hold
unfolding outcome_by
buffer-of from s d hold piece after a = ap (λ (o : Outcome). o.hold) a.comes

pub one-decision : OneDecision
one-decision from s hold piece d k after later a b =
    let same : after ≡ later = buffer-of from s d hold piece after a ∙ sym (buffer-of from s k hold piece later b) in
    (decided-alike from s hold piece after d k a (subst (λ (x : List ℕ). Decides from s k hold piece x) (sym same) b), same)

pub one-reading-behind : OneReadingBehind
one-reading-behind l h body v w a b = behind-same l body body v w (a ∙ sym b)

read_same : (l : Link) (bytes : List ℕ) (v w : Reading) → told l bytes v ≡ told l bytes w → v ≡ w
read_same l bytes (Err r) (Err t) e = ap {B = Reading} Err (same-number r t (ap (λ (o : Told). o.number) e))
read_same l bytes (Err r) (Ok (h, p)) e = absurd (none-some _ (ap (λ (o : Told). o.handed) e))
read_same l bytes (Ok (h, p)) (Err t) e = absurd (none-some _ (sym (ap (λ (o : Told). o.handed) e)))
read_same l bytes (Ok (h, p)) (Ok (k, q)) e = behind-same l (drop h.size bytes) (drop k.size bytes) (Ok (h, p)) (Ok (k, q)) e

pub one-reading : OneReading
one-reading l bytes v w a b = read_same l bytes v w (a ∙ sym b)

-- ---- cuts and checks

abbrev case_of : CutTold → ℕ
case_of more_bytes = 0
case_of (bad_header n size) = 1
case_of (whole_packet kind size n) = 2

abbrev parts_of : CutTold → ℕ × ℕ × ℕ
parts_of more_bytes = (0, 0, 0)
parts_of (bad_header n size) = (n, size, 0)
parts_of (whole_packet kind size n) = (kind, size, n)

pub one-cut : OneCut
one-cut More More e = refl
one-cut More (BadHeader q n) e = let z = ap case_of e in absurd (omega (arith, z))
one-cut More (WholePacket k h n) e = let z = ap case_of e in absurd (omega (arith, z))
one-cut (BadHeader r m) More e = let z = ap case_of e in absurd (omega (arith, z))
one-cut (BadHeader r m) (BadHeader q n) e =
    let p = ap parts_of e in
    let why = same-number r q (ap (λ (x : ℕ × ℕ × ℕ). x.0) p) in
    let size : m ≡ n = ap (λ (x : ℕ × ℕ × ℕ). x.1) p in
    λ i. BadHeader (why i) (size i)
one-cut (BadHeader r m) (WholePacket k h n) e = let z = ap case_of e in absurd (omega (arith, z))
one-cut (WholePacket k h n) More e = let z = ap case_of e in absurd (omega (arith, z))
one-cut (WholePacket k h n) (BadHeader q m) e = let z = ap case_of e in absurd (omega (arith, z))
one-cut (WholePacket j g m) (WholePacket k h n) e = let p = ap parts_of e in λ i. WholePacket (p i).0 (p i).1 (p i).2

pub one-check : OneCheck
one-check (Ok x) (Ok y) e = refl
one-check (Ok x) (Err q) e = absurd (refused q (sym e))
one-check (Err r) (Ok y) e = absurd (refused r e)
one-check (Err r) (Err q) e = ap {B = Result (Unit {0}) Refusal} Err (same-number r q e)

-- ---- the writer

written_same : (r t : Written) → r.number ≡ t.number → r.size ≡ t.size → r ≡ t
written_same r t n m = λ i. record { number = n i; size = m i }

pub one-writing : OneWriting
one-writing from s p out r t after later a b = (written_same r t (a.number ∙ sym b.number) (a.size ∙ sym b.size), a.output ∙ sym b.output)

pub one-encoding : OneEncoding
one-encoding l p out r t after later a b = (written_same r t (a.number ∙ sym b.number) (a.size ∙ sym b.size), a.output ∙ sym b.output)
