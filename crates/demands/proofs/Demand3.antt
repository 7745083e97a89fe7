-- Demand 3, of the gate's reader and writer (`demand-3`).
-- The general theorem (`wire/proofs/Demand3.antt`) asks laws of one call; here the reader and the writer are shown to have them. That the calls of
-- the code are such calls (`read-of`, `other-of`, `call-of`) follows from their contracts.
-- Assumes nothing.
use Rattle.std.specs.Prelude.{None}
use Prim.Native.Nat.{ℕ, ◌+◌, ◌-◌}
use native.Mathlib.Omega.{arith}
use mathlib.Core.Bool.{Bool, true, false, cond, true≢false, and-false}
use mathlib.Core.List.{List, [], ◌∷◌, ◌++◌}
use mathlib.Core.Path.{◌≡◌, refl, sym, ap, subst, ◌∙◌}
use mathlib.Core.Logic.{inl, inr}
use lib.Dec.{eqb}
use lib.ListN.{drop, length, take}
use lib.Seq.{sets, length-sets, length-take-le, take-append_seam}
use borrow.Author.Tests.{ne_eqb, le-ltb}
use Rattle.octets.proofs.Integers.{take-sets}
use Rattle.header.specs.declared.Side.{Side}
use Rattle.header.specs.declared.Side.TheVariants.{Guest, Host}
use Rattle.header.specs.Link.{passed, own, opposite}
use Rattle.header.specs.declared.Link.{Link}
use Rattle.kinds.specs.Content.{Content}
use Rattle.kinds.specs.Codec.{decode, read_number, encode, packet_number, write_number, written, written_size}
use Rattle.kinds.proofs.RoundTrip.{both_zero}
use Rattle.frame.specs.Cut.{more, whole}
use Rattle.frame.specs.Frame.{cut_at, completed}
use Rattle.wire.specs.Usbredir.{usbredir}
use Rattle.wire.proofs.Usbredir.{laws, unshared-number, unsuited-number}
use Rattle.wire.specs.Wire.{OneOf}
use Rattle.wire.specs.Reader.{comes_out, Kept, Stopped, Part, Full, Open, ReaderLaws, WriterLaws}
use Rattle.wire.proofs.Demand3.{demand3}
use Rattle.decoder.specs.Reading.{read_of}
use Rattle.events.specs.Event.{event_of}
use Rattle.session.specs.declared.Session.{Session}
use Rattle.session.specs.Session.{link_of}
use Rattle.session.specs.Step.{judged}
use Rattle.gate.specs.Verdict.{held_of, held_as, verdict_of, VerdictTold}
use Rattle.gate.specs.Offer.{Outcome, held_bytes, is_waiting, barred, by_cut, offer_of, held_whole, unmoved, kept, packet_taken}
use Rattle.gate.specs.Write.{shut, write_by, output, output_size}
use Rattle.gate.proofs.Ready.{fit_is, is-fit, completed-length, more-few, held-few, not-barred}
use Rattle.gate.specs.Ready.{Ready}
use Rattle.claims.proofs.KeptByPacket.{kept-plain}
use Rattle.demands.specs.Demand2.{contents}
use Rattle.demands.specs.Demand3.{GateState, read_call, other_by, Established, SoundState, reader, ReadsAreCalls, OthersAreCalls, writer, WritesAreCalls, Starts, GateDemand3}
use Rattle.demands.proofs.Numbers.{Each, session-numbers}
use Rattle.demands.proofs.KeptByCall.{held-as, Keeps, same-held, offer-keeps}

-- ---- the calls of the code

pub read-of : ReadsAreCalls
read-of from x piece after r e =
    record {
      number = sym (ap (λ (o : Outcome). o.number) e);
      taken = sym (ap (λ (o : Outcome). o.taken) e);
      next = λ i. record { session = (sym e i).session; hold = (sym e i).hold; other = x.other };
      handed = λ i. contents (sym e i).handed;
    }

pub other-of : OthersAreCalls
other-of from x piece after r e = λ i. record { session = (sym e i).session; hold = x.hold; other = (sym e i).hold }

pub call-of : WritesAreCalls
call-of from s p out after r w = record { call = record { packet = p; out = out; answer = r; after = after; contract = w }; out = refl; answer = refl; after = refl; packet = refl; number = refl; put = refl }

-- ---- one call

module _ (from : Side) (s : Session) (hold piece : List ℕ) where
  pub offer-barred : (barred from s hold ≡ 0 → ⊥) → offer_of from s hold piece ≡ unmoved s hold (barred from s hold)
  unfolding offer_of
  offer-barred z = rw (ne_eqb (barred from s hold) 0 z) refl

  pub offer-open : Ready from s hold → offer_of from s hold piece ≡ by_cut from s hold piece (cut_at (link_of from s) (held_bytes from s hold ++ piece))
  unfolding offer_of
  offer-open r = rw (not-barred from s hold r) refl

opposite-twice : (d : Side) → opposite (opposite d) ≡ d
opposite-twice Guest = refl
opposite-twice Host = refl

-- with both hellos passed no direction waits
none-waiting : (from : Side) (s : Session) → Established s → is_waiting (link_of from s) ≡ false
none-waiting from s h = rw (h.guest, h.host) (and-false (passed (own (link_of from s))))

-- a state from which the direction can be read
is-ready : (from : Side) (x : GateState) → Open usbredir (reader from) x → Ready from x.session x.hold
is-ready from x o =
    record {
      room = o.sound.room;
      fit = is-fit x.session o.sound.session.fit;
      begun = o.begun;
      running = o.running;
      not-waiting = none-waiting from x.session o.sound.session;
    }

-- the session after a call, and the link
module _ (from : Side) (x : GateState) (piece : List ℕ) (h : SoundState x) where
  keeps : Keeps from x.session (offer_of from x.session x.hold piece).session
  keeps = offer-keeps from x.session x.hold piece h.session

  same-link : (d : Side) → link_of d (offer_of from x.session x.hold piece).session ≡ link_of d x.session
  same-link d = λ i. record { sender = d; guest = keeps.guest i; host = keeps.host i }

  kept-after : length (offer_of from x.session x.hold piece).hold ≡ length x.hold → Kept usbredir (reader from) x (read_call from x piece).next
  kept-after e = record { ctx = same-link from; sound = record { session = keeps.established; room = rw e h.room } }

-- ---- the laws of the reader

stopped-bar : (from : Side) (x : GateState) → SoundState x → x.session.head.stopped ≡ true → (b : Bool) → held_whole from x.session x.hold ≡ b → barred from x.session x.hold ≡ cond b 43 3
unfolding barred
stopped-bar from x h z b e = rw (le-ltb (length x.hold) 32784 h.room, is-fit x.session h.session.fit, e, z) refl

-- a stopped session
stopped_call : (from : Side) (x : GateState) (piece : List ℕ) → SoundState x → x.session.head.stopped ≡ true → Stopped usbredir (reader from) x piece
unfolding comes_out
stopped_call from x piece h z = go (held_whole from x.session x.hold) refl
  where
    from-bar : (n : ℕ) → barred from x.session x.hold ≡ n → (n ≡ 0 → ⊥) → comes_out n ≡ false → Stopped usbredir (reader from) x piece
    from-bar n e nz c =
        let q : offer_of from x.session x.hold piece ≡ unmoved x.session x.hold n = offer-barred from x.session x.hold piece (λ y. nz (sym e ∙ y)) ∙ ap (unmoved x.session x.hold) e in
        record { number = rw q c; taken = rw q refl; next = rw q refl; handed = rw q refl }

    go : (b : Bool) → held_whole from x.session x.hold ≡ b → Stopped usbredir (reader from) x piece
    go true e = from-bar 43 (stopped-bar from x h z true e) (λ y. omega arith) refl
    go false e = from-bar 3 (stopped-bar from x h z false e) (λ y. omega arith) refl

-- a packet that is not whole
part-call : (from : Side) (x : GateState) (piece : List ℕ) → Open usbredir (reader from) x → cut_at (link_of from x.session) (held_bytes from x.session x.hold ++ piece) ≡ more
    → Part usbredir (reader from) x piece
part-call from x piece o e =
    let s : Session = x.session in
    let r : Ready from s x.hold = is-ready from x o in
    let few = more-few (link_of from s) x.hold piece (held_of from s) r.room (held-few from s r.fit) e in
    let q : offer_of from s x.hold piece ≡ kept from s x.hold piece = offer-open from s x.hold piece r ∙ ap (by_cut from s x.hold piece) e in
    let f : take (held_of from s + length piece) (sets x.hold (held_of from s) piece) ≡ held_bytes from s x.hold ++ piece = take-sets x.hold piece (held_of from s) (omega (arith, r.room)) in
    record {
      number = ap (λ (p : Outcome). p.number) q;
      taken = ap (λ (p : Outcome). p.taken) q;
      held = ap (λ (p : Outcome). held_bytes from p.session p.hold) q ∙ ap (λ (k : ℕ). take k (sets x.hold (held_of from s) piece)) (held-as from s (held_of from s + length piece)) ∙ f;
      handed = ap (λ (p : Outcome). contents p.handed) q;
      running = ap (λ (p : Outcome). p.session.head.stopped) q ∙ r.running;
      kept = kept-after from x piece o.sound (ap (λ (p : Outcome). length p.hold) q ∙ length-sets x.hold (held_of from s) piece);
    }

-- a whole packet that passes the wire checks is judged
abbrev pub judged_of : Session → Side → List ℕ → VerdictTold
judged_of s from b =
    record {
      session = (judged s (event_of from (decode (link_of from s) b))).session;
      number = (judged s (event_of from (decode (link_of from s) b))).number;
      handed = cond (eqb (judged s (event_of from (decode (link_of from s) b))).number 0) (read_of (link_of from s) b).handed None;
    }

pub verdict-open : (s : Session) (from : Side) (b : List ℕ) → read_number (link_of from s) b ≡ 0 → verdict_of s from b ≡ judged_of s from b
unfolding verdict_of
verdict-open s from b z = rw z refl

pub handed-when : (b : Bool) (l : Link) (bytes : List ℕ) (q : Content) → read_number l bytes ≡ 0 → decode l bytes ≡ q → contents (cond b (read_of l bytes).handed None) ≡ cond b (q ∷ []) []
unfolding read_of
handed-when true l bytes q z e = rw z (ap (λ (p : Content). p ∷ []) e)
handed-when false l bytes q z e = refl

full-call : (from : Side) (x : GateState) (piece : List ℕ) (n : ℕ) (q : Content) → Open usbredir (reader from) x
    → cut_at (link_of from x.session) (held_bytes from x.session x.hold ++ piece) ≡ whole n
    → read_number (link_of from x.session) (take n (held_bytes from x.session x.hold ++ piece)) ≡ 0
    → decode (link_of from x.session) (take n (held_bytes from x.session x.hold ++ piece)) ≡ q
    → Full usbredir (reader from) x piece n q
unfolding comes_out
full-call from x piece n q o e z d =
    let s : Session = x.session in
    let r : Ready from s x.hold = is-ready from x o in
    let b : List ℕ = take n (held_bytes from s x.hold ++ piece) in
    let j = judged (held_as from 0 s) (event_of from (decode (link_of from s) b)) in
    let k = kept-plain (held_as from 0 s) (event_of from (decode (link_of from s) b)) in
    let v = offer-open from s x.hold piece r ∙ ap (by_cut from s x.hold piece) e ∙ ap (λ (t : VerdictTold). packet_taken from s x.hold piece t n) (verdict-open (held_as from 0 s) from b z) in
    let c : length (held_bytes from s x.hold) ≡ held_of from s = length-take-le (held_of from s) x.hold (omega (arith, r.room, held-few from s r.fit)) in
    record {
      number = ap (λ (p : Outcome). comes_out p.number) v ∙ session-numbers (λ m. comes_out m ≡ true) (refl, (refl, (refl, (refl, (refl, (refl, (refl, (refl, (refl, (refl, (refl, tt))))))))))) (held_as from 0 s) (event_of from (decode (link_of from s) b));
      taken = ap (λ (p : Outcome). p.taken) v ∙ ap (λ (m : ℕ). n - m) (sym c);
      held = ap (λ (p : Outcome). held_bytes from p.session p.hold) v ∙ ap (λ (m : ℕ). take m (completed x.hold (held_of from s) piece n)) (same-held from (held_as from 0 s) j.session k.held ∙ held-as from s 0);
      handed = ap (λ (p : Outcome). contents p.handed) v ∙ handed-when (eqb j.number 0) (link_of from s) b q z d ∙ ap (λ (m : ℕ). cond (eqb m 0) (q ∷ []) []) (sym (ap (λ (p : Outcome). p.number) v));
      running = ap (λ (p : Outcome). p.session.head.stopped) v ∙ k.stopped ∙ r.running;
      kept = kept-after from x piece o.sound (ap (λ (p : Outcome). length p.hold) v ∙ completed-length x.hold piece (held_of from s) n);
    }

-- a call for the other direction
other-call : (from : Side) (x : GateState) (piece : List ℕ) → SoundState x → Kept usbredir (reader from) x (other_by from x piece) × (held_bytes from (other_by from x piece).session x.hold ≡ held_bytes from x.session x.hold)
other-call from x piece h =
    let k = offer-keeps (opposite from) x.session x.other piece h.session in
    let e : held_of from (other_by from x piece).session ≡ held_of from x.session = subst (λ (d : Side). held_of d (other_by from x piece).session ≡ held_of d x.session) (opposite-twice from) k.held in (
      record { ctx = λ i. record { sender = from; guest = k.guest i; host = k.host i }; sound = record { session = k.established; room = h.room } },
      ap (λ (n : ℕ). take n x.hold) e,
    )

reader-laws : (from : Side) → ReaderLaws usbredir (reader from)
reader-laws from =
    record {
      stopped = stopped_call from;
      part = part-call from;
      full = λ x piece n q o e z d a. full-call from x piece n q o e z d;
      other = λ x piece h. (other-call from x piece h).0;
      other-held = λ x piece h. (other-call from x piece h).1;
    }

-- ---- the laws of the writer

-- where a call's number is 0, so are its parts
write-zero : (from : Side) (s : Session) (p : Content) (room : ℕ) → write_by from s p room ≡ 0 → (shut from s (eqb p.kind 0) ≡ 0) × (write_number (link_of from s) p room ≡ 0)
unfolding write_by
write-zero from s p room e = both_zero (shut from s (eqb p.kind 0)) (write_number (link_of from s) p room) e

puts : (from : Side) (s : Session) (p : Content) (out : List ℕ) → write_by from s p (length out) ≡ 0 → take (output_size from s p (length out)) (output from s p out) ≡ encode (link_of from s) p
unfolding output output_size written written_size
puts from s p out e =
    let z = write-zero from s p (length out) e in
    rw (z.0, z.1) (take-append_seam (encode (link_of from s) p) (drop (length (encode (link_of from s) p)) out))

-- ---- where it starts

module _ (from : Side) (x : GateState) (h : Starts from x) where
  established : Established x.session
  established = record { guest = h.guest; host = h.host; fit = fit_is x.session h.fit }

  -- no writer call from there is shut by 43, 3 or 2
  going : (hello : Bool) → shut from x.session hello ≡ 0
  unfolding shut
  going hello = rw (h.fit, h.running, none-waiting from x.session established) refl

  -- and 11 cannot be
  own-passed : passed (own (link_of from x.session)) ≡ false → ⊥
  own-passed e = true≢false (sym (by from) ∙ e)
    where
      by : (d : Side) → passed (own (link_of d x.session)) ≡ true
      by Guest = h.guest
      by Host = h.host

  -- a number of the wire checks other than 0 is the call's
  refused-by : (ms : List ℕ) → Each (λ m. m ≡ 0 → ⊥) ms → (p : Content) (room : ℕ) → OneOf ms (packet_number (link_of from x.session) p) → OneOf ms (write_by from x.session p room)
  unfolding write_by write_number
  refused-by ms a p room o = rw (going (eqb p.kind 0), ne_eqb (packet_number (link_of from x.session) p) 0 (none-zero ms _ a o)) o
    where
      none-zero : (ms : List ℕ) (n : ℕ) → Each (λ m. m ≡ 0 → ⊥) ms → OneOf ms n → n ≡ 0 → ⊥
      none-zero [] n a o z = o
      none-zero (m ∷ ms) n a (inl e) z = a.0 (sym e ∙ z)
      none-zero (m ∷ ms) n a (inr o) z = none-zero ms n a.1 o z

  writer-laws : WriterLaws usbredir (link_of from x.session) (writer from x.session)
  writer-laws =
      record {
        checked = λ w e. w.contract.accepted e;
        bytes = λ w e.
            (λ i. take (w.contract.size i) (w.contract.output i)) ∙ puts from x.session w.packet w.out (sym w.contract.number ∙ e);
        unshared = λ w u.
            let ms : List ℕ = usbredir.unshared_numbers in
            subst (OneOf ms) (sym w.contract.number)
            (refused-by ms (omega arith) w.packet (length w.out)
            (unshared-number (OneOf ms) (link_of from x.session) w.packet (inl refl) (λ e. absurd (own-passed e)) (inr (inl refl)) (inr (inr (inl refl))) u));
        unsuited = λ w u.
            let ms : List ℕ = usbredir.unsuited_numbers in
            subst (OneOf ms) (sym w.contract.number)
            (refused-by ms (omega arith) w.packet (length w.out)
            (unsuited-number (OneOf ms) (link_of from x.session) w.packet (inl refl) (λ e. absurd (own-passed e)) (inr (inl refl)) (inr (inr (inl refl))) (inr (inr (inr (inl refl)))) (inr (inr (inr (inr (inl refl))))) u));
      }

-- ---- the theorem

pub demand-3 : GateDemand3
demand-3 from x s =
    demand3 usbredir laws (reader from) (reader-laws from) x
    (record { sound = record { session = established from x s; room = s.room }; running = s.running; fresh = ap (λ (n : ℕ). take n x.hold) s.nothing-held })
    (writer from x.session) (writer-laws from x s)
