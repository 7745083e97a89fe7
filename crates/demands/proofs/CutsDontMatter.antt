-- Cuts don't matter (`cuts`).
-- Both lists are held against `play`, which knows no pieces (`plays`): each call ends no packet, and what it took stands behind what was held, or it
-- ends one, and its bytes give what `first_packet` gives, whatever follows them.
-- Assumes nothing.
use Rattle.std.specs.Prelude.{None}
use Prim.Native.Nat.{ℕ, ◌≤◌, ◌+◌, ◌-◌}
use native.Mathlib.Omega.{arith}
use mathlib.Core.Bool.{Bool, true, false, cond, true≢false}
use mathlib.Core.List.{List, [], ◌∷◌, ◌++◌, append_assoc, append-nil}
use mathlib.Core.Path.{◌≡◌, refl, sym, ap, subst, ◌∙◌}
use mathlib.Core.Logic.{◌⊎◌, inl, inr}
use lib.Dec.{eqb}
use lib.ListN.{drop, length, take, length-append}
use lib.Seq.{length-take-le, take_at, take-length, drop-append_seam}
use borrow.Author.Tests.{eqb-true, ne_eqb, le-ltb}
use borrow.Table.Steps.{cases}
use Rattle.octets.proofs.Integers.{take-sets}
use Rattle.header.specs.declared.Side.{Side}
use Rattle.header.specs.declared.Side.TheVariants.{Guest, Host}
use Rattle.header.specs.declared.Link.{Link}
use Rattle.header.specs.Header.{kind_of, length_of}
use Rattle.device.specs.declared.Head.{Head}
use Rattle.device.specs.declared.Held.{Held}
use Rattle.kinds.specs.Codec.{decode, read_number}
use Rattle.frame.specs.Cut.{Cut, more, bad, whole, cut_of}
use Rattle.frame.specs.Frame.{cut_at, completed, head_size, head_number}
use Rattle.wire.specs.Usbredir.{usbredir}
use Rattle.wire.specs.Told.{IsBad, IsWhole}
use Rattle.wire.proofs.Told.{bad-is, whole_is}
use Rattle.decoder.specs.Reading.{read_of}
use Rattle.events.specs.Meaning.{Class, Hello, Connect, Interfaces, Endpoints, Disconnect, Reset, Ack, Cancel, Filter, StartRequest, PlainRequest, StreamStatus, PlainReply, StreamOut, StreamIn}
use Rattle.events.specs.Event.{Event, event_of}
use Rattle.checks.specs.Checks.{out_of_order, match_of, number_for}
use Rattle.checks.specs.Change.{change_for}
use Rattle.checks.specs.declared.Change.{Change}
use Rattle.checks.specs.declared.Change.TheVariants as changes
use Rattle.session.specs.declared.Session.{Session}
use Rattle.session.specs.Session.{link_of, held_to}
use Rattle.session.specs.Step.{applied, next_for, Judged, judged, head_after}
use Rattle.gate.specs.Verdict.{held_of, held_as, stopped_now, refused_as, verdict_of, VerdictTold}
use Rattle.gate.specs.Offer.{Outcome, held_bytes, barred, by_cut, offer_of, WholeHere, unmoved, kept, header_refused, packet_taken}
use Rattle.gate.proofs.Ready.{more-few, ready, whole_here, header-here, front-is}
use Rattle.gate.specs.Ready.{Ready}
use Rattle.claims.proofs.KeptByPacket.{kept-plain}
use Rattle.demands.specs.CallLists.{of_side, Both, ReaderCall, answer_to, next, held_by, ends_packet, Ended, final, endings, sides, bytes_taken}
use Rattle.demands.specs.EachCall.{HeldNone}
use Rattle.demands.specs.CutsDontMatter.{WithinLimits, CutsDontMatter, first_packet_as, first_packet, Played, with_ended, play, unheld, left_held, Plays}
use Rattle.demands.proofs.Numbers.{header-numbers, barred-numbers}
use Rattle.demands.proofs.KeptByCall.{header-behind, header-front, verdict-numbers}
use Rattle.demands.proofs.Demand1.{demand-1}

-- ---- a session with nothing held

bare-held : (d : Side) (n : ℕ) (s : Session) → unheld (held_as d n s) ≡ unheld s
bare-held Guest n s = refl
bare-held Host n s = refl

-- the judge does not look at what is held, and leaves it: check 26 for each class, and the head after each change, by computation
module _ (d : Side) (n : ℕ) (s : Session) where
  order-as : (c : Class) → out_of_order (held_as d n s).head c ≡ out_of_order s.head c
  order-as Hello = refl
  order-as Connect = refl
  order-as Interfaces = refl
  order-as Endpoints = refl
  order-as Disconnect = refl
  order-as Reset = refl
  order-as Ack = refl
  order-as Cancel = refl
  order-as Filter = refl
  order-as StartRequest = refl
  order-as PlainRequest = refl
  order-as StreamStatus = refl
  order-as PlainReply = refl
  order-as StreamOut = refl
  order-as StreamIn = refl

  head_as : (from : Side) (c : Change) → head_after (held_as d n s).head from c ≡ held_to d n (head_after s.head from c).stopped (head_after s.head from c)
  head_as from changes.NoChange = refl
  head_as from (changes.Seen e id) = refl
  head_as from (changes.Hello word) = refl
  head_as from changes.Connect = refl
  head_as from changes.Interfaces = refl
  head_as from changes.Endpoints = refl
  head_as from changes.Disconnect = refl
  head_as from changes.Reset = refl
  head_as from changes.Acknowledge = refl
  head_as from (changes.Take i q) = refl
  head_as from (changes.TakeAndOpen i q typed) = refl
  head_as from (changes.Release i typed stream scope) = refl

  judged-as : (e : Event) → judged (held_as d n s) e ≡ record { session = held_as d n (judged s e).session; number = (judged s e).number }
  unfolding judged next_for applied number_for
  judged-as e =
      let next : Session = next_for s e (match_of s.requests e) in
      rw (order-as e.class)
      (cases (eqb (number_for s.head s.rows s.requests e (match_of s.requests e)) 0)
      (λ t. rw t (ap (λ (h : Head). record { session = record { head = h; rows = next.rows; requests = next.requests; watch = next.watch }; number = 0 }) (head_as e.sender (change_for s.requests e (match_of s.requests e)))))
      (λ t. rw t refl))

refused_as_lem : (d : Side) (n : ℕ) (s : Session) (kind : ℕ) → refused_as (held_as d n s) kind ≡ held_as d n (refused_as s kind)
refused_as_lem d n s kind = go (eqb kind 0)
  where
    go : (b : Bool) → cond b (stopped_now (held_as d n s)) (held_as d n s) ≡ held_as d n (cond b (stopped_now s) s)
    go true = refl
    go false = refl

verdict-as : (d : Side) (n : ℕ) (s : Session) (from : Side) (b : List ℕ)
    → verdict_of (held_as d n s) from b ≡ record { session = held_as d n (verdict_of s from b).session; number = (verdict_of s from b).number; handed = (verdict_of s from b).handed }
unfolding verdict_of
verdict-as d n s from b =
    let j = judged-as d n s (event_of from (decode (link_of from s) b)) in
    cases (eqb (read_number (link_of from s) b) 0)
    (λ t. rw t (ap (λ (q : Judged). record { session = q.session; number = q.number; handed = cond (eqb q.number 0) (read_of (link_of from s) b).handed None }) j))
    (λ t. rw t (ap (λ (u : Session). record { session = u; number = read_number (link_of from s) b; handed = None }) (refused_as_lem d n s (kind_of b))))

-- so of a session with nothing held the verdict is the same, but for what is held
verdict-bare : (s : Session) (from : Side) (b : List ℕ)
    → verdict_of (unheld s) from b ≡ record { session = unheld (verdict_of s from b).session; number = (verdict_of s from b).number; handed = (verdict_of s from b).handed }
verdict-bare s from b =
    verdict-as Guest 0 (held_as Host 0 s) from b
    ∙ ap (λ (t : VerdictTold). record { session = held_as Guest 0 t.session; number = t.number; handed = t.handed }) (verdict-as Host 0 s from b)

-- ---- bytes behind a packet change nothing

module _ (l : Link) (a r : List ℕ) (n : ℕ) where
  whole_again : cut_at l a ≡ whole n → cut_at l (take n a ++ r) ≡ whole n
  unfolding cut_of
  whole_again e =
      let w : IsWhole usbredir l a n = whole_is usbredir l a n e in
      let t : List ℕ = take n a in
      let b : List ℕ = t ++ r in
      let c : length t ≡ n = length-take-le n a w.there in
      let f = header-front l a n (omega (arith, w.size)) w.there in
      let g = header-behind l t r (omega (arith, w.size, f.size)) in
      let z : head_number l b ≡ 0 = g.number ∙ f.number ∙ w.header in
      let m : head_size l b + length_of b ≡ n = omega (arith, w.size, f.size, f.says, g.size, g.says) in
      let h : head_size l b ≤ length b = omega (arith, length-append t r) in
      let k : n ≤ length b = omega (arith, length-append t r) in
      simp (le-ltb (length b) (head_size l b) h, z, m, le-ltb (length b) n k)

  bad-again : cut_at l a ≡ bad n → (cut_at l (take (head_size l a) a ++ r) ≡ bad n) × (head_size l (take (head_size l a) a ++ r) ≡ head_size l a)
  unfolding cut_of
  bad-again e =
      let w : IsBad usbredir l a n = bad-is usbredir l a n e in
      let t : List ℕ = take (head_size l a) a in
      let b : List ℕ = t ++ r in
      let c : length t ≡ head_size l a = length-take-le (head_size l a) a w.there in
      let f = header-front l a (head_size l a) (omega arith) w.there in
      let g = header-behind l t r (omega (arith, f.size)) in
      let q : head_number l b ≡ n = g.number ∙ f.number ∙ w.number in
      let h : head_size l b ≤ length b = omega (arith, length-append t r, f.size, g.size) in
      (simp (le-ltb (length b) (head_size l b) h, q, ne_eqb n 0 w.refused), g.size ∙ f.size)

-- ---- one call

-- a verdict's number ends a packet
pub verdict-ends : (d : Side) (s : Session) (b : List ℕ) (n : ℕ) → cut_at (link_of d s) b ≡ whole n → ends_packet (verdict_of (held_as d 0 s) d (take n b)).number ≡ true
verdict-ends d s b n e = verdict-numbers (λ m. ends_packet m ≡ true) (refl, (refl, (refl, (refl, (refl, (refl, (refl, tt))))))) (refl, (refl, (refl, (refl, (refl, (refl, (refl, (refl, (refl, (refl, (refl, tt))))))))))) d (held_as d 0 s) b n e

-- what an answer leaves held
abbrev held_after : Both → Side → Outcome → Side → List ℕ
held_after x d o e = held_bytes e o.session (of_side d o.hold x.hold e)

-- a call that ends no packet: what it took stands behind what was held
record EndsNone (x : Both) (d : Side) (piece : List ℕ) (o : Outcome) : Type 0 where
  ends-none : ends_packet o.number ≡ false
  same : unheld o.session ≡ unheld x.session
  held : (e : Side) → held_after x d o e ≡ held_by x e ++ of_side d (take o.taken piece) (λ i. []) e

-- a call that ends one: its bytes are those held and those taken, and whatever follows them, they give what `first_packet` gives
record Ending (x : Both) (d : Side) (piece : List ℕ) (o : Outcome) : Type 0 where
  ends-one : ends_packet o.number ≡ true
  gives : (r : List ℕ) → first_packet d (unheld x.session) (held_by x d ++ take o.taken piece ++ r)
      ≡ record { ended = record { from = d; number = o.number; handed = o.handed } ∷ []; session = unheld o.session; size = length (held_by x d ++ take o.taken piece) }
  held : (e : Side) → held_after x d o e ≡ of_side d [] (held_by x) e

-- a call that takes nothing
unmoved-ends-none : (x : Both) (d : Side) (piece : List ℕ) (n : ℕ) → ends_packet n ≡ false → EndsNone x d piece (unmoved x.session (x.hold d) n)
unmoved-ends-none x d piece n z = record { ends-none = z; same = refl; held = same d }
  where
    same : (d e : Side) → held_after x d (unmoved x.session (x.hold d) n) e ≡ held_by x e ++ of_side d [] (λ i. []) e
    same Guest Guest = sym (append-nil (held_by x Guest))
    same Guest Host = sym (append-nil (held_by x Host))
    same Host Guest = sym (append-nil (held_by x Guest))
    same Host Host = sym (append-nil (held_by x Host))

-- a piece that is kept
kept-ends-none : (x : Both) (d : Side) (piece : List ℕ) → held_of d x.session + length piece ≤ length (x.hold d) → EndsNone x d piece (kept d x.session (x.hold d) piece)
kept-ends-none x d piece h = record { ends-none = refl; same = bare-held d (held_of d x.session + length piece) x.session; held = behind-held d h }
  where
    behind-held : (d : Side) → held_of d x.session + length piece ≤ length (x.hold d) → (e : Side)
        → held_after x d (kept d x.session (x.hold d) piece) e ≡ held_by x e ++ of_side d (take (length piece) piece) (λ i. []) e
    behind-held Guest h Guest = take-sets (x.hold Guest) piece x.session.head.held.guest h ∙ ap (λ (p : List ℕ). held_by x Guest ++ p) (sym (take-length piece))
    behind-held Guest h Host = sym (append-nil (held_by x Host))
    behind-held Host h Guest = sym (append-nil (held_by x Guest))
    behind-held Host h Host = take-sets (x.hold Host) piece x.session.head.held.host h ∙ ap (λ (p : List ℕ). held_by x Host ++ p) (sym (take-length piece))

-- what the verdict leaves held
verdict-held : (s : Session) (from : Side) (b : List ℕ) → (verdict_of s from b).session.head.held ≡ s.head.held
unfolding verdict_of
verdict-held s from b =
    cases (eqb (read_number (link_of from s) b) 0)
    (λ t. rw t (kept-plain s (event_of from (decode (link_of from s) b))).held)
    (λ t. rw t (refused-held (eqb (kind_of b) 0)))
  where
    refused-held : (c : Bool) → (cond c (stopped_now s) s).head.held ≡ s.head.held
    refused-held true = refl
    refused-held false = refl

-- with nothing held in the direction, and all as it was in the other
held-zero : (x : Both) (d : Side) (s : Session) (hold : List ℕ) → s.head.held ≡ (held_as d 0 x.session).head.held → (e : Side) → held_bytes e s (of_side d hold x.hold e) ≡ of_side d [] (held_by x) e
held-zero x Guest s hold q Guest = λ i. take (q i).guest hold
held-zero x Guest s hold q Host = λ i. take (q i).host (x.hold Host)
held-zero x Host s hold q Guest = λ i. take (q i).guest (x.hold Guest)
held-zero x Host s hold q Host = λ i. take (q i).host hold

bare-stopped : (d : Side) (s : Session) → unheld (stopped_now (held_as d 0 s)) ≡ stopped_now (unheld s)
bare-stopped Guest s = refl
bare-stopped Host s = refl

module _ (x : Both) (d : Side) (piece : List ℕ) (n : ℕ) where
  abbrev s : Session
  s = x.session

  abbrev all : List ℕ
  all = held_by x d ++ piece

  -- a header that is refused
  header-ending : WholeHere (x.hold d) piece (held_of d s) (head_size (link_of d s) all) → cut_at (link_of d s) all ≡ bad n → Ending x d piece (header_refused d s (x.hold d) piece n (head_size (link_of d s) all))
  header-ending w e =
      let l : Link = link_of d s in
      let f : take (head_size l all) all ≡ held_by x d ++ take (head_size l all - held_of d s) piece = front-is (x.hold d) piece (held_of d s) (head_size l all) w in
      let i : IsBad usbredir l all n = bad-is usbredir l all n e in
      let c : length (take (head_size l all) all) ≡ head_size l all = length-take-le (head_size l all) all i.there in
      record {
        ends-one = subst (λ (m : ℕ). ends_packet m ≡ true) i.number (header-numbers (λ m. ends_packet m ≡ true) (refl, (refl, (refl, (refl, tt)))) l (kind_of all) (length_of all));
        gives = λ r.
            let a = bad-again l all r n e in
            rw (← f)
            (ap (first_packet_as d (unheld s) (take (head_size l all) all ++ r)) a.0
            ∙ (λ i. record { ended = record { from = d; number = n; handed = None } ∷ []; session = sym (bare-stopped d s) i; size = (a.1 ∙ sym c) i }));
        held = held-zero x d (stopped_now (held_as d 0 s)) (completed (x.hold d) (held_of d s) piece (head_size l all)) refl;
      }

  -- a whole packet
  packet-ending : WholeHere (x.hold d) piece (held_of d s) n → cut_at (link_of d s) all ≡ whole n → Ending x d piece (packet_taken d s (x.hold d) piece (verdict_of (held_as d 0 s) d (take n all)) n)
  packet-ending w e =
      let l : Link = link_of d s in
      let t : List ℕ = take n all in
      let f : t ≡ held_by x d ++ take (n - held_of d s) piece = front-is (x.hold d) piece (held_of d s) n w in
      let i : IsWhole usbredir l all n = whole_is usbredir l all n e in
      let c : length t ≡ n = length-take-le n all i.there in
      let v : VerdictTold = verdict_of (held_as d 0 s) d t in
      let q : verdict_of (unheld s) d t ≡ record { session = unheld v.session; number = v.number; handed = v.handed } =
      ap (λ (u : Session). verdict_of u d t) (sym (bare-held d 0 s)) ∙ verdict-bare (held_as d 0 s) d t in
      record {
        ends-one = ended-number;
        gives = λ r.
            rw (← f)
            (ap (first_packet_as d (unheld s) (t ++ r)) (whole_again l all r n e)
            ∙ ap (λ (b : List ℕ). record { ended = record { from = d; number = (verdict_of (unheld s) d b).number; handed = (verdict_of (unheld s) d b).handed } ∷ []; session = (verdict_of (unheld s) d b).session; size = n }) (take_at t r n c)
            ∙ (λ i. record { ended = record { from = d; number = (q i).number; handed = (q i).handed } ∷ []; session = (q i).session; size = sym c i }));
        held = held-zero x d v.session (completed (x.hold d) (held_of d s) piece n) (verdict-held (held_as d 0 s) d t);
      }
    where
      ended-number : ends_packet (verdict_of (held_as d 0 s) d (take n all)).number ≡ true
      ended-number = verdict-ends d s all n e

-- ---- every call is one of the two

-- what a call shows of itself, and that the counts stay small
record CallShows (x : Both) (d : Side) (piece : List ℕ) (o : Outcome) : Type 0 where
  kind : EndsNone x d piece o ⊎ Ending x d piece o
  few : (e : Side) → held_of e o.session ≤ 32783

few-as : (d : Side) (n : ℕ) (s : Session) → n ≤ 32783 → ((e : Side) → held_of e s ≤ 32783) → (e : Side) → held_of e (held_as d n s) ≤ 32783
few-as Guest n s h f Guest = h
few-as Guest n s h f Host = f Host
few-as Host n s h f Guest = f Guest
few-as Host n s h f Host = h

few-same : (s t : Session) → t.head.held ≡ s.head.held → ((e : Side) → held_of e s ≤ 32783) → (e : Side) → held_of e t ≤ 32783
few-same s t q f Guest = subst (λ (h : Held). h.guest ≤ 32783) (sym q) (f Guest)
few-same s t q f Host = subst (λ (h : Held). h.host ≤ 32783) (sym q) (f Host)

pub barred-ends-none : (d : Side) (s : Session) (hold : List ℕ) → (barred d s hold ≡ 0 → ⊥) → ends_packet (barred d s hold) ≡ false
barred-ends-none = barred-numbers (λ m. (m ≡ 0 → ⊥) → ends_packet m ≡ false) ((λ z. absurd (z refl)), ((λ z. refl), ((λ z. refl), ((λ z. refl), ((λ z. refl), tt)))))

call-shows : (x : Both) (d : Side) (piece : List ℕ) → WithinLimits x → CallShows x d piece (offer_of d x.session (x.hold d) piece)
unfolding offer_of
call-shows x d piece f =
    cases (eqb (barred d x.session (x.hold d)) 0)
    (λ t. rw t (goes (ready d x.session (x.hold d) (eqb-true _ _ t)) (cut_at (link_of d x.session) (held_by x d ++ piece)) refl))
    (λ t. rw t (record { kind = inl (unmoved-ends-none x d piece (barred d x.session (x.hold d)) (barred-ends-none d x.session (x.hold d) (λ z. true≢false (sym (ap (λ (m : ℕ). eqb m 0) z) ∙ t)))); few = f.few }))
  where
    goes : Ready d x.session (x.hold d) → (c : Cut) → cut_at (link_of d x.session) (held_by x d ++ piece) ≡ c → CallShows x d piece (by_cut d x.session (x.hold d) piece c)
    goes r more e =
        let h = more-few (link_of d x.session) (x.hold d) piece (held_of d x.session) r.room (f.few d) e in
        record { kind = inl (kept-ends-none x d piece (omega (arith, r.room))); few = few-as d (held_of d x.session + length piece) x.session h f.few }
    goes r (bad n) e =
        record {
          kind = inr (header-ending x d piece n (header-here (link_of d x.session) (x.hold d) piece (held_of d x.session) r.room (f.few d) r.begun n e) e);
          few = few-same (held_as d 0 x.session) (stopped_now (held_as d 0 x.session)) refl (few-as d 0 x.session (omega arith) f.few);
        }
    goes r (whole n) e =
        record {
          kind = inr (packet-ending x d piece n (whole_here (link_of d x.session) (x.hold d) piece (held_of d x.session) r.room (f.few d) r.begun n e) e);
          few = few-same (held_as d 0 x.session) (verdict_of (held_as d 0 x.session) d (take n (held_by x d ++ piece))).session (verdict-held (held_as d 0 x.session) d (take n (held_by x d ++ piece))) (few-as d 0 x.session (omega arith) f.few);
        }

fits_next : (x : Both) (c : ReaderCall) → WithinLimits x → WithinLimits (next x c)
fits_next x c f = record { room = rooms c.from (answer_to x c).hold (demand-1.read c.from x.session (x.hold c.from) c.piece).buffer; few = (call-shows x c.from c.piece f).few }
  where
    rooms : (d : Side) (hold : List ℕ) → length hold ≡ length (x.hold d) → (e : Side) → 32784 ≤ length (of_side d hold x.hold e)
    rooms Guest hold q Guest = rw q (f.room Guest)
    rooms Guest hold q Host = f.room Host
    rooms Host hold q Guest = f.room Guest
    rooms Host hold q Host = rw q (f.room Host)

pub held_none : HeldNone
unfolding offer_of
held_none d s hold piece =
    cases (eqb (barred d s hold) 0)
    (λ t. rw t (goes (cut_at (link_of d s) (held_bytes d s hold ++ piece))))
    (λ t. rw t (λ h. absurd (true≢false (sym h ∙ barred-ends-none d s hold (λ z. true≢false (sym (ap (λ (m : ℕ). eqb m 0) z) ∙ t))))))
  where
    None : (d : Side) (t : Session) → t.head.held ≡ (held_as d 0 s).head.held → held_of d t ≡ 0
    None Guest t q = λ i. (q i).guest
    None Host t q = λ i. (q i).host

    goes : (c : Cut) → ends_packet (by_cut d s hold piece c).number ≡ true → held_of d (by_cut d s hold piece c).session ≡ 0
    goes more h = absurd (true≢false (sym h))
    goes (bad n) h = None d (stopped_now (held_as d 0 s)) refl
    goes (whole n) h = None d (verdict_of (held_as d 0 s) d (take n (held_bytes d s hold ++ piece))).session (verdict-held (held_as d 0 s) d (take n (held_bytes d s hold ++ piece)))

-- ---- a run is what `play` makes of its bytes and its order

-- what a call that ends no packet adds to the answers, and what one that ends one does
none-ended : (b : Bool) (e : Ended) (es : List Ended) → b ≡ false → cond b (e ∷ []) [] ++ es ≡ es
none-ended true e es z = absurd (true≢false z)
none-ended false e es z = refl

one_ended : (b : Bool) (e : Ended) (es : List Ended) → b ≡ true → cond b (e ∷ []) [] ++ es ≡ e ∷ es
one_ended true e es z = refl
one_ended false e es z = absurd (true≢false (sym z))

-- a side's bytes h, and t behind them, with T of side d between
module _ (d : Side) (h : Side → List ℕ) (T : List ℕ) (t : Side → List ℕ) where
  abbrev bytes_joined : Side → List ℕ
  bytes_joined e = h e ++ (of_side d T (λ i. []) e ++ t e)

  own-joined : bytes_joined d ≡ h d ++ T ++ t d
  own-joined = go d
    where
      go : (d : Side) → h d ++ (of_side d T (λ i. []) d ++ t d) ≡ h d ++ T ++ t d
      go Guest = sym (append_assoc (h Guest) T (t Guest))
      go Host = sym (append_assoc (h Host) T (t Host))

rest-joined : (d : Side) (h h' : Side → List ℕ) (T : List ℕ) (t : Side → List ℕ) → ((e : Side) → h' e ≡ of_side d [] h e) → (e : Side)
    → of_side d (drop (length (h d ++ T)) (bytes_joined d h T t d)) (bytes_joined d h T t) e ≡ h' e ++ t e
rest-joined Guest h h' T t q Guest = ap (drop (length (h Guest ++ T))) (own-joined Guest h T t) ∙ drop-append_seam (h Guest ++ T) (t Guest) ∙ ap (λ (b : List ℕ). b ++ t Guest) (sym (q Guest))
rest-joined Guest h h' T t q Host = ap (λ (b : List ℕ). b ++ t Host) (sym (q Host))
rest-joined Host h h' T t q Guest = ap (λ (b : List ℕ). b ++ t Guest) (sym (q Guest))
rest-joined Host h h' T t q Host = ap (drop (length (h Host ++ T))) (own-joined Host h T t) ∙ drop-append_seam (h Host ++ T) (t Host) ∙ ap (λ (b : List ℕ). b ++ t Host) (sym (q Host))

-- what a run leaves, with bytes r of each side behind those that it took
abbrev pub left_by : Both → (Side → List ℕ) → Played
left_by x r = record { ended = []; session = unheld x.session; rest = λ d. held_by x d ++ r d }

-- the claim, of a run and each side's bytes b, of which it leaves r
abbrev PlaysOn : Both → List ReaderCall → (Side → List ℕ) → (Side → List ℕ) → Type 0
PlaysOn x cs b r = play (sides (endings x cs)) (unheld x.session) (λ d. held_by x d ++ b d) ≡ with_ended (endings x cs) (left_by (final x cs) r)

-- a call before a run: what it took stands before the run's bytes
module _ (x : Both) (c : ReaderCall) (cs : List ReaderCall) (b r : Side → List ℕ) where
  abbrev y : Both
  y = next x c

  abbrev o : Outcome
  o = answer_to x c

  abbrev T : List ℕ
  T = take o.taken c.piece

  abbrev e : Ended
  e = record { from = c.from; number = o.number; handed = o.handed }

  abbrev before : Side → List ℕ
  before d = of_side c.from T (λ i. []) d ++ b d

  none-plays : EndsNone x c.from c.piece o → PlaysOn y cs b r → PlaysOn x (c ∷ cs) before r
  unfolding endings final
  none-plays q ih =
      let z = none-ended (ends_packet o.number) e (endings y cs) q.ends-none in
      let a : Side → List ℕ = bytes_joined c.from (held_by x) T b in
      let p : (d : Side) → a d ≡ held_by y d ++ b d = λ d. sym (append_assoc (held_by x d) (of_side c.from T (λ i. []) d) (b d)) ∙ ap (λ (h : List ℕ). h ++ b d) (sym (q.held d)) in
      let w = sym q.same in
      (λ i. play (sides (z i)) (unheld x.session) a)
      ∙ (λ i. play (sides (endings y cs)) (w i) (λ d. p d i))
      ∙ ih
      ∙ (λ i. with_ended (sym z i) (left_by (final y cs) r))

  ending-plays : Ending x c.from c.piece o → PlaysOn y cs b r → PlaysOn x (c ∷ cs) before r
  unfolding play endings final
  ending-plays q ih =
      let d : Side = c.from in
      let z = one_ended (ends_packet o.number) e (endings y cs) q.ends-one in
      let a : Side → List ℕ = bytes_joined d (held_by x) T b in
      let k : first_packet d (unheld x.session) (a d) ≡ record { ended = e ∷ []; session = unheld y.session; size = length (held_by x d ++ T) } =
      ap (first_packet d (unheld x.session)) (own-joined d (held_by x) T b) ∙ q.gives (b d) in
      let p = rest-joined d (held_by x) (held_by y) T b q.held in
      (λ i. play (sides (z i)) (unheld x.session) a)
      ∙ (λ i. with_ended (k i).ended (play (sides (endings y cs)) (k i).session (of_side d (drop (k i).size (a d)) a)))
      ∙ (λ i. with_ended (e ∷ []) (play (sides (endings y cs)) (unheld y.session) (λ f. p f i)))
      ∙ ap (with_ended (e ∷ [])) ih
      ∙ (λ i. with_ended (sym z i) (left_by (final y cs) r))

  call-plays : EndsNone x c.from c.piece o ⊎ Ending x c.from c.piece o → PlaysOn y cs b r → PlaysOn x (c ∷ cs) before r
  call-plays (inl q) = none-plays q
  call-plays (inr q) = ending-plays q

-- whatever bytes stand behind those taken
pub plays-on : (x : Both) (cs : List ReaderCall) (r : Side → List ℕ) → WithinLimits x → PlaysOn x cs (λ d. bytes_taken d x cs ++ r d) r
unfolding play endings final bytes_taken
plays-on x [] r f = refl
plays-on x (c ∷ cs) r f =
    let t : Side → List ℕ = λ d. bytes_taken d (next x c) cs in
    subst (λ (b : Side → List ℕ). PlaysOn x (c ∷ cs) b r)
    (λ i d. sym (append_assoc (of_side c.from (take (answer_to x c).taken c.piece) (λ e. []) d) (t d) (r d)) i)
    (call-plays x c cs (λ d. t d ++ r d) r (call-shows x c.from c.piece f).kind (plays-on (next x c) cs r (fits_next x c f)))

-- and with none behind them
pub plays : Plays
plays x cs f =
    (λ i. play (sides (endings x cs)) (unheld x.session) (λ d. held_by x d ++ sym (append-nil (bytes_taken d x cs)) i))
    ∙ plays-on x cs (λ d. []) f
    ∙ (λ i. with_ended (endings x cs) (record { ended = []; session = unheld (final x cs).session; rest = λ d. append-nil (held_by (final x cs) d) i }))

-- ---- the theorem

fits-final : (x : Both) (cs : List ReaderCall) → WithinLimits x → WithinLimits (final x cs)
unfolding final
fits-final x [] f = f
fits-final x (c ∷ cs) f = fits-final (next x c) cs (fits_next x c f)

-- a session is what it is with nothing held, and its counts
by-counts : (s t : Session) → unheld s ≡ unheld t → ((d : Side) → held_of d s ≡ held_of d t) → s ≡ t
by-counts s t e c =
    let g = c Guest in
    let h = c Host in
    λ i. held_as Guest (g i) (held_as Host (h i) (e i))

pub cuts : CutsDontMatter
cuts x cs₁ cs₂ f q =
    let e : with_ended (endings x cs₁) (left_held (final x cs₁)) ≡ with_ended (endings x cs₂) (left_held (final x cs₂)) =
    sym (plays x cs₁ f) ∙ (λ i. play (q.order i) (unheld x.session) (λ d. held_by x d ++ q.taken d i)) ∙ plays x cs₂ f in
    let g : (d : Side) → held_by (final x cs₁) d ≡ held_by (final x cs₂) d = λ d. ap (λ (p : Played). p.rest d) e in
    let l : (cs : List ReaderCall) (d : Side) → length (held_by (final x cs) d) ≡ held_of d (final x cs).session =
    λ cs d. let h = fits-final x cs f in length-take-le (held_of d (final x cs).session) ((final x cs).hold d) (omega (arith, h.few d, h.room d)) in
    record {
      answers = sym (append-nil (endings x cs₁)) ∙ ap (λ (p : Played). p.ended) e ∙ append-nil (endings x cs₂);
      session = by-counts (final x cs₁).session (final x cs₂).session (ap (λ (p : Played). p.session) e) (λ d. sym (l cs₁ d) ∙ ap length (g d) ∙ l cs₂ d);
      held = g;
    }
