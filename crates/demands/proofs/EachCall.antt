-- Each call, in the words of document 01 (`bars`, `shuts`, `leaves`, `stops`).
-- The premises of a sentence on a number decide the definition's tests. The other two go by the ways of a call, barred or by its cut, with the
-- numbers of each (`Numbers.antt`). A hello needs nothing shared, so 23, 24 or 13 refuses it (`hello-number`).
-- Assumes nothing.
use Rattle.std.specs.Prelude.{Option, None}
use Prim.Native.Nat.{ℕ, ◌≤◌, ◌+◌, ◌-◌}
use native.Mathlib.Omega.{arith}
use mathlib.Core.Bool.{Bool, true, false, cond, not, ◌&&◌, ◌||◌, false≢true, true≢false, and-false}
use mathlib.Core.List.{List, [], ◌∷◌, ◌++◌}
use mathlib.Core.Path.{◌≡◌, refl, sym, ap, subst, ◌∙◌}
use lib.Dec.{eqb, ltb}
use lib.ListN.{drop, length, take, length-append, take-append-drop}
use lib.Seq.{sets, sets-eq, drop_at, length-take-le}
use borrow.Author.Tests.{eqb-true, ne_eqb, le-ltb, lt-ltb}
use borrow.Table.Steps.{cases}
use Rattle.octets.proofs.Logic.{or-none}
use Rattle.octets.proofs.Integers.{le-front}
use Rattle.header.specs.declared.Side.{Side}
use Rattle.header.specs.declared.Side.TheVariants.{Guest, Host}
use Rattle.header.specs.Link.{shared_set, passed}
use Rattle.header.specs.declared.Link.{Link}
use Rattle.header.specs.Header.{kind_of, length_of, header_number}
use Rattle.kinds.specs.Table.{kinds, kind_at}
use Rattle.kinds.specs.Content.{Content, find}
use Rattle.kinds.specs.Codec.{decode, read_number, content_at, encode, or_next, body_length, packet_number, write_number}
use Rattle.kinds.specs.Number.{kind_number, wire_number, is_none, surplus, wide_id, size_ok, bad as bad-place, streams_alone, in_order, by_kind}
use Rattle.frame.specs.Cut.{Cut, more, bad, whole}
use Rattle.frame.specs.Frame.{cut_at, completed, head_size, location_for}
use Rattle.wire.specs.Usbredir.{usbredir}
use Rattle.wire.proofs.Usbredir.{laws, hello-fields}
use Rattle.wire.specs.Told.{IsBad}
use Rattle.wire.proofs.Told.{bad-is, whole_is, whole-fits}
use Rattle.decoder.specs.Reading.{PacketTold}
use Rattle.events.specs.Event.{event_of}
use Rattle.session.specs.declared.Session.{Session}
use Rattle.session.specs.Session.{link_of, unfit}
use Rattle.gate.specs.Verdict.{held_of, held_as, stopped_now, refused_as, verdict_of}
use Rattle.gate.specs.Offer.{Outcome, held_bytes, is_waiting, barred, by_cut, offer_of, held_whole, WholeHere}
use Rattle.gate.specs.Write.{shut, write_by}
use Rattle.gate.specs.Ready.{Fit, Ready}
use Rattle.gate.proofs.Ready.{fit_is, is-fit, ready, is-more, lies, held-few, whole_here, header-here}
use Rattle.claims.specs.Allowed.{among}
use Rattle.claims.proofs.KeptByPacket.{kept-plain}
use Rattle.demands.specs.CallLists.{ends_packet}
use Rattle.demands.specs.EachCall.{own_passed, other_passed, Unfinished, Goes, of_header, AlwaysBars, AlwaysShuts, takes_nothing, CallLeaves, AlwaysLeaves, stopping, Stops}
use Rattle.demands.proofs.Numbers.{header-numbers, wire-numbers, session-numbers, barred-numbers}
use Rattle.demands.proofs.KeptByCall.{whole-number, verdict-numbers}
use Rattle.demands.proofs.Demand3.{offer-open}
use Rattle.demands.proofs.Demand2.{number-in-gate}
use Rattle.demands.proofs.CutsDontMatter.{verdict-ends, barred-ends-none}

-- ---- 2: "own hello passed, other's not"

-- where the sender's own hello has passed, both have exactly where the other's has
waiting-is : (from : Side) (s : Session) → is_waiting (link_of from s) ≡ (own_passed from s && not (other_passed from s))
waiting-is Guest s = go (passed s.head.guest) (passed s.head.host)
  where
    go : (a b : Bool) → (a && not (a && b)) ≡ (a && not b)
    go true b = refl
    go false b = refl
waiting-is Host s = go (passed s.head.guest) (passed s.head.host)
  where
    go : (a b : Bool) → (b && not (a && b)) ≡ (b && not a)
    go true true = refl
    go true false = refl
    go false true = refl
    go false false = refl

-- ---- the reader's order: 41, 43, 3, 2, then 1, or 10 to 12, or the number of a whole packet

-- a direction whose hello was answered does not wait
not-waiting : (from : Side) (s : Session) → (own_passed from s ≡ true → other_passed from s ≡ true) → is_waiting (link_of from s) ≡ false
not-waiting from s h = waiting-is from s ∙ go (own_passed from s) refl (other_passed from s) refl
  where
    go : (a : Bool) → own_passed from s ≡ a → (b : Bool) → other_passed from s ≡ b → (a && not b) ≡ false
    go false ea b eb = refl
    go true ea true eb = refl
    go true ea false eb = absurd (true≢false (sym (h ea) ∙ eb))

goes-ready : (from : Side) (s : Session) (hold : List ℕ) → Goes from s hold → Ready from s hold
goes-ready from s hold g = record { room = g.room; fit = is-fit s g.fit; begun = g.begun; running = g.running; not-waiting = not-waiting from s g.hello-answered }

-- a header that is refused has one of the numbers 10, 11 and 12
header-number : (l : Link) (b : List ℕ) (n : ℕ) → cut_at l b ≡ bad n → of_header n ≡ true
header-number l b n e =
    let i : IsBad usbredir l b n = bad-is usbredir l b n e in
    subst (λ (m : ℕ). (m ≡ 0 → ⊥) → of_header m ≡ true) i.number
    (header-numbers (λ m. (m ≡ 0 → ⊥) → of_header m ≡ true) ((λ z. absurd (z refl)), ((λ z. refl), ((λ z. refl), ((λ z. refl), tt)))) l (kind_of b) (length_of b)) i.refused

-- the premises of each sentence decide the tests in front of its number; where none of 41, 43, 3 and 2 holds, the cut decides
pub bars : AlwaysBars
unfolding offer_of barred
bars from s hold piece =
    record {
      short = λ h. rw (lt-ltb (length hold) 32784 h) refl;
      unfit = λ h z. rw (le-ltb (length hold) 32784 h, bad-state z) refl;
      stopped = λ h f m t. rw (le-ltb (length hold) 32784 h, is-fit s f, m, t) refl;
      waiting = λ h f m t a b. rw (le-ltb (length hold) 32784 h, is-fit s f, m, t, waiting-is from s, a, b) refl;
      not-whole = λ g e. is_cut g more e;
      header = λ g m e. let q = is_cut g (bad m) e in (q ∙ sym (bad-is usbredir (link_of from s) (held_bytes from s hold ++ piece) m e).number, subst (λ (k : ℕ). of_header k ≡ true) (sym q) (header-number (link_of from s) (held_bytes from s hold ++ piece) m e));
      packet = λ g m e. number-in-gate from s hold piece (goes-ready from s hold g) m e;
    }
  where
    bad-state : (Fit s × Unfinished from s hold → ⊥) → (unfit s || held_whole from s hold) ≡ true
    bad-state z = go (unfit s) refl (held_whole from s hold) refl
      where
        go : (a : Bool) → unfit s ≡ a → (b : Bool) → held_whole from s hold ≡ b → (a || b) ≡ true
        go true ea b eb = refl
        go false ea true eb = refl
        go false ea false eb = absurd (z (fit_is s ea, is-more (cut_at (link_of from s) (held_bytes from s hold)) eb))

    is_cut : Goes from s hold → (c : Cut) → cut_at (link_of from s) (held_bytes from s hold ++ piece) ≡ c → (offer_of from s hold piece).number ≡ (by_cut from s hold piece c).number
    is_cut g c e = ap (λ (o : Outcome). o.number) (offer-open from s hold piece (goes-ready from s hold g) ∙ ap (by_cut from s hold piece) e)

-- ---- the writer's order: 43, 3, and 2 for a non-hello, then the wire checks, then 40

next-next : (a b c : ℕ) → or_next (or_next a b) c ≡ or_next a (or_next b c)
next-next a b c = go (eqb a 0) refl
  where
    go : (t : Bool) → eqb a 0 ≡ t → or_next (cond t b a) c ≡ cond t (or_next b c) a
    go true e = refl
    go false e = rw e refl

-- the same for the writer; `write_number` nests its numbers to the left, the sentence to the right (`next-next`)
pub shuts : AlwaysShuts
unfolding write_by shut write_number packet_number
shuts from s p room =
    record {
      unfit = λ z. rw (not-fit z) refl;
      stopped = λ f t. rw (is-fit s f, t) refl;
      waiting = λ f t h a b. rw (is-fit s f, t, ne_eqb p.kind 0 h, waiting-is from s, a, b) refl;
      going = λ f t a. rw (is-fit s f, t, not-shut a) (next-next (header_number (link_of from s) p.kind (body_length (link_of from s) p)) (wire_number (link_of from s) p) (cond (ltb room (length (encode (link_of from s) p))) 40 0));
    }
  where
    not-fit : (Fit s → ⊥) → unfit s ≡ true
    not-fit z = go (unfit s) refl
      where
        go : (a : Bool) → unfit s ≡ a → a ≡ true
        go true e = refl
        go false e = absurd (z (fit_is s e))

    not-shut : ((p.kind ≡ 0 → ⊥) → own_passed from s ≡ true → other_passed from s ≡ true) → (is_waiting (link_of from s) && not (eqb p.kind 0)) ≡ false
    not-shut g = cases (eqb p.kind 0) (λ t. rw t (and-false (is_waiting (link_of from s)))) (λ t. rw (t, not-waiting from s (g (λ z. true≢false (sym (ap (λ (m : ℕ). eqb m 0) z) ∙ t)))) refl)

-- ---- what a call leaves

-- an answer that ends a packet is none of the others
ends-moved : (n : ℕ) → ends_packet n ≡ true → takes_nothing n ≡ true → ⊥
ends-moved n h m = cases (eqb n 1) (λ t. false≢true (rw t at h)) (λ t. false≢true (rw (t, m) at h))

ends-other : (n : ℕ) → ends_packet n ≡ true → n ≡ 1 → ⊥
ends-other n h e = false≢true (rw e at h)

-- and a whole packet has none of them
packet-number : (d : Side) (s : Session) (b : List ℕ) (n : ℕ) → cut_at (link_of d s) b ≡ whole n → of_header (verdict_of (held_as d 0 s) d (take n b)).number ≡ false
packet-number d s b n e = verdict-numbers (λ m. of_header m ≡ false) (refl, (refl, (refl, (refl, (refl, (refl, (refl, tt))))))) (refl, (refl, (refl, (refl, (refl, (refl, (refl, (refl, (refl, (refl, (refl, tt))))))))))) d (held_as d 0 s) b n e

pub header-ends : (l : Link) (b : List ℕ) (n : ℕ) → cut_at l b ≡ bad n → ends_packet n ≡ true
header-ends l b n e =
    let i : IsBad usbredir l b n = bad-is usbredir l b n e in
    subst (λ (m : ℕ). ends_packet m ≡ true) i.number (header-numbers (λ m. ends_packet m ≡ true) (refl, (refl, (refl, (refl, tt)))) l (kind_of b) (length_of b))

-- what is completed in the buffer ends there
completed-rest : (hold piece : List ℕ) (held n : ℕ) → WholeHere hold piece held n → drop n (completed hold held piece n) ≡ drop n hold
completed-rest hold piece held n w = go (eqb held 0)
  where
    go : (b : Bool) → drop n (cond b hold (sets hold held (take (n - held) piece))) ≡ drop n hold
    go true = refl
    go false =
        let l : length (take held hold) ≡ held = length-take-le held hold (omega (arith, w.room, w.begun)) in
        let m : length (take (n - held) piece) ≡ n - held = length-take-le (n - held) piece (omega (arith, w.there)) in
        let k : held + length (take (n - held) piece) ≡ n = omega (arith, w.begun) in
        ap (drop n) (sets-eq (take (n - held) piece) hold held (omega (arith, w.room)))
        ∙ drop_at (take held hold ++ take (n - held) piece) (drop (held + length (take (n - held) piece)) hold) n (omega (arith, length-append (take held hold) (take (n - held) piece)))
        ∙ ap (λ (j : ℕ). drop j hold) k

-- a packet, or a header that is refused, of so many bytes
module _ (from : Side) (s : Session) (hold piece : List ℕ) (size : ℕ) (w : WholeHere hold piece (held_of from s) size) where
  -- the number ends a packet, so that what is said of 1, 2, 3, 41 and 43 asks nothing; the bytes are those of `lies` and `completed-rest`
  ended : (t : Session) (n : ℕ) (h : Option PacketTold) → ends_packet n ≡ true
      → (of_header n ≡ true → size ≡ head_size (link_of from s) (held_bytes from s hold ++ piece))
      → (of_header n ≡ false → size ≡ head_size (link_of from s) (held_bytes from s hold ++ piece) + length_of (held_bytes from s hold ++ piece))
      → CallLeaves from s hold piece (record { session = t; number = n; taken = size - held_of from s; location = location_for (held_of from s); size = size; handed = h; hold = completed hold (held_of from s) piece size })
  ended t n h e z y =
      record {
        unmoved = λ m. absurd (ends-moved n e m);
        used-up = λ o. absurd (ends-other n e o);
        uncopied = λ _ z. rw z refl;
        readable = λ _. lies hold piece (held_of from s) size w;
        rest = λ _. completed-rest hold piece (held_of from s) size w;
        taken = λ _. omega (arith, w.begun);
        header-size = z;
        packet-size = λ _. y;
      }

barred-other : (from : Side) (s : Session) (hold : List ℕ) → barred from s hold ≡ 1 → ⊥
barred-other = barred-numbers (λ m. m ≡ 1 → ⊥) ((λ e. omega (arith, e)), ((λ e. omega (arith, e)), ((λ e. omega (arith, e)), ((λ e. omega (arith, e)), ((λ e. omega (arith, e)), tt)))))

-- by the ways of a call: the number of each leaves only some of these sentences to show
pub leaves : AlwaysLeaves
unfolding offer_of
leaves from s hold piece =
    cases (eqb (barred from s hold) 0)
    (λ t. rw t (goes (ready from s hold (eqb-true _ _ t)) (cut_at (link_of from s) (held_bytes from s hold ++ piece)) refl))
    (λ t. rw t (shut (barred-ends-none from s hold (λ z. true≢false (sym (ap (λ (m : ℕ). eqb m 0) z) ∙ t)))))
  where
    shut : ends_packet (barred from s hold) ≡ false → CallLeaves from s hold piece (Rattle.gate.specs.Offer.unmoved s hold (barred from s hold))
    shut z =
        record {
          unmoved = λ m. (refl, refl, refl);
          used-up = λ e. absurd (barred-other from s hold e);
          uncopied = λ h _. refl;
          readable = λ h. absurd (true≢false (sym h ∙ z));
          rest = λ h. refl;
          taken = λ h. absurd (true≢false (sym h ∙ z));
          header-size = λ h. absurd (true≢false (sym h ∙ barred-numbers (λ m. of_header m ≡ false) (refl, (refl, (refl, (refl, (refl, tt))))) from s hold));
          packet-size = λ h. absurd (true≢false (sym h ∙ z));
        }

    -- the three ways of a call that is not barred
    goes : Ready from s hold → (c : Cut) → cut_at (link_of from s) (held_bytes from s hold ++ piece) ≡ c → CallLeaves from s hold piece (by_cut from s hold piece c)
    goes r more e =
        record {
          unmoved = λ m. absurd (false≢true m);
          used-up = λ o. (refl, refl);
          uncopied = λ h. absurd (false≢true h);
          readable = λ h. absurd (false≢true h);
          rest = λ h. absurd (false≢true h);
          taken = λ h. absurd (false≢true h);
          header-size = λ h. absurd (false≢true h);
          packet-size = λ h. absurd (false≢true h);
        }
    goes r (bad n) e =
        ended from s hold piece (head_size (link_of from s) (held_bytes from s hold ++ piece))
        (header-here (link_of from s) hold piece (held_of from s) r.room (held-few from s r.fit) r.begun n e)
        (stopped_now (held_as from 0 s)) n None (header-ends (link_of from s) (held_bytes from s hold ++ piece) n e)
        (λ _. refl) (λ h. absurd (true≢false (sym (header-number (link_of from s) (held_bytes from s hold ++ piece) n e) ∙ h)))
    goes r (whole n) e =
        ended from s hold piece n (whole_here (link_of from s) hold piece (held_of from s) r.room (held-few from s r.fit) r.begun n e)
        (verdict_of (held_as from 0 s) from (take n (held_bytes from s hold ++ piece))).session (verdict_of (held_as from 0 s) from (take n (held_bytes from s hold ++ piece))).number
        (verdict_of (held_as from 0 s) from (take n (held_bytes from s hold ++ piece))).handed (verdict-ends from s (held_bytes from s hold ++ piece) n e)
        (λ h. absurd (true≢false (sym h ∙ packet-number from s (held_bytes from s hold ++ piece) n e))) (λ _. (whole_is usbredir (link_of from s) (held_bytes from s hold ++ piece) n e).size)

-- ---- when the session stops

-- 20 to 22 are not a hello's numbers
hello-number : (P : ℕ → Type 0) → P 0 → P 13 → P 23 → P 24 → (l : Link) (p : Content) → p.kind ≡ 0 → P (wire_number l p)
unfolding wire_number kind_number kinds
hello-number P z a b c l p k =
    let n : eqb p.kind 0 ≡ true = ap (λ (m : ℕ). eqb m 0) k in
    let w : wide_id l p ≡ false = rw n refl in
    let h : (surplus (shared_set l) (kind_at 0).fields p.fields || wide_id l p) ≡ false = or-none (surplus (shared_set l) (kind_at 0).fields p.fields) (wide_id l p) (hello-fields (shared_set l) p.fields) w in
    let size : Bool = not (size_ok l.sender (kind_at 0) p) in
    let rules : Bool = not (is_none (bad-place l.sender (shared_set l) (kind_at 0) p)) in
    let streams : Bool = streams_alone (kind_at 0).tail p.rest in
    subst P (sym (ap (λ (m : ℕ). by_kind l (find m kinds) p) k ∙ ap (λ (x : Bool). in_order false x size rules streams) h)) (order size rules streams)
  where
    order : (w m u : Bool) → P (in_order false false w m u)
    order true m u = b
    order false true u = c
    order false false true = a
    order false false false = z

-- a packet's kind stands in its own bytes
kind-front : (b : List ℕ) (n : ℕ) → 12 ≤ n → n ≤ length b → kind_of (take n b) ≡ kind_of b
kind-front b n h g =
    let c : length (take n b) ≡ n = length-take-le n b g in
    sym (le-front 4 (take n b) (drop n b) 0 (omega arith)) ∙ ap kind_of (take-append-drop n b)

-- a session that goes on
goes_on : (t : Bool) (kind n : ℕ) → stopping kind n ≡ false → t ≡ (t || stopping kind n)
goes_on true kind n z = refl
goes_on false kind n z = sym z

going_on : (t x y : Bool) → t ≡ false → x ≡ y → x ≡ (t || y)
going_on true x y z e = absurd (true≢false z)
going_on false x y z e = e

barred-still : (kind : ℕ) (from : Side) (s : Session) (hold : List ℕ) → stopping kind (barred from s hold) ≡ false
barred-still kind = let y = and-false (eqb kind 0) in barred-numbers (λ m. stopping kind m ≡ false) (y, (y, (y, (y, (y, tt)))))

-- a header that is refused
header-stops : (l : Link) (b : List ℕ) (n kind : ℕ) → cut_at l b ≡ bad n → true ≡ stopping kind n
header-stops l b n kind e =
    sym (either (of_header n) (eqb kind 0 && among (13 ∷ 23 ∷ 24 ∷ []) n) (header-number l b n e))
  where
    either : (a b : Bool) → a ≡ true → (a || b) ≡ true
    either true b e = refl
    either false b e = absurd (false≢true e)

-- a whole packet
module _ (d : Side) (s : Session) (b : List ℕ) (n : ℕ) (e : cut_at (link_of d s) b ≡ whole n) (r : s.head.stopped ≡ false) where
  abbrev l : Link
  l = link_of d s

  abbrev p : Content
  p = decode l (take n b)

  kind-is : kind_of (take n b) ≡ kind_of b
  kind-is = kind-front b n (whole-fits usbredir laws l b n e).0 (whole_is usbredir l b n e).there

  decoded : p.kind ≡ kind_of (take n b)
  unfolding decode content_at
  decoded = refl

  hello-stops : kind_of (take n b) ≡ 0 → (wire_number l p ≡ 0 → ⊥) → stopping 0 (wire_number l p) ≡ true
  hello-stops k = hello-number (λ m. (m ≡ 0 → ⊥) → stopping 0 m ≡ true) (λ z. absurd (z refl)) (λ z. refl) (λ z. refl) (λ z. refl) l p (decoded ∙ k)

  other-goes-on : eqb (kind_of (take n b)) 0 ≡ false → stopping (kind_of (take n b)) (wire_number l p) ≡ false
  other-goes-on k =
      let h : of_header (wire_number l p) ≡ false = wire-numbers (λ m. of_header m ≡ false) (refl, (refl, (refl, (refl, (refl, (refl, (refl, tt))))))) l p in
      or-none (of_header (wire_number l p)) (eqb (kind_of (take n b)) 0 && among (13 ∷ 23 ∷ 24 ∷ []) (wire_number l p)) h (rw k refl)

  refused-stops : (wire_number l p ≡ 0 → ⊥) → (refused_as (held_as d 0 s) (kind_of (take n b))).head.stopped ≡ stopping (kind_of (take n b)) (wire_number l p)
  refused-stops z =
      cases (eqb (kind_of (take n b)) 0)
      (λ t. let k : kind_of (take n b) ≡ 0 = eqb-true _ _ t in rw k (sym (hello-stops k z)))
      (λ t. let q = other-goes-on t in rw (q, t) r)

  verdict-stops : (verdict_of (held_as d 0 s) d (take n b)).session.head.stopped ≡ stopping (kind_of b) (verdict_of (held_as d 0 s) d (take n b)).number
  unfolding verdict_of
  verdict-stops =
      cases (eqb (read_number l (take n b)) 0)
      (λ t. rw t
      ((kept-plain (held_as d 0 s) (event_of d p)).stopped ∙ r
      ∙ sym (session-numbers (λ m. stopping (kind_of b) m ≡ false) (y, (y, (y, (y, (y, (y, (y, (y, (y, (y, (y, tt))))))))))) (held_as d 0 s) (event_of d p))))
      (λ t. rw (t, whole-number l b n e, ← kind-is) (refused-stops (λ z. true≢false (sym (ap (λ (m : ℕ). eqb m 0) (whole-number l b n e ∙ z)) ∙ t))))
    where
      y : (eqb (kind_of b) 0 && false) ≡ false
      y = and-false (eqb (kind_of b) 0)

-- barred and 1 stop nothing, a refused header always stops, and a whole packet as its verdict does
pub stops : Stops
unfolding offer_of
stops from s hold piece =
    cases (eqb (barred from s hold) 0)
    (λ t. rw t (goes (ready from s hold (eqb-true _ _ t)) (cut_at (link_of from s) (held_bytes from s hold ++ piece)) refl))
    (λ t. rw t (goes_on s.head.stopped (kind_of (held_bytes from s hold ++ piece)) (barred from s hold) (barred-still (kind_of (held_bytes from s hold ++ piece)) from s hold)))
  where
    goes : Ready from s hold → (c : Cut) → cut_at (link_of from s) (held_bytes from s hold ++ piece) ≡ c
        → (by_cut from s hold piece c).session.head.stopped ≡ (s.head.stopped || stopping (kind_of (held_bytes from s hold ++ piece)) (by_cut from s hold piece c).number)
    goes r more e = goes_on s.head.stopped (kind_of (held_bytes from s hold ++ piece)) 1 (and-false (eqb (kind_of (held_bytes from s hold ++ piece)) 0))
    goes r (bad n) e = going_on s.head.stopped _ _ r.running (header-stops (link_of from s) (held_bytes from s hold ++ piece) n (kind_of (held_bytes from s hold ++ piece)) e)
    goes r (whole n) e = going_on s.head.stopped _ _ r.running (verdict-stops from s (held_bytes from s hold ++ piece) n e r.running)
