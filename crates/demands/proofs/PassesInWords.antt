-- Demand 2 in words: each test in front of the wire checks holds exactly where its relation does, and the wire checks are `wire-exactly`.
-- A packet's number among the wire checks is the call's: no session check has one of 13 to 24, nor is 40 one. Behind them it is `numbered`.
-- Assumes nothing.
use Prim.Native.Nat.{ℕ, ◌≤◌}
use native.Mathlib.Omega.{arith}
use mathlib.Core.Bool.{Bool, true, false, cond, not, ◌&&◌, true≢false, false≢true}
use mathlib.Core.List.{List}
use mathlib.Core.Logic.{◌↔◌, inl, inr}
use mathlib.Core.Path.{◌≡◌, refl, sym, ap, subst, ◌∙◌}
use lib.ListN.{length}
use lib.Dec.{eqb, ltb}
use borrow.Author.Tests.{ltb-true, ltb-false, lt-ltb, le-ltb, eqb-true, eqb-false, eq-eqb, ne_eqb}
use borrow.Table.Steps.{cases}
use Rattle.octets.proofs.Logic.{and_parts, and-whole}
use Rattle.header.specs.declared.Side.{Side}
use Rattle.header.specs.declared.Side.TheVariants.{Guest, Host}
use Rattle.header.specs.declared.Link.{Link}
use Rattle.header.specs.Link.{passed, own}
use Rattle.header.specs.Header.{kind_of, length_of, header_number}
use Rattle.kinds.specs.Content.{Content}
use Rattle.kinds.specs.Codec.{encode, or_next, body_length}
use Rattle.kinds.specs.Number.{wire_number}
use Rattle.kinds.specs.Formed.{Formed, Numbered}
use Rattle.kinds.proofs.Formed.{wire-exactly, wire-number-is}
use Rattle.device.specs.Device.{control, row_at}
use Rattle.requests.proofs.Places.{differ-when, when-differ}
use Rattle.events.specs.Event.{event_of}
use Rattle.checks.specs.Checks.{first_of}
use Rattle.session.specs.declared.Session.{Session}
use Rattle.session.specs.Session.{link_of, unfit}
use Rattle.session.specs.Step.{judged}
use Rattle.claims.specs.Allowed.{Allowed, SessionNumbered}
use Rattle.claims.specs.NumberByKind.{checks_by}
use Rattle.claims.proofs.Allowed.{numbered}
use Rattle.frame.specs.Cut.{more, whole, cut_of}
use Rattle.frame.specs.Frame.{head_size, head_number, cut_at, is_more}
use Rattle.wire.specs.Told.{IsWhole}
use Rattle.wire.proofs.Told.{whole_is}
use Rattle.wire.specs.Usbredir.{usbredir}
use Rattle.gate.specs.Verdict.{held_as}
use Rattle.gate.specs.Offer.{held_bytes, is_waiting, Outcome, offer_of}
use Rattle.gate.specs.Write.{shut, write_by}
use Rattle.gate.specs.Ready.{Fit, Ready}
use Rattle.gate.proofs.Ready.{fit_is, is-fit}
use Rattle.demands.proofs.Numbers.{wire-numbers, session-numbers}
use Rattle.demands.specs.EachCall.{own_passed, other_passed, Goes}
use Rattle.demands.proofs.EachCall.{bars, shuts}
use Rattle.demands.specs.Demand2.{packet_at, Passes}
use Rattle.demands.proofs.Demand2.{demand-2, judged-call, number-in-gate, writer-exactly}
use Rattle.demands.specs.PassesInWords.{Leavable, HeaderAllowed, size_of_packet, NotWhole, at_hand, packet_in, Opens, Arrives, OpensWriter, Reaches, PassesInWords, PassesExactly, WritesExactly, HeaderNumbered, HeaderNumberIs, WriterHeaderNumberIs, ReaderNumberIs, WriterNumberIs, SessionNumberIs}

-- ---- 43, of the session itself

leavable : (s : Session) → Fit s → Leavable s
leavable s f =
    let c = and_parts (eqb (row_at s.rows 0).ty control) (eqb (row_at s.rows 16).ty control) f.control in
    record {
      guest = f.guest;
      host = f.host;
      ids = differ-when s.requests f.ids;
      control-rows = (eqb-true (row_at s.rows 0).ty control c.0, eqb-true (row_at s.rows 16).ty control c.1);
    }

fit_of : (s : Session) → Leavable s → Fit s
fit_of s v =
    record {
      guest = v.guest;
      host = v.host;
      ids = when-differ s.requests v.ids;
      control = and-whole (eqb (row_at s.rows 0).ty control) (eqb (row_at s.rows 16).ty control) (eq-eqb (row_at s.rows 0).ty control v.control-rows.0) (eq-eqb (row_at s.rows 16).ty control v.control-rows.1);
    }

-- ---- 2

wait-guest : (a b : Bool) → ((a && not (a && b)) ≡ false) ↔ (a ≡ true → b ≡ true)
wait-guest true true = (λ e t. refl, λ h. refl)
wait-guest true false = (λ e t. absurd (true≢false e), λ h. absurd (false≢true (h refl)))
wait-guest false b = (λ e t. absurd (false≢true t), λ h. refl)

wait-host : (a b : Bool) → ((b && not (a && b)) ≡ false) ↔ (b ≡ true → a ≡ true)
wait-host true true = (λ e t. refl, λ h. refl)
wait-host false true = (λ e t. absurd (true≢false e), λ h. absurd (false≢true (h refl)))
wait-host true false = (λ e t. absurd (false≢true t), λ h. refl)
wait-host false false = (λ e t. absurd (false≢true t), λ h. refl)

waiting-is : (from : Side) (s : Session) → (is_waiting (link_of from s) ≡ false) ↔ (own_passed from s ≡ true → other_passed from s ≡ true)
waiting-is Guest s = wait-guest (passed s.head.guest) (passed s.head.host)
waiting-is Host s = wait-host (passed s.head.guest) (passed s.head.host)

-- ---- 10 to 12

header_is : (l : Link) (kind n : ℕ) → (header_number l kind n ≡ 0) ↔ HeaderAllowed l kind n
unfolding header_number
header_is l kind n = (allowed, allowing)
  where
    allowed : header_number l kind n ≡ 0 → HeaderAllowed l kind n
    allowed e = go (ltb 32768 n) refl (passed (own l)) refl (eqb kind 0) refl
      where
        go : (a : Bool) → ltb 32768 n ≡ a → (b : Bool) → passed (own l) ≡ b → (c : Bool) → eqb kind 0 ≡ c → HeaderAllowed l kind n
        go true ea b eb c ec = let z : ◌≡◌ {A = ℕ} 10 0 = rw ea at e in absurd (omega arith)
        go false ea true eb true ec = let z : ◌≡◌ {A = ℕ} 12 0 = rw (ea, eb, ec) at e in absurd (omega arith)
        go false ea true eb false ec = record { short = ltb-false 32768 n ea; first = λ t. absurd (true≢false (sym eb ∙ t)); once = λ t. eqb-false kind 0 ec }
        go false ea false eb true ec = record { short = ltb-false 32768 n ea; first = λ t. eqb-true kind 0 ec; once = λ t. absurd (true≢false (sym t ∙ eb)) }
        go false ea false eb false ec = let z : ◌≡◌ {A = ℕ} 11 0 = rw (ea, eb, ec) at e in absurd (omega arith)

    allowing : HeaderAllowed l kind n → header_number l kind n ≡ 0
    allowing h =
        cases (passed (own l))
        (λ t. rw (le-ltb 32768 n h.short, t, ne_eqb kind 0 (h.once t)) refl)
        (λ t. rw (le-ltb 32768 n h.short, t, eq-eqb kind 0 (h.first t)) refl)

-- ---- 1

module _ (l : Link) (b : List ℕ) where
  not-whole : cut_at l b ≡ more → NotWhole l b
  unfolding cut_of
  not-whole e = go (ltb (length b) (head_size l b)) refl (eqb (head_number l b) 0) refl (ltb (length b) (size_of_packet l b)) refl
    where
      go : (x : Bool) → ltb (length b) (head_size l b) ≡ x → (y : Bool) → eqb (head_number l b) 0 ≡ y → (z : Bool) → ltb (length b) (size_of_packet l b) ≡ z → NotWhole l b
      go true ex y ey z ez = inl (ltb-true (length b) (head_size l b) ex)
      go false ex false ey z ez = absurd (true≢false (sym (ap is_more e) ∙ rw (ex, ey) refl))
      go false ex true ey true ez = inr ((header_is l (kind_of b) (length_of b)).0 (eqb-true (head_number l b) 0 ey), ltb-true (length b) (size_of_packet l b) ez)
      go false ex true ey false ez = absurd (true≢false (sym (ap is_more e) ∙ rw (ex, ey, ez) refl))

  still-more : NotWhole l b → cut_at l b ≡ more
  unfolding cut_of
  still-more (inl h) = rw (lt-ltb (length b) (head_size l b) h) refl
  still-more (inr h) =
      cases (ltb (length b) (head_size l b))
      (λ t. rw t refl)
      (λ t. rw (t, (header_is l (kind_of b) (length_of b)).1 h.0, lt-ltb (length b) (size_of_packet l b) h.1) refl)

  is_whole : HeaderAllowed l (kind_of b) (length_of b) → size_of_packet l b ≤ length b → cut_at l b ≡ whole (size_of_packet l b)
  unfolding cut_of
  is_whole h n =
      rw (le-ltb (length b) (head_size l b) (omega (arith, n)), (header_is l (kind_of b) (length_of b)).1 h, le-ltb (length b) (size_of_packet l b) n) refl

-- ---- the reader

module _ (from : Side) (s : Session) (hold piece : List ℕ) where
  abbrev l : Link
  l = link_of from s

  abbrev all : List ℕ
  all = at_hand from s hold piece

  pub ready_of : Opens from s hold → Ready from s hold
  ready_of a =
      record {
        room = a.room;
        fit = is-fit s (fit_of s a.leavable);
        begun = still-more l (held_bytes from s hold) a.not-before;
        running = a.running;
        not-waiting = (waiting-is from s).1 a.answered;
      }

  pub whole_of : Arrives from s hold piece → cut_at l all ≡ whole (size_of_packet l all)
  whole_of a = is_whole l all a.header a.whole

  passes-so : Passes from s hold piece → PassesInWords from s hold piece
  passes-so h =
      let w : IsWhole usbredir l all h.size = whole_is usbredir l all h.size h.whole in
      let n : h.size ≡ size_of_packet l all = w.size in
      record {
        arrives =
            record {
              opens =
                  record {
                    room = h.ready.room;
                    leavable = leavable s (fit_is s h.ready.fit);
                    not-before = not-whole l (held_bytes from s hold) h.ready.begun;
                    running = h.ready.running;
                    answered = (waiting-is from s).0 h.ready.not-waiting;
                  };
              header = (header_is l (kind_of all) (length_of all)).0 w.header;
              whole = subst (λ (m : ℕ). m ≤ length all) n w.there;
            };
        formed = subst (λ (m : ℕ). Formed l (packet_at from s hold piece m)) n ((wire-exactly l (packet_at from s hold piece h.size)).0 h.form);
        allowed = subst (λ (m : ℕ). Allowed s from (packet_at from s hold piece m)) n h.allowed;
      }

  so-passes : PassesInWords from s hold piece → Passes from s hold piece
  so-passes h =
      record {
        ready = ready_of h.arrives.opens;
        size = size_of_packet l all;
        whole = whole_of h.arrives;
        form = (wire-exactly l (packet_in from s hold piece)).1 h.formed;
        allowed = h.allowed;
      }

  exactly : ((offer_of from s hold piece).number ≡ 0) ↔ PassesInWords from s hold piece
  exactly = (λ e. passes-so ((demand-2 from s hold piece).0 e), λ h. (demand-2 from s hold piece).1 (so-passes h))

pub passes-exactly : PassesExactly
passes-exactly = exactly

-- ---- the writer

reached : (from : Side) (s : Session) (p : Content) → shut from s (eqb p.kind 0) ≡ 0 → header_number (link_of from s) p.kind (body_length (link_of from s) p) ≡ 0 → Reaches from s p
unfolding shut
reached from s p e h = go (unfit s) refl s.head.stopped refl (is_waiting (link_of from s) && not (eqb p.kind 0)) refl
  where
    go : (a : Bool) → unfit s ≡ a → (b : Bool) → s.head.stopped ≡ b → (c : Bool) → (is_waiting (link_of from s) && not (eqb p.kind 0)) ≡ c → Reaches from s p
    go true ea b eb c ec = let z : ◌≡◌ {A = ℕ} 43 0 = rw ea at e in absurd (omega arith)
    go false ea true eb c ec = let z : ◌≡◌ {A = ℕ} 3 0 = rw (ea, eb) at e in absurd (omega arith)
    go false ea false eb true ec = let z : ◌≡◌ {A = ℕ} 2 0 = rw (ea, eb, ec) at e in absurd (omega arith)
    go false ea false eb false ec =
        record {
          opens =
              record {
                leavable = leavable s (fit_is s ea);
                running = eb;
                answered = λ k. (waiting-is from s).0 (stays (is_waiting (link_of from s)) (eqb p.kind 0) ec (ne_eqb p.kind 0 k));
              };
          header = (header_is (link_of from s) p.kind (body_length (link_of from s) p)).0 h;
        }
      where
        stays : (x y : Bool) → (x && not y) ≡ false → y ≡ false → x ≡ false
        stays false y t u = refl
        stays true true t u = absurd (true≢false u)
        stays true false t u = t

reaching : (from : Side) (s : Session) (p : Content) → OpensWriter from s p → shut from s (eqb p.kind 0) ≡ 0
unfolding shut
reaching from s p r = rw (is-fit s (fit_of s r.leavable), r.running, goes) refl
  where
    goes : (is_waiting (link_of from s) && not (eqb p.kind 0)) ≡ false
    goes = cases (eqb p.kind 0) (λ t. rw t (both (is_waiting (link_of from s)))) (λ t. rw (t, (waiting-is from s).1 (r.answered (eqb-false p.kind 0 t))) refl)
      where
        both : (x : Bool) → (x && false) ≡ false
        both true = refl
        both false = refl

pub writes-exactly : WritesExactly
writes-exactly from s p space = (
  λ e.
      let w = (writer-exactly from s p space).0 e in
      record { reaches = reached from s p w.going w.header; formed = (wire-exactly (link_of from s) p).0 w.form; room = w.room },
  λ w. (writer-exactly from s p space).1
      (record {
        going = reaching from s p w.reaches.opens;
        header = (header_is (link_of from s) p.kind (body_length (link_of from s) p)).1 w.reaches.header;
        form = (wire-exactly (link_of from s) p).1 w.formed;
        room = w.room;
      }),
)

-- ---- which number, of 10 to 12

header-numbered : (l : Link) (kind n : ℕ) → HeaderNumbered l kind n (header_number l kind n)
unfolding header_number
header-numbered l kind n = go (ltb 32768 n) refl (passed (own l)) refl (eqb kind 0) refl
  where
    go : (a : Bool) → ltb 32768 n ≡ a → (b : Bool) → passed (own l) ≡ b → (c : Bool) → eqb kind 0 ≡ c → HeaderNumbered l kind n (cond a 10 (cond b (cond c 12 0) (cond c 0 11)))
    go true ea b eb c ec =
        let h = ltb-true 32768 n ea in
        record {
          long = ((λ e. h), (λ z. refl));
          not-hello = ((λ e. absurd (omega (arith, e))), (λ z. let w = z.0 in absurd (omega (arith, h, w))));
          second-hello = ((λ e. absurd (omega (arith, e))), (λ z. let w = z.0 in absurd (omega (arith, h, w))));
        }
    go false ea true eb true ec =
        let h = ltb-false 32768 n ea in
        record {
          long = ((λ e. absurd (omega (arith, e))), (λ z. absurd (omega (arith, h, z))));
          not-hello = ((λ e. absurd (omega (arith, e))), (λ z. absurd (true≢false (sym eb ∙ z.1))));
          second-hello = ((λ e. (h, eb, eqb-true kind 0 ec)), (λ z. refl));
        }
    go false ea true eb false ec =
        let h = ltb-false 32768 n ea in
        record {
          long = ((λ e. absurd (omega (arith, e))), (λ z. absurd (omega (arith, h, z))));
          not-hello = ((λ e. absurd (omega (arith, e))), (λ z. absurd (true≢false (sym eb ∙ z.1))));
          second-hello = ((λ e. absurd (omega (arith, e))), (λ z. absurd (eqb-false kind 0 ec z.2)));
        }
    go false ea false eb true ec =
        let h = ltb-false 32768 n ea in
        record {
          long = ((λ e. absurd (omega (arith, e))), (λ z. absurd (omega (arith, h, z))));
          not-hello = ((λ e. absurd (omega (arith, e))), (λ z. absurd (z.2 (eqb-true kind 0 ec))));
          second-hello = ((λ e. absurd (omega (arith, e))), (λ z. absurd (true≢false (sym z.1 ∙ eb))));
        }
    go false ea false eb false ec =
        let h = ltb-false 32768 n ea in
        record {
          long = ((λ e. absurd (omega (arith, e))), (λ z. absurd (omega (arith, h, z))));
          not-hello = ((λ e. (h, eb, eqb-false kind 0 ec)), (λ z. refl));
          second-hello = ((λ e. absurd (omega (arith, e))), (λ z. absurd (true≢false (sym z.1 ∙ eb))));
        }

-- a number that is m wherever either is one of 10 to 12
header-as : (l : Link) (kind n m number : ℕ) → ((k : ℕ) → 10 ≤ k → k ≤ 12 → (number ≡ k) ↔ (m ≡ k)) → HeaderNumbered l kind n m → HeaderNumbered l kind n number
header-as l kind n m number q h =
    record {
      long = (λ e. h.long.0 ((q 10 (omega arith) (omega arith)).0 e), λ x. (q 10 (omega arith) (omega arith)).1 (h.long.1 x));
      not-hello = (λ e. h.not-hello.0 ((q 11 (omega arith) (omega arith)).0 e), λ x. (q 11 (omega arith) (omega arith)).1 (h.not-hello.1 x));
      second-hello = (λ e. h.second-hello.0 ((q 12 (omega arith) (omega arith)).0 e), λ x. (q 12 (omega arith) (omega arith)).1 (h.second-hello.1 x));
    }

-- not one of 10 to 12
abbrev NoHeader : ℕ → Type 0
NoHeader n = 10 ≤ n → n ≤ 12 → ⊥

no-header-next : (m n : ℕ) → NoHeader m → (m ≡ 0 → NoHeader n) → NoHeader (or_next m n)
no-header-next m n a b = cases (eqb m 0) (λ t. rw t (b (eqb-true m 0 t))) (λ t. rw t a)

no-header-wire : (l : Link) (p : Content) → NoHeader (wire_number l p)
no-header-wire l p =
    wire-numbers NoHeader
    ((λ a b. omega (arith, a, b)), ((λ a b. omega (arith, a, b)), ((λ a b. omega (arith, a, b)), ((λ a b. omega (arith, a, b)), ((λ a b. omega (arith, a, b)), ((λ a b. omega (arith, a, b)), ((λ a b. omega (arith, a, b)), tt))))))) l p

-- a number that is none of them, beside a header's number that is 0
none-of-them : (number m : ℕ) → NoHeader number → m ≡ 0 → (k : ℕ) → 10 ≤ k → k ≤ 12 → (number ≡ k) ↔ (m ≡ k)
none-of-them number m z e k a b = ((λ q. absurd (z (subst (λ (j : ℕ). 10 ≤ j) (sym q) a) (subst (λ (j : ℕ). j ≤ 12) (sym q) b))), (λ q. absurd (omega (arith, a, e, q))))

pub header-number-is : HeaderNumberIs
unfolding cut_of
header-number-is from s hold piece o h = header-as l₁ (kind_of b) (length_of b) (head_number l₁ b) (offer_of from s hold piece).number same (header-numbered l₁ (kind_of b) (length_of b))
  where
    l₁ : Link
    l₁ = link_of from s

    b : List ℕ
    b = at_hand from s hold piece

    goes : Goes from s hold
    goes = record { room = o.room; fit = fit_of s o.leavable; begun = still-more (link_of from s) (held_bytes from s hold) o.not-before; running = o.running; hello-answered = o.answered }

    refused : eqb (head_number (link_of from s) (at_hand from s hold piece)) 0 ≡ false → (offer_of from s hold piece).number ≡ head_number (link_of from s) (at_hand from s hold piece)
    refused t =
        ((bars from s hold piece).header goes (head_number (link_of from s) (at_hand from s hold piece))
        (rw (le-ltb (length (at_hand from s hold piece)) (head_size (link_of from s) (at_hand from s hold piece)) h, t) refl)).0

    other : head_number (link_of from s) (at_hand from s hold piece) ≡ 0 → NoHeader (offer_of from s hold piece).number
    other z =
        let a : HeaderAllowed (link_of from s) (kind_of (at_hand from s hold piece)) (length_of (at_hand from s hold piece)) = (header_is (link_of from s) (kind_of (at_hand from s hold piece)) (length_of (at_hand from s hold piece))).0 z in
        cases (ltb (length (at_hand from s hold piece)) (size_of_packet (link_of from s) (at_hand from s hold piece)))
        (λ t.
        let n : (offer_of from s hold piece).number ≡ 1 = (bars from s hold piece).not-whole goes (still-more (link_of from s) (at_hand from s hold piece) (inr (a, ltb-true (length (at_hand from s hold piece)) (size_of_packet (link_of from s) (at_hand from s hold piece)) t))) in
        λ u v. omega (arith, n, u))
        (λ t.
        let w : size_of_packet (link_of from s) (at_hand from s hold piece) ≤ length (at_hand from s hold piece) = ltb-false (length (at_hand from s hold piece)) (size_of_packet (link_of from s) (at_hand from s hold piece)) t in
        let c = is_whole (link_of from s) (at_hand from s hold piece) a w in
        subst NoHeader (sym ((bars from s hold piece).packet goes (size_of_packet (link_of from s) (at_hand from s hold piece)) c))
        (no-header-next (wire_number (link_of from s) (packet_in from s hold piece)) (first_of (checks_by s from (packet_in from s hold piece))) (no-header-wire (link_of from s) (packet_in from s hold piece))
        (λ e. subst NoHeader (by-session c e) (session-numbers NoHeader
        ((λ a b. omega (arith, a, b)), ((λ a b. omega (arith, a, b)), ((λ a b. omega (arith, a, b)), ((λ a b. omega (arith, a, b)), ((λ a b. omega (arith, a, b)), ((λ a b. omega (arith, a, b)), ((λ a b. omega (arith, a, b)), ((λ a b. omega (arith, a, b)), ((λ a b. omega (arith, a, b)), ((λ a b. omega (arith, a, b)), ((λ a b. omega (arith, a, b)), tt)))))))))))
        (held_as from 0 s) (event_of from (packet_in from s hold piece))))))
      where
        by-session : cut_at (link_of from s) (at_hand from s hold piece) ≡ whole (size_of_packet (link_of from s) (at_hand from s hold piece)) → wire_number (link_of from s) (packet_in from s hold piece) ≡ 0
            → (judged (held_as from 0 s) (event_of from (packet_in from s hold piece))).number ≡ first_of (checks_by s from (packet_in from s hold piece))
        by-session c e =
            sym (ap (λ (x : Outcome). x.number) (judged-call from s hold piece (ready_of from s hold piece o) (size_of_packet (link_of from s) (at_hand from s hold piece)) c e))
            ∙ (bars from s hold piece).packet goes (size_of_packet (link_of from s) (at_hand from s hold piece)) c
            ∙ ap (λ (m : ℕ). or_next m (first_of (checks_by s from (packet_in from s hold piece)))) e

    same : (k : ℕ) → 10 ≤ k → k ≤ 12 → ((offer_of from s hold piece).number ≡ k) ↔ (head_number (link_of from s) (at_hand from s hold piece) ≡ k)
    same k u v =
        cases (eqb (head_number (link_of from s) (at_hand from s hold piece)) 0)
        (λ t. let z = eqb-true (head_number (link_of from s) (at_hand from s hold piece)) 0 t in none-of-them (offer_of from s hold piece).number (head_number (link_of from s) (at_hand from s hold piece)) (other z) z k u v)
        (λ t. ((λ q. sym (refused t) ∙ q), (λ q. refused t ∙ q)))

pub writer-header-number-is : WriterHeaderNumberIs
writer-header-number-is from s p space o = header-as (link_of from s) p.kind (body_length (link_of from s) p) first (write_by from s p space) same (header-numbered (link_of from s) p.kind (body_length (link_of from s) p))
  where
    first : ℕ
    first = header_number (link_of from s) p.kind (body_length (link_of from s) p)

    rest : ℕ
    rest = or_next (wire_number (link_of from s) p) (cond (ltb space (length (encode (link_of from s) p))) 40 0)

    number : write_by from s p space ≡ or_next first rest
    number = (shuts from s p space).going (fit_of s o.leavable) o.running o.answered

    full : (c : Bool) → NoHeader (cond c 40 0)
    full true u v = omega (arith, v)
    full false u v = omega (arith, u)

    same : (k : ℕ) → 10 ≤ k → k ≤ 12 → (write_by from s p space ≡ k) ↔ (first ≡ k)
    same k u v =
        cases (eqb first 0)
        (λ t.
        let z = eqb-true first 0 t in
        let n : write_by from s p space ≡ rest = number ∙ ap (λ (m : ℕ). or_next m rest) z in
        none-of-them (write_by from s p space) first
        (subst NoHeader (sym n) (no-header-next (wire_number (link_of from s) p) _ (no-header-wire (link_of from s) p) (λ e. full (ltb space (length (encode (link_of from s) p)))))) z k u v)
        (λ t. let n : write_by from s p space ≡ first = number ∙ rw t refl in ((λ q. sym n ∙ q), (λ q. n ∙ q)))

-- ---- which number, of 20 to 24 and 13

-- a number that is m wherever either is one of 13 to 24
number-as : (l : Link) (p : Content) (m n : ℕ) → ((k : ℕ) → 13 ≤ k → k ≤ 24 → (n ≡ k) ↔ (m ≡ k)) → Numbered l p m → Numbered l p n
number-as l p m n q h =
    record {
      unknown = (λ e. h.unknown.0 ((q 20 (omega arith) (omega arith)).0 e), λ x. (q 20 (omega arith) (omega arith)).1 (h.unknown.1 x));
      wrong-sender = (λ e. h.wrong-sender.0 ((q 21 (omega arith) (omega arith)).0 e), λ x. (q 21 (omega arith) (omega arith)).1 (h.wrong-sender.1 x));
      not-shared = (λ e. h.not-shared.0 ((q 22 (omega arith) (omega arith)).0 e), λ x. (q 22 (omega arith) (omega arith)).1 (h.not-shared.1 x));
      wrong_size = (λ e. h.wrong_size.0 ((q 23 (omega arith) (omega arith)).0 e), λ x. (q 23 (omega arith) (omega arith)).1 (h.wrong_size.1 x));
      rule-broken = (λ e. h.rule-broken.0 ((q 24 (omega arith) (omega arith)).0 e), λ x. (q 24 (omega arith) (omega arith)).1 (h.rule-broken.1 x));
      streams-alone = (λ e. h.streams-alone.0 ((q 13 (omega arith) (omega arith)).0 e), λ x. (q 13 (omega arith) (omega arith)).1 (h.streams-alone.1 x));
    }

-- a first number, and a next that is none of 13 to 24
next-as : (m n k : ℕ) → 13 ≤ k → k ≤ 24 → (m ≡ 0 → n ≡ k → ⊥) → (or_next m n ≡ k) ↔ (m ≡ k)
next-as m n k a b z =
    cases (eqb m 0)
    (λ t. rw t (λ e. absurd (z (eqb-true m 0 t) e), λ e. absurd (low (sym (eqb-true m 0 t) ∙ e))))
    (λ t. rw t (λ e. e, λ e. e))
  where
    low : 0 ≡ k → ⊥
    low e = omega (arith, a, e)

-- the number of a packet that becomes whole: that of the wire checks, then that of the session checks
pub arrived-number : (from : Side) (s : Session) (hold piece : List ℕ) → Arrives from s hold piece
    → (offer_of from s hold piece).number ≡ or_next (wire_number (link_of from s) (packet_in from s hold piece)) (first_of (checks_by s from (packet_in from s hold piece)))
arrived-number from s hold piece a =
    number-in-gate from s hold piece (ready_of from s hold piece a.opens) (size_of_packet (link_of from s) (at_hand from s hold piece)) (whole_of from s hold piece a)

pub reader-number-is : ReaderNumberIs
reader-number-is from s hold piece a = number-as l₁ p (wire_number l₁ p) (offer_of from s hold piece).number (λ k u v. subst (λ (n : ℕ). (n ≡ k) ↔ (wire_number l₁ p ≡ k)) (sym number) (next-as (wire_number l₁ p) (first_of (checks_by s from p)) k u v (other k u v))) (wire-number-is l₁ p)
  where
    l₁ : Link
    l₁ = link_of from s

    p : Content
    p = packet_in from s hold piece

    number : (offer_of from s hold piece).number ≡ or_next (wire_number l₁ p) (first_of (checks_by s from p))
    number = arrived-number from s hold piece a

    -- where the wire checks find nothing, the number is a session check's
    other : (k : ℕ) → 13 ≤ k → k ≤ 24 → wire_number (link_of from s) (packet_in from s hold piece) ≡ 0 → first_of (checks_by s from (packet_in from s hold piece)) ≡ k → ⊥
    other k u v z e =
        let j : (offer_of from s hold piece).number ≡ (judged (held_as from 0 s) (event_of from (packet_in from s hold piece))).number =
        ap (λ (o : Outcome). o.number) (judged-call from s hold piece (ready_of from s hold piece a.opens) (size_of_packet (link_of from s) (at_hand from s hold piece)) (whole_of from s hold piece a) z) in
        let q : (judged (held_as from 0 s) (event_of from (packet_in from s hold piece))).number ≡ k = sym j ∙ number ∙ ap (λ (m : ℕ). or_next m (first_of (checks_by s from (packet_in from s hold piece)))) z ∙ e in
        session-numbers (λ m. m ≡ k → ⊥)
        ((λ y. omega (arith, y)), ((λ y. omega (arith, y)), ((λ y. omega (arith, y)), ((λ y. omega (arith, y)), ((λ y. omega (arith, y)), ((λ y. omega (arith, y)), ((λ y. omega (arith, y)), ((λ y. omega (arith, y)), ((λ y. omega (arith, y)), ((λ y. omega (arith, y)), ((λ y. omega (arith, y)), tt)))))))))))
        (held_as from 0 s) (event_of from (packet_in from s hold piece)) q

pub writer-number-is : WriterNumberIs
writer-number-is from s p space r =
    number-as (link_of from s) p (wire_number (link_of from s) p) (write_by from s p space)
    (λ k u v. subst (λ (n : ℕ). (n ≡ k) ↔ (wire_number (link_of from s) p ≡ k)) (sym number) (next-as (wire_number (link_of from s) p) (cond full 40 0) k u v (λ z. other full k u v)))
    (wire-number-is (link_of from s) p)
  where
    full : Bool
    full = ltb space (length (encode (link_of from s) p))

    number : write_by from s p space ≡ or_next (wire_number (link_of from s) p) (cond full 40 0)
    number =
        (shuts from s p space).going (fit_of s r.opens.leavable) r.opens.running r.opens.answered
        ∙ ap (λ (m : ℕ). or_next m (or_next (wire_number (link_of from s) p) (cond full 40 0))) ((header_is (link_of from s) p.kind (body_length (link_of from s) p)).1 r.header)

    other : (b : Bool) (k : ℕ) → 13 ≤ k → k ≤ 24 → ◌≡◌ {A = ℕ} (cond b 40 0) k → ⊥
    other true k u v e = omega (arith, u, v, e)
    other false k u v e = omega (arith, u, v, e)

-- ---- which number, of 25 to 34

pub session-number-is : SessionNumberIs
session-number-is from s hold piece a f =
    let p : Content = packet_in from s hold piece in
    let z : wire_number (link_of from s) p ≡ 0 = (wire-exactly (link_of from s) p).1 f in
    subst (SessionNumbered s from p) (sym (arrived-number from s hold piece a ∙ ap (λ (m : ℕ). or_next m (first_of (checks_by s from p))) z)) (numbered s from p a.opens.leavable.ids)
