-- What every reader call keeps, once both hellos have passed: the hellos, that 43 does not refuse the session for itself, and the other
-- direction's held count (`offer-keeps`).
-- By the ways of a call: barred, it changes nothing; where more is wanted, its own count; a refused header stops the session; and of a whole
-- packet, the judge keeps these (`claims/specs/KeptByPacket.antt`). A count of at most 32,783 is all that is owed, since neither end waits.
-- A header is decided by its own bytes (`header-front`), so that a whole packet gets the number of what it says (`whole-number`).
-- Assumes nothing.
use Rattle.std.specs.Prelude.{Option}
use Prim.Native.Nat.{ℕ, ◌≤◌, ◌+◌}
use native.Mathlib.Omega.{arith}
use mathlib.Core.Bool.{Bool, true, false, cond, true≢false}
use mathlib.Core.List.{List, [], ◌∷◌, ◌++◌}
use mathlib.Core.Path.{◌≡◌, refl, sym, ap, subst, ◌∙◌}
use lib.Dec.{eqb}
use lib.ListN.{drop, length, take, take-append-drop}
use lib.Seq.{length-take-le}
use borrow.Author.Tests.{eqb-true, eq-eqb, le-ltb}
use borrow.Table.Steps.{cases}
use Rattle.header.specs.declared.Side.{Side}
use Rattle.header.specs.declared.Side.TheVariants.{Guest, Host}
use Rattle.header.specs.Link.{passed, opposite}
use Rattle.header.specs.declared.Link.{Link}
use Rattle.header.specs.Header.{kind_of, length_of}
use Rattle.kinds.specs.Content.{Content}
use Rattle.kinds.specs.Codec.{decode, read_number}
use Rattle.kinds.specs.Number.{wire_number}
use Rattle.frame.specs.Cut.{Cut, more, bad, whole}
use Rattle.frame.specs.Frame.{cut_at, head_size, head_number}
use Rattle.wire.specs.Usbredir.{usbredir}
use Rattle.wire.proofs.Usbredir.{laws}
use Rattle.wire.specs.Told.{IsWhole}
use Rattle.wire.proofs.Told.{whole_is}
use Rattle.events.specs.Event.{Event, event_of}
use Rattle.session.specs.declared.Session.{Session}
use Rattle.session.specs.Session.{link_of}
use Rattle.session.specs.Step.{judged}
use Rattle.gate.specs.Verdict.{held_of, held_as, stopped_now, refused_as, verdict_of}
use Rattle.gate.specs.Offer.{held_bytes, barred, by_cut, offer_of}
use Rattle.gate.specs.Ready.{FitCount, Ready}
use Rattle.gate.proofs.Ready.{more-few, ready, held-few}
use Rattle.claims.proofs.KeptByPacket.{kept-ids, kept-control, event-control, kept-hellos, kept-plain}
use Rattle.demands.specs.Demand2.{WholeNumber}
use Rattle.demands.specs.Demand3.{Established}
use Rattle.demands.proofs.Numbers.{Each, wire-numbers, session-numbers}

-- ---- a header is decided by its own bytes

-- two lists of bytes begin with the same header
pub record SameHeader (l : Link) (a b : List ℕ) : Type 0 where
  pub size : head_size l b ≡ head_size l a
  pub number : head_number l b ≡ head_number l a
  pub says : length_of b ≡ length_of a

pub header-behind : (l : Link) (a r : List ℕ) → head_size l a ≤ length a → SameHeader l a (a ++ r)
header-behind l a r h =
    record { size = laws.same_width l a r (omega (arith, laws.wide l a)); number = laws.same_number l a r h; says = laws.same_length l a r h }

pub header-front : (l : Link) (a : List ℕ) (n : ℕ) → head_size l a ≤ n → n ≤ length a → SameHeader l a (take n a)
header-front l a n h g =
    let t : List ℕ = take n a in
    let j : t ++ drop n a ≡ a = take-append-drop n a in
    let c : length t ≡ n = length-take-le n a g in
    let s : head_size l a ≡ head_size l t = ap (head_size l) (sym j) ∙ laws.same_width l t (drop n a) (omega (arith, laws.wide l a)) in
    let f = header-behind l t (drop n a) (omega arith) in
    record { size = sym s; number = sym f.number ∙ ap (head_number l) j; says = sym f.says ∙ ap length_of j }

-- ---- the wire number of a whole packet

pub whole-number : WholeNumber
unfolding read_number
whole-number l b n e =
    let w : IsWhole usbredir l b n = whole_is usbredir l b n e in
    let t : List ℕ = take n b in
    let f = header-front l b n (omega (arith, w.size)) w.there in
    let c : length t ≡ n = length-take-le n b w.there in
    let h : head_size l t ≤ length t = omega (arith, w.size, f.size) in
    let z : length t ≡ head_size l t + length_of t = omega (arith, w.size, f.size, f.says) in
    simp (le-ltb (length t) (head_size l t) h, f.number ∙ w.header, eq-eqb (length t) (head_size l t + length_of t) z)

-- the numbers of a whole packet are those of the wire checks and of the session checks
pub verdict-numbers : (P : ℕ → Type 0) → Each P (0 ∷ 13 ∷ 20 ∷ 21 ∷ 22 ∷ 23 ∷ 24 ∷ []) → Each P (0 ∷ 25 ∷ 26 ∷ 27 ∷ 28 ∷ 29 ∷ 30 ∷ 31 ∷ 32 ∷ 33 ∷ 34 ∷ [])
    → (d : Side) (s : Session) (b : List ℕ) (n : ℕ) → cut_at (link_of d s) b ≡ whole n → P (verdict_of s d (take n b)).number
unfolding verdict_of
verdict-numbers P w j d s b n e =
    cases (eqb (read_number (link_of d s) (take n b)) 0)
    (λ t. rw t (session-numbers P j s (event_of d (decode (link_of d s) (take n b)))))
    (λ t. rw t (subst P (sym (whole-number (link_of d s) b n e)) (wire-numbers P w (link_of d s) (decode (link_of d s) (take n b)))))

-- ---- the held counts

pub held-as : (from : Side) (s : Session) (n : ℕ) → held_of from (held_as from n s) ≡ n
held-as Guest s n = refl
held-as Host s n = refl

-- ---- what is kept

-- what a call for direction d leaves of a session s
pub record Keeps (d : Side) (s t : Session) : Type 0 where
  pub established : Established t
  pub guest : t.head.guest ≡ s.head.guest
  pub host : t.head.host ≡ s.head.host
  pub held : held_of (opposite d) t ≡ held_of (opposite d) s

keeps-all : (d : Side) (s : Session) → Established s → Keeps d s s
keeps-all d s h = record { established = h; guest = refl; host = refl; held = refl }

keeps_on : (d : Side) (s t u : Session) → Keeps d s t → Keeps d t u → Keeps d s u
keeps_on d s t u a b = record { established = b.established; guest = b.guest ∙ a.guest; host = b.host ∙ a.host; held = b.held ∙ a.held }

-- with both hellos passed, 43 asks of a held count only that it is at most 32,783
count-fit : (own other : Option ℕ) (n : ℕ) → passed other ≡ true → n ≤ 32783 → FitCount own other n
count-fit own other n p h = record { few = h; none-waiting = λ a b. absurd (true≢false (sym p ∙ b)) }

-- a call that leaves so many bytes held in its direction
with-count : (d : Side) (s : Session) (n : ℕ) → Established s → n ≤ 32783 → Keeps d s (held_as d n s)
with-count Guest s n h few =
    record {
      established =
          record {
            guest = h.guest;
            host = h.host;
            fit = record { guest = count-fit s.head.guest s.head.host n h.host few; host = h.fit.host; ids = h.fit.ids; control = h.fit.control };
          };
      guest = refl;
      host = refl;
      held = refl;
    }
with-count Host s n h few =
    record {
      established =
          record {
            guest = h.guest;
            host = h.host;
            fit = record { guest = h.fit.guest; host = count-fit s.head.host s.head.guest n h.guest few; ids = h.fit.ids; control = h.fit.control };
          };
      guest = refl;
      host = refl;
      held = refl;
    }

halted : (d : Side) (s : Session) → Established s → Keeps d s (stopped_now s)
halted Guest s h = record { established = record { guest = h.guest; host = h.host; fit = record { guest = h.fit.guest; host = h.fit.host; ids = h.fit.ids; control = h.fit.control } }; guest = refl; host = refl; held = refl }
halted Host s h = record { established = record { guest = h.guest; host = h.host; fit = record { guest = h.fit.guest; host = h.fit.host; ids = h.fit.ids; control = h.fit.control } }; guest = refl; host = refl; held = refl }

pub same-held : (d : Side) (s t : Session) → t.head.held ≡ s.head.held → held_of d t ≡ held_of d s
same-held Guest s t e = λ i. (e i).guest
same-held Host s t e = λ i. (e i).host

-- a packet that came out of the wire checks
packet-keeps : (d : Side) (s : Session) (p : Content) → Established s → wire_number (link_of d s) p ≡ 0 → Keeps d s (judged s (event_of d p)).session
packet-keeps d s p h w =
    let e : Event = event_of d p in
    let k = kept-hellos s e in
    let g = k.guest h.guest in
    let o = k.host h.host in
    let q = (kept-plain s e).held in
    let back = sym q in
    record {
      established =
          record {
            guest = ap passed g ∙ h.guest;
            host = ap passed o ∙ h.host;
            fit =
                record {
                  guest = count-fit _ _ _ (ap passed o ∙ h.host) (subst (λ (n : ℕ). n ≤ 32783) (λ i. (back i).guest) h.fit.guest.few);
                  host = count-fit _ _ _ (ap passed g ∙ h.guest) (subst (λ (n : ℕ). n ≤ 32783) (λ i. (back i).host) h.fit.host.few);
                  ids = kept-ids s e h.fit.ids;
                  control = kept-control s e h.fit.control (event-control (link_of d s) p w);
                };
          };
      guest = g;
      host = o;
      held = same-held (opposite d) s (judged s e).session q;
    }

refusing : (d : Side) (s : Session) (kind : ℕ) → Established s → Keeps d s (refused_as s kind)
refusing d s kind h = go (eqb kind 0)
  where
    go : (b : Bool) → Keeps d s (cond b (stopped_now s) s)
    go true = halted d s h
    go false = keeps-all d s h

-- a whole packet
judging : (d : Side) (s : Session) (b : List ℕ) (n : ℕ) → Established s → cut_at (link_of d s) b ≡ whole n → Keeps d s (verdict_of s d (take n b)).session
unfolding verdict_of
judging d s b n h e =
    cases (eqb (read_number (link_of d s) (take n b)) 0)
    (λ t. rw t (packet-keeps d s (decode (link_of d s) (take n b)) h (sym (whole-number (link_of d s) b n e) ∙ eqb-true _ _ t)))
    (λ t. rw t (refusing d s (kind_of (take n b)) h))

-- every reader call
pub offer-keeps : (d : Side) (s : Session) (hold piece : List ℕ) → Established s → Keeps d s (offer_of d s hold piece).session
unfolding offer_of
offer-keeps d s hold piece h =
    cases (eqb (barred d s hold) 0)
    (λ t. rw t (goes (ready d s hold (eqb-true _ _ t)) (cut_at (link_of d s) (held_bytes d s hold ++ piece)) refl))
    (λ t. rw t (keeps-all d s h))
  where
    goes : Ready d s hold → (c : Cut) → cut_at (link_of d s) (held_bytes d s hold ++ piece) ≡ c → Keeps d s (by_cut d s hold piece c).session
    goes r more e = with-count d s (held_of d s + length piece) h (more-few (link_of d s) hold piece (held_of d s) r.room (held-few d s r.fit) e)
    goes r (bad n) e =
        let k = with-count d s 0 h (omega arith) in
        keeps_on d s (held_as d 0 s) (stopped_now (held_as d 0 s)) k (halted d (held_as d 0 s) k.established)
    goes r (whole n) e =
        let k = with-count d s 0 h (omega arith) in
        keeps_on d s (held_as d 0 s) _ k (judging d (held_as d 0 s) (held_bytes d s hold ++ piece) n k.established e)
