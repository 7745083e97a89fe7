-- Where a packet lies when a reader call is over (`lies`), what can be held (`more-few`, `whole_here`, `header-here`), what a call that is not
-- barred has (`ready`, `not-barred`), and 43's tests of a session as relations (`fit_is`, `is-fit`).
-- With nothing held a packet lies in the piece; else it is completed behind the held bytes, and the buffer's front is these and what was taken
-- (`completed-front`). That a packet or a refused header has more bytes than were held is `more-less` and `more-head`, and that it fits the
-- buffer goes by its greatest size. The tests are split one by one.
-- Assumes nothing.
use Rattle.std.specs.Prelude.{Option}
use Prim.Native.Nat.{ℕ, ◌+◌, ◌-◌, ◌≤◌, ◌<◌}
use native.Mathlib.Omega.{arith}
use mathlib.Core.Path.{◌≡◌, refl, sym, ap, ◌∙◌}
use mathlib.Core.Bool.{Bool, true, false, cond, not, ◌&&◌, ◌||◌, true≢false}
use mathlib.Core.List.{List, ◌++◌}
use lib.ListN.{length, take, length-append}
use lib.Seq.{sets, length-sets, take-append-add, length-take-le}
use lib.Dec.{eqb, ltb}
use borrow.Author.Tests.{eqb-true, ltb-false, lt-ltb, le-ltb, le-leb, lt-leb, not-false}
use Rattle.octets.proofs.Logic.{or_parts, or-none}
use Rattle.octets.proofs.Integers.{take-sets}
use Rattle.header.specs.declared.Side.{Side}
use Rattle.header.specs.declared.Side.TheVariants.{Guest, Host}
use Rattle.header.specs.declared.Link.{Link}
use Rattle.header.specs.Link.{passed}
use Rattle.header.specs.Header.{hold_size, kind_of}
use Rattle.device.specs.Device.{control_rows}
use Rattle.requests.specs.Requests.{ids_differ}
use Rattle.session.specs.declared.Session.{Session}
use Rattle.session.specs.Session.{max_held, link_of, held_bad, unfit}
use Rattle.frame.specs.Cut.{Cut, more, bad, whole}
use Rattle.wire.specs.Told.{IsWhole, IsBad}
use Rattle.wire.proofs.Told.{whole_is, bad-is, more-short, whole-fits, more-less, more-head, bad-stays, whole-stays}
use Rattle.wire.specs.Usbredir.{usbredir}
use Rattle.wire.proofs.Usbredir.{laws}
use Rattle.frame.specs.Frame.{head_size, cut_at, cut_told, cut_for, ends_within, is_more, completed, location_for, bytes_at}
use Rattle.gate.specs.Offer.{held_bytes, is_waiting, held_whole, barred, WholeHere}
use Rattle.gate.specs.Verdict.{held_of}
use Rattle.gate.specs.Ready.{Ready, FitCount, Fit}

-- so many bytes, of a buffer's front and of a piece behind it
pub front-is : (hold piece : List ℕ) (held n : ℕ) → WholeHere hold piece held n → take n (take held hold ++ piece) ≡ take held hold ++ take (n - held) piece
front-is hold piece held n w =
    let l : length (take held hold) ≡ held = length-take-le held hold (omega (arith, w.room, w.begun)) in
    let e : n ≡ length (take held hold) + (n - held) = omega (arith, w.begun) in
    ap (λ (m : ℕ). take m (take held hold ++ piece)) e ∙ take-append-add (take held hold) piece (n - held)

-- what is completed in the buffer stands at its front
completed-front : (hold piece : List ℕ) (held n : ℕ) → WholeHere hold piece held n → take n (sets hold held (take (n - held) piece)) ≡ take held hold ++ take (n - held) piece
completed-front hold piece held n w =
    let p : List ℕ = take (n - held) piece in
    let m : held + length p ≡ n = omega (arith, length-take-le (n - held) piece (omega (arith, w.there)), w.begun) in
    ap (λ (k : ℕ). take k (sets hold held p)) (sym m) ∙ take-sets hold p held (omega (arith, m, w.room))

-- "a packet begun there .. is completed there and stays readable"; "A packet that lies whole in the piece isn't copied."
pub lies : (hold piece : List ℕ) (held n : ℕ) → WholeHere hold piece held n → bytes_at (location_for held) n piece (completed hold held piece n) ≡ take n (take held hold ++ piece)
lies hold piece held n w = go (eqb held 0) refl
  where
    go : (b : Bool) → eqb held 0 ≡ b → bytes_at (location_for held) n piece (completed hold held piece n) ≡ take n (take held hold ++ piece)
    go true t = let z : held ≡ 0 = eqb-true held 0 t in rw z refl
    go false t = rw t (completed-front hold piece held n w ∙ sym (front-is hold piece held n w))

-- a buffer stays as long as it was
pub completed-length : (hold piece : List ℕ) (held n : ℕ) → length (completed hold held piece n) ≡ length hold
completed-length hold piece held n = go (eqb held 0)
  where
    go : (b : Bool) → length (cond b hold (sets hold held (take (n - held) piece))) ≡ length hold
    go true = refl
    go false = length-sets hold held (take (n - held) piece)

-- what stands behind the held bytes of a buffer that 41 allows, where these are not a packet yet
module _ (l : Link) (hold piece : List ℕ) (held : ℕ) (room : hold_size ≤ length hold) (few : held ≤ max_held) where
  held-length : length (take held hold) ≡ held
  held-length = length-take-le held hold (omega arith)

  pub more-few : cut_at l (take held hold ++ piece) ≡ more → held + length piece ≤ max_held
  more-few e = omega (arith, more-short usbredir laws l (take held hold ++ piece) e, length-append (take held hold) piece, held-length)

  module _ (m : cut_at l (take held hold) ≡ more) (n : ℕ) where
    pub whole_here : cut_at l (take held hold ++ piece) ≡ whole n → WholeHere hold piece held n
    whole_here e =
        let f = whole-fits usbredir laws l (take held hold ++ piece) n e in
        let i : IsWhole usbredir l (take held hold ++ piece) n = whole_is usbredir l (take held hold ++ piece) n e in
        record {
          room = omega (arith, f.1);
          begun = omega (arith, more-less usbredir laws l (take held hold) piece m n e, held-length);
          there = omega (arith, i.there, length-append (take held hold) piece, held-length);
        }

    pub header-here : cut_at l (take held hold ++ piece) ≡ bad n → WholeHere hold piece held (head_size l (take held hold ++ piece))
    header-here e =
        let i : IsBad usbredir l (take held hold ++ piece) n = bad-is usbredir l (take held hold ++ piece) n e in
        record {
          room = omega (arith, laws.narrow l (take held hold ++ piece));
          begun = omega (arith, more-head usbredir laws l (take held hold) piece m n e, held-length);
          there = omega (arith, i.there, length-append (take held hold) piece, held-length);
        }

-- 43's test of the held bytes, a, goes by what they are with a piece behind them
pub held_whole_lem : (l : Link) (a piece : List ℕ) → ends_within (cut_for l (a ++ piece)) (length a) ≡ not (is_more (cut_at l a))
unfolding cut_for
held_whole_lem l a piece = go (cut_at l a) refl
  where
    all : Cut
    all = cut_at l (a ++ piece)

    ends : Cut → Bool
    ends c = ends_within (cut_told (kind_of (a ++ piece)) (head_size l (a ++ piece)) c) (length a)

    not_yet : cut_at l a ≡ more → (c : Cut) → all ≡ c → ends c ≡ false
    not_yet e more ec = refl
    not_yet e (bad n) ec = lt-leb _ _ (more-head usbredir laws l a piece e n ec)
    not_yet e (whole n) ec = lt-leb _ _ (more-less usbredir laws l a piece e n ec)

    go : (c : Cut) → cut_at l a ≡ c → ends all ≡ not (is_more c)
    go more e = not_yet e all refl
    go (bad n) e =
        let b = bad-is usbredir l a n e in
        let w : head_size l (a ++ piece) ≡ head_size l a = laws.same_width l a piece (omega (arith, b.there, laws.wide l a)) in
        rw (bad-stays usbredir laws l a piece n e) (le-leb (head_size l (a ++ piece)) (length a) (omega (arith, w, b.there)))
    go (whole n) e = rw (whole-stays usbredir laws l a piece n e) (le-leb n (length a) (whole_is usbredir l a n e).there)

-- ---- a call that can go on

-- bytes that are neither a packet nor a refused header
pub is-more : (c : Cut) → not (is_more c) ≡ false → c ≡ more
is-more more e = refl
is-more (bad n) e = absurd (true≢false e)
is-more (whole n) e = absurd (true≢false e)

pub ready : (from : Side) (s : Session) (hold : List ℕ) → barred from s hold ≡ 0 → Ready from s hold
unfolding barred
ready from s hold e = go (ltb (length hold) hold_size) refl (unfit s || held_whole from s hold) refl s.head.stopped refl (is_waiting (link_of from s)) refl
  where
    go : (a : Bool) → ltb (length hold) hold_size ≡ a → (b : Bool) → (unfit s || held_whole from s hold) ≡ b → (c : Bool) → s.head.stopped ≡ c → (d : Bool) → is_waiting (link_of from s) ≡ d → Ready from s hold
    go true ea b eb c ec d ed = let z : ◌≡◌ {A = ℕ} 41 0 = rw ea at e in absurd (omega arith)
    go false ea true eb c ec d ed = let z : ◌≡◌ {A = ℕ} 43 0 = rw (ea, eb) at e in absurd (omega arith)
    go false ea false eb true ec d ed = let z : ◌≡◌ {A = ℕ} 3 0 = rw (ea, eb, ec) at e in absurd (omega arith)
    go false ea false eb false ec true ed = let z : ◌≡◌ {A = ℕ} 2 0 = rw (ea, eb, ec, ed) at e in absurd (omega arith)
    go false ea false eb false ec false ed =
        let f = or_parts (unfit s) (held_whole from s hold) eb in
        record { room = ltb-false _ _ ea; fit = f.0; begun = is-more (cut_at (link_of from s) (held_bytes from s hold)) f.1; running = ec; not-waiting = ed }

-- and the other way round
pub not-barred : (from : Side) (s : Session) (hold : List ℕ) → Ready from s hold → barred from s hold ≡ 0
unfolding barred
not-barred from s hold r = simp (le-ltb (length hold) hold_size r.room, r.fit, r.begun, r.running, r.not-waiting)

-- ---- a session that 43 does not refuse for itself

count_fits : (own other : Option ℕ) (n : ℕ) → held_bad own other n ≡ false → FitCount own other n
count_fits own other n e =
    let p = or_parts (ltb max_held n) (passed own && not (passed other) && ltb 0 n) e in
    record {
      few = ltb-false _ _ p.0;
      none-waiting =
          λ a b. let z : 0 < n → ⊥ = λ h. true≢false (sym (simp (a, b, lt-ltb 0 n h)) ∙ p.1) in omega (arith, z);
    }

fits_count : (own other : Option ℕ) (n : ℕ) → FitCount own other n → held_bad own other n ≡ false
fits_count own other n f = or-none (ltb max_held n) (passed own && not (passed other) && ltb 0 n) (le-ltb max_held n f.few) (go (passed own) refl (passed other) refl)
  where
    go : (a : Bool) → passed own ≡ a → (b : Bool) → passed other ≡ b → (a && not b && ltb 0 n) ≡ false
    go false ea b eb = refl
    go true ea true eb = refl
    go true ea false eb = rw (f.none-waiting ea eb) refl

pub fit_is : (s : Session) → unfit s ≡ false → Fit s
unfolding unfit
fit_is s e =
    let a = or_parts (held_bad s.head.guest s.head.host s.head.held.guest || held_bad s.head.host s.head.guest s.head.held.host || not (ids_differ s.requests)) (not (control_rows s.rows)) e in
    let b = or_parts (held_bad s.head.guest s.head.host s.head.held.guest || held_bad s.head.host s.head.guest s.head.held.host) (not (ids_differ s.requests)) a.0 in
    let c = or_parts (held_bad s.head.guest s.head.host s.head.held.guest) (held_bad s.head.host s.head.guest s.head.held.host) b.0 in
    record {
      guest = count_fits s.head.guest s.head.host s.head.held.guest c.0;
      host = count_fits s.head.host s.head.guest s.head.held.host c.1;
      ids = not-false _ b.1;
      control = not-false _ a.1;
    }

pub is-fit : (s : Session) → Fit s → unfit s ≡ false
unfolding unfit
is-fit s f =
    simp (fits_count s.head.guest s.head.host s.head.held.guest f.guest, fits_count s.head.host s.head.guest s.head.held.host f.host, f.ids, f.control)

pub held-few : (from : Side) (s : Session) → unfit s ≡ false → held_of from s ≤ max_held
held-few Guest s e = (fit_is s e).guest.few
held-few Host s e = (fit_is s e).host.few
