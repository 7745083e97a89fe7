-- What a decision of the code comes to, case by case, is what `offer_of` gives: a call that is barred (`barred-call`), more wanted
-- (`more-call`), a refused header (`header-call`), a whole packet that the wire checks refuse (`refused-call`), and one that is ruled on
-- (`ruled-call`); and that a decision carried out is the call (`carried`).
-- The first three compute. The bytes of a whole packet are the first of the held bytes with the piece behind them by `lies`, and their header is the
-- one that was read with the cut. Its verdict is that of `Judge`: no two live requests have one id, since 43 let the session through.
-- Assumes nothing.
use Rattle.std.specs.Prelude.{None, Result, Ok, Err, Some}
use Prim.Native.Nat.{ℕ, ◌+◌, ◌-◌}
use mathlib.Core.Path.{◌≡◌, refl, sym, ap, ◌∙◌}
use mathlib.Core.Bool.{Bool, true, false, cond, ◌||◌, or-true, or-false}
use mathlib.Core.List.{List, ◌++◌}
use lib.ListN.{length, take, drop}
use lib.Seq.{sets}
use lib.Dec.{eqb}
use borrow.Author.Tests.{ne_eqb}
use Rattle.header.specs.declared.Side.{Side}
use Rattle.header.specs.declared.Side.TheVariants.{Guest, Host}
use Rattle.header.specs.declared.Header.{Header}
use Rattle.header.specs.Header.{kind_of}
use Rattle.header.specs.declared.Refusal.{Refusal}
use Rattle.header.specs.Refusal.{number_of}
use Rattle.packet.specs.declared.Packet.{Packet}
use Rattle.decoder.specs.Reading.{told, read_of}
use Rattle.decoder.proofs.Decoded.{refusing, passing}
use Rattle.device.specs.declared.Head.{Head}
use Rattle.events.specs.declared.Case.{Case}
use Rattle.events.specs.declared.Case.TheVariants as cases
use Rattle.events.specs.Event.{Shows}
use Rattle.checks.specs.declared.Change.{Change}
use Rattle.checks.specs.declared.Change.TheVariants.{NoChange}
use Rattle.checks.specs.Change.{numbered}
use Rattle.checks.specs.Ruled.{ruled}
use Rattle.session.specs.declared.Session.{Session}
use Rattle.session.specs.Session.{link_of, held_in, held_to}
use Rattle.session.specs.Step.{applied}
use Rattle.frame.specs.Cut.{more, bad}
use Rattle.frame.specs.declared.Location.{Location}
use Rattle.frame.specs.declared.Location.TheVariants.{Nowhere}
use Rattle.frame.specs.Frame.{head_size, cut_at, completed, location_for, bytes_at}
use Rattle.frame.specs.Frame.{Cuts}
use Rattle.frame.proofs.Framed.{framed}
use Rattle.gate.specs.declared.Decided.{Decided}
use Rattle.gate.specs.Verdict.{held_as, stopped_now, refused_as, VerdictTold, verdict_of, handed_as}
use Rattle.gate.specs.Verdict.{ruled_as}
use Rattle.gate.proofs.Judge.{verdict-refused, case-is, verdict-ruled}
use Rattle.gate.specs.Offer.{held_bytes, barred, header_refused, packet_taken, by_cut, offer_of, outcome, WholeHere}
use Rattle.gate.specs.Decide.{ended_with, passed_with, rows_in, session_after, outcome_by, change_in, packet_change, change_by_cut, change_at, Decides}
use Rattle.gate.proofs.Ready.{lies, whole_here, not-barred, held-few, fit_is}
use Rattle.gate.specs.Ready.{Ready}

-- a head that holds what it held, and is stopped as it was
pub held_same : (from : Side) (h : Head) → held_to from (held_in from h) h.stopped h ≡ h
held_same Guest h = refl
held_same Host h = refl

-- a packet is ruled on whatever is held
same-ruled : (from : Side) (n : ℕ) (s : Session) (x : Case) → ruled (held_as from n s).head s.rows s.requests x ≡ ruled s.head s.rows s.requests x
unfolding ruled
same-ruled from n s (cases.Hello word) = refl
same-ruled from n s cases.Connect = refl
same-ruled from n s cases.Interfaces = refl
same-ruled from n s cases.Endpoints = refl
same-ruled from n s cases.Disconnect = refl
same-ruled from n s cases.Reset = refl
same-ruled from n s cases.Ack = refl
same-ruled from n s cases.Cancel = refl
same-ruled from n s cases.Filter = refl
same-ruled from n s (cases.Asks q typed starts transfer) = refl
same-ruled from n s (cases.Answers r typed unasked) = refl
same-ruled from n s (cases.StreamsOut e ty transfer) = refl
same-ruled from n s (cases.StreamsIn e ty id) = refl

module _ (from : Side) (s : Session) (hold piece : List ℕ) where
  -- a call by which no packet passes
  ends : {n taken size held : ℕ} {location : Location} {stopped : Bool} {after : List ℕ} → outcome_by from s (ended_with n taken location size held stopped) piece after ≡ offer_of from s hold piece
      → change_at from s hold piece ≡ NoChange → Decides from s (ended_with n taken location size held stopped) hold piece after
  ends e u = record { comes = e; change = sym u }

  -- 41, 43, 3, 2: nothing is taken or changed
  pub barred-call : (n : ℕ) → n ≡ barred from s hold → (n ≡ 0 → ⊥) → Decides from s (ended_with n 0 Nowhere 0 (held_in from s.head) s.head.stopped) hold piece hold
  unfolding outcome_by offer_of applied change_at
  barred-call n e z = ends outcome-is (rw (← e, ne_eqb n 0 z))
    where
      outcome-is : outcome_by from s (ended_with n 0 Nowhere 0 (held_in from s.head) s.head.stopped) piece hold ≡ offer_of from s hold piece
      outcome-is =
          rw (← e, ne_eqb n 0 z)
          (ap (λ (h : Head). record { session = record { head = h; rows = s.rows; requests = s.requests; watch = s.watch }; number = n; taken = 0; location = Nowhere; size = 0; handed = None; hold = hold }) (held_same from s.head))

  module _ (r : Ready from s hold) where
    -- what the bytes are decides
    goes : offer_of from s hold piece ≡ by_cut from s hold piece (cut_at (link_of from s) (held_bytes from s hold ++ piece))
    unfolding offer_of
    goes = rw (not-barred from s hold r)

    change-goes : change_at from s hold piece ≡ change_by_cut from s (held_bytes from s hold ++ piece) (cut_at (link_of from s) (held_bytes from s hold ++ piece))
    unfolding change_at
    change-goes = rw (not-barred from s hold r)

    -- 1
    pub more-call : cut_at (link_of from s) (held_bytes from s hold ++ piece) ≡ more
        → Decides from s (ended_with 1 (length piece) Nowhere 0 (held_in from s.head + length piece) s.head.stopped) hold piece (sets hold (held_in from s.head) piece)
    unfolding outcome_by applied
    more-call c = ends (sym (goes ∙ ap (by_cut from s hold piece) c)) (change-goes ∙ ap (change_by_cut from s (held_bytes from s hold ++ piece)) c)

    -- 10, 11, 12
    pub header-call : (n : ℕ) → cut_at (link_of from s) (held_bytes from s hold ++ piece) ≡ bad n → (size : ℕ) → head_size (link_of from s) (held_bytes from s hold ++ piece) ≡ size
        → Decides from s (ended_with n (size - held_in from s.head) (location_for (held_in from s.head)) size 0 true) hold piece (completed hold (held_in from s.head) piece size)
    unfolding outcome_by applied
    header-call n c size w =
        ends (sym (goes ∙ ap (by_cut from s hold piece) c ∙ ap (header_refused from s hold piece n) w)) (change-goes ∙ ap (change_by_cut from s (held_bytes from s hold ++ piece)) c)

    -- a whole packet
    module _ {kind head size : ℕ} (c : Cuts (link_of from s) (held_bytes from s hold ++ piece) kind head size) where
      abbrev bytes : List ℕ
      bytes = take size (held_bytes from s hold ++ piece)

      abbrev after : List ℕ
      after = completed hold (held_in from s.head) piece size

      pub here : WholeHere hold piece (held_in from s.head) size
      here = whole_here (link_of from s) hold piece (held_in from s.head) r.room (held-few from s r.fit) r.begun size c.cut

      -- where the packet lies are its bytes
      pub lying : bytes_at (location_for (held_in from s.head)) size piece after ≡ bytes
      lying = lies hold piece (held_in from s.head) size here

      taken_is : offer_of from s hold piece ≡ packet_taken from s hold piece (verdict_of (held_as from 0 s) from bytes) size
      taken_is = goes ∙ ap (by_cut from s hold piece) c.cut

      change-is : change_at from s hold piece ≡ packet_change from s bytes
      change-is = change-goes ∙ ap (change_by_cut from s (held_bytes from s hold ++ piece)) c.cut

      -- "10 to 24": a refused hello stops the session
      refused-session : (b : Bool) → cond b (stopped_now (held_as from 0 s)) (held_as from 0 s) ≡ record { head = held_to from 0 (s.head.stopped || b) s.head; rows = s.rows; requests = s.requests; watch = s.watch }
      refused-session true = rw (or-true s.head.stopped)
      refused-session false = rw (or-false s.head.stopped)

      pub refused-call : (v : Refusal) → told (link_of from s) bytes (Err v) ≡ read_of (link_of from s) bytes
          → Decides from s (ended_with (number_of v) (size - held_in from s.head) (location_for (held_in from s.head)) size 0 (s.head.stopped || eqb kind 0)) hold piece after
      unfolding outcome_by applied
      refused-call v t =
          let k : kind_of bytes ≡ kind = (framed (link_of from s) (held_bytes from s hold ++ piece) c).kind in
          let w : refused_as (held_as from 0 s) (kind_of bytes) ≡ record { head = held_to from 0 (s.head.stopped || eqb kind 0) s.head; rows = s.rows; requests = s.requests; watch = s.watch } = rw k (refused-session (eqb kind 0)) in
          ends
          (sym
          (taken_is
          ∙ ap (λ (x : VerdictTold). packet_taken from s hold piece x size) (verdict-refused (held_as from 0 s) from bytes v t)
          ∙ ap (λ (x : Session). packet_taken from s hold piece (record { session = x; number = number_of v; handed = None }) size) w))
          (change-is ∙ rw (refusing t refl).nonzero refl)

      -- a packet that came out of the wire checks
      module _ (h : Header) (p : Packet) (t : told (link_of from s) bytes (Ok (h, p)) ≡ read_of (link_of from s) bytes) where
        -- the decision by a ruling
        abbrev decided : Result Change Refusal → Decided
        decided (Ok c) = passed_with (size - held_in from s.head) (location_for (held_in from s.head)) size h p s.head.stopped c
        decided (Err r) = ended_with (number_of r) (size - held_in from s.head) (location_for (held_in from s.head)) size 0 s.head.stopped

        change-of : (u : Result Change Refusal) → (decided u).change ≡ change_in u
        change-of (Ok c) = refl
        change-of (Err r) = refl

        -- the verdict by a ruling, from where its bytes lie
        abbrev verdict : List ℕ → Result Change Refusal → VerdictTold
        verdict there u = ruled_as (held_as from 0 s) from (handed_as (link_of from s) there (Some (h, p))) (rows_in from s (Some (h, p)) there) (numbered u)

        ruling-call : (u : Result Change Refusal) → outcome_by from s (decided u) piece after
            ≡ packet_taken from s hold piece (verdict (bytes_at (location_for (held_in from s.head)) size piece after) u) size
        unfolding outcome_by applied
        ruling-call (Err r) = refl
        ruling-call (Ok c) = refl

        -- its case, and what is ruled on it
        pub ruled-call : (x : Case) (u : Result Change Refusal) → Shows from h.id p (drop h.size bytes) x → u ≡ ruled s.head s.rows s.requests x
            → Decides from s (decided u) hold piece after
        ruled-call x u m q =
            let v : verdict_of (held_as from 0 s) from bytes ≡ verdict bytes u = verdict-ruled (held_as from 0 s) from bytes h p t (fit_is s r.fit).ids x u m (q ∙ sym (same-ruled from 0 s x)) in
            let by-case : change_at from s hold piece ≡ change_in u =
            change-is ∙ rw (passing t refl).number (sym (ap change_in (q ∙ ap (ruled s.head s.rows s.requests) (case-is s from bytes h p t x m)))) in
            record {
              comes =
                  ruling-call u
                  ∙ ap (λ (there : List ℕ). packet_taken from s hold piece (verdict there u) size) lying
                  ∙ sym (taken_is ∙ ap (λ (y : VerdictTold). packet_taken from s hold piece y size) v);
              change = change-of u ∙ sym by-case;
            }

-- a decision that is carried out comes to the call's outcome
pub carried : (from : Side) (s : Session) (hold piece after : List ℕ) (d : Decided) {x : Session} → Decides from s d hold piece after
    → x ≡ session_after from s d (rows_in from s d.answer.handed (bytes_at d.answer.location d.answer.size piece after))
    → outcome (link_of from s) (record { session = x; answer = d.answer }) piece after ≡ offer_of from s hold piece
unfolding outcome_by
carried from s hold piece after d p e = ap (λ (y : Session). outcome (link_of from s) (record { session = y; answer = d.answer }) piece after) e ∙ p.comes
