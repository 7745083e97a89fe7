-- Demand 1 (`demand-1`).
-- A reader call is barred or goes by its cut, with the numbers of each way (`Numbers.antt`); what the judge refuses leaves the session as it was.
-- A writer call is refused, or has put the packet in front, for which there was room (`writer-exactly`).
-- Assumes nothing.
use Prim.Native.Nat.{ℕ, ◌≤◌, ◌+◌}
use native.Mathlib.Omega.{arith}
use mathlib.Core.Bool.{Bool, true, false, cond, not, ◌&&◌, true≢false}
use mathlib.Core.List.{List, ◌++◌}
use mathlib.Core.Path.{◌≡◌, refl, sym, ap, subst, ◌∙◌}
use lib.Dec.{eqb}
use lib.ListN.{drop, length, take, length-append, length-drop}
use lib.Seq.{length-sets, drop_at}
use borrow.Author.Tests.{eqb-true, ne_eqb}
use borrow.Table.Steps.{cases}
use Rattle.header.specs.declared.Side.{Side}
use Rattle.header.specs.Header.{kind_of, length_of}
use Rattle.kinds.specs.Content.{Content}
use Rattle.kinds.specs.Codec.{decode, read_number, encode, write_number, written, written_size}
use Rattle.kinds.proofs.RoundTrip.{both_zero}
use Rattle.frame.specs.Cut.{Cut, more, bad, whole}
use Rattle.frame.specs.Frame.{cut_at, head_size}
use Rattle.wire.specs.Usbredir.{usbredir}
use Rattle.wire.specs.Told.{IsBad}
use Rattle.wire.proofs.Told.{bad-is}
use Rattle.events.specs.Event.{event_of}
use Rattle.session.specs.declared.Session.{Session}
use Rattle.session.specs.Session.{link_of, unfit}
use Rattle.gate.specs.Verdict.{held_of, held_as, stopped_now, refused_as, verdict_of}
use Rattle.gate.specs.Offer.{held_bytes, is_waiting, barred, by_cut, offer_of, WholeHere}
use Rattle.gate.specs.Write.{shut, write_by, output, output_size}
use Rattle.gate.proofs.Ready.{completed-length, ready, held-few, whole_here, header-here}
use Rattle.gate.specs.Ready.{Ready}
use Rattle.claims.specs.Allowed.{among}
use Rattle.claims.proofs.OnePacket.{refused-keeps}
use Rattle.demands.specs.Demand1.{read_numbers, write_numbers, Unchanged, Answered, Put, Demand1}
use Rattle.demands.proofs.Numbers.{header-numbers, barred-numbers, write-numbers}
use Rattle.demands.proofs.KeptByCall.{verdict-numbers}
use Rattle.demands.proofs.Demand2.{writer-exactly}

-- ---- the reader

barred-number : (from : Side) (s : Session) (hold : List ℕ) → among read_numbers (barred from s hold) ≡ true
barred-number = barred-numbers (λ m. among read_numbers m ≡ true) (refl, (refl, (refl, (refl, (refl, tt)))))

unchanged-same : (s : Session) → Unchanged s s
unchanged-same s = record { guest = refl; host = refl; present = refl; introduction = refl; owed = refl; rows = refl; requests = refl; watch = refl }

unchanged-held : (d : Side) (n : ℕ) (s : Session) → Unchanged s (held_as d n s)
unchanged-held d n s = record { guest = refl; host = refl; present = refl; introduction = refl; owed = refl; rows = refl; requests = refl; watch = refl }

refused-same : (d : Side) (s : Session) (kind : ℕ) → Unchanged s (refused_as (held_as d 0 s) kind)
refused-same d s kind = go (eqb kind 0)
  where
    go : (b : Bool) → Unchanged s (cond b (stopped_now (held_as d 0 s)) (held_as d 0 s))
    go true = record { guest = refl; host = refl; present = refl; introduction = refl; owed = refl; rows = refl; requests = refl; watch = refl }
    go false = unchanged-held d 0 s

-- of a whole packet's verdict
module _ (d : Side) (s : Session) (b : List ℕ) (n : ℕ) (e : cut_at (link_of d s) b ≡ whole n) where
  verdict-number : among read_numbers (verdict_of (held_as d 0 s) d (take n b)).number ≡ true
  verdict-number = verdict-numbers (λ m. among read_numbers m ≡ true) (refl, (refl, (refl, (refl, (refl, (refl, (refl, tt))))))) (refl, (refl, (refl, (refl, (refl, (refl, (refl, (refl, (refl, (refl, (refl, tt))))))))))) d (held_as d 0 s) b n e

  verdict-refusal : ((verdict_of (held_as d 0 s) d (take n b)).number ≡ 0 → ⊥) → Unchanged s (verdict_of (held_as d 0 s) d (take n b)).session
  unfolding verdict_of
  verdict-refusal =
      cases (eqb (read_number (link_of d s) (take n b)) 0)
      (λ t. rw t (λ z. subst (Unchanged s) (sym (refused-keeps (held_as d 0 s) (event_of d (decode (link_of d s) (take n b))) z)) (unchanged-held d 0 s)))
      (λ t. rw t (λ z. refused-same d s (kind_of (take n b))))

-- by the ways of a call: each has its numbers, takes what is there, and moves hellos, device, rows, requests and watch only at 0
read-answered : (from : Side) (s : Session) (hold piece : List ℕ) → Answered s hold piece (offer_of from s hold piece)
unfolding offer_of
read-answered from s hold piece =
    cases (eqb (barred from s hold) 0)
    (λ t. rw t (goes (ready from s hold (eqb-true _ _ t)) (cut_at (link_of from s) (held_bytes from s hold ++ piece)) refl))
    (λ t. rw t (record { number = barred-number from s hold; taken = omega arith; buffer = refl; refusal = λ z. unchanged-same s }))
  where
    -- the three ways of a call that is not barred
    goes : Ready from s hold → (c : Cut) → cut_at (link_of from s) (held_bytes from s hold ++ piece) ≡ c → Answered s hold piece (by_cut from s hold piece c)
    goes r more e = record { number = refl; taken = omega arith; buffer = length-sets hold (held_of from s) piece; refusal = λ z. unchanged-held from (held_of from s + length piece) s }
    goes r (bad n) e =
        let all : List ℕ = held_bytes from s hold ++ piece in
        let i : IsBad usbredir (link_of from s) all n = bad-is usbredir (link_of from s) all n e in
        let w : WholeHere hold piece (held_of from s) (head_size (link_of from s) all) = header-here (link_of from s) hold piece (held_of from s) r.room (held-few from s r.fit) r.begun n e in
        record {
          number = subst (λ (m : ℕ). among read_numbers m ≡ true) i.number (header-numbers (λ m. among read_numbers m ≡ true) (refl, (refl, (refl, (refl, tt)))) (link_of from s) (kind_of all) (length_of all));
          taken = omega (arith, w.there);
          buffer = completed-length hold piece (held_of from s) (head_size (link_of from s) all);
          refusal = λ z. record { guest = refl; host = refl; present = refl; introduction = refl; owed = refl; rows = refl; requests = refl; watch = refl };
        }
    goes r (whole n) e =
        let w : WholeHere hold piece (held_of from s) n = whole_here (link_of from s) hold piece (held_of from s) r.room (held-few from s r.fit) r.begun n e in
        record {
          number = verdict-number from s (held_bytes from s hold ++ piece) n e;
          taken = omega (arith, w.there);
          buffer = completed-length hold piece (held_of from s) n;
          refusal = verdict-refusal from s (held_bytes from s hold ++ piece) n e;
        }

-- ---- the writer

shut-number : (from : Side) (s : Session) (hello : Bool) → among write_numbers (shut from s hello) ≡ true
unfolding shut
shut-number from s hello = go (unfit s) s.head.stopped (is_waiting (link_of from s) && not hello)
  where
    go : (a b c : Bool) → among write_numbers (cond a 43 (cond b 3 (cond c 2 0))) ≡ true
    go true b c = refl
    go false true c = refl
    go false false true = refl
    go false false false = refl

write-number : (from : Side) (s : Session) (p : Content) (room : ℕ) → among write_numbers (write_by from s p room) ≡ true
write-number from s p room =
    write-numbers (λ m. among write_numbers m ≡ true) (refl, (refl, (refl, (refl, tt)))) (refl, (refl, (refl, (refl, (refl, (refl, (refl, tt))))))) refl from s p room (shut-number from s (eqb p.kind 0))

module _ (from : Side) (s : Session) (p : Content) (out : List ℕ) where
  abbrev packet : List ℕ
  packet = encode (link_of from s) p

  refused-put : (write_by from s p (length out) ≡ 0 → ⊥) → (output from s p out ≡ out) × (output_size from s p (length out) ≡ 0)
  unfolding write_by output output_size written written_size
  refused-put z =
      cases (eqb (shut from s (eqb p.kind 0)) 0) (λ t. let q = ne_eqb (write_number (link_of from s) p (length out)) 0 (λ e. z (rw t e)) in (rw (t, q) refl, rw (t, q) refl)) (λ t. (rw t refl, rw t refl))

  accepted-put : write_by from s p (length out) ≡ 0 → (output from s p out ≡ packet ++ drop (length packet) out) × (output_size from s p (length out) ≡ length packet)
  unfolding write_by output output_size written written_size
  accepted-put e =
      let z = both_zero (shut from s (eqb p.kind 0)) (write_number (link_of from s) p (length out)) e in
      (rw (z.0, z.1) refl, rw (z.0, z.1) refl)

  -- the packet in front, or nothing
  put-as-was : (drop (output_size from s p (length out)) (output from s p out) ≡ drop (output_size from s p (length out)) out) × (length (output from s p out) ≡ length out)
  put-as-was =
      cases (eqb (write_by from s p (length out)) 0)
      (λ t.
      let e : write_by from s p (length out) ≡ 0 = eqb-true _ _ t in
      let q = accepted-put e in
      let room : length packet ≤ length out = ((writer-exactly from s p (length out)).0 e).room in (
        rw (q.0, q.1) (drop_at packet (drop (length packet) out) (length packet) refl),
        rw q.0 (omega (arith, room, length-append packet (drop (length packet) out), length-drop (length packet) out)),
      ))
      (λ t. let q = refused-put (λ e. true≢false (sym (ap (λ (m : ℕ). eqb m 0) e) ∙ t)) in (ap (drop (output_size from s p (length out))) q.0, ap length q.0))

  write-put : Put from s p out
  write-put =
      record {
        number = write-number from s p (length out);
        behind = put-as-was.0;
        as_long = put-as-was.1;
        accepted = accepted-put;
        output = λ z. (refused-put z).0;
        size = λ z. (refused-put z).1;
      }

pub demand-1 : Demand1
demand-1 = record { read = read-answered; write = write-put }
