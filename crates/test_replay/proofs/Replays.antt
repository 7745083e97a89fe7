-- The numbers of a script, packet by packet, as `numbers_of` defines them.
-- The loop keeps `Replaying`: the numbers of the rest of the script, laid behind those so far, give the output and the count that all of them
-- give. A whole packet unfolds `numbers_of` once: its verdict's number is the next to lay, and its session the one to go on with
-- (`replay-goes-on`). At a packet that is cut short, or where the output is full, no number is left (`replay-short`, `replay-full`).
-- The ids of live requests differ throughout, so that each packet gets its verdict (`verdict-ids`).
-- Assumes nothing.
use mathlib.Core.Path.{◌≡◌, refl, ◌∙◌}
use mathlib.Core.Bool.{true}
use mathlib.Core.List.{List, [], ◌∷◌}
use Prim.Native.Nat.{ℕ, zero, suc, ◌+◌, ◌-◌, ◌≤◌, ◌<◌}
use native.Mathlib.Nat.{zero-add, add-zero, sub-zero}
use native.Mathlib.Numerals.{add-one}
use native.Mathlib.Omega.{arith}
use borrow.Author.Tests.{le-leb, lt-leb}
use lib.ListN.{length, drop, set, length-set, length-drop}
use lib.Seq.{sets, slice, drop-drop}
use Rattle.octets.specs.Little.{le}
use Rattle.header.specs.declared.Side.{Side}
use Rattle.header.specs.Link.{side_of}
use Rattle.requests.specs.Requests.{ids_differ}
use Rattle.session.specs.declared.Session.{Session}
use Rattle.session.specs.Session.{fresh_session}
use Rattle.gate.specs.Verdict.{verdict_of}
use Rattle.claims.proofs.PacketLists.{start-sound}
use Rattle.test_replay.specs.Replay.{packet_size, verdict_at, numbers_of, Replays, Gives}
use Rattle.test_replay.proofs.Judging.{verdict-ids}

-- ---- a script

-- `at` bytes of the script are judged and k numbers laid: those still to come, over what is laid, give what all of them give
pub record Replaying (script before after : List ℕ) (s : Session) (at k : ℕ) : Type 0 where
  pub within : at ≤ length script
  pub room : k ≤ length before
  pub same_length : length after ≡ length before
  pub ids : ids_differ s.requests ≡ true
  pub count : k + length (numbers_of (length before - k) s (drop at script)) ≡ length (numbers_of (length before) fresh_session script)
  pub output : sets after k (numbers_of (length before - k) s (drop at script)) ≡ sets before 0 (numbers_of (length before) fresh_session script)

pub replay-starts : {script out : List ℕ} {s : Session} → s ≡ fresh_session → Replaying script out out s 0 0
replay-starts e =
    record {
      within = omega arith;
      room = omega arith;
      same_length = refl;
      ids = rw e start-sound.ids;
      count = rw (e, sub-zero, zero-add);
      output = rw (e, sub-zero);
    }

-- the numbers that a script gives, by what stands at its front
numbers-whole : (n : ℕ) (s : Session) (rest : List ℕ) → packet_size rest ≤ length rest
    → numbers_of (suc n) s rest ≡ (verdict_at s rest).number ∷ numbers_of n (verdict_at s rest).session (drop (packet_size rest) rest)
unfolding numbers_of
numbers-whole n s rest h = rw (le-leb (packet_size rest) (length rest) h)

numbers-short : (n : ℕ) (s : Session) (rest : List ℕ) → length rest < packet_size rest → numbers_of n s rest ≡ []
unfolding numbers_of
numbers-short zero s rest h = refl
numbers-short (suc n) s rest h = rw (lt-leb (packet_size rest) (length rest) h)

numbers-none : (s : Session) (rest : List ℕ) → numbers_of 0 s rest ≡ []
unfolding numbers_of
numbers-none s rest = refl

-- the next packet, whole: its number is the next to lay, and its session the one to go on with
numbers_more : (s : Session) (script : List ℕ) (at n : ℕ) {m k : ℕ} {u : Session} → m ≡ packet_size (drop at script) → m ≤ length (drop at script)
    → k ≡ (verdict_at s (drop at script)).number
    → u ≡ (verdict_at s (drop at script)).session
    → numbers_of (suc n) s (drop at script) ≡ k ∷ numbers_of n u (drop (at + m) script)
numbers_more s script at n e h x y =
    numbers-whole n s (drop at script) (rw e at h) ∙ rw (x, y, e, drop-drop (packet_size (drop at script)) at script)

module _ {script before after : List ℕ} {s : Session} {at k : ℕ} (p : Replaying script before after s at k) where
  -- a whole packet: its number is laid behind the others, and what is to come stands behind it in the script
  pub replay-goes-on : {rest : List ℕ} {n b : ℕ} {from : Side} {bytes : List ℕ} {next : Session} {number : ℕ} → k < length before
      → rest ≡ drop at script
      → n ≡ le 2 rest 1
      → 3 + n ≤ length rest
      → b ≡ le 1 rest 0
      → from ≡ side_of b
      → bytes ≡ slice 3 (3 + n) rest
      → (ids_differ s.requests ≡ true → Gives next number (verdict_of s from bytes))
      → Replaying script before (set after k number) next (at + (3 + n)) (k + 1)
  replay-goes-on {n} {from} {bytes} {next} {number} h r en w eb ef by ev =
      let a : verdict_of s from bytes ≡ verdict_at s (drop at script) = rw (ef, eb, by, en, r) in
      let g : Gives next number (verdict_at s (drop at script)) = rw a at (ev p.ids) in
      let m : 3 + n ≡ packet_size (drop at script) = rw (en, r) in
      let l : 3 + n ≤ length (drop at script) = rw r at w in
      let d = length-drop at script in
      let e : length before - k ≡ suc (length before - (k + 1)) = omega (arith, p.same_length) in
      let q : numbers_of (length before - k) s (drop at script) ≡ number ∷ numbers_of (length before - (k + 1)) next (drop (at + (3 + n)) script)
      = rw e (numbers_more s script at (length before - (k + 1)) m l g.number g.session) in
      record {
        within = omega (arith, p.within);
        room = omega (arith, p.same_length);
        same_length = rw length-set p.same_length;
        ids = rw (ev p.ids).session (verdict-ids s from bytes p.ids);
        count = omega (arith, rw q at p.count);
        output = rw (add-one k) (rw (q, add-one k) at p.output);
      }

  pub replay-short : {rest : List ℕ} {n : ℕ} → rest ≡ drop at script → n ≡ le 2 rest 1 → length rest < 3 + n → Replays script before after k
  replay-short r en w =
      let z : numbers_of (length before - k) s (drop at script) ≡ [] = numbers-short (length before - k) s (drop at script) (rw (← r, ← en) w) in
      record { count-is = rw (z, add-zero) at p.count; output = rw z at p.output }

  pub replay-full : length before ≤ k → Replays script before after (length after)
  replay-full h =
      let e : length before - k ≡ 0 = omega (arith, h) in
      let z : numbers_of (length before - k) s (drop at script) ≡ [] = rw e (numbers-none s (drop at script)) in
      let f : length after ≡ k = omega (arith, h, p.room, p.same_length) in
      record { count-is = f ∙ rw (z, add-zero) at p.count; output = rw z at p.output }
