-- A run of a script, call by call, as `driven` defines it, however a call is made.
-- The loop keeps `Driving`: the records so far stand at the front of the output, and the rest of the script gives from
-- here what all of it gives. A whole item unfolds `run_of` once (`run_more`); at one that is cut short, or where the
-- output is full, nothing is to come.
-- Assumes nothing.
use Rattle.std.proofs.Common.{◌≡◌, ℕ, zero, suc, ◌+◌, ◌-◌, ◌*◌, ◌/◌, ◌<◌, ◌≤◌, List, [], ◌++◌, length, drop, sym, refl, ap, ◌∙◌, ap₂, add-one, arith, length-append, length-drop, drop-drop, le-leb}
use native.Mathlib.Nat.{sub-zero}
use borrow.Author.Tests.{lt-leb}
use borrow.Rule.Slice.PartMut.{mid_of, put_mid}
use lib.Seq.{sets, slice, length-sets}
use Rattle.octets.specs.Little.{le}
use Rattle.octets.proofs.Integers.{drop-take}
use Rattle.header.specs.Link.{side_of}
use Rattle.header.specs.declared.Side.{Side}
use Rattle.header.specs.declared.Side.TheVariants.{Guest, Host}
use Rattle.session.specs.declared.Session.{Session}
use Rattle.session.specs.Session.{fresh_session, link_of}
use Rattle.gate.specs.declared.Answer.{Answer}
use Rattle.gate.specs.Offer.{outcome, offer_of}
use Rattle.test_drive.specs.Drive.{item_size, piece_at, sender_at, watch_bytes, half_of, base_of, own_of, with_own, Run, recorded, ran_call, run_of, driven, Drives}
use Rattle.test_drive.specs.ScriptSteps.{answer_bytes}
use Rattle.test_drive.proofs.RecordBytes.{laid-back, behind, answer-length, answer-bytes}
use Rattle.test_drive.proofs.WatchBytes.{rest_back}

-- ---- a call

-- a side's own half ends in the buffer
half-within : (from : Side) (holds : List ℕ) → base_of from (half_of holds) + half_of holds ≤ length holds
half-within Guest holds = omega arith
half-within Host holds = omega arith

-- the run after a call over the sender's own half
abbrev ran_on : Run → Session → Answer → List ℕ → Run
ran_on x s a holds = record { session = s; holds = holds; records = x.records ++ answer_bytes a; calls = x.calls + 1 }

called_is : (x : Run) (from : Side) (piece : List ℕ) {s : Session} (a : Answer) {hold holds : List ℕ}
    → outcome (link_of from x.session) (record { session = s; answer = a }) piece hold ≡ offer_of from x.session (own_of from x.holds) piece
    → holds ≡ with_own from hold x.holds
    → ran_on x s a holds ≡ ran_call x from piece
called_is x from piece {s} a {hold} o e =
    rw (e, add-one, answer-bytes (link_of from x.session) (record { session = s; answer = a }) piece hold) refl ∙ ap (recorded x from) o

-- ---- a script

run_more : (x y : Run) (script : List ℕ) (at n m : ℕ) → m ≡ item_size (drop at script) → m ≤ length (drop at script)
    → y ≡ ran_call x (sender_at (drop at script)) (piece_at (drop at script))
    → run_of (suc n) x (drop at script) ≡ run_of n y (drop (at + m) script)
unfolding run_of
run_more x y script at n m e h c =
    rw (le-leb (item_size (drop at script)) (length (drop at script)) (rw e at h), ← c, ← e, drop-drop m at script)

run_short : (n : ℕ) (x : Run) (rest : List ℕ) → length rest < item_size rest → run_of n x rest ≡ x
unfolding run_of
run_short zero x rest h = refl
run_short (suc n) x rest h = rw (lt-leb (item_size rest) (length rest) h)

run-full : (x : Run) (rest : List ℕ) → run_of 0 x rest ≡ x
unfolding run_of
run-full x rest = refl

-- `at` bytes of the script are used and k calls made, whose records are laid: what is still to come gives what all of the script gives
pub record Driving (script holds₀ out₀ holds out : List ℕ) (s : Session) (at k : ℕ) : Type 0 where
  pub within : at ≤ length script
  pub room : k ≤ length out₀ / 26
  pub holds-length : length holds ≡ length holds₀
  pub out-length : length out ≡ length out₀
  pub records : List ℕ
  pub records-length : length records ≡ k * 26
  pub laid : out ≡ sets out₀ 0 records
  pub to-come : run_of (length out₀ / 26 - k) (record { session = s; holds = holds; records = records; calls = k }) (drop at script) ≡ driven script holds₀ out₀

-- before the first call nothing is laid, and all of the script is to come
pub drive-starts : {script holds out : List ℕ} {s : Session} → s ≡ fresh_session → Driving script holds out holds out s 0 0
unfolding driven
drive-starts e =
    record {
      within = omega arith;
      room = omega arith;
      holds-length = refl;
      out-length = refl;
      records = [];
      records-length = refl;
      laid = refl;
      to-come = rw (e, sub-zero);
    }

module _ {script holds₀ out₀ holds out : List ℕ} {s : Session} {at k : ℕ} (p : Driving script holds₀ out₀ holds out s at k) where
  abbrev now-run : Run
  now-run = record { session = s; holds = holds; records = p.records; calls = k }

  -- the part of the output behind the records
  abbrev behind-records : ℕ → List ℕ
  behind-records n = mid_of (n * 26) (length out - n * 26) out

  -- a whole item: its record is laid behind the others, and what is to come stands behind it in the script
  pub drive-goes-on : {rest : List ℕ} {n b : ℕ} {from : Side} {piece hold' out' : List ℕ} {x : Session} (a : Answer) {base : ℕ} → k < length out₀ / 26
      → rest ≡ drop at script
      → n ≡ le 4 rest 1
      → 5 + n ≤ length rest
      → b ≡ le 1 rest 0
      → from ≡ side_of b
      → piece ≡ slice 5 (5 + n) rest
      → base ≡ base_of from (half_of holds₀)
      → length hold' ≡ length (mid_of base (base + half_of holds₀ - base) holds)
      → outcome (link_of from s) (record { session = x; answer = a }) piece hold' ≡ offer_of from s (mid_of base (base + half_of holds₀ - base) holds) piece
      → out' ≡ sets out (k * 26) (answer_bytes a)
      → Driving script holds₀ out₀ (put_mid base (base + half_of holds₀ - base) holds hold') out' x (at + (5 + n)) (k + 1)
  drive-goes-on {n = n} {from = from} {piece = piece} {hold' = hold'} {out' = out'} {x = x} a {base = base} h r en w eb ef ep ea as-long t eo =
      let end : ℕ = base + half_of holds₀ in
      let fits : end ≤ length holds = omega (arith, ea, half-within from holds₀, p.holds-length) in
      let es = laid-back holds hold' base end (omega arith) fits as-long in
      let m : 5 + n ≡ item_size (drop at script) = rw (en, r) in
      let l : 5 + n ≤ length (drop at script) = rw r at w in
      let f : from ≡ sender_at (drop at script) = rw (ef, eb, r) in
      let q : piece ≡ piece_at (drop at script) = rw (ep, en, r) in
      let z : base ≡ base_of from (half_of holds) = ea ∙ ap (λ (i : ℕ). base_of from (i / 2)) (sym p.holds-length) in
      let own : mid_of base (end - base) holds ≡ own_of from holds = sym (drop-take base end holds) ∙ rw (z, ← p.holds-length) refl in
      let x' : Run = ran_on now-run x a (put_mid base (end - base) holds hold') in
      let c : x' ≡ ran_call now-run (sender_at (drop at script)) (piece_at (drop at script)) =
      called_is now-run from piece a (rw own at t) (es ∙ ap (λ (i : ℕ). sets holds i hold') z) ∙ ap₂ (λ (a : Side) (b : List ℕ). ran_call now-run a b) f q in
      let e : length out₀ / 26 - k ≡ suc (length out₀ / 26 - (k + 1)) = omega arith in
      let y = run_more now-run x' script at (length out₀ / 26 - (k + 1)) (5 + n) m l c in
      record {
        within = omega (arith, length-drop at script, p.within);
        room = omega arith;
        holds-length = ap length es ∙ length-sets holds base hold' ∙ p.holds-length;
        out-length = ap length eo ∙ length-sets out (k * 26) (answer_bytes a) ∙ p.out-length;
        records = p.records ++ answer_bytes a;
        records-length = omega (arith, length-append p.records (answer_bytes a), p.records-length, answer-length a);
        laid = behind out₀ 0 (k * 26) (k * 26) p.records (answer_bytes a) p.records-length (omega arith) p.laid eo;
        to-come = sym y ∙ rw e at p.to-come;
      }

  -- where nothing is to come, the run so far is all of it; its watch is laid behind the records
  stops : (n : ℕ) → n ≡ k → run_of (length out₀ / 26 - k) now-run (drop at script) ≡ now-run → {r : List ℕ} → r ≡ sets (behind-records n) 0 (watch_bytes s.watch)
      → Drives script holds₀ out₀ holds (put_mid (n * 26) (length out - n * 26) out r) n
  stops n q e w =
      let z : now-run ≡ driven script holds₀ out₀ = sym e ∙ p.to-come in
      let within : n * 26 ≤ length out = omega (arith, p.room, p.out-length) in
      record {
        count-is = q ∙ ap (λ (x : Run). x.calls) z;
        holds-are = ap (λ (x : Run). x.holds) z;
        output =
            behind out₀ 0 (k * 26) (n * 26) p.records (watch_bytes s.watch) p.records-length (omega arith) p.laid (rest_back out (watch_bytes s.watch) (n * 26) within w)
            ∙ ap (λ (x : Run). sets out₀ 0 (x.records ++ watch_bytes x.session.watch)) z;
      }

  pub drive-short : {rest : List ℕ} {n : ℕ} → rest ≡ drop at script → n ≡ le 4 rest 1 → length rest < 5 + n → {r : List ℕ} → r ≡ sets (behind-records k) 0 (watch_bytes s.watch)
      → Drives script holds₀ out₀ holds (put_mid (k * 26) (length out - k * 26) out r) k
  drive-short r en w = stops k refl (run_short _ _ (drop at script) (rw (← r, ← en) w))

  pub drive-full : (n : ℕ) → n ≡ length out₀ / 26 → n ≤ k → {r : List ℕ} → r ≡ sets (behind-records n) 0 (watch_bytes s.watch)
      → Drives script holds₀ out₀ holds (put_mid (n * 26) (length out - n * 26) out r) n
  drive-full n m h =
      let e : length out₀ / 26 - k ≡ 0 = omega arith in
      stops n (omega (arith, p.room)) (rw e (run-full now-run (drop at script)))
