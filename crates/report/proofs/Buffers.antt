-- Bytes moved to the front of a list (`shifted`, `shift-keeps`), and stored into a part of it (`sets-part`); what the program's steps do
-- (`writes-much`, `line-printed`).
-- Moving writes at i and reads at start + i, which no write so far has reached (`get_d-sets-past`). At most 22,528 bytes of output wait and a line prints at most 239,616: there is room for both (`line-room`).
-- Assumes nothing.
use Rattle.std.specs.Prelude.{Some, None, is_some}
use Prim.Native.Nat.{ℕ, zero, suc, ◌+◌, ◌-◌, ◌≤◌, ◌<◌, min}
use native.Mathlib.Numerals.{add-one}
use native.Mathlib.Omega.{arith}
use mathlib.Core.Path.{◌≡◌, refl, sym, ap, ap₂, ◌∙◌}
use mathlib.Core.Bool.{Bool, true, false, cond, not, ◌||◌, or-false}
use mathlib.Core.List.{List, [], ◌∷◌, ◌++◌, append-nil}
use lib.ListN.{length, get_or, set, take, drop, length-take, length-drop, drop_of_length-le, take-append-drop}
use lib.Seq.{paste, take-paste, drop-paste, sets, sets-eq, length-sets, length-take-le, take_at, take-take, take-suc, get_or-drop, get_or-set_other}
use lib.Dec.{eqb, ltb}
use borrow.Author.Tests.{lt-ltb, le-ltb, ltb-false, eqb-true, eqb-false, eq-eqb, ne_eqb}
use borrow.Rule.Slice.PartMut.{put_mid, take_put}
use borrow.Author.Rules.{part_to_end}
use Rattle.octets.specs.Saturated.{saturated}
use Rattle.octets.proofs.Integers.{sets-append}
use Rattle.capture.proofs.LineLaws.{totals-short}
use Rattle.capture.specs.Lines.{line_of, totals_line}
use Rattle.capture.specs.Flaws.{flaw_of}
use Rattle.transcript.specs.declared.Lined.{Lined}
use Rattle.transcript.specs.Input.{step_of, next_of, LineReports, start as started}
use Rattle.transcript.proofs.Parts.{prints-short, next-within, wait-few}
use Rattle.report.specs.declared.State.{State}
use Rattle.report.specs.Program.{Fits, progress, begun, line_step, Writes, Prints, memory, beginning, Turns, begin}

-- nothing came where the end is where it was
pub none_came : (n got : ℕ) → eqb got 0 ≡ eqb (n + got) n
none_came n got = go (eqb got 0) refl
  where
    go : (b : Bool) → eqb got 0 ≡ b → b ≡ eqb (n + got) n
    go true e = sym (eq-eqb (n + got) n (omega (arith, eqb-true got 0 e)))
    go false e = sym (ne_eqb (n + got) n (λ q. eqb-false got 0 e (omega arith)))

-- a byte behind what is stored stays
get_d-sets-past : (xs l : List ℕ) (i j : ℕ) → i + length xs ≤ j → get_or (sets l i xs) j 0 ≡ get_or l j 0
get_d-sets-past [] l i j h = refl
get_d-sets-past (x ∷ xs) l i j h =
    get_d-sets-past xs (set l i x) (suc i) j (omega arith) ∙ get_or-set_other l i j x 0 (λ e. let z : j ≡ i = e in omega arith)

-- what is copied to the front is stored there
pub shifted : (l : List ℕ) (start n : ℕ) {r : List ℕ} → start + n ≤ length l → r ≡ paste l 0 (drop start l) (start + n - start) → r ≡ sets l 0 (take n (drop start l))
shifted l start n h e =
    let s = drop start l in
    let k : start + n - start ≡ n = omega arith in
    let ls : n ≤ length s = omega (arith, length-drop start l) in
    let m : length (take n s) ≡ n = length-take-le n s ls in
    e
    ∙ ap (paste l 0 s) k
    ∙ sym (take-append-drop (0 + n) (paste l 0 s n))
    ∙ ap₂ (λ (x y : List ℕ). x ++ y) (take-paste l 0 s n (omega arith) ls) (drop-paste l 0 s n (omega arith) ls)
    ∙ sym (sets-eq (take n s) l 0 (omega (arith, m)) ∙ ap (λ (i : ℕ). take n s ++ drop (0 + i) l) m)

-- bytes that were moved to the front stay there, whatever is read behind them
pub shift-keeps : (l ys : List ℕ) (start n e : ℕ) {s : List ℕ} → start + n ≤ length l → n ≤ e → s ≡ sets l 0 (take n (drop start l))
    → take n (take (e - 0) (drop 0 (put_mid n (length s - n) s ys))) ≡ take n (drop start l)
shift-keeps l ys start n e {s} h k q =
    let m = take n (drop start l) in
    let lm : length m ≡ n = length-take-le n (drop start l) (omega (arith, length-drop start l)) in
    let ls : length s ≡ length l = ap length q ∙ length-sets l 0 m in
    take-take n (e - 0) (put_mid n (length s - n) s ys) (omega arith)
    ∙ take_put n (length s - n) s ys (omega (arith, ls))
    ∙ ap (take n) (q ∙ sets-eq m l 0 (omega (arith, lm)))
    ∙ take_at m (drop (0 + length m) l) n lm

-- ---- stores into a part of a list

sets-cons : (x : ℕ) (l xs : List ℕ) (a : ℕ) → sets (x ∷ l) (suc a) xs ≡ x ∷ sets l a xs
sets-cons x l [] a = refl
sets-cons x l (y ∷ xs) a = sets-cons x (set l a y) xs (suc a)

sets_behind : (a : ℕ) (l xs : List ℕ) → a ≤ length l → take a l ++ sets (drop a l) 0 xs ≡ sets l a xs
sets_behind zero l xs h = refl
sets_behind (suc a) [] xs h = absurd (omega arith)
sets_behind (suc a) (x ∷ l) xs h = ap (λ (m : List ℕ). x ∷ m) (sets_behind a l xs (omega arith)) ∙ sym (sets-cons x l xs a)

-- what is stored from the front of a part on, which goes to the end, is stored from its start on
pub sets-part : (a : ℕ) (l xs : List ℕ) → a ≤ length l → put_mid a (length l - a) l (sets (take (length l - a) (drop a l)) 0 xs) ≡ sets l a xs
sets-part a l xs h =
    let n : length (drop a l) ≤ length l - a = omega (arith, length-drop a l) in
    let d : drop (length l - a) (drop a l) ≡ [] = drop_of_length-le (drop a l) n in
    rw (part_to_end l a, d, append-nil (sets (drop a l) 0 xs)) (sets_behind a l xs h)

-- ---- the program's steps

module _ (p : State) where
  pub writes-much : 22528 < p.size → (w : Bool)
      → Writes p (record { session = p.session; totals = p.totals; start = p.start; end = p.end; last = p.last; size = 0; over = p.over || not w; lines = p.lines; flaw = p.flaw; cut = p.cut; lost = p.lost || not w })
  writes-much h w =
      record { state = rw (lt-ltb 22528 p.size h); failed = not w; lost = rw (lt-ltb 22528 p.size h); over = rw (lt-ltb 22528 p.size h) }

  pub writes-not : p.size ≤ 22528 → Writes p p
  writes-not h = record { state = rw (le-ltb 22528 p.size h); failed = false; lost = rw (le-ltb 22528 p.size h) (sym (or-false p.lost)); over = rw (le-ltb 22528 p.size h) (sym (or-false p.over)) }

-- a line of k bytes, as the code lends it
pub line-is : (l : List ℕ) (start k : ℕ) → take (start + k - start) (drop start l) ≡ take k (drop start l)
line-is l start k =
    let e : start + k - start ≡ k = omega arith in
    ap (λ (n : ℕ). take n (drop start l)) e

-- a line lies within the bytes that it begins
pub line-within : (l : List ℕ) (start n k : ℕ) (last : Bool) → next_of (take n (drop start l)) last ≡ Some k → k ≤ n
line-within l start n k last e = omega (arith, next-within (take n (drop start l)) last e, length-take n (drop start l))

-- bytes that leave it open are few
pub wait-within : (l : List ℕ) (start n : ℕ) (last : Bool) → start + n ≤ length l → next_of (take n (drop start l)) last ≡ None → n ≤ 4113
wait-within l start n last h e = omega (arith, wait-few (take n (drop start l)) last e, length-take-le n (drop start l) (omega (arith, length-drop start l)))

left : (n : ℕ) → cond (ltb 22528 n) 0 n ≤ 22528
left n = go (ltb 22528 n) refl
  where
    go : (b : Bool) → ltb 22528 n ≡ b → cond b 0 n ≤ 22528
    go true e = omega arith
    go false e = ltb-false 22528 n e

module _ (p : State) (f : Fits p) (k : ℕ) (guest host input out : List ℕ) {l : Lined} {line part part-after guest-after host-after : List ℕ} (el : line ≡ take k (drop p.start input))
    (q : LineReports (step_of (progress p guest host) (line_of line)) (flaw_of line) part l guest-after host-after part-after)
  where
    same : LineReports (line_step p k guest host input) (flaw_of (take k (drop p.start input))) part l guest-after host-after part-after
    same = rw el at q

    -- what a line prints fits behind what is not written yet
    line-size : l.reported.size ≡ length (line_step p k guest host input).prints
    line-size = omega (arith, same.size, prints-short (progress p guest host) (take k (drop p.start input)))

    pub line-room : p.size + l.reported.size ≤ 262144
    line-room = omega (arith, line-size, f.room, prints-short (progress p guest host) (take k (drop p.start input)))

    -- what is stored into the part behind `size` is stored there in the output (`sets-part`); the rest is what was told, and `Writes`
    pub line-printed : {m n : ℕ} {b : Bool} {r : State} → length out ≡ 262144 → p.start + k ≤ p.end → part ≡ take (length out - p.size) (drop p.size out)
        → m ≡ min (p.start + k + 1) p.end → n ≡ saturated p.lines 1 → b ≡ is_some l.flaw
        → Writes (record { session = l.reported.session; totals = l.reported.totals; start = m; end = p.end; last = p.last; size = p.size + l.reported.size; over = b; lines = n; flaw = l.flaw; cut = p.cut; lost = p.lost }) r
        → Prints p k guest host input out r guest-after host-after (put_mid p.size (length out - p.size) out part-after)
    line-printed {m} {b} {r} lo lk ep em en eb w =
        let s = same in
        let prints = (line_step p k guest host input).prints in
        let start : r.start ≡ min (p.start + k + 1) p.end = ap (λ (x : State). x.start) w.state ∙ em in
        let end : r.end ≡ p.end = ap (λ (x : State). x.end) w.state in
        let size : r.size ≡ cond (ltb 22528 (p.size + l.reported.size)) 0 (p.size + l.reported.size) = ap (λ (x : State). x.size) w.state in
        record {
          fits = record { order = omega (arith, start, end, f.order); within = omega (arith, end, f.within); room = omega (arith, size, left (p.size + l.reported.size)) };
          next = ap (λ (x : State). progress x guest-after host-after) w.state ∙ s.next;
          output = ap (put_mid p.size (length out - p.size) out) (s.output ∙ ap (λ (x : List ℕ). sets x 0 prints) ep) ∙ sets-part p.size out prints (omega (arith, f.room));
          size = size ∙ ap (λ (x : ℕ). cond (ltb 22528 (p.size + x)) 0 (p.size + x)) line-size;
          start = start;
          end = end;
          last = ap (λ (x : State). x.last) w.state;
          lines = ap (λ (x : State). x.lines) w.state ∙ en;
          flaw = ap (λ (x : State). x.flaw) w.state ∙ s.why;
          cut = ap (λ (x : State). x.cut) w.state;
          failed = w.failed;
          lost = w.lost ∙ rw line-size;
          over = w.over ∙ rw (eb, s.bad, line-size);
        }

-- the totals have room behind the output that is not written yet
pub totals-room : (p : State) (n : ℕ) → Fits p → n ≡ length (totals_line p.totals.passed p.totals.refused p.session.head.stopped) → p.size + n ≤ 22645
totals-room p n f e = omega (arith, f.room, totals-short p.totals.passed p.totals.refused p.session.head.stopped)

-- ---- a run

pub run-begins : (p : State) (guest host input out : List ℕ) → p ≡ begun → guest ≡ started.guest → host ≡ started.host
    → Turns (beginning input out) (memory p guest host input out) 0
run-begins p guest host input out e g h = rw (e, g, h) begin

pub begun-fits : (p : State) → p ≡ begun → Fits p
begun-fits p e = rw e (record { order = omega arith; within = omega arith; room = omega arith })
