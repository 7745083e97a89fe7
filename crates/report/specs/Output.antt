-- A run puts out what `transcript` defines for the whole input (`whole-output`).
-- By induction over the turns (`turns-keep`): what was written, what waits in the output buffer, and what the unread bytes with all that follows
-- still give are together what the input gives. A line moves its print to the buffer (`first-line` of `transcript`), a write moves the buffer
-- out, and a read leaves all three as they are. At the end the totals are left.
-- What the code hands to C's write is `written_in` by its text, `&out[..size]`:
-- that is no contract's to say. Assumes nothing.
use Rattle.std.specs.Prelude.{ℕ, suc, ◌+◌, ◌-◌, ◌≤◌, ◌<◌, min, ◌≡◌, refl, Bool, true, false, cond, ◌&&◌, ◌||◌, List, [], ◌++◌, length, take, drop, ltb, Some}
use Rattle.std.proofs.Common.{arith, sym, ap, ◌∙◌, append_assoc, append-nil, length-take, take-append-drop, take-take, drop-drop, ltb-true, ltb-false}
use Rattle.std.proofs.lemmas.Bool.{false≢true}
use Rattle.std.proofs.Math.Seq.{length-sets}
use Rattle.octets.proofs.Integers.{drop-take, take-sets}
use Rattle.capture.proofs.LineLaws.{totals-short}
use Rattle.transcript.specs.Input.{Progress, lines_of, totals_of, output_from, output_of, next_of, start as started}
use Rattle.transcript.proofs.Parts.{prints-short, next-within, first-line, last-wait}
use Rattle.report.specs.declared.State.{State}
use Rattle.report.specs.Program.{Fits, ReadsMore, unread, progress, line_step, size_with, Prints, Memory, Steps, step_line, step_end, step-read, Turns, begin, turn, Reports}

-- ---- what a turn does

-- the bytes that it reads
abbrev pub read_in : {m n : Memory} → Steps m n → List ℕ
read_in (step_line e q i) = []
read_in (step_end e l s g h i o) = []
read_in {m} {n} (step-read e l q g h o) = drop (m.state.end - m.state.start) (unread n.state n.input)

-- the bytes that it hands to C's write
abbrev pub written_in : {m n : Memory} → Steps m n → List ℕ
written_in {m} {n} (step_line {k} e q i) =
    cond (ltb 22528 (size_with m.state k m.guest m.host m.input)) (take (size_with m.state k m.guest m.host m.input) n.out) []
written_in (step_end e l s g h i o) = []
written_in (step-read e l q g h o) = []

-- whether that failed
abbrev pub failed_in : {m n : Memory} → Steps m n → Bool
failed_in {m} {n} (step_line {k} e q i) = ltb 22528 (size_with m.state k m.guest m.host m.input) && q.failed
failed_in (step_end e l s g h i o) = false
failed_in (step-read e l q g h o) = false

-- whether its line is bad
abbrev pub bad_in : {m n : Memory} → Steps m n → Bool
bad_in {m} {n} (step_line {k} e q i) = (line_step m.state k m.guest m.host m.input).bad
bad_in (step_end e l s g h i o) = false
bad_in (step-read e l q g h o) = false

-- the state fits, and the output buffer keeps its length
pub steps-fit : {m n : Memory} → Steps m n → Fits m.state → Fits n.state
steps-fit (step_line e q i) f = q.fits
steps-fit (step_end e l s g h i o) f = rw s (record { order = f.order; within = f.within; room = f.room })
steps-fit (step-read e l q g h o) f = q.fits

steps-length : {m n : Memory} → Steps m n → length n.out ≡ length m.out
steps-length {m} (step_line {k} e q i) = ap length q.output ∙ length-sets m.out m.state.size (line_step m.state k m.guest m.host m.input).prints
steps-length (step_end e l s g h i o) = ap length o
steps-length (step-read e l q g h o) = ap length o

-- nothing is read after the input has ended
pub read_none : {m n : Memory} (s : Steps m n) (more : List ℕ) → (n.state.last ≡ true → more ≡ []) → m.state.last ≡ true → read_in s ++ more ≡ []
read_none (step_line e q i) more h t = h (q.last ∙ t)
read_none (step_end e l s g h i o) more z t = z (ap (λ (p : State). p.last) s ∙ t)
read_none (step-read e l q g h o) more z t = absurd (false≢true (sym l ∙ t))

-- after a bad line it is over
pub bad-over : {m n : Memory} (s : Steps m n) → bad_in s ≡ true → n.state.over ≡ true
bad-over (step_line e q i) t = q.over ∙ rw t
bad-over (step_end e l s g h i o) t = absurd (false≢true t)
bad-over (step-read e l q g h o) t = absurd (false≢true t)

-- ---- lists

-- the bytes behind a line and its newline
pub behind-line : (l : List ℕ) (a b k : ℕ) → drop (suc k) (take (b - a) (drop a l)) ≡ take (b - min (a + k + 1) b) (drop (min (a + k + 1) b) l)
behind-line l a b k = drop-take (suc k) (b - a) (drop a l) ∙ go (ltb b (a + k + 1)) refl
  where
    go : (t : Bool) → ltb b (a + k + 1) ≡ t → take (b - a - suc k) (drop (suc k) (drop a l)) ≡ take (b - min (a + k + 1) b) (drop (min (a + k + 1) b) l)
    go true e =
        let h : b < a + k + 1 = ltb-true b (a + k + 1) e in
        let x : b - a - suc k ≡ 0 = omega arith in
        let y : b - min (a + k + 1) b ≡ 0 = omega arith in
        rw (x, y)
    go false e =
        let h : a + k + 1 ≤ b = ltb-false b (a + k + 1) e in
        let x : min (a + k + 1) b ≡ a + suc k = omega arith in
        let y : b - a - suc k ≡ b - (a + suc k) = omega arith in
        rw (x, y, drop-drop (suc k) a l)

-- ---- what is still to be printed is kept by a turn

abbrev pub progress_of : Memory → Progress
progress_of m = progress m.state m.guest m.host

-- Where more follows the bytes that were read: all that they give, and after a bad line the totals.
abbrev pub to_come : Bool → Memory → List ℕ → List ℕ
to_come bad m more = cond bad (totals_of (progress_of m)) (output_from (progress_of m) (lines_of (unread m.state m.input ++ more)))

-- the output that is not written yet
abbrev pub pending : Memory → List ℕ
pending m = take m.state.size m.out

-- bytes that are read stand behind the unread ones
pub read-on : (m n : Memory) → ReadsMore m.state m.input n.state n.input → (more : List ℕ)
    → unread m.state m.input ++ (drop (m.state.end - m.state.start) (unread n.state n.input) ++ more) ≡ unread n.state n.input ++ more
read-on m n q more =
    let w = m.state.end - m.state.start in
    let un = unread n.state n.input in
    sym (append_assoc (unread m.state m.input) (drop w un) more)
    ∙ ap (λ (x : List ℕ). (x ++ drop w un) ++ more) (sym q.kept)
    ∙ ap (λ (x : List ℕ). x ++ more) (take-append-drop w un)

-- a line is where the unread bytes start, and behind it are those that are unread then
pub line_first : (m n : Memory) {k : ℕ} → next_of (unread m.state m.input) m.state.last ≡ Some k
    → Prints m.state k m.guest m.host m.input m.out n.state n.guest n.host n.out → n.input ≡ m.input
    → (take k (unread m.state m.input) ≡ take k (drop m.state.start m.input)) × (drop (suc k) (unread m.state m.input) ≡ unread n.state n.input)
line_first m n {k} e q i =
    let p = m.state in
    let hk : k ≤ p.end - p.start = omega (arith, next-within (unread p m.input) p.last e, length-take (p.end - p.start) (drop p.start m.input)) in
    (take-take k (p.end - p.start) (drop p.start m.input) hk, behind-line m.input p.start p.end k ∙ rw (q.start, q.end, i))

module _ {m n : Memory} (f : Fits m.state) (lo : length m.out ≡ 262144) (more : List ℕ) (none-behind : n.state.last ≡ true → more ≡ []) where
  -- a line: what it prints is the first of what is still to come, and stands behind the output that was not written yet
  line-keeps : {k : ℕ} → next_of (unread m.state m.input) m.state.last ≡ Some k
      → (q : Prints m.state k m.guest m.host m.input m.out n.state n.guest n.host n.out) → n.input ≡ m.input
      → pending m ++ output_from (progress_of m) (lines_of (unread m.state m.input ++ more))
      ≡ take (size_with m.state k m.guest m.host m.input) n.out ++ to_come (line_step m.state k m.guest m.host m.input).bad n more
  line-keeps {k} e q i =
      let p = m.state in
      let b = unread p m.input in
      let g = line_step p k m.guest m.host m.input in
      let (line, rest) = line_first m n e q i in
      let first : output_from (progress_of m) (lines_of (b ++ more)) ≡ g.prints ++ to_come g.bad n more
      = first-line (progress_of m) more b p.last e (λ t. none-behind (q.last ∙ t))
      ∙ rw (line, rest)
      (ap (λ (x : Progress). g.prints ++ cond g.bad (totals_of x) (output_from x (lines_of (unread n.state n.input ++ more)))) (sym q.next)) in
      let laid : take (size_with p k m.guest m.host m.input) n.out ≡ pending m ++ g.prints
      = rw q.output (take-sets m.out g.prints p.size (omega (arith, lo, f.room, prints-short (progress_of m) (take k (drop p.start m.input))))) in
      rw (first, laid, append_assoc (pending m) g.prints (to_come g.bad n more))

  -- a turn takes what is still to be printed to what it writes, and what then is still to be printed
  step_keeps : (s : Steps m n)
      → pending m ++ output_from (progress_of m) (lines_of (unread m.state m.input ++ (read_in s ++ more))) ≡ written_in s ++ (pending n ++ to_come (bad_in s) n more)
  step_keeps (step_line {k} e q i) = line-keeps e q i ∙ go (ltb 22528 z) q.size
    where
      z : ℕ
      z = size_with m.state k m.guest m.host m.input

      rest : List ℕ
      rest = to_come (line_step m.state k m.guest m.host m.input).bad n more

      go : (b : Bool) → n.state.size ≡ cond b 0 z → take z n.out ++ rest ≡ cond b (take z n.out) [] ++ (pending n ++ rest)
      go true e = rw e
      go false e = rw e
  step_keeps (step_end e l s g h i o) = rw (s, g, h, i, o)
  step_keeps (step-read e l q g h o) =
      let same : progress_of n ≡ progress_of m = ap (λ (p : State). progress p n.guest n.host) q.state ∙ rw (g, h) in
      let size : n.state.size ≡ m.state.size = ap (λ (p : State). p.size) q.state in
      rw (read-on m n q more, same, size, o)

-- ---- a run

-- the bytes that its turns read, and those that they hand to C's write
abbrev pub read_by : {m n : Memory} {k : ℕ} → Turns m n k → List ℕ
read_by begin = []
read_by (turn t e s) = read_by t ++ read_in s

abbrev pub written_by : {m n : Memory} {k : ℕ} → Turns m n k → List ℕ
written_by begin = []
written_by (turn t e s) = written_by t ++ written_in s

-- Whether a write failed, and whether a line was bad: after either there is no other turn.
abbrev pub failed_by : {m n : Memory} {k : ℕ} → Turns m n k → Bool
failed_by begin = false
failed_by (turn t e s) = failed_in s

abbrev pub bad_by : {m n : Memory} {k : ℕ} → Turns m n k → Bool
bad_by begin = false
bad_by (turn t e s) = bad_in s

turns_fit : {m n : Memory} {k : ℕ} → Turns m n k → Fits m.state → Fits n.state
turns_fit begin f = f
turns_fit (turn t e s) f = steps-fit s (turns_fit t f)

turns-length : {m n : Memory} {k : ℕ} → Turns m n k → length n.out ≡ length m.out
turns-length begin = refl
turns-length (turn t e s) = steps-length s ∙ turns-length t

pub not-bad : {m n : Memory} {k : ℕ} (t : Turns m n k) → n.state.over ≡ false → bad_by t ≡ false
not-bad begin e = refl
not-bad {n} (turn t w s) e = go (bad_in s) (bad-over s)
  where
    go : (b : Bool) → (b ≡ true → n.state.over ≡ true) → b ≡ false
    go true h = absurd (false≢true (sym e ∙ h refl))
    go false h = refl

-- Whatever follows the bytes that were read, nothing where the input has ended: what all of the input gives is what the turns wrote, the
-- output that is not written yet, and what is still to be printed.
turns-keep : {m n : Memory} {k : ℕ} (t : Turns m n k) → Fits m.state → length m.out ≡ 262144 → (more : List ℕ) → (n.state.last ≡ true → more ≡ [])
    → pending m ++ output_from (progress_of m) (lines_of (unread m.state m.input ++ (read_by t ++ more))) ≡ written_by t ++ (pending n ++ to_come (bad_by t) n more)
turns-keep begin f lo more h = refl
turns-keep {m} (turn {n} {o} t e s) f lo more h =
    let u = unread m.state m.input in
    let ahead = turns-keep t f lo (read_in s ++ more) (read_none s more h) in
    let here = step_keeps (turns_fit t f) (turns-length t ∙ lo) more h s in
    ap (λ (x : List ℕ). pending m ++ output_from (progress_of m) (lines_of (u ++ x))) (append_assoc (read_by t) (read_in s) more)
    ∙ ahead
    ∙ ap (λ (b : Bool). written_by t ++ (pending n ++ to_come b n (read_in s ++ more))) (not-bad t e)
    ∙ ap (λ (x : List ℕ). written_by t ++ x) here
    ∙ sym (append_assoc (written_by t) (written_in s) (pending o ++ to_come (bad_in s) o more))

pub first-true : (a b : Bool) → (a || b) ≡ true → b ≡ false → a ≡ true
first-true true b e w = refl
first-true false b e w = absurd (false≢true (sym w ∙ e))

-- where it is over and no write failed, only the totals are still to be printed
step-total : {m n : Memory} (s : Steps m n) → m.state.over ≡ false → n.state.over ≡ true → failed_in s ≡ false → (more : List ℕ) → (n.state.last ≡ true → more ≡ [])
    → to_come (bad_in s) n more ≡ totals_of (progress_of n)
step-total {m} {n} (step_line {k} e q i) b over w more none-behind =
    let g = line_step m.state k m.guest m.host m.input in
    let much = ltb 22528 (size_with m.state k m.guest m.host m.input) in
    ap (λ (t : Bool). to_come t n more) (first-true g.bad (much && q.failed) (sym q.over ∙ over) w)
step-total {m} {n} (step_end e l s g h i o) b over w more none-behind =
    let none : more ≡ [] = none-behind (ap (λ (p : State). p.last) s ∙ l) in
    let u : unread n.state n.input ++ more ≡ unread m.state m.input
    = ap (λ (x : List ℕ). unread n.state n.input ++ x) none ∙ append-nil (unread n.state n.input) ∙ rw (s, i) in
    ap (λ (x : List ℕ). output_from (progress_of n) (lines_of x)) u ∙ last-wait (progress_of n) [] (unread m.state m.input) (rw l at e)
step-total (step-read e l q g h o) b over w more none-behind = absurd (false≢true (sym b ∙ sym (ap (λ (p : State). p.over) q.state) ∙ over))

ends-total : {m n : Memory} {k : ℕ} (t : Turns m n k) → m.state.over ≡ false → n.state.over ≡ true → failed_by t ≡ false → (more : List ℕ) → (n.state.last ≡ true → more ≡ [])
    → to_come (bad_by t) n more ≡ totals_of (progress_of n)
ends-total begin b over w more none-behind = absurd (false≢true (sym b ∙ over))
ends-total (turn t e s) b over w more none-behind = step-total s e over w more none-behind

-- A run that is over, and in which no write failed, puts out what `transcript` defines for the whole input: the bytes that were read, and
-- whatever follows them, nothing where the input has ended. Its turns hand the first part to C's write; the rest, with the totals, is the front
-- of the output buffer at the end.
pub whole-output : {input out errors guest-after host-after input-after out-after errors-after : List ℕ}
    (q : Reports input out errors guest-after host-after input-after out-after errors-after)
    → length out ≡ 262144 → q.state.over ≡ true → failed_by q.runs.turns ≡ false → (more : List ℕ) → (q.state.last ≡ true → more ≡ [])
    → output_of (read_by q.runs.turns ++ more)
    ≡ written_by q.runs.turns ++ take (q.state.size + length (totals_of (progress q.state guest-after host-after))) out-after
unfolding started
whole-output {guest-after} {host-after} q lo over w more none-behind =
    let t = q.runs.turns in
    let p = q.state in
    let total = totals_of (progress p guest-after host-after) in
    let room : p.size + length total ≤ length q.buffer
    = omega (arith, q.runs.fits.room, totals-short p.totals.passed p.totals.refused p.session.head.stopped, turns-length t, lo) in
    turns-keep t (record { order = omega arith; within = omega arith; room = omega arith }) lo more none-behind
    ∙ ap (λ (x : List ℕ). written_by t ++ (take p.size q.buffer ++ x)) (ends-total t refl over w more none-behind)
    ∙ ap (λ (x : List ℕ). written_by t ++ x) (sym (ap (take (p.size + length total)) q.output ∙ take-sets q.buffer total p.size room))
