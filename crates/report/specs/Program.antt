-- What the program's steps do to its state and its buffers, and what a run is. No contract can say which bytes a call of C's reads or
-- writes, or whether it fails: what a read brings stands in the input buffer after it, `cut` names whether it failed, and `failed` whether a
-- write did.
-- Assumes nothing: these are definitions.
use Rattle.std.specs.Prelude.{ℕ, suc, ◌+◌, ◌-◌, ◌≤◌, min, ◌≡◌, Bool, true, false, cond, ◌&&◌, ◌||◌, List, ◌⊎◌, length, take, drop, eqb, ltb, Some, None}
use Rattle.std.proofs.lemmas.List.Edits.{sets}
use Rattle.octets.specs.Saturated.{saturated}
use Rattle.session.specs.Session.{fresh_session}
use Rattle.capture.specs.Lines.{line_of}
use Rattle.capture.specs.Flaws.{flaw_of, error_lines}
use Rattle.transcript.specs.Input.{Progress, LineStep, step_of, totals_of, next_of, start}
use Rattle.report.specs.declared.State.{State}

-- the unread bytes lie within the input buffer, and the output buffer has room for what a line prints, at most 239,616 bytes
pub record Fits (p : State) : Type 0 where
  pub order : p.start ≤ p.end
  pub within : p.end ≤ 65536
  pub room : p.size ≤ 22528

abbrev pub unread : State → List ℕ → List ℕ
unread p input = take (p.end - p.start) (drop p.start input)

abbrev pub progress : State → List ℕ → List ℕ → Progress
progress p guest host = record { session = p.session; totals = p.totals; guest = guest; host = host }

-- ---- where the program begins: nothing read, nothing to write

abbrev pub begun : State
begun =
    record { session = fresh_session; totals = record { passed = 0; refused = 0 }; start = 0; end = 0; last = false; size = 0; over = false; lines = 0; flaw = None; cut = false; lost = false }

-- ---- reading: the unread bytes are kept, with what comes behind them; the input has ended where nothing comes, as where the read failed

pub record ReadsMore (p : State) (input : List ℕ) (r : State) (input-after : List ℕ) : Type 0 where
  pub fits : Fits r
  pub state : r ≡ record { session = p.session; totals = p.totals; start = 0; end = r.end; last = r.last; size = p.size; over = p.over; lines = p.lines; flaw = p.flaw; cut = r.cut; lost = p.lost }
  pub kept : take (p.end - p.start) (unread r input-after) ≡ unread p input
  pub more : p.end - p.start ≤ r.end
  pub last : r.last ≡ eqb r.end (p.end - p.start)
  pub cut : r.cut ≡ true → r.last ≡ true

-- ---- writing: nothing of the output is left, where it was much; and the input is over, where a write of it failed

pub record Writes (p r : State) : Type 0 where
  pub state : r
      ≡ record { session = p.session; totals = p.totals; start = p.start; end = p.end; last = p.last; size = cond (ltb 22528 p.size) 0 p.size; over = r.over; lines = p.lines; flaw = p.flaw; cut = p.cut; lost = r.lost }
  pub failed : Bool
  pub lost : r.lost ≡ (p.lost || (ltb 22528 p.size && failed))
  pub over : r.over ≡ (p.over || (ltb 22528 p.size && failed))

-- ---- a line of k bytes: it is reported as `transcript` defines, behind the output that is not written yet; the bytes behind its newline
-- stay unread; and a bad line ends the input, as a write that failed does; it is counted, and its flaw is kept

abbrev pub line_step : State → ℕ → List ℕ → List ℕ → List ℕ → LineStep
line_step p k guest host input = step_of (progress p guest host) (line_of (take k (drop p.start input)))

-- the bytes of output with those of the line
abbrev pub size_with : State → ℕ → List ℕ → List ℕ → List ℕ → ℕ
size_with p k guest host input = p.size + length (line_step p k guest host input).prints

pub record Prints (p : State) (k : ℕ) (guest host input out : List ℕ) (r : State) (guest-after host-after out-after : List ℕ) : Type 0 where
  pub fits : Fits r
  pub next : progress r guest-after host-after ≡ (line_step p k guest host input).next
  pub output : out-after ≡ sets out p.size (line_step p k guest host input).prints
  pub size : r.size ≡ cond (ltb 22528 (size_with p k guest host input)) 0 (size_with p k guest host input)
  pub start : r.start ≡ min (p.start + k + 1) p.end
  pub end : r.end ≡ p.end
  pub last : r.last ≡ p.last
  pub lines : r.lines ≡ saturated p.lines 1
  pub flaw : r.flaw ≡ flaw_of (take k (drop p.start input))
  pub cut : r.cut ≡ p.cut
  pub failed : Bool
  pub lost : r.lost ≡ (p.lost || (ltb 22528 (size_with p k guest host input) && failed))
  pub over : r.over ≡ ((line_step p k guest host input).bad || (ltb 22528 (size_with p k guest host input) && failed))

-- ---- a turn

-- the state and the buffers between two turns
pub record Memory : Type 0 where
  pub state : State
  pub guest : List ℕ
  pub host : List ℕ
  pub input : List ℕ
  pub out : List ℕ

abbrev pub memory : State → List ℕ → List ℕ → List ℕ → List ℕ → Memory
memory p guest host input out = record { state = p; guest = guest; host = host; input = input; out = out }

-- The unread bytes begin with a line, which is printed; or nothing is left of the input, and it is over; or more is read.
pub data Steps (m n : Memory) : Type 0 where
  step_line : {k : ℕ} → next_of (unread m.state m.input) m.state.last ≡ Some k
      → Prints m.state k m.guest m.host m.input m.out n.state n.guest n.host n.out → n.input ≡ m.input → Steps m n
  step_end : next_of (unread m.state m.input) m.state.last ≡ None → m.state.last ≡ true
      → n.state
      ≡ record { session = m.state.session; totals = m.state.totals; start = m.state.start; end = m.state.end; last = m.state.last; size = m.state.size; over = true; lines = m.state.lines; flaw = m.state.flaw; cut = m.state.cut; lost = m.state.lost }
      → n.guest ≡ m.guest → n.host ≡ m.host → n.input ≡ m.input → n.out ≡ m.out → Steps m n
  step-read : next_of (unread m.state m.input) m.state.last ≡ None → m.state.last ≡ false
      → ReadsMore m.state m.input n.state n.input → n.guest ≡ m.guest → n.host ≡ m.host → n.out ≡ m.out → Steps m n

-- ---- a run: turns from the beginning, each where it is not over yet, until it is over or the turns are used up

pub data Turns (m : Memory) : Memory → ℕ → Type 0 where
  begin : Turns m m 0
  turn : {n o : Memory} {k : ℕ} → Turns m n k → n.state.over ≡ false → Steps n o → Turns m o (suc k)

abbrev pub beginning : List ℕ → List ℕ → Memory
beginning input out = memory begun start.guest start.host input out

pub record Runs (m n : Memory) : Type 0 where
  pub count : ℕ
  pub turns : Turns m n count
  pub ended : (n.state.over ≡ true) ⊎ (count ≡ 18446744073709551615)
  pub fits : Fits n.state

-- ---- the program: a run, and behind the output that it leaves the totals; then what is said on standard error, where a write of the run
-- failed or one of what it left

pub record Reports (input out errors guest-after host-after input-after out-after errors-after : List ℕ) : Type 0 where
  pub state : State
  pub buffer : List ℕ
  pub runs : Runs (beginning input out) (memory state guest-after host-after input-after buffer)
  pub output : out-after ≡ sets buffer state.size (totals_of (progress state guest-after host-after))
  pub failed : Bool
  pub said : errors-after ≡ sets errors 0 (error_lines state.lines state.flaw state.cut (state.lost || failed))
