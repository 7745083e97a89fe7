-- What the program says on standard error for its input: `errors_of`, and that a run says it (`whole-errors`).
-- By induction over the turns (`turns-find`): what the lines so far have shown, and what the unread bytes with all that follows will show, is what
-- the input shows. A line that is read in part is too long, and so is the whole of it (`long-flaw`).
-- What the code hands to C's write is the front of its buffer by its text, `&errors[..n]`: that is no contract's to say. Assumes nothing.
use Prim.Native.Nat.{ℕ, suc, ◌≤◌, ◌<◌}
use Rattle.std.proofs.Common.{arith, sym, ◌∙◌, append_assoc, append-nil, length-append, length-drop, take_all}
use Rattle.std.specs.Prelude.{◌≡◌, Bool, cond, ◌&&◌, ◌||◌, List, [], ◌∷◌, ◌++◌, take, drop, Option, Some, None, is_some, is_none}
use Rattle.std.proofs.Math.Path.{refl, ap}
use Rattle.std.proofs.Math.Bool.{true, false}
use Rattle.std.proofs.lemmas.Bool.{false≢true}
use Rattle.std.proofs.Math.ListN.{length, drop_of_length-le}
use Rattle.std.proofs.lemmas.List.Edits.{sets}
use Rattle.std.proofs.Math.Dec.{ltb}
use borrow.Author.Tests.{ltb-true, ltb-false, lt-ltb}
use Rattle.octets.specs.Saturated.{saturated}
use Rattle.header.specs.declared.Side.TheVariants.{Guest, Host}
use Rattle.capture.specs.declared.Flaw.{Flaw}
use Rattle.capture.specs.declared.Flaw.TheVariants.{Start, Long}
use Rattle.capture.specs.Lines.{SentPiece, start_of, starts_with, line_of}
use Rattle.capture.specs.Flaws.{flaw_of, error_lines}
use Rattle.capture.proofs.LineLaws.{flawed}
use Rattle.transcript.specs.Input.{Progress, step_of, lines_of, line_end, next_of}
use Rattle.transcript.proofs.Parts.{next-is, wait-none, newline-there, newline-missing, last_line, long-bad}
use Rattle.report.specs.declared.State.{State}
use Rattle.report.specs.Program.{unread, line_step, size_with, Memory, Steps, step_line, step_end, step-read, Turns, begin, turn, Reports}
use Rattle.report.specs.Output.{read_in, failed_in, bad_in, read_none, read_by, failed_by, bad_by, not-bad, first-true, read-on, line_first}

-- ---- what the lines of an input show: how many there are up to a bad one, and its flaw; all of them, and no flaw, where none is bad

pub record Found : Type 0 where
  pub lines : ℕ
  pub flaw : Option Flaw

unfoldable pub found_from : ℕ → List (List ℕ) → Found
found_from n [] = record { lines = n; flaw = None }
found_from n (line ∷ lines) =
    cond (is_some (flaw_of line)) (record { lines = saturated n 1; flaw = flaw_of line }) (found_from (saturated n 1) lines)

abbrev pub found_in : List ℕ → Found
found_in input = found_from 0 (lines_of input)

-- what is said for an input, where a read failed, and where a write did
abbrev pub errors_of : List ℕ → Bool → Bool → List ℕ
errors_of input cut lost = error_lines (found_in input).lines (found_in input).flaw cut lost

-- ---- a line of more than 4,113 bytes has the same flaw, however it goes on

starts-same : (p l m : List ℕ) → length p ≤ length l → starts_with p (l ++ m) ≡ starts_with p l
unfolding starts_with
starts-same [] l m h = refl
starts-same (x ∷ p) [] m h = absurd (omega arith)
starts-same (x ∷ p) (b ∷ l) m h = rw (starts-same p l m (omega arith))

long-is : (l : List ℕ) → 4113 < length l → flaw_of l ≡ cond (starts_with (start_of Guest) l) (Some Long) (cond (starts_with (start_of Host) l) (Some Long) (Some Start))
unfolding flaw_of
long-is l h =
    rw (lt-ltb 4096 (length (drop 17 l)) (omega (arith, length-drop 17 l)), lt-ltb 4096 (length (drop 16 l)) (omega (arith, length-drop 16 l)))

long-flaw : (l m : List ℕ) → 4113 < length l → flaw_of (l ++ m) ≡ flaw_of l
long-flaw l m h =
    long-is (l ++ m) (omega (arith, length-append l m))
    ∙ rw (starts-same (start_of Guest) l m (omega arith), starts-same (start_of Host) l m (omega arith)) (sym (long-is l h))

long-flawed : (l : List ℕ) → 4113 < length l → is_some (flaw_of l) ≡ true
long-flawed l h = flawed l ∙ ap is_none (long-bad l h)

-- ---- the input in parts

abbrev pub after_line : ℕ → List ℕ → List (List ℕ) → Found
after_line n line lines =
    cond (is_some (flaw_of line)) (record { lines = saturated n 1; flaw = flaw_of line }) (found_from (saturated n 1) lines)

module _ (n : ℕ) (more : List ℕ) where
  found-line : (line : List ℕ) (lines : List (List ℕ)) → found_from n (line ∷ lines) ≡ after_line n line lines
  unfolding found_from
  found-line line lines = refl

  -- after a bad line the rest is not looked at
  same-flaw : (x y : List ℕ) (s t : List (List ℕ)) → flaw_of x ≡ flaw_of y → is_some (flaw_of y) ≡ true → after_line n x s ≡ after_line n y t
  same-flaw x y s t e f = rw (e, f)

  too_long : (bytes : List ℕ) → length bytes ≤ line_end bytes → 4113 < length bytes → (s : List (List ℕ))
      → found_from n (lines_of (bytes ++ more)) ≡ after_line n bytes s
  too_long [] h g s = absurd (omega arith)
  too_long (b ∷ l) h g s =
      let q = newline-missing b l more h in
      let x = (b ∷ l) ++ q.further in
      ap (found_from n) q.is ∙ found-line x q.rest ∙ same-flaw x (b ∷ l) q.rest s (long-flaw (b ∷ l) q.further g) (long-flawed (b ∷ l) g)

  at-the-end : (bytes : List ℕ) → length bytes ≤ line_end bytes → 0 < length bytes → found_from n (lines_of (bytes ++ [])) ≡ after_line n bytes []
  at-the-end [] h g = absurd (omega arith)
  at-the-end (b ∷ l) h g =
      ap (λ (x : List ℕ). found_from n (lines_of x)) (append-nil (b ∷ l)) ∙ ap (found_from n) (last_line b l h) ∙ found-line (b ∷ l) []

  -- where unread bytes begin with a line, what they and more behind them show is what that line shows, and then what is behind its newline
  first_found : (bytes : List ℕ) (last : Bool) {k : ℕ} → next_of bytes last ≡ Some k → (last ≡ true → more ≡ [])
      → found_from n (lines_of (bytes ++ more)) ≡ after_line n (take k bytes) (lines_of (drop (suc k) bytes ++ more))
  unfolding lines_of
  first_found bytes last {k} e none-behind =
      rw (next-is bytes last e).1 (go (ltb (line_end bytes) (length bytes)) refl (ltb 4113 (length bytes)) refl last refl (ltb 0 (length bytes)) refl (next-is bytes last e).0)
    where
      go : (a : Bool) → ltb (line_end bytes) (length bytes) ≡ a → (b : Bool) → ltb 4113 (length bytes) ≡ b → (c : Bool) → last ≡ c → (d : Bool) → ltb 0 (length bytes) ≡ d
          → (a || b || (c && d)) ≡ true
          → found_from n (lines_of (bytes ++ more)) ≡ after_line n (take (line_end bytes) bytes) (lines_of (drop (suc (line_end bytes)) bytes ++ more))
      go true ea b eb c ec d ed t = ap (found_from n) (newline-there bytes more (ltb-true _ _ ea)) ∙ found-line (take (line_end bytes) bytes) _
      go false ea true eb c ec d ed t = rw (take_all (line_end bytes) bytes (ltb-false _ _ ea)) (too_long bytes (ltb-false _ _ ea) (ltb-true _ _ eb) _)
      go false ea false eb true ec true ed t =
          let z : length bytes ≤ line_end bytes = ltb-false _ _ ea in
          rw (take_all (line_end bytes) bytes z, none-behind ec, drop_of_length-le bytes {i = suc (line_end bytes)} (omega arith)) (at-the-end bytes z (ltb-true _ _ ed))
      go false ea false eb true ec false ed t = absurd (false≢true t)
      go false ea false eb false ec d ed t = absurd (false≢true t)

-- ---- what is still to be found is kept by a turn

abbrev pub found_by : State → Found
found_by p = record { lines = p.lines; flaw = p.flaw }

-- where more follows the bytes that were read; nothing after a bad line
abbrev pub to_find : Bool → Memory → List ℕ → Found
to_find bad m more = cond bad (found_by m.state) (found_from m.state.lines (lines_of (unread m.state m.input ++ more)))

no-flaw : (f : Option Flaw) → is_some f ≡ false → f ≡ None
no-flaw None e = refl
no-flaw (Some f) e = absurd (false≢true (sym e))

bad-flaw : (p : Progress) (line : List ℕ) → (step_of p (line_of line)).bad ≡ is_some (flaw_of line)
bad-flaw p line = go (line_of line) ∙ sym (flawed line)
  where
    go : (o : Option SentPiece) → (step_of p o).bad ≡ is_none o
    go None = refl
    go (Some o) = refl

module _ {m n : Memory} where
  step-finds : (s : Steps m n) (more : List ℕ) → (n.state.last ≡ true → more ≡ [])
      → found_from m.state.lines (lines_of (unread m.state m.input ++ (read_in s ++ more))) ≡ to_find (bad_in s) n more
  step-finds (step_line {k} e q i) more none-behind =
      let p = m.state in
      let b = unread p m.input in
      let (line, rest) = line_first m n e q i in
      let bad = bad-flaw (record { session = p.session; totals = p.totals; guest = m.guest; host = m.host }) (take k (drop p.start m.input)) in
      first_found p.lines more b p.last e (λ t. none-behind (q.last ∙ t)) ∙ rw (line, rest, bad, q.lines, q.flaw)
  step-finds (step_end e l s g h i o) more none-behind = rw (s, i)
  step-finds (step-read e l q g h o) more none-behind =
      let lines : n.state.lines ≡ m.state.lines = ap (λ (p : State). p.lines) q.state in
      rw (read-on m n q more, lines)

  -- a turn whose line is not bad leaves no flaw
  step-sound : (s : Steps m n) → m.state.flaw ≡ None → bad_in s ≡ false → n.state.flaw ≡ None
  step-sound (step_line {k} e q i) f b =
      let p = m.state in
      let line = take k (drop p.start m.input) in
      q.flaw ∙ no-flaw (flaw_of line) (sym (bad-flaw (record { session = p.session; totals = p.totals; guest = m.guest; host = m.host }) line) ∙ b)
  step-sound (step_end e l s g h i o) f b = ap (λ (p : State). p.flaw) s ∙ f
  step-sound (step-read e l q g h o) f b = ap (λ (p : State). p.flaw) q.state ∙ f

turns-sound : {m n : Memory} {k : ℕ} (t : Turns m n k) → m.state.flaw ≡ None → bad_by t ≡ false → n.state.flaw ≡ None
turns-sound begin f b = f
turns-sound (turn t e s) f b = step-sound s (turns-sound t f (not-bad t e)) b

turns-find : {m n : Memory} {k : ℕ} (t : Turns m n k) (more : List ℕ) → (n.state.last ≡ true → more ≡ [])
    → found_from m.state.lines (lines_of (unread m.state m.input ++ (read_by t ++ more))) ≡ to_find (bad_by t) n more
turns-find begin more h = refl
turns-find {m} (turn {n} {o} t e s) more h =
    let u = unread m.state m.input in
    ap (λ (x : List ℕ). found_from m.state.lines (lines_of (u ++ x))) (append_assoc (read_by t) (read_in s) more)
    ∙ turns-find t (read_in s ++ more) (read_none s more h)
    ∙ ap (λ (b : Bool). to_find b n (read_in s ++ more)) (not-bad t e)
    ∙ step-finds s more h

found_none : (n : ℕ) → found_from n (lines_of []) ≡ record { lines = n; flaw = None }
unfolding found_from lines_of
found_none n = refl

-- where it is over and no write failed, nothing is left to be found
step-found : {m n : Memory} (s : Steps m n) → m.state.over ≡ false → n.state.over ≡ true → failed_in s ≡ false → (bad_in s ≡ false → n.state.flaw ≡ None)
    → (more : List ℕ) → (n.state.last ≡ true → more ≡ [])
    → to_find (bad_in s) n more ≡ found_by n.state
step-found {m} {n} (step_line {k} e q i) b over w f more none-behind =
    let g = line_step m.state k m.guest m.host m.input in
    let much = ltb 22528 (size_with m.state k m.guest m.host m.input) in
    ap (λ (t : Bool). to_find t n more) (first-true g.bad (much && q.failed) (sym q.over ∙ over) w)
step-found {m} {n} (step_end e l s g h i o) b over w f more none-behind =
    let none_left : more ≡ [] = none-behind (ap (λ (p : State). p.last) s ∙ l) in
    let u : unread n.state n.input ++ more ≡ []
    = ap (λ (x : List ℕ). unread n.state n.input ++ x) none_left ∙ append-nil (unread n.state n.input) ∙ rw (s, i) (wait-none (unread m.state m.input) true refl (rw l at e)) in
    ap (λ (x : List ℕ). found_from n.state.lines (lines_of x)) u ∙ found_none n.state.lines ∙ ap (λ (x : Option Flaw). record { lines = n.state.lines; flaw = x }) (sym (f refl))
step-found (step-read e l q g h o) b over w f more none-behind = absurd (false≢true (sym b ∙ sym (ap (λ (p : State). p.over) q.state) ∙ over))

ends_found : {m n : Memory} {k : ℕ} (t : Turns m n k) → m.state.over ≡ false → m.state.flaw ≡ None → n.state.over ≡ true → failed_by t ≡ false
    → (more : List ℕ) → (n.state.last ≡ true → more ≡ [])
    → to_find (bad_by t) n more ≡ found_by n.state
ends_found begin b f over w more none-behind = absurd (false≢true (sym b ∙ over))
ends_found (turn t e s) b f over w more none-behind =
    step-found s e over w (step-sound s (turns-sound t f (not-bad t e))) more none-behind

-- A run that is over, and in which no write failed, says what `errors_of` defines for the whole input: the bytes that were read, and whatever follows
-- them, nothing where the input has ended. It says that a read failed where one did, and that a write did where that of the rest of the output failed.
pub whole-errors : {input out errors guest-after host-after input-after out-after errors-after : List ℕ}
    (q : Reports input out errors guest-after host-after input-after out-after errors-after)
    → q.state.over ≡ true → failed_by q.runs.turns ≡ false → (more : List ℕ) → (q.state.last ≡ true → more ≡ [])
    → errors-after ≡ sets errors 0 (errors_of (read_by q.runs.turns ++ more) q.state.cut (q.state.lost || q.failed))
whole-errors {errors} q over w more none-behind =
    let t = q.runs.turns in
    let p = q.state in
    let same : found_in (read_by t ++ more) ≡ found_by p = turns-find t more none-behind ∙ ends_found t refl refl over w more none-behind in
    q.said
    ∙ ap (λ (x : Found). sets errors 0 (error_lines x.lines x.flaw p.cut (p.lost || q.failed))) (sym same)
