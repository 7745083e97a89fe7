-- What one call of the code adds to a report (`call-no-line`, `call-told`), and what the calls so far leave to those still to come.
-- By the gate's contract the code's answer is `offer_of`'s, and what it adds computes once it is known whether the answer has a line. The loop
-- keeps `Reporting`: the calls still to come, over the lines so far, give what all of them give. Each call uses up some of what is left
-- (`used-more`), so that no more calls are needed than there are bytes. A size that stays at the largest number points behind the output, where
-- nothing is laid (`sets-cut`).
-- Assumes nothing.
use Prim.Native.Nat.{ℕ, suc, ◌+◌, ◌-◌, ◌≤◌, ◌<◌, min}
use native.Mathlib.Omega.{arith}
use mathlib.Core.Path.{◌≡◌, refl, sym, ap, ◌∙◌}
use mathlib.Core.Bool.{true, false}
use mathlib.Core.List.{List, [], ◌++◌}
use lib.ListN.{length, drop, length-append, length-drop, drop_of_length-le}
use lib.Seq.{sets, length-sets}
use borrow.Author.Tests.{eq-eqb, ne_eqb}
use Rattle.octets.specs.Saturated.{largest, saturated}
use Rattle.octets.proofs.Integers.{sets-append}
use Rattle.header.specs.declared.Header.{Header}
use Rattle.header.specs.declared.Link.{Link}
use Rattle.header.specs.declared.Side.{Side}
use Rattle.header.specs.Header.{header_of}
use Rattle.session.specs.Session.{link_of}
use Rattle.frame.specs.Frame.{bytes_at}
use Rattle.gate.specs.declared.Offered.{Offered}
use Rattle.gate.specs.Offer.{offer_of, outcome}
use Rattle.capture.specs.Lines.{answer_line, Forms}
use Rattle.capture.proofs.Spelling.{sets-cut}
use Rattle.transcript.specs.declared.Totals.{Totals}
use Rattle.transcript.specs.declared.Reported.{Reported}
use Rattle.transcript.specs.Piece.{gives_line, line_for, counted, Report, report_by, report_of, LaysReport, CallReports}
use Rattle.transcript.proofs.BytesTaken.{call-takes, used-within, used-some, report-empty, report-more}

-- ---- one call

module _ (t : Totals) (n : ℕ) {x : ℕ} where
  pub count-passed : n ≡ 0 → x ≡ saturated t.passed 1 → record { passed = x; refused = t.refused } ≡ counted t n
  count-passed z e = rw (eq-eqb n 0 z, e)

  pub count-refused : (n ≡ 0 → ⊥) → x ≡ saturated t.refused 1 → record { passed = t.passed; refused = x } ≡ counted t n
  count-refused z e = rw (ne_eqb n 0 z, e)

module _ (from : Side) (r : Reported) (hold rest out : List ℕ) (a : Offered) {after : List ℕ} (e : outcome (link_of from r.session) a rest after ≡ offer_of from r.session hold rest) where
  pub call-no-line : r.size ≤ largest → gives_line a.answer.number ≡ false
      → CallReports from r rest out (offer_of from r.session hold rest) (record { session = a.session; totals = r.totals; size = r.size }) (length rest) after out
  call-no-line h g = rw (← e) (record { session = refl; totals = rw g refl; size = rw g (omega arith); over = rw g refl; hold = refl; output = rw g refl })

  pub call-told : {l : Link} {bytes out-after : List ℕ} {h : Header} {t : Totals} {n size : ℕ} → gives_line a.answer.number ≡ true
      → l ≡ link_of from r.session
      → bytes ≡ bytes_at a.answer.location a.answer.size rest after
      → h ≡ header_of l bytes
      → Forms (answer_line from h.kind h.length h.id a.answer.number) r.size out n out-after
      → t ≡ counted r.totals a.answer.number
      → size ≡ saturated r.size n
      → CallReports from r rest out (offer_of from r.session hold rest) (record { session = a.session; totals = t; size = size }) a.answer.taken after out-after
  call-told {h = h} g el eb eh f et es =
      let p = rw (eh, el, eb) at f in
      rw (← e) (record { session = refl; totals = rw g et; size = rw g (es ∙ ap (saturated r.size) p.size); over = rw g refl; hold = refl; output = rw g p.output })

-- ---- a piece

-- the calls still to come, for the rest of the piece and over what there is so far, give what all of them give
pub record Reporting (from : Side) (r₀ : Reported) (hold₀ piece out₀ hold out : List ℕ) (r : Reported) (rest : List ℕ) : Type 0 where
  pub calls : ℕ
  pub enough : length rest ≤ calls
  pub lines : List ℕ
  pub size : r.size ≡ min (length lines) largest
  pub output : out ≡ sets out₀ 0 lines
  pub all : report_by calls from (record { session = r.session; totals = r.totals; lines = lines; hold = hold }) rest
      ≡ report_of from r₀.session r₀.totals hold₀ piece

pub report-starts : {from : Side} {r : Reported} {hold piece out : List ℕ} → r.size ≡ 0 → Reporting from r hold piece out hold out r piece
report-starts {piece = piece} z =
    record { calls = length piece; enough = omega arith; lines = []; size = omega arith; output = refl; all = refl }

module _ {from : Side} {r₀ : Reported} {hold₀ piece out₀ hold out : List ℕ} {r : Reported} {rest : List ℕ} (p : Reporting from r₀ hold₀ piece out₀ hold out r rest) where
  module _ {hold-after out-after : List ℕ} {r-after : Reported} {used : ℕ} (h : 0 < length rest)
      (q : CallReports from r rest out (offer_of from r.session hold rest) r-after used hold-after out-after)
    where
      pub used-few : used ≤ length rest
      used-few = omega (arith, q.over, used-within (offer_of from r.session hold rest) rest (call-takes from r.session hold rest))

      pub used-more : 0 < used
      used-more = omega (arith, q.over, used-some (offer_of from r.session hold rest) rest (call-takes from r.session hold rest) h)

      -- a call: its line stands behind the others, one call fewer is to come, and the rest of the piece is that behind what it used up
      pub report-goes-on : {left : List ℕ} → length out₀ ≤ largest → left ≡ drop used rest → Reporting from r₀ hold₀ piece out₀ hold-after out-after r-after left
      report-goes-on few e =
          let o = offer_of from r.session hold rest in
          let line = line_for from (link_of from r.session) o rest in
          let g : Report = record { session = r.session; totals = r.totals; lines = p.lines; hold = hold } in
          let n : p.calls ≡ suc (p.calls - 1) = omega (arith, p.enough) in
          rw e (record {
            calls = p.calls - 1;
            enough = omega (arith, p.enough, used-more, length-drop used rest);
            lines = p.lines ++ line;
            size = omega (arith, q.size, p.size, length-append p.lines line);
            output = q.output
                ∙ rw p.output (sets-cut (sets out₀ 0 p.lines) line r.size (0 + length p.lines) largest (rw length-sets few) (omega (arith, p.size))
                ∙ sym (sets-append out₀ 0 p.lines line));
            all = rw (q.over, q.session, q.totals, q.hold) (sym (report-more (p.calls - 1) from g rest h) ∙ rw (← n) p.all);
          })

  pub report-ends : length rest ≤ 0 → LaysReport (report_of from r₀.session r₀.totals hold₀ piece) out₀ r hold out
  report-ends h =
      let g : Report = record { session = r.session; totals = r.totals; lines = p.lines; hold = hold } in
      let z : rest ≡ [] = drop_of_length-le rest h in
      let e : report_by p.calls from g rest ≡ g = rw z (report-empty p.calls from g) in
      rw (← p.all, e) (record { session = refl; totals = refl; size = p.size; hold = refl; output = p.output })
