-- Document 01, "Report program": what a piece gives in a report.
-- Assumes nothing: these are definitions.
use Rattle.std.specs.Prelude.{ℕ, zero, suc, min, ◌≡◌, Bool, cond, not, ◌||◌, List, [], ◌∷◌, ◌++◌, length, drop, eqb}
use Rattle.std.proofs.lemmas.List.Edits.{sets}
use Rattle.octets.specs.Saturated.{largest, saturated}
use Rattle.header.specs.declared.Side.{Side}
use Rattle.header.specs.declared.Link.{Link}
use Rattle.header.specs.Header.{kind_of, length_of, id_of}
use Rattle.session.specs.declared.Session.{Session}
use Rattle.session.specs.Session.{link_of}
use Rattle.frame.specs.Frame.{bytes_at}
use Rattle.gate.specs.Offer.{Outcome, offer_of}
use Rattle.capture.specs.Lines.{answer_line}
use Rattle.transcript.specs.declared.Totals.{Totals}
use Rattle.transcript.specs.declared.Reported.{Reported}

-- ---- one call

-- "One line per answer other than 1, 2, 3". 41 and 43 take nothing, so that they have no header to tell, and they end the piece too.
-- The report program does not see them: its buffers have 32,784 bytes, and its session is as the gate left it. A function of any buffer
-- and any session needs an answer for them.
abbrev pub gives_line : ℕ → Bool
gives_line n = not (eqb n 1 || eqb n 2 || eqb n 3 || eqb n 41 || eqb n 43)

-- a line tells the header of the packet, or the one that 10 to 12 refused, from where it lies after the call, and with the id's width
-- before the call
abbrev pub line_at : Side → Link → ℕ → List ℕ → List ℕ
line_at from l n bytes = answer_line from (kind_of bytes) (length_of bytes) (id_of l bytes) n

abbrev pub line_for : Side → Link → Outcome → List ℕ → List ℕ
line_for from l o rest = cond (gives_line o.number) (line_at from l o.number (bytes_at o.location o.size rest o.hold)) []

-- "then totals": 0 counts as passed, and every other answer that has a line as refused. A count that is full stays so.
abbrev pub counted : Totals → ℕ → Totals
counted t n =
    cond (eqb n 0)
    (record { passed = saturated t.passed 1; refused = t.refused })
    (record { passed = t.passed; refused = saturated t.refused 1 })

abbrev pub totals_for : Totals → ℕ → Totals
totals_for t n = cond (gives_line n) (counted t n) t

-- the bytes of the rest that are over after a call: those taken; or all of it, where the answer has no line. At 1 they are all taken.
-- "offered until .. answered 2 or 3": then the piece is over, and what is left of it is lost.
abbrev pub bytes_used : Outcome → List ℕ → ℕ
bytes_used o rest = cond (gives_line o.number) o.taken (length rest)

-- ---- a piece

-- what the calls so far gave: the session, the totals, the lines one after the other, and the sender's holding buffer
pub record Report : Type 0 where
  pub session : Session
  pub totals : Totals
  pub lines : List ℕ
  pub hold : List ℕ

abbrev pub with_call : Side → Report → List ℕ → Outcome → Report
with_call from r rest o =
    record {
      session = o.session;
      totals = totals_for r.totals o.number;
      lines = r.lines ++ line_for from (link_of from r.session) o rest;
      hold = o.hold;
    }

abbrev pub rest_offered : Side → Report → List ℕ → Outcome
rest_offered from r rest = offer_of from r.session r.hold rest

-- "offered until used up ..; an empty rest is used up and not offered": by at most so many calls
unfoldable pub report_by : ℕ → Side → Report → List ℕ → Report
report_by zero from r rest = r
report_by (suc n) from r [] = r
report_by (suc n) from r (b ∷ rest) =
    report_by n from (with_call from r (b ∷ rest) (rest_offered from r (b ∷ rest))) (drop (bytes_used (rest_offered from r (b ∷ rest)) (b ∷ rest)) (b ∷ rest))

-- A call that does not end the piece takes some of it (`call-takes`), so that there are no more calls than bytes: more change nothing
-- (`more-calls`).
abbrev pub report_of : Side → Session → Totals → List ℕ → List ℕ → Report
report_of from s t hold piece = report_by (length piece) from (record { session = s; totals = t; lines = []; hold = hold }) piece

-- ---- what the code's types say

-- The lines stand at the front of the output, as far as it goes, and the rest of it is as it was; told is how many bytes they have, or
-- the largest number.
pub record LaysReport (g : Report) (out : List ℕ) (r : Reported) (hold-after out-after : List ℕ) : Type 0 where
  pub session : r.session ≡ g.session
  pub totals : r.totals ≡ g.totals
  pub size : r.size ≡ min (length g.lines) largest
  pub hold : hold-after ≡ g.hold
  pub output : out-after ≡ sets out 0 g.lines

-- one call, which adds its line behind those of the calls before it; so many bytes are over
pub record CallReports (from : Side) (r : Reported) (rest out : List ℕ) (o : Outcome) (r-after : Reported) (used : ℕ) (hold-after out-after : List ℕ) : Type 0 where
  pub session : r-after.session ≡ o.session
  pub totals : r-after.totals ≡ totals_for r.totals o.number
  pub size : r-after.size ≡ saturated r.size (length (line_for from (link_of from r.session) o rest))
  pub over : used ≡ bytes_used o rest
  pub hold : hold-after ≡ o.hold
  pub output : out-after ≡ sets out r.size (line_for from (link_of from r.session) o rest)
