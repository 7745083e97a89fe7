-- What is lent (`body-lent`, `nothing_lent`, `data-lent`, `rows-lent`).
-- At 0 a packet passes (`demand-2`), what is handed out is the reading of its bytes (`is-handed`), and `leaves` says that these lie where the
-- answer tells. At any other number each way of a call hands nothing out. What follows the fields is the same part whatever is shared.
-- Assumes nothing.
use Rattle.std.specs.Prelude.{None, Some}
use Prim.Native.Nat.{ℕ}
use native.Mathlib.Omega.{arith}
use mathlib.Core.Bool.{cond}
use mathlib.Core.List.{List, [], ◌++◌}
use Rattle.std.proofs.lemmas.Option.{none-some, same_Some}
use mathlib.Core.Path.{◌≡◌, refl, sym, ap, subst, ◌∙◌}
use lib.Dec.{eqb}
use lib.ListN.{drop, length, take, length-drop}
use lib.Seq.{length-take-le}
use borrow.Author.Tests.{ne_eqb}
use borrow.Table.Steps.{cases}
use Rattle.header.specs.declared.Side.{Side}
use Rattle.header.specs.declared.Link.{Link}
use Rattle.header.specs.Header.{header_of}
use Rattle.header.specs.declared.Header.{Header}
use Rattle.kinds.specs.Table.{kinds}
use Rattle.kinds.specs.Codec.{layout, decode, read_number}
use Rattle.frame.specs.Cut.{Cut, more, bad, whole}
use Rattle.frame.specs.Frame.{cut_at, head_size, bytes_at}
use Rattle.wire.specs.Usbredir.{usbredir}
use Rattle.wire.specs.Told.{IsWhole}
use Rattle.wire.proofs.Told.{whole_is}
use Rattle.packet.specs.Rows.{interface_row, endpoint_row}
use Rattle.packet.specs.declared.Part.{Part}
use Rattle.packet.specs.Packet.{in_part, content_of}
use Rattle.packet.proofs.Same.{shown-same}
use Rattle.decoder.specs.Reading.{PacketTold, read_of}
use Rattle.events.specs.Event.{event_of}
use Rattle.session.specs.declared.Session.{Session}
use Rattle.session.specs.Session.{link_of}
use Rattle.session.specs.Step.{judged}
use Rattle.gate.specs.Verdict.{held_as, verdict_of, handed_as}
use Rattle.gate.specs.Offer.{Outcome, held_bytes, barred, by_cut, offer_of, body_in, data_in}
use Rattle.gate.specs.Verdict.{Handed}
use Rattle.demands.specs.Demand2.{packet_at, Passes}
use Rattle.demands.specs.CallLists.{ends_packet}
use Rattle.demands.specs.Lending.{LendsBody, BodyLent, NothingLent, DataLent, AlwaysRowsLent}
use Rattle.demands.proofs.KeptByCall.{SameHeader, header-front, whole-number}
use Rattle.demands.proofs.Demand2.{judged-call, demand-2}
use Rattle.demands.proofs.EachCall.{leaves}

-- ---- the body

module _ (from : Side) (s : Session) (hold piece : List ℕ) (h : Passes from s hold piece) where
  abbrev all : List ℕ
  all = held_bytes from s hold ++ piece

  abbrev l : Link
  l = link_of from s

  abbrev b : List ℕ
  b = take h.size all

  w : IsWhole usbredir l all h.size
  w = whole_is usbredir l all h.size h.whole

  same-header : SameHeader l all b
  same-header = header-front l all h.size (omega (arith, w.size)) w.there

  read-zero : read_number l b ≡ 0
  read-zero = whole-number l all h.size h.whole ∙ h.form

  is-handed : (offer_of from s hold piece).handed ≡ (read_of l b).handed
  is-handed =
      let q = judged-call from s hold piece h.ready h.size h.whole h.form in
      let z : (judged (held_as from 0 s) (event_of from (packet_at from s hold piece h.size))).number ≡ 0 = sym (ap (λ (o : Outcome). o.number) q) ∙ (demand-2 from s hold piece).1 h in
      ap (λ (o : Outcome). o.handed) q ∙ ap (λ (m : ℕ). cond (eqb m 0) (read_of l b).handed None) z

  -- the reading hands a packet on, so that the code's is one too, with the reading's header and content
  lends_by : (bytes : List ℕ) → bytes ≡ b → (c : Handed) → handed_as l bytes c ≡ (read_of l b).handed → LendsBody from s hold piece h.size c bytes
  unfolding read_of
  lends_by bytes y None e = absurd (none-some _ (rw read-zero at e))
  lends_by bytes y (Some (k, p)) e =
      let q = same_Some _ _ (rw read-zero at e) in
      let d : k ≡ header_of l b = ap (λ (x : PacketTold). x.header) q in
      let body : drop k.size bytes ≡ drop (head_size l all) b = ap (λ (x : Header). drop x.size bytes) d ∙ ap (λ (m : ℕ). drop m bytes) same-header.size ∙ ap (drop (head_size l all)) y in
      let c : length b ≡ h.size = length-take-le h.size all w.there in
      record {
        header = k;
        packet = p;
        passed = refl;
        begins = d;
        body = body;
        body-size = ap length body ∙ length-drop (head_size l all) b ∙ omega (arith, w.size);
        reading = ap (λ (x : PacketTold). x.content) q;
      }

pub body-lent : BodyLent
body-lent from s hold piece after r e z =
    let o : (offer_of from s hold piece).number ≡ 0 = sym (ap (λ (x : Outcome). x.number) e) ∙ z in
    let h : Passes from s hold piece = (demand-2 from s hold piece).0 o in
    let n : r.answer.size ≡ h.size = ap (λ (x : Outcome). x.size) (e ∙ judged-call from s hold piece h.ready h.size h.whole h.form) in
    let y : bytes_at r.answer.location r.answer.size piece after ≡ take h.size (held_bytes from s hold ++ piece) =
    ap (λ (x : Outcome). bytes_at x.location x.size piece x.hold) e
    ∙ (leaves from s hold piece).readable (ap ends_packet o)
    ∙ ap (λ (m : ℕ). take m (held_bytes from s hold ++ piece)) (sym (ap (λ (x : Outcome). x.size) e) ∙ n) in
    subst (λ (m : ℕ). LendsBody from s hold piece m r.answer.handed (bytes_at r.answer.location r.answer.size piece after)) (sym n)
    (lends_by from s hold piece h (bytes_at r.answer.location r.answer.size piece after) y r.answer.handed (ap (λ (x : Outcome). x.handed) e ∙ is-handed from s hold piece h))

-- ---- nothing else is lent

verdict-none : (s : Session) (from : Side) (b : List ℕ) → ((verdict_of s from b).number ≡ 0 → ⊥) → (verdict_of s from b).handed ≡ None
unfolding verdict_of
verdict-none s from b = cases (eqb (read_number (link_of from s) b) 0) (λ t. rw t (λ z. rw (ne_eqb (judged s (event_of from (decode (link_of from s) b))).number 0 z) refl)) (λ t. rw t (λ z. refl))

none-handed : (from : Side) (s : Session) (hold piece : List ℕ) → ((offer_of from s hold piece).number ≡ 0 → ⊥) → (offer_of from s hold piece).handed ≡ None
unfolding offer_of
none-handed from s hold piece = cases (eqb (barred from s hold) 0) (λ t. rw t (by-cut (cut_at (link_of from s) (held_bytes from s hold ++ piece)))) (λ t. rw t (λ z. refl))
  where
    by-cut : (c : Cut) → ((by_cut from s hold piece c).number ≡ 0 → ⊥) → (by_cut from s hold piece c).handed ≡ None
    by-cut more z = refl
    by-cut (bad n) z = refl
    by-cut (whole n) z = verdict-none (held_as from 0 s) from (take n (held_bytes from s hold ++ piece)) z

pub nothing_lent : NothingLent
nothing_lent from s hold piece after r e z bytes =
    go r.answer.handed (ap (λ (x : Outcome). x.handed) e ∙ none-handed from s hold piece (λ o. z (ap (λ (x : Outcome). x.number) e ∙ o)))
  where
    go : (c : Handed) → handed_as (link_of from s) (bytes_at r.answer.location r.answer.size piece after) c ≡ None → (body_in c bytes ≡ []) × (data_in c bytes ≡ [])
    go None q = (refl, refl)
    go (Some (h, p)) q = absurd (none-some _ (sym q))

-- ---- the data

-- what follows the fields is the same part whatever is shared
pub data-lent : DataLent
unfolding content_of
data-lent caps h bytes p = ap (λ (part : Part). in_part part (drop h.size bytes)) (sym (shown-same caps p).1)

-- ---- the rows of a table

pub rows-lent : AlwaysRowsLent
unfolding interface_row endpoint_row content_of layout kinds
rows-lent caps h bytes = record { interface-row = λ t i. refl; endpoint-row = λ t i. refl }
