-- A whole packet judged by the code gets its verdict: one that the wire checks refuse (`judge-refuses`), and one that is ruled on
-- (`judge-denies`, `judge-passes`). Both are the gate's laws of a verdict; each step of the code is put in for what it equals. And no verdict
-- gives two live requests one id (`verdict-ids`): the judge keeps that, and a refused packet changes no request.
-- Assumes nothing.
use Rattle.std.specs.Prelude.{Result, Ok, Err}
use Prim.Native.Nat.{ℕ}
use mathlib.Core.Path.{◌≡◌, refl, sym, ap, ◌∙◌}
use mathlib.Core.Bool.{Bool, true, false, cond}
use mathlib.Core.List.{List}
use lib.ListN.{length}
use lib.Seq.{slice, take-length}
use lib.Dec.{eqb}
use borrow.Table.Steps.{cases}
use Rattle.header.specs.declared.Side.{Side}
use Rattle.header.specs.declared.Link.{Link}
use Rattle.header.specs.declared.Header.{Header}
use Rattle.header.specs.declared.Refusal.{Refusal}
use Rattle.header.specs.Refusal.{number_of}
use Rattle.header.specs.Link.{shared_set}
use Rattle.header.specs.Header.{kind_of}
use Rattle.kinds.specs.Codec.{decode, read_number}
use Rattle.packet.specs.declared.Packet.{Packet}
use Rattle.packet.specs.Packet.{content_of}
use Rattle.decoder.specs.Reading.{Reading, told, read_of}
use Rattle.device.specs.declared.Rows.{Rows}
use Rattle.requests.specs.Requests.{ids_differ}
use Rattle.events.specs.declared.Case.{Case}
use Rattle.events.specs.Event.{event_of, Shows, Announces}
use Rattle.checks.specs.declared.Change.{Change}
use Rattle.checks.specs.Change.{numbered}
use Rattle.checks.specs.Ruled.{ruled}
use Rattle.session.specs.declared.Session.{Session}
use Rattle.session.specs.Session.{link_of}
use Rattle.session.specs.Step.{applied}
use Rattle.gate.specs.Verdict.{stopped_now, refused_as, VerdictTold, verdict_of, ruled_as}
use Rattle.gate.proofs.Judge.{verdict-refused, verdict-ruled}
use Rattle.claims.proofs.KeptByPacket.{kept-ids}
use Rattle.test_replay.specs.Replay.{Gives}

module _ (s : Session) (from : Side) (bytes : List ℕ) {l : Link} (el : l ≡ link_of from s) (r : Reading) (t : told l bytes r ≡ read_of l bytes) where
  of-link : told (link_of from s) bytes r ≡ read_of (link_of from s) bytes
  of-link = rw el at t

  -- refused by the wire checks
  pub judge-refuses : {why : Refusal} {k : ℕ} {next : Session} → r ≡ Err why → k ≡ kind_of bytes → next ≡ refused_as s k → Gives next (number_of why) (verdict_of s from bytes)
  judge-refuses {why} e ek en =
      let v = verdict-refused s from bytes why (rw e at of-link) in
      record { session = en ∙ ap (refused_as s) ek ∙ sym (ap (λ (x : VerdictTold). x.session) v); number = sym (ap (λ (x : VerdictTold). x.number) v) }

  -- ruled on
  module _ {h : Header} {p : Packet} {body : List ℕ} {x : Case} {u : Result Change Refusal} (e : r ≡ Ok (h, p)) (eb : body ≡ slice h.size (length bytes) bytes)
      (m : Shows from h.id p body x) (q : u ≡ ruled s.head s.rows s.requests x) (d : ids_differ s.requests ≡ true) where
    judged-by : verdict_of s from bytes ≡ ruled_as s from (told (link_of from s) bytes r).handed (event_of from (content_of (shared_set (link_of from s)) h.id p body)).rows (numbered u)
    judged-by = rw (e, eb, take-length bytes) (verdict-ruled s from bytes h p (rw e at of-link) d x u (rw (eb, take-length bytes) at m) q)

    pub judge-denies : {why : Refusal} → u ≡ Err why → Gives s (number_of why) (verdict_of s from bytes)
    judge-denies z = rw (judged-by, z) (record { session = refl; number = refl })

    pub judge-passes : {c : Change} {new : Rows} {next : Session} → u ≡ Ok c → Announces p body new → next ≡ applied s from c new → Gives next 0 (verdict_of s from bytes)
    judge-passes {c} z a en = rw (judged-by, z) (record { session = en ∙ ap (applied s from c) (a from (shared_set (link_of from s)) h.id); number = refl })

-- where the ids of live requests differ, they still do after a verdict
pub verdict-ids : (s : Session) (from : Side) (bytes : List ℕ) → ids_differ s.requests ≡ true → ids_differ (verdict_of s from bytes).session.requests ≡ true
unfolding verdict_of
verdict-ids s from bytes d =
    cases (eqb (read_number (link_of from s) bytes) 0) (λ b. rw b (kept-ids s (event_of from (decode (link_of from s) bytes)) d)) (λ b. rw b (either (eqb (kind_of bytes) 0)))
  where
    either : (b : Bool) → ids_differ (cond b (stopped_now s) s).requests ≡ true
    either true = d
    either false = d
