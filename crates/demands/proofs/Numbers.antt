-- Which numbers there are: those of a header, of the wire checks, of the session checks, of a call that is barred, and of a writer call
-- (`header-numbers`, `wire-numbers`, `session-numbers`, `barred-numbers`, `write-numbers`): what holds of each number of a list holds of the one that is given.
-- A definition is a nest of tests, and for each outcome of its tests the number is one of the list. The session's is the first of a list of
-- checks, by induction over that.
-- Assumes nothing.
use Rattle.std.specs.Prelude.{Option, Some, None}
use Prim.Native.Nat.{ℕ}
use mathlib.Core.Bool.{Bool, true, false, cond, not, ◌||◌}
use mathlib.Core.List.{List, [], ◌∷◌}
use mathlib.Core.Path.{sym, subst}
use lib.Dec.{eqb, ltb}
use lib.ListN.{length}
use Rattle.header.specs.declared.Side.{Side}
use Rattle.header.specs.Link.{shared_set, passed, own}
use Rattle.header.specs.declared.Link.{Link}
use Rattle.header.specs.Header.{header_number}
use Rattle.kinds.specs.Table.{Kind, kinds}
use Rattle.kinds.specs.Content.{Content, find, shared}
use Rattle.kinds.specs.Codec.{encode, or_next, body_length, packet_number, write_number}
use Rattle.kinds.specs.Number.{sends, bad, kind_number, wire_number, is_none, surplus, wide_id, size_ok, streams_alone, in_order, by_kind}
use Rattle.events.specs.Event.{Event}
use Rattle.checks.specs.Checks.{match_of, number_for, number_of, Check, first_of, checks}
use Rattle.session.specs.declared.Session.{Session}
use Rattle.session.specs.Session.{link_of, unfit}
use Rattle.session.specs.Step.{judged}
use Rattle.gate.specs.Offer.{is_waiting, barred, held_whole}
use Rattle.gate.specs.Write.{shut, write_by}
use Rattle.claims.proofs.EventChecks.{number_is}

-- what holds of each number of a list
abbrev pub Each : (ℕ → Type 0) → List ℕ → Type 0
Each P [] = Unit {0}
Each P (n ∷ ns) = P n × Each P ns

module _ (P : ℕ → Type 0) where
  pub header-numbers : Each P (0 ∷ 10 ∷ 11 ∷ 12 ∷ []) → (l : Link) (kind length : ℕ) → P (header_number l kind length)
  unfolding header_number
  header-numbers p l kind length = go (ltb 32768 length) (passed (own l)) (eqb kind 0)
    where
      go : (a b c : Bool) → P (cond a 10 (cond b (cond c 12 0) (cond c 0 11)))
      go true b c = p.1.0
      go false true true = p.1.1.1.0
      go false true false = p.0
      go false false true = p.0
      go false false false = p.1.1.0

  -- 20 of an unknown kind; else 21 to 24 in their order, then 13, then 0
  pub wire-numbers : Each P (0 ∷ 13 ∷ 20 ∷ 21 ∷ 22 ∷ 23 ∷ 24 ∷ []) → (l : Link) (p : Content) → P (wire_number l p)
  unfolding wire_number kind_number
  wire-numbers p l q = known (find q.kind kinds)
    where
      order : (a b c d e : Bool) → P (in_order a b c d e)
      order true b c d e = p.1.1.1.0
      order false true c d e = p.1.1.1.1.0
      order false false true d e = p.1.1.1.1.1.0
      order false false false true e = p.1.1.1.1.1.1.0
      order false false false false true = p.1.0
      order false false false false false = p.0

      known : (o : Option Kind) → P (by_kind l o q)
      known None = p.1.1.0
      known (Some k) =
          order (not (sends k.sender l.sender)) (not (shared (shared_set l) k.needs) || surplus (shared_set l) k.fields q.fields || wide_id l q)
          (not (size_ok l.sender k q)) (not (is_none (bad l.sender (shared_set l) k q))) (streams_alone k.tail q.rest)

  -- the first of a list of checks
  EachCheck : List Check → Type 0
  EachCheck [] = Unit {0}
  EachCheck (c ∷ cs) = P c.number × EachCheck cs

  either : (b : Bool) (n m : ℕ) → P n → P m → P (cond b n m)
  either true n m p q = p
  either false n m p q = q

  first-check : (cs : List Check) → P 0 → EachCheck cs → P (first_of cs)
  unfolding EachCheck
  first-check [] z f = z
  first-check (c ∷ cs) z f = either c.holds c.number (first_of cs) f.0 (first-check cs z f.1)

  pub session-numbers : Each P (0 ∷ 25 ∷ 26 ∷ 27 ∷ 28 ∷ 29 ∷ 30 ∷ 31 ∷ 32 ∷ 33 ∷ 34 ∷ []) → (s : Session) (e : Event) → P (judged s e).number
  unfolding EachCheck number_of number_for
  session-numbers p s e =
      subst P (sym (number_is s e))
      (first-check (checks s.head s.rows s.requests e (match_of s.requests e)) p.0 (p.1.0, (p.1.1.1.0, (p.1.1.0, (p.1.1.1.1.0, (p.1.1.1.1.1.0, (p.1.1.1.1.1.1.0, (p.1.1.1.1.1.1.1.0, (p.1.1.1.1.1.1.1.1.0, (p.1.1.1.1.1.1.1.1.1.0, (p.1.1.1.1.1.1.1.1.1.1.0, tt)))))))))))

  -- 41, 43, 3, 2, or 0 where a call can go on
  pub barred-numbers : Each P (0 ∷ 2 ∷ 3 ∷ 41 ∷ 43 ∷ []) → (from : Side) (s : Session) (hold : List ℕ) → P (barred from s hold)
  unfolding barred
  barred-numbers p from s hold = go (ltb (length hold) 32784) (unfit s || held_whole from s hold) s.head.stopped (is_waiting (link_of from s))
    where
      go : (a b c d : Bool) → P (cond a 41 (cond b 43 (cond c 3 (cond d 2 0))))
      go true b c d = p.1.1.1.0
      go false true c d = p.1.1.1.1.0
      go false false true d = p.1.1.0
      go false false false true = p.1.0
      go false false false false = p.0

  -- what holds of both numbers holds of the first that is not 0
  next-number : (n m : ℕ) → P n → P m → P (or_next n m)
  next-number n m p q = either (eqb n 0) m n q p

  -- 43, 3 or 2 where one holds, then the header's number, then that of the wire checks, then 40
  pub write-numbers : Each P (0 ∷ 10 ∷ 11 ∷ 12 ∷ []) → Each P (0 ∷ 13 ∷ 20 ∷ 21 ∷ 22 ∷ 23 ∷ 24 ∷ []) → P 40 → (from : Side) (s : Session) (p : Content) (room : ℕ)
      → P (shut from s (eqb p.kind 0)) → P (write_by from s p room)
  unfolding write_by write_number packet_number
  write-numbers h w full from s p room q =
      let l : Link = link_of from s in
      next-number (shut from s (eqb p.kind 0)) (write_number l p room) q
      (next-number (packet_number l p) _
      (next-number (header_number l p.kind (body_length l p)) (wire_number l p) (header-numbers h l p.kind (body_length l p)) (wire-numbers w l p))
      (either (ltb room (length (encode l p))) 40 0 full h.0))
