-- The watch after a packet, and the breaks over a list of packets (`watch-moves`, `counts-kept`, `breaks-counted`).
-- For each kind of the table the judge's next watch computes to a change of one row or of none, or to a disconnect's, and each of these has a law of
-- what stands in a row afterwards; so a row after a packet that passes is one term (`row-after`). The count over a list is by induction: with both
-- hellos passed the width stays.
-- Assumes nothing.
use Rattle.std.specs.Prelude.{Option, Some, None}
use Prim.Native.Nat.{ℕ, ◌+◌, ◌-◌, ◌%◌, ◌≤◌, ◌<◌, min}
use native.Mathlib.Omega.{arith}
use mathlib.Core.Bool.{Bool, true, false, cond, not, ◌&&◌, ◌||◌, true≢false, false≢true, or-true, and-false}
use mathlib.Core.List.{List, [], ◌∷◌}
use mathlib.Core.Logic.{◌⊎◌, inl, inr}
use mathlib.Core.Path.{◌≡◌, refl, sym, ap, subst, ◌∙◌}
use lib.Dec.{eqb, ltb}
use borrow.Author.Tests.{eqb-true, eqb-false, eq-eqb, ne_eqb, ltb-true, ltb-false, lt-ltb, le-ltb}
use borrow.Table.Steps.{cases}
use Rattle.octets.proofs.Logic.{and_parts}
use Rattle.octets.specs.Bits.{has_bit}
use Rattle.endpoint.specs.declared.Row.{Row}
use Rattle.endpoint.specs.Endpoint.{row_of}
use Rattle.header.specs.declared.Side.{Side}
use Rattle.header.specs.declared.Side.TheVariants.{Guest, Host}
use Rattle.header.specs.Link.{is_guest, shared_set, id_width, passed}
use Rattle.device.specs.Device.{is_row}
use Rattle.requests.specs.Requests.{lowest}
use Rattle.watch.specs.declared.RowWatch.{RowWatch}
use Rattle.watch.specs.declared.Watch.{Watch}
use Rattle.watch.specs.Watch.{modulus, ahead, one_more, seen, begun, in_rows, watch_at, index_of, watched_in, watched_row, changed_at, seen_on, begun_on, breaks_on, gap_on}
use Rattle.watch.proofs.Ids.{ahead-below, ahead-leads, ahead_none, ahead-some}
use Rattle.watch.proofs.Rows.{changed-at, forgotten-at}
use Rattle.kinds.specs.Table.{kinds}
use Rattle.kinds.specs.Content.{Value, Content, packet_of}
use Rattle.kinds.specs.Codec.{layout}
use Rattle.kinds.specs.Number.{wire_number}
use Rattle.kinds.proofs.RoundTrip.{clean}
use Rattle.events.specs.Meaning.{meanings}
use Rattle.events.specs.Event.{field, meaning_of, event_of}
use Rattle.checks.specs.Checks.{match_of}
use Rattle.checks.specs.Change.{move_by, answers_start, move_of, is_stalling}
use Rattle.session.specs.declared.Session.{Session}
use Rattle.session.specs.Session.{link_of, is_wide}
use Rattle.session.specs.Step.{applied, next_for, judged}
use Rattle.claims.specs.Allowed.{among, endpoint_named, inward_of, stalled}
use Rattle.claims.specs.Movements.{names}
use Rattle.claims.specs.PacketLists.{SentPacket, next_by, after_packets, OutOfWire, AllOutOfWire}
use Rattle.claims.specs.Watched.{is_watched, restarts, ids_of, Follows, restarted, WatchMoves, CountsKept, ReadByRow, passed_of, watched_on, restarts_on, unexpected, BreaksCounted}
use Rattle.claims.proofs.Grounds.{◌also◌, Every, by-guest, by-host, by_both, found-kind}
use Rattle.claims.proofs.OnePacket.{refused-keeps, passed as passed-next, step}
use Rattle.claims.proofs.KeptByPacket.{kept-hellos, kept-shared}

-- ---- a row after a packet that passes

abbrev sent : Side → Content → SentPacket
sent from p = record { from = from; packet = p }

-- a row after a packet with this id, by whether it is watched there and whether 0 is expected after it
abbrev row_by : Bool → ℕ → RowWatch → Bool → Bool → RowWatch
row_by wide id old watched restart = cond watched (seen wide id old) (cond restart (restarted old) old)

-- IN row 16 + n after a packet, by its kind's number and its fields
abbrev row_next : Session → SentPacket → ℕ → RowWatch
row_next s x n = row_by (is_wide s.head) x.packet.id (watch_at s.watch n) (watched_on n x) (restarts_on n x)

-- an endpoint's row is watched at n exactly where it is IN row 16 + n
named-row : (o : Option Row) (n : ℕ) → n < 16 → eqb n (watched_in o) ≡ is_row o (16 + n)
unfolding index_of
named-row (Some r) n h =
    let i = r.0 in
    cases (ltb i 16)
    (λ o. rw (o, ne_eqb n 16 (omega arith), ne_eqb i (16 + n) (omega (arith, ltb-true))))
    (λ o. rw o (cases (eqb i (16 + n)) (λ e. rw (e, eq-eqb n (i - 16) (omega (arith, eqb-true)))) (λ e. rw (e, ne_eqb n (i - 16) (λ d. eqb-false i (16 + n) e (omega (arith, ltb-false)))))))
named-row None n h = ne_eqb n 16 (omega arith)

-- a status of 4 is a stall
stall-is : (status : ℕ) (start : Bool) → is_stalling (move_by status start) ≡ eqb status 4
stall-is status start = cases (eqb status 4) (λ t. rw t) (λ t. rw t (cases (eqb status 0 && start) (λ b. rw b) (λ b. rw b)))

module _ (s : Session) (p : Content) (n : ℕ) (h : n < 16) where
  abbrev w : Watch
  w = s.watch

  changed : (f : RowWatch → RowWatch) → watch_at (changed_at f w (watched_row (endpoint_named p))) n ≡ cond (names p (16 + n)) (f (watch_at w n)) (watch_at w n)
  unfolding watched_row
  changed f = changed-at w n h f (watched_row (endpoint_named p)) ∙ ap (λ (b : Bool). cond b (f (watch_at w n)) (watch_at w n)) (named-row (row_of (endpoint_named p)) n h)

  -- after data on a stream
  came : watch_at (seen_on (is_wide s.head) p.id w (endpoint_named p)) n ≡ cond (names p (16 + n)) (seen (is_wide s.head) p.id (watch_at w n)) (watch_at w n)
  came = changed (seen (is_wide s.head) p.id)

  -- after a start
  started : watch_at (begun_on w (endpoint_named p)) n ≡ cond (names p (16 + n)) (restarted (watch_at w n)) (watch_at w n)
  started = changed begun

  -- the reply has the status of a stall
  abbrev stalls : Bool
  stalls = is_stalling (move_of (event_of Host p) (match_of s.requests (event_of Host p)))

  -- after a status
  reported : watch_at (cond stalls (begun_on w (endpoint_named p)) w) n ≡ cond (stalled p && names p (16 + n)) (restarted (watch_at w n)) (watch_at w n)
  unfolding event_of
  reported =
      let status = field "status" p in
      rw (stall-is status (answers_start (event_of Host p) (match_of s.requests (event_of Host p)))) (cases (eqb status 4) (λ t. rw t started) (λ t. rw t))

  -- after any other reply
  answered : watch_at (cond stalls w w) n ≡ watch_at w n
  answered = cases stalls (λ t. rw t) (λ t. rw t)

abbrev next_watch : Session → Side → Content → Watch
next_watch s from p = (next_for s (event_of from p) (match_of s.requests (event_of from p))).watch

-- for a packet of a kind from one side
abbrev KindWatched : Side → ℕ → Type 0
KindWatched from k =
    (s : Session) (id : ℕ) (vs : List Value) (rest : List ℕ) (n : ℕ) → n < 16
    → watch_at (next_watch s from (packet_of k id vs rest)) n ≡ row_next s (sent from (packet_of k id vs rest)) n

-- a host's packet on an interrupt endpoint is data on a stream or a reply
interrupts : KindWatched Host 103
unfolding next_for applied event_of meaning_of meanings layout kinds match_of lowest
interrupts s id vs rest n h =
    let p = packet_of 103 id vs rest in
    cases (inward_of p) (λ t. rw t (came s p n h)) (λ t. rw t (rw t at (answered s p n h)))

every-kind-watched : Every KindWatched kinds
unfolding next_for applied event_of meaning_of meanings layout kinds match_of lowest
every-kind-watched =
    by_both KindWatched 0 (λ s id vs rest n h. refl) (λ s id vs rest n h. refl)
    also by-host KindWatched 1 (λ s id vs rest n h. refl)
    also by-host KindWatched 2 (λ s id vs rest n h. forgotten-at s.watch n h)
    also by-guest KindWatched 3 (λ s id vs rest n h. refl)
    also by-host KindWatched 4 (λ s id vs rest n h. refl)
    also by-host KindWatched 5 (λ s id vs rest n h. refl)
    also by-guest KindWatched 6 (λ s id vs rest n h. refl)
    also by-guest KindWatched 7 (λ s id vs rest n h. refl)
    also by-host KindWatched 8 (λ s id vs rest n h. answered s (packet_of 8 id vs rest) n h)
    also by-guest KindWatched 9 (λ s id vs rest n h. refl)
    also by-guest KindWatched 10 (λ s id vs rest n h. refl)
    also by-host KindWatched 11 (λ s id vs rest n h. answered s (packet_of 11 id vs rest) n h)
    also by-guest KindWatched 12 (λ s id vs rest n h. started s (packet_of 12 id vs rest) n h)
    also by-guest KindWatched 13 (λ s id vs rest n h. refl)
    also by-host KindWatched 14 (λ s id vs rest n h. reported s (packet_of 14 id vs rest) n h)
    also by-guest KindWatched 15 (λ s id vs rest n h. started s (packet_of 15 id vs rest) n h)
    also by-guest KindWatched 16 (λ s id vs rest n h. refl)
    also by-host KindWatched 17 (λ s id vs rest n h. reported s (packet_of 17 id vs rest) n h)
    also by-guest KindWatched 18 (λ s id vs rest n h. refl)
    also by-guest KindWatched 19 (λ s id vs rest n h. refl)
    also by-host KindWatched 20 (λ s id vs rest n h. answered s (packet_of 20 id vs rest) n h)
    also by-guest KindWatched 21 (λ s id vs rest n h. refl)
    also by-guest KindWatched 22 (λ s id vs rest n h. refl)
    also by_both KindWatched 23 (λ s id vs rest n h. refl) (λ s id vs rest n h. refl)
    also by-guest KindWatched 24 (λ s id vs rest n h. refl)
    also by-guest KindWatched 25 (λ s id vs rest n h. started s (packet_of 25 id vs rest) n h)
    also by-guest KindWatched 26 (λ s id vs rest n h. refl)
    also by-host KindWatched 27 (λ s id vs rest n h. reported s (packet_of 27 id vs rest) n h)
    also by_both KindWatched 100 (λ s id vs rest n h. refl) (λ s id vs rest n h. answered s (packet_of 100 id vs rest) n h)
    also by_both KindWatched 101 (λ s id vs rest n h. refl) (λ s id vs rest n h. answered s (packet_of 101 id vs rest) n h)
    also by_both KindWatched 102 (λ s id vs rest n h. refl) (λ s id vs rest n h. came s (packet_of 102 id vs rest) n h)
    also by_both KindWatched 103 (λ s id vs rest n h. refl) interrupts
    also by-host KindWatched 104 (λ s id vs rest n h. came s (packet_of 104 id vs rest) n h)
    also tt

row-after : (s : Session) (from : Side) (p : Content) (n : ℕ) → n < 16 → wire_number (link_of from s) p ≡ 0 → watch_at (next_watch s from p) n ≡ row_next s (sent from p) n
row-after s from p n h w =
    let c = clean (link_of from s) p w in
    found-kind KindWatched kinds p.kind c.kind c.found every-kind-watched from c.sender s p.id p.fields p.rest n h

-- ---- a watched packet

-- no hello, no disconnect and none after which 0 is expected
abbrev Alone : Content → ℕ → Type 0
Alone p k = (eqb k 0 ≡ false) × (eqb k 2 ≡ false) × ((among (12 ∷ 15 ∷ 25 ∷ []) k || (among (14 ∷ 17 ∷ 27 ∷ []) k && stalled p)) ≡ false)

-- so are 102, 103 and 104
watched-alone : (from : Side) (p : Content) → is_watched from p ≡ true → Alone p p.kind
watched-alone from p a =
    let b = (and_parts (not (is_guest from)) _ a).1 in
    cases (eqb p.kind 102) (at 102 (refl, refl, refl))
    (λ e. cases (eqb p.kind 104) (at 104 (refl, refl, refl))
    (λ f. cases (eqb p.kind 103) (at 103 (refl, refl, refl)) (λ g. absurd (false≢true (rw (e, f, g) at b)))))
  where
    at : (k : ℕ) → Alone p k → eqb p.kind k ≡ true → Alone p p.kind
    at k h e = subst (Alone p) (sym (eqb-true p.kind k e)) h

-- a header that is not a hello's has as many ids as the watch wraps at
ids-are : (s : Session) (from : Side) (kind : ℕ) → eqb kind 0 ≡ false → ids_of s from kind ≡ modulus (is_wide s.head)
unfolding id_width shared_set
ids-are s from kind h = rw h (cases (is_wide s.head) (λ t. rw t) (λ t. rw t))

-- what the watch makes of its id is what document 02 says
follows : (wide : Bool) (id : ℕ) (old : RowWatch) → Follows (modulus wide) id old (seen wide id old)
unfolding seen
follows wide id old =
    record {
      expected = refl;
      right = λ e. rw (eq-eqb (ahead wide old.expected id) 0 (ahead_none wide old.expected id e)) (refl, refl);
      wrong = λ d.
          rw (ne_eqb (ahead wide old.expected id) 0 (λ z. d (ahead-some wide old.expected id z)))
          (ahead-below wide old.expected id, ahead-leads wide old.expected id, stops old.breaks);
    }
  where
    stops : (n : ℕ) → n ≤ 65535 → one_more n ≡ min (n + 1) 65535
    stops n h = cases (ltb n 65535) (λ t. rw t (omega (arith, ltb-true))) (λ t. rw t (omega (arith, ltb-false)))

-- ---- one packet

-- a packet that is neither of two on a row is not the one there, nor the other
neither-on : (a r b : Bool) → ((a || r) && b) ≡ false → ((a && b) ≡ false) × ((r && b) ≡ false)
neither-on true r true h = absurd (true≢false h)
neither-on true r false h = (refl, and-false r)
neither-on false r b h = (refl, h)

pub watch-moves : WatchMoves
watch-moves s from p w z =
    let wide = is_wide s.head in
    rw (passed-next s (event_of from p) z)
    (record {
      seen = λ n h a b.
          let old = watch_at s.watch n in
          let new : watch_at (next_watch s from p) n ≡ seen wide p.id old = row-after s from p n h w ∙ rw (a, b) in
          rw (ids-are s from p.kind (watched-alone from p a).0) (subst (Follows (modulus wide) p.id old) (sym new) (follows wide p.id old));
      restart = λ n h a b. row-after s from p n h w ∙ rw (unwatched (λ c. c.2) a, a, b, or-true (eqb p.kind 2));
      disconnect = λ n h k. let two = eq-eqb p.kind 2 k in row-after s from p n h w ∙ rw (unwatched (λ c. c.1) two, two);
      others = λ n h k a. let c = neither-on (is_watched from p) (restarts p) (names p (16 + n)) a in row-after s from p n h w ∙ rw (c.0, ne_eqb p.kind 2 k, c.1);
    })
  where
    unwatched : {b : Bool} → (Alone p p.kind → b ≡ false) → b ≡ true → is_watched from p ≡ false
    unwatched f e = cases (is_watched from p) (λ t. absurd (true≢false (sym e ∙ f (watched-alone from p t)))) (λ t. t)

pub counts-kept : CountsKept
counts-kept s from p n h w a =
    step s (event_of from p) (λ (x : Session). ((watch_at x.watch n).gap ≡ old.gap) × ((watch_at x.watch n).breaks ≡ old.breaks)) (refl, refl)
    (λ z. kept (restarts_on n (sent from p)) (row-after s from p n h w ∙ rw a))
  where
    old : RowWatch
    old = watch_at s.watch n

    kept : {new : RowWatch} (b : Bool) → new ≡ cond b (restarted old) old → (new.gap ≡ old.gap) × (new.breaks ≡ old.breaks)
    kept true e = (ap (λ (r : RowWatch). r.gap) e, ap (λ (r : RowWatch). r.breaks) e)
    kept false e = (ap (λ (r : RowWatch). r.gap) e, ap (λ (r : RowWatch). r.breaks) e)

-- ---- a list of packets

-- the count of a row after packets that passed
abbrev count_after : Session → ℕ → List SentPacket → ℕ
count_after s n xs = min ((watch_at s.watch n).breaks + unexpected (modulus (is_wide s.head)) n (watch_at s.watch n).expected xs) 65535

module _ (wide : Bool) (id : ℕ) (old : RowWatch) where
  next-expected : (a r : Bool) → (row_by wide id old a r).expected ≡ cond a ((id + 1) % modulus wide) (cond r 0 old.expected)
  unfolding seen
  next-expected true r = refl
  next-expected false true = refl
  next-expected false false = refl

  next-breaks : old.breaks ≤ 65535 → (a r : Bool) → (row_by wide id old a r).breaks ≡ min (old.breaks + cond (a && not (eqb (old.expected % modulus wide) (id % modulus wide))) 1 0) 65535
  next-breaks h true r =
      let m = modulus wide in
      let f = follows wide id old in
      cases (eqb (old.expected % m) (id % m))
      (λ t. rw t ((f.right (eqb-true (old.expected % m) (id % m) t)).1 ∙ omega arith))
      (λ t. rw t ((f.wrong (eqb-false (old.expected % m) (id % m) t)).2 h))
  next-breaks h false true = omega arith
  next-breaks h false false = omega arith

sum-stops : (b c u : ℕ) → min (min (b + c) 65535 + u) 65535 ≡ min (b + (c + u)) 65535
sum-stops b c u = omega arith

-- one packet: the count stays within its bound, and packets that follow it are counted on top of it
counted-one : (s : Session) (x : SentPacket) (n : ℕ) → n < 16 → passed s.head.guest ≡ true → passed s.head.host ≡ true → OutOfWire s x → (watch_at s.watch n).breaks ≤ 65535
    → ((watch_at (next_by s x).watch n).breaks ≤ 65535) × ((ys : List SentPacket) → count_after (next_by s x) n ys ≡ count_after s n (cond (eqb (judged s (event_of x.from x.packet)).number 0) (x ∷ ys) ys))
counted-one s x n h g k w b =
    let e = event_of x.from x.packet in
    let number = (judged s e).number in
    let wide = is_wide s.head in
    let id = x.packet.id in
    let old = watch_at s.watch n in
    cases (eqb number 0)
    (λ t.
    let row : watch_at (next_by s x).watch n ≡ row_next s x n = ap (λ (y : Session). watch_at y.watch n) (passed-next s e (eqb-true number 0 t)) ∙ row-after s x.from x.packet n h w in
    let breaks = ap (λ (r : RowWatch). r.breaks) row ∙ next-breaks wide id old b (watched_on n x) (restarts_on n x) in
    let expected = ap (λ (r : RowWatch). r.expected) row ∙ next-expected wide id old (watched_on n x) (restarts_on n x) in
    let width = ap (λ (c : ℕ). modulus (has_bit c 5)) (kept-shared s e Guest g k) in
    rw t (omega (arith, breaks), λ ys. (λ i. min (breaks i + unexpected (width i) n (expected i) ys) 65535) ∙ sum-stops old.breaks _ _))
    (λ t. rw (t, refused-keeps s e (eqb-false number 0 t)) (b, λ ys. refl))

counted : (s : Session) (xs : List SentPacket) (n : ℕ) → n < 16 → passed s.head.guest ≡ true → passed s.head.host ≡ true → AllOutOfWire s xs → (watch_at s.watch n).breaks ≤ 65535
    → (watch_at (after_packets s xs).watch n).breaks ≡ count_after s n (passed_of s xs)
counted s [] n h g k w b = omega arith
counted s (x ∷ xs) n h g k w b =
    let c = counted-one s x n h g k w.0 b in
    let e = kept-hellos s (event_of x.from x.packet) in
    counted (next_by s x) xs n h (ap passed (e.guest g) ∙ g) (ap passed (e.host k) ∙ k) w.1 c.0 ∙ c.1 (passed_of (next_by s x) xs)

pub breaks-counted : BreaksCounted
breaks-counted s xs n h g k w b = rw (ids-are s Host 102 refl) (counted s xs n h g k w b)

-- ---- what a user reads

-- the index of a row
module _ (w : Watch) (r : Row) where
  found_at : (n : ℕ) → n < 16 → r.0 ≡ 16 + n → index_of r ≡ n
  unfolding index_of
  found_at n h e = rw (e, le-ltb (16 + n) 16 (omega arith)) (omega arith)

  outside : (r.0 < 16) ⊎ (32 ≤ r.0) → ltb (index_of r) in_rows ≡ false
  unfolding index_of
  outside (inl h) = rw (lt-ltb r.0 16 h)
  outside (inr h) = rw (le-ltb r.0 16 (omega arith)) (le-ltb (r.0 - 16) in_rows (omega arith))

pub read-by-row : ReadByRow
unfolding breaks_on gap_on
read-by-row w r = (
  λ n h e. rw (found_at w r n h e, lt-ltb n in_rows h) (refl, refl),
  λ o. rw (outside w r o) (refl, refl),
)
