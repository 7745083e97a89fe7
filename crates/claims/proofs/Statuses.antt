-- The judge tells statuses apart by success and stall alone (`told-apart`), and those of replies alone (`status-unread`): the event of a packet
-- with another status differs in that alone (`event-is`), and number and change ask of it nothing else (`alike`, `unread`).
-- A reply with an error frees its own place (`error-frees`): that is what `reply-consumes` and `moves` leave where the status is not 0.
-- A status that answers no request passes as a stall (`stall-alone`): of a reply that matches nothing no check asks but 25 and 33
-- (`unmatched-number`).
-- Assumes nothing.
use Rattle.std.specs.Prelude.{Option, Some, None}
use Prim.Native.Nat.{ℕ}
use mathlib.Core.Bool.{Bool, true, false, cond, not, ◌&&◌, ◌||◌, false≢true}
use mathlib.Core.List.{[], ◌∷◌}
use mathlib.Core.Path.{◌≡◌, refl, sym, ap, ◌∙◌}
use mathlib.Core.Logic.{◌⊎◌, inl, inr}
use lib.Dec.{eqb}
use borrow.Author.Tests.{eqb-true}
use borrow.Table.Steps.{cases}
use Rattle.endpoint.specs.Endpoint.{is_in}
use Rattle.header.specs.declared.Side.{Side}
use Rattle.header.specs.declared.Side.TheVariants.{Guest, Host}
use Rattle.device.specs.Device.{RowState, row_at}
use Rattle.requests.specs.Requests.{place_at, free_place}
use Rattle.kinds.specs.Content.{Content}
use Rattle.kinds.specs.Codec.{layout}
use Rattle.kinds.specs.AnyStatus.{with_status}
use Rattle.kinds.proofs.RoundTrip.{clean}
use Rattle.kinds.proofs.AnyStatus.{Kept, kept, stated, status-is, table_kept}
use Rattle.events.specs.declared.Typed.TheVariants.{OfEndpoint, OfMask}
use Rattle.events.specs.Meaning.{Class, Hello, Connect, Interfaces, Endpoints, Disconnect, Reset, Ack, Cancel, Filter, StartRequest, PlainRequest, StreamStatus, PlainReply, StreamOut, StreamIn, About, nothing, endpoint, interface, mask, Meaning, meanings, look_up}
use Rattle.events.specs.Event.{Event, field, meaning_of, target_of, is_targeted, typed_of, word_of, announced_in, rows_told, event_by, event_of}
use Rattle.checks.specs.Checks.{traits_of, Match, Unmatched, Matched, match_of, number_for}
use Rattle.checks.specs.declared.Change.{Change}
use Rattle.checks.specs.declared.Change.TheVariants as changes
use Rattle.checks.specs.Change.{move_of, scope_of, place_in, change_by}
use Rattle.session.specs.declared.Session.{Session}
use Rattle.session.specs.Session.{link_of}
use Rattle.session.specs.Step.{applied, next_for, judged}
use Rattle.claims.specs.Allowed.{among, is_reply, inward_of, Unsolicited, succeeded, stalled}
use Rattle.claims.specs.NumberByKind.{answered_at}
use Rattle.claims.specs.Exchange.{EndsWith, Consumes}
use Rattle.claims.specs.Movements.{table_type, names, answered_kind, stream_type, start_kind, reports_on, stream_after}
use Rattle.claims.specs.Statuses.{ToldApart, StatusUnread, FreesOwn, ErrorFrees, StallAlone}
use Rattle.claims.proofs.Grounds.{agrees}
use Rattle.claims.proofs.Allowed.{found}
use Rattle.claims.proofs.EventChecks.{unsolicited-is}
use Rattle.claims.proofs.NumberByKind.{found-by}
use Rattle.claims.proofs.OnePacket.{unmatched-number, each-among}
use Rattle.claims.proofs.Exchange.{agreed, replying, from-a-host, match-at, reply-consumes}
use Rattle.claims.proofs.Movements.{moves}

-- ---- another status

-- an event with this status
abbrev restated : ℕ → Event → Event
restated x e = record { sender = e.sender; class = e.class; request = e.request; answers = e.answers; typed = e.typed; status = x; word = e.word; rows = e.rows }

module _ (s : Session) (e : Event) (x y : ℕ) where
  abbrev number_as : ℕ → Match → ℕ
  number_as z m = number_for s.head s.rows s.requests (restated z e) m

  abbrev change_as : ℕ → Class → Match → Change
  change_as z c m = change_by c s.requests (restated z e) m

  -- only a reply's change asks for a status
  change-same : (c : Class) (m : Match) → ((traits_of c).reply ≡ true → (move_of (restated x e) m ≡ move_of (restated y e) m) × (scope_of (restated x e) m ≡ scope_of (restated y e) m))
      → change_as x c m ≡ change_as y c m
  change-same Hello m h = refl
  change-same Connect m h = refl
  change-same Interfaces m h = refl
  change-same Endpoints m h = refl
  change-same Disconnect m h = refl
  change-same Reset m h = refl
  change-same Ack m h = refl
  change-same Cancel m h = refl
  change-same Filter m h = refl
  change-same StartRequest m h = refl
  change-same PlainRequest m h = refl
  change-same StreamStatus m h = λ i. changes.Release (place_in m) e.typed ((h refl).0 i) ((h refl).1 i)
  change-same PlainReply m h = λ i. changes.Release (place_in m) e.typed ((h refl).0 i) ((h refl).1 i)
  change-same StreamOut m h = refl
  change-same StreamIn m h = refl

  -- the match does not depend on the status; with number and change the answer is the same
  judged-same : number_as x (match_of s.requests e) ≡ number_as y (match_of s.requests e) → change_as x e.class (match_of s.requests e) ≡ change_as y e.class (match_of s.requests e)
      → judged s (restated x e) ≡ judged s (restated y e)
  unfolding judged next_for match_of
  judged-same n c = λ i. cond (eqb (n i) 0) (record { session = applied s e.sender (c i) e.rows; number = 0 }) (record { session = s; number = n i })

  -- two statuses that are both or neither 0, and both or neither 4
  module _ (zero : eqb x 0 ≡ eqb y 0) (four : eqb x 4 ≡ eqb y 4) where
    number_same : (m : Match) → number_as x m ≡ number_as y m
    unfolding number_for
    number_same Unmatched = rw four
    number_same (Matched i q) = rw four

    move_same : (m : Match) → move_of (restated x e) m ≡ move_of (restated y e) m
    move_same Unmatched = rw (four, zero)
    move_same (Matched i q) = rw (four, zero)

    scope-same : (m : Match) → scope_of (restated x e) m ≡ scope_of (restated y e) m
    scope-same Unmatched = refl
    scope-same (Matched i q) = rw zero

    alike : judged s (restated x e) ≡ judged s (restated y e)
    alike = let m : Match = match_of s.requests e in judged-same (number_same m) (change-same e.class m (λ r. (move_same m, scope-same m)))

  -- what is no reply matches nothing, and 33 does not ask of it
  unread : (traits_of e.class).reply ≡ false → judged s (restated x e) ≡ judged s (restated y e)
  unfolding match_of number_for
  unread r = judged-same (rw r) (change-same e.class _ (λ t. absurd (false≢true (sym r ∙ t))))

module _ (from : Side) (p : Content) (x : ℕ) where
  abbrev q : Content
  q = with_status x p

  k : Kept (layout p.kind) p.fields q.fields
  k = kept p x

  target-same : (a : About) → target_of a q ≡ target_of a p
  target-same nothing = refl
  target-same endpoint = k.endpoint
  target-same interface = k.interface
  target-same mask = refl

  typed-same : (o : Option ℕ) (a : About) → typed_of o a q ≡ typed_of o a p
  typed-same None a = refl
  typed-same (Some ty) nothing = refl
  typed-same (Some ty) endpoint = ap (λ (b : ℕ). OfEndpoint (record { 0 = b }) ty) k.endpoint
  typed-same (Some ty) interface = refl
  typed-same (Some ty) mask = ap (λ (b : ℕ). OfMask b ty) k.mask

  -- only an endpoint table announces rows, and it has no status
  rows_same : rows_told q ≡ rows_told p
  rows_same = cases (eqb p.kind 5) (λ t. rw (t, eqb-true p.kind 5 t) (ap (announced_in (layout 5)) (table_kept x p.fields))) (λ t. rw t)

  meaning-same : meaning_of from q ≡ meaning_of from p
  unfolding meaning_of
  meaning-same = ap (λ (b : ℕ). look_up meanings from p.kind (is_in (record { 0 = b }))) k.endpoint

  event-is : event_of from q ≡ restated (cond (stated (layout p.kind) p.fields) x 0) (event_of from p)
  unfolding event_of
  event-is =
      ap (λ (m : Meaning). event_by m from q) meaning-same
      ∙ (λ i.
      record {
        sender = from;
        class = (meaning_of from p).class;
        request = record { id = p.id; kind = p.kind; target = target-same (meaning_of from p).about i; length = k.length i };
        answers = record { first = (meaning_of from p).first; second = (meaning_of from p).second; targeted = is_targeted (meaning_of from p).about };
        typed = typed-same (meaning_of from p).wants (meaning_of from p).about i;
        status = status-is x (layout p.kind) p.fields i;
        word = word_of p;
        rows = rows_same i;
      })

pub told-apart : ToldApart
told-apart s from p x y zero four =
    ap (judged s) (event-is from p x)
    ∙ alike s (event_of from p) (cond there x 0) (cond there y 0) (same 0 zero) (same 4 four)
    ∙ sym (ap (judged s) (event-is from p y))
  where
    there : Bool
    there = stated (layout p.kind) p.fields

    same : (n : ℕ) → eqb x n ≡ eqb y n → eqb (cond (stated (layout p.kind) p.fields) x 0) n ≡ eqb (cond (stated (layout p.kind) p.fields) y 0) n
    same n h = cases (stated (layout p.kind) p.fields) (λ t. rw t h) (λ t. rw t)

pub status-unread : StatusUnread
status-unread s from p x w r =
    let c = clean (link_of from s) p w in
    let e : Event = event_of from p in
    ap (judged s) (event-is from p x)
    ∙ unread s e (cond (stated (layout p.kind) p.fields) x 0) e.status ((λ i. (agrees from p c.kind c.found c.sender i).reply) ∙ r)

-- ---- an error

module _ (s : Session) (from : Side) (p : Content) (r : is_reply from p.kind (inward_of p) ≡ true) (x : succeeded p ≡ false) where
  -- no data request ends with it
  pub own : (next : Session) → ((i : ℕ) × Consumes s p next i) ⊎ (Unsolicited s.requests p × (next.requests ≡ s.requests))
      → FreesOwn s p next ⊎ (Unsolicited s.requests p × (next.requests ≡ s.requests))
  own next (inr u) = inr u
  own next (inl (i, c)) = inl (record { place = i; answers = c.answers; freed = c.freed; others = λ j n. stays j (c.others j n) })
    where
      stays : (j : ℕ) → (place_at next.requests j ≡ place_at s.requests j) ⊎ (EndsWith s p i j × (place_at next.requests j ≡ free_place)) → place_at next.requests j ≡ place_at s.requests j
      stays j (inl e) = e
      stays j (inr (e, f)) = absurd (false≢true (sym x ∙ e.status))

  -- a reply is of no kind that is none
  not-kind : (k : ℕ) → is_reply Guest k (inward_of p) ≡ false → is_reply Host k (inward_of p) ≡ false → eqb p.kind k ≡ false
  not-kind k g h = cases (eqb p.kind k) (λ e. absurd (false≢true (sym (either from) ∙ ap (λ (n : ℕ). is_reply from n (inward_of p)) (sym (eqb-true p.kind k e)) ∙ r))) (λ e. e)
    where
      either : (from : Side) → is_reply from k (inward_of p) ≡ false
      either Guest = g
      either Host = h

  -- no disconnect, no reset, no table and no start, and no success
  none_of : (ends table start names typed report eight eleven good a b c d e changed old : Bool) → ends ≡ false → table ≡ false → start ≡ false → good ≡ false
      → cond ends false (cond table changed (cond (start && names && typed) true (cond report (good && a) (cond (eight && good && b) false (cond (eleven && good && c && d && e) false old))))) ≡ cond report false old
  none_of ends table start names typed report eight eleven good a b c d e changed old x y z w = rw (x, y, z, w) (closes report eight eleven)
    where
      -- what is left is the report of a 14, 17 or 27, which closes
      closes : (report eight eleven : Bool) → cond report (false && a) (cond (eight && false && b) false (cond (eleven && false && c && d && e) false old)) ≡ cond report false old
      closes true eight eleven = refl
      closes false true true = refl
      closes false true false = refl
      closes false false true = refl
      closes false false false = refl

  pub stream : (n : ℕ) → stream_after s p n ≡ cond (reports_on s p n) false (row_at s.rows n).streaming
  stream n =
      let row : RowState = row_at s.rows n in
      let answered : ℕ = answered_kind s.requests p in
      none_of (among (2 ∷ 3 ∷ []) p.kind) (eqb p.kind 5) (among (12 ∷ 15 ∷ 25 ∷ []) p.kind) (names p n) (eqb row.ty (stream_type p.kind))
      (reports_on s p n) (eqb p.kind 8) (eqb p.kind 11) (succeeded p) (eqb answered (start_kind p.kind)) (eqb answered 6) (eqb answered 9)
      (not (eqb n 0 || eqb n 16)) (eqb row.interface (field "interface" p)) (row.streaming && eqb row.ty (table_type p n)) row.streaming
      (rw (not-kind 2 refl refl, not-kind 3 refl refl)) (not-kind 5 refl refl) (rw (not-kind 12 refl refl, not-kind 15 refl refl, not-kind 25 refl refl)) x

pub error-frees : ErrorFrees
error-frees s from p w r u z x =
    let next = (judged s (event_of from p)).session in
    record {
      places = own s from p r x next (reply-consumes s from p w r u z);
      streams = λ n h. (moves s from p w z).streams n h ∙ stream s from p r x n;
    }

-- ---- a status that answers no request

other_way : (b : Bool) → ◌≡◌ {A = ℕ} (cond (not b) 33 0) (cond b 0 33)
other_way true = refl
other_way false = refl

pub stall-alone : StallAlone
stall-alone s from p w m h n =
    let r : is_reply from p.kind (inward_of p) ≡ true = each-among (λ (k : ℕ). is_reply from k (inward_of p)) (14 ∷ 17 ∷ 27 ∷ []) p.kind refl m in
    let a = agreed s from p w in
    let u = match-at s from p w r None (found-by s from p a r ∙ unanswered (answered_at s.requests p) refl) in
    unmatched-number s (event_of from p) (replying s from p w r) (from-a-host s from p w r) u
    ∙ rw (h, unsolicited-is s from p a r, m) (other_way (eqb p.id 0 && stalled p))
  where
    unanswered : (o : Option ℕ) → answered_at s.requests p ≡ o → answered_at s.requests p ≡ None
    unanswered None e = e
    unanswered (Some i) e = absurd (n i (found s from p i e))
