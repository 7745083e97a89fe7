-- What every packet keeps of a session, and that the start is fit.
-- A refused packet keeps all; of one that passes, each change of the requests, the rows and the head does, by the laws of each.
-- Assumes nothing.
use Rattle.std.specs.Prelude.{Option, Some, None, is_some}
use Prim.Native.Nat.{ℕ}
use native.Mathlib.Omega.{arith}
use mathlib.Core.Bool.{Bool, true, false, cond, ◌&&◌, false≢true, true≢false, not}
use mathlib.Core.List.{List, [], ◌∷◌}
use mathlib.Core.Path.{◌≡◌, refl, ◌∙◌, sym, ap}
use lib.Dec.{eqb, ltb}
use lib.ListN.{get_or, drop}
use borrow.Author.Tests.{eqb-true, not-false}
use borrow.Table.Steps.{cases}
use Rattle.octets.proofs.Logic.{and-whole, fails}
use Rattle.scan.specs.Scan.{tabulated}
use Rattle.header.specs.declared.Side.{Side}
use Rattle.header.specs.Link.{is_guest, shared_set, passed}
use Rattle.header.specs.declared.Link.{Link}
use Rattle.device.specs.declared.Head.{Head}
use Rattle.device.specs.Device.{start_head, control_rows}
use Rattle.device.specs.declared.Introduction.TheVariants.{Two, Unintroduced, One}
use Rattle.device.specs.declared.Scope.{Scope}
use Rattle.device.specs.declared.Scope.TheVariants.{EveryRow}
use Rattle.device.specs.declared.Rows.{Rows}
use Rattle.device.specs.declared.Introduction.{Introduction}
use Rattle.device.proofs.RowChanges.{start-control, closed-control, stream-control, replaced-control}
use Rattle.requests.specs.declared.Requests.{Requests}
use Rattle.requests.specs.Requests.{lowest, with_request, released, cleared, Free, Id, ids_differ}
use Rattle.requests.proofs.Places.{fresh-differ, released-differ, cleared-differ, taken-differ}
use Rattle.requests.specs.Clean.{Clean}
use Rattle.requests.proofs.KeptClean.{fresh-clean, taken-clean, released-clean, cleared-clean}
use Rattle.kinds.specs.Table.{kinds, endpoint-type, Field, u8, ◌times◌, ◌is◌}
use Rattle.kinds.specs.Content.{Value, Content, shared, size, named}
use Rattle.kinds.specs.Codec.{layout}
use Rattle.kinds.specs.Number.{bad, bad_fields, bad_tail, bad_id, is_none, or_else}
use Rattle.kinds.proofs.RoundTrip.{clean, Clean as CleanPacket}
use Rattle.kinds.proofs.FieldBytes.{is_none-left, first_good}
use Rattle.packet.specs.Rows.{column}
use Rattle.events.specs.declared.Typed.{Typed}
use Rattle.events.specs.declared.Typed.TheVariants.{Untyped, OfEndpoint, OfMask}
use Rattle.events.specs.Event.{Event, event_of, announced_in}
use Rattle.checks.specs.Checks.{Match, Unmatched, Matched, traits_of, match_of}
use Rattle.checks.specs.Change.{scope_of, move_of, place_or, place_in, is_opening, change_for}
use Rattle.checks.specs.declared.Change.{Change}
use Rattle.checks.specs.declared.Change.TheVariants.{NoChange, Seen, Hello as Greet, Connect, Interfaces, Endpoints, Disconnect, Reset, Acknowledge, Take, TakeAndOpen, Release}
use Rattle.session.specs.declared.Session.{Session}
use Rattle.session.specs.Session.{fresh_session, unfit, shared_in}
use Rattle.session.specs.Step.{applied, next_for, judged, kept_hello, device_to, head_after, stream_by, rows_after, requests_after}
use Rattle.claims.specs.Exchange.{after_event}
use Rattle.claims.specs.KeptByPacket.{KeptIds, KeptClean, KeptControl, EventControl, KeptHellos, KeptShared, KeptPlain, StartClean, StartFit}
use Rattle.claims.proofs.OnePacket.{step, Role, leaving, asking, answering, ending, role_of, requests_by, Does, does, next-requests, none-held}

-- ---- the requests

-- a search that finds nothing
none_found : (o : Option ℕ) → is_some o ≡ false → o ≡ None
none_found None h = refl
none_found (Some i) h = absurd (true≢false h)

-- what holds of them before a packet and after each change that it can make holds after it
kept_by : (s : Session) (e : Event) (P : Requests → Type 0) → P s.requests
    → ((i : ℕ) → lowest s.requests Free ≡ Some i → lowest s.requests (Id e.request.id) ≡ None → P (with_request s.requests i e.request))
    → ((i : ℕ) (c : Scope) → P (released s.requests i s.rows c))
    → P (cleared s.requests)
    → P (after_event s e).requests
kept_by s e P d take release clear = step s e (λ (x : Session). P x.requests) d (λ z. rw (next-requests s e (role_of e.class) (does e.class)) (by z (role_of e.class) (does e.class)))
  where
    t : Requests
    t = s.requests

    either : (b : Bool) (u : Requests) → P u → P (cond b u t)
    either true u h = h
    either false u h = d

    answered : (m : Match) → P (requests_after t s.rows (Release (place_in m) e.typed (move_of e m) (scope_of e m)))
    answered Unmatched = d
    answered (Matched i q) = either (ltb i 96) (released t i s.rows (scope_of e (Matched i q))) (release i (scope_of e (Matched i q)))

    takes : (judged s e).number ≡ 0 → (traits_of e.class).request ≡ true → (o : Option ℕ) → lowest t Free ≡ o → P (requests_after t s.rows (Take (place_or o) e.request))
    takes z h None f =
        let room = not-false (is_some (lowest t Free)) (fails (traits_of e.class).request (not (is_some (lowest t Free))) (none-held s e z).room h) in
        absurd (false≢true (sym (ap is_some f) ∙ room))
    takes z h (Some i) f = take i f (none_found (lowest t (Id e.request.id)) (fails (traits_of e.class).request _ (none-held s e z).unused h))

    by : (judged s e).number ≡ 0 → (r : Role) → Does e.class r → P (requests_by r s e (match_of t e))
    by z leaving c = d
    by z asking c = takes z c.0 (lowest t Free) refl
    by z answering c =
        answered (match_of t e)
    by z ending c = clear

pub kept-ids : KeptIds
kept-ids s e d =
    let t = s.requests in
    kept_by s e (λ (u : Requests). ids_differ u ≡ true) d (λ i f n. taken-differ t d i e.request f n) (λ i c. released-differ t d i s.rows c) (cleared-differ t d)

pub kept-clean : KeptClean
kept-clean s e h =
    let t = s.requests in
    kept_by s e Clean h (λ i f n. taken-clean t i e.request f h) (λ i c. released-clean t h i s.rows c) (cleared-clean t h)

-- ---- the rows

stream-by-control : (rows : Rows) (x : Typed) (b : Bool) → control_rows (stream_by rows x b) ≡ control_rows rows
stream-by-control rows Untyped b = refl
stream-by-control rows (OfEndpoint x k) b = stream-control rows x k b
stream-by-control rows (OfMask m k) b = refl

control-after : (rows new : Rows) → control_rows rows ≡ true → control_rows new ≡ true → (c : Change) → control_rows (rows_after rows c new) ≡ true
control-after rows new h a NoChange = h
control-after rows new h a (Seen x id) = h
control-after rows new h a (Greet word) = h
control-after rows new h a Connect = h
control-after rows new h a Interfaces = h
control-after rows new h a Endpoints = replaced-control new rows ∙ a
control-after rows new h a Disconnect = start-control
control-after rows new h a Reset = closed-control rows EveryRow ∙ h
control-after rows new h a Acknowledge = h
control-after rows new h a (Take i q) = h
control-after rows new h a (TakeAndOpen i q x) = stream-by-control rows x true ∙ h
control-after rows new h a (Release i x m scope) =
    let b = is_opening m in
    closed-control (stream_by rows x b) scope ∙ stream-by-control rows x b ∙ h

pub kept-control : KeptControl
unfolding next_for applied
kept-control s e c a = step s e (λ (x : Session). control_rows x.rows ≡ true) c (λ z. control-after s.rows e.rows c a (change_for s.requests e (match_of s.requests e)))

-- ---- the rows that a packet announces

-- rows 0 and 16 of a table have the types that its column has there
announced-control : (fs : List Field) (vs : List Value) → control_rows (announced_in fs vs) ≡ (eqb (get_or (column "type" fs vs) 0 0) 0 && eqb (get_or (column "type" fs vs) 16 0) 0)
unfolding tabulated
announced-control fs vs = refl

-- those of an endpoint table that breaks no rule are control; a missing type is 0, which is control
table-control : (from : Side) (caps e : ℕ) (vs : List Value) → is_none (bad_fields from caps e (layout 5) vs 0) ≡ true → control_rows (announced_in (layout 5) vs) ≡ true
unfolding layout kinds
table-control from caps e [] b = announced-control (layout 5) []
table-control from caps e (None ∷ vs) b = announced-control (layout 5) (None ∷ vs)
table-control from caps e (Some xs ∷ vs) b =
    let good = first_good from caps e (u8 "type" times 32 is endpoint-type) (drop 1 (layout 5)) xs vs 0 b in
    announced-control (layout 5) (Some xs ∷ vs) ∙ and-whole (eqb (get_or xs 0 0) 0) (eqb (get_or xs 16 0) 0) (good 0 (omega arith)) (good 16 (omega arith))

-- no field of a packet that the wire checks pass breaks its rule
fields-good : (l : Link) (p : Content) (c : CleanPacket l p) → is_none (bad_fields l.sender (shared_set l) (named "endpoint" c.kind.fields p.fields) (layout p.kind) p.fields 0) ≡ true
unfolding bad layout
fields-good l p c =
    let fs = c.kind.fields in
    let caps = shared_set l in
    rw c.found
    (is_none-left (bad_fields l.sender caps (named "endpoint" fs p.fields) fs p.fields 0)
    (or_else (bad_tail c.kind.tail p.rest (size (shared caps) fs)) (bad_id c.kind.id p.id)) c.rules)

pub event-control : EventControl
unfolding event_of
event-control l p z = cases (eqb p.kind 5) (λ t. table (eqb-true p.kind 5 t) _ (fields-good l p (clean l p z))) (λ t. rw t start-control)
  where
    table : p.kind ≡ 5 → (e : ℕ) → is_none (bad_fields l.sender (shared_set l) e (layout p.kind) p.fields 0) ≡ true → control_rows (event_of l.sender p).rows ≡ true
    table five e b = rw five (table-control l.sender (shared_set l) e p.fields (rw five at b))

-- ---- the head

-- a hello that has passed is not replaced
kept_hello-once : (b : Bool) (h : Option ℕ) (word : ℕ) → passed h ≡ true → (cond b (kept_hello h word) h ≡ h) × (cond b h (kept_hello h word) ≡ h)
kept_hello-once true None word p = absurd (false≢true p)
kept_hello-once true (Some w) word p = (refl, refl)
kept_hello-once false None word p = absurd (false≢true p)
kept_hello-once false (Some w) word p = (refl, refl)

-- what is said of a head and the next one
record HeadKept (h next : Head) : Type 0 where
  guest : passed h.guest ≡ true → next.guest ≡ h.guest
  host : passed h.host ≡ true → next.host ≡ h.host
  stopped : next.stopped ≡ h.stopped
  held : next.held ≡ h.held

-- a change of the device's part alone
device-alone : (h : Head) (present : Bool) (i : Introduction) (owed : Bool) → HeadKept h (device_to h present i owed)
device-alone h present i owed = record { guest = λ p. refl; host = λ p. refl; stopped = refl; held = refl }

head-same : (h : Head) → HeadKept h h
head-same h = device-alone h h.present h.introduction h.owed

head-after : (h : Head) (from : Side) (c : Change) → HeadKept h (head_after h from c)
head-after h from NoChange = head-same h
head-after h from (Seen x id) = head-same h
head-after h from (Greet word) =
    record {
      guest = λ p. (kept_hello-once (is_guest from) h.guest word p).0;
      host = λ p. (kept_hello-once (is_guest from) h.host word p).1;
      stopped = refl;
      held = refl;
    }
head-after h from Connect = device-alone h true h.introduction h.owed
head-after h from Interfaces = device-alone h h.present (cond h.present h.introduction Two) h.owed
head-after h from Endpoints = device-alone h h.present (cond h.present h.introduction One) h.owed
head-after h from Disconnect = device-alone h false Unintroduced (shared_in h 3)
head-after h from Reset = head-same h
head-after h from Acknowledge = device-alone h h.present h.introduction false
head-after h from (Take i q) = head-same h
head-after h from (TakeAndOpen i q x) = head-same h
head-after h from (Release i x m scope) = head-same h

head-kept : (s : Session) (e : Event) → HeadKept s.head (after_event s e).head
unfolding next_for applied
head-kept s e = step s e (λ (x : Session). HeadKept s.head x.head) (head-same s.head) (λ z. head-after s.head e.sender (change_for s.requests e (match_of s.requests e)))

pub kept-hellos : KeptHellos
kept-hellos s e = let k = head-kept s e in record { guest = k.guest; host = k.host }

pub kept-shared : KeptShared
kept-shared s e from g h = let k = kept-hellos s e in λ j. shared_set (record { sender = from; guest = k.guest g j; host = k.host h j })

-- ---- what no packet touches

pub kept-plain : KeptPlain
kept-plain s e = let k = head-kept s e in record { stopped = k.stopped; held = k.held }

-- ---- the start

pub start-clean : StartClean
unfolding fresh_session
start-clean = fresh-clean

pub start-fit : StartFit
unfolding unfit fresh_session start_head
start-fit = rw (fresh-differ, start-control)
