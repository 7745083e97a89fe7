-- What a packet that passes does to the hellos, the device and its rows, and where it is neither a request nor a reply to the requests: each
-- field and each row by itself, by kind numbers and in the words of document 01, without the classes of `events` and the functions of
-- `session`. `PacketMoves` says that the judge's next session is this one.
-- Assumes nothing: these are definitions and a statement.
use Rattle.std.specs.Prelude.{ℕ, ◌<◌, Bool, true, false, cond, not, ◌&&◌, ◌||◌, [], ◌∷◌, ◌≡◌, eqb, Option, Some, None}
use Rattle.octets.specs.Little.{le}
use Rattle.endpoint.specs.Endpoint.{row_of}
use Rattle.header.specs.declared.Side.{Side}
use Rattle.device.specs.Device.{bulk, control, iso, interrupt, row_at, is_row, invalid}
use Rattle.device.specs.declared.Introduction.TheVariants.{Unintroduced, Two, One}
use Rattle.requests.specs.declared.Requests.{Requests}
use Rattle.requests.specs.Requests.{place_at, fresh_requests, free_place}
use Rattle.requests.specs.Clean.{Clean}
use Rattle.header.specs.Link.{is_guest}
use Rattle.kinds.specs.Content.{Content}
use Rattle.kinds.specs.Codec.{layout}
use Rattle.kinds.specs.Number.{wire_number}
use Rattle.packet.specs.Rows.{element}
use Rattle.events.specs.Event.{event_of}
use Rattle.session.specs.declared.Session.{Session}
use Rattle.session.specs.Session.{link_of, shared_in}
use Rattle.session.specs.Step.{judged}
use Rattle.claims.specs.Allowed.{among, is_request, is_reply, endpoint_named, inward_of, succeeded, said}
use Rattle.claims.specs.NumberByKind.{answered_at}

-- what an endpoint table says of row r
abbrev pub table_type : Content → ℕ → ℕ
table_type p r = element "type" (layout p.kind) p.fields r

abbrev pub table_interface : Content → ℕ → ℕ
table_interface p r = element "interface" (layout p.kind) p.fields r

-- "all rows invalid but 0 and 16 (control)"
abbrev pub start_type : ℕ → ℕ
start_type r = cond (eqb r 0 || eqb r 16) control invalid

-- row r is that of the packet's endpoint
abbrev pub names : Content → ℕ → Bool
names p r = is_row (row_of (endpoint_named p)) r

-- the kind of the request that a reply answers, 0 where it answers none
abbrev pub kind_in : Requests → Option ℕ → ℕ
kind_in t None = 0
kind_in t (Some i) = (place_at t i).request.kind

abbrev pub answered_kind : Requests → Content → ℕ
answered_kind t p = kind_in t (answered_at t p)

-- the streams of which a start, a stop or a status speaks, and the start
abbrev pub stream_type : ℕ → ℕ
stream_type kind = cond (among (12 ∷ 14 ∷ []) kind) iso (cond (among (15 ∷ 17 ∷ []) kind) interrupt bulk)

abbrev pub start_kind : ℕ → ℕ
start_kind kind = cond (eqb kind 14) 12 (cond (eqb kind 17) 15 25)

-- row r's stream is that of which a 14, 17 or 27 speaks: "only where the row's type is that kind's"
abbrev pub reports_on : Session → Content → ℕ → Bool
reports_on s p r = among (14 ∷ 17 ∷ 27 ∷ []) p.kind && names p r && eqb (row_at s.rows r).ty (stream_type p.kind)

-- the first hello of a side is kept
abbrev pub first_hello : Option ℕ → ℕ → Option ℕ
first_hello None word = Some word
first_hello (Some w) word = Some w

-- row r's stream after the packet
abbrev pub stream_after : Session → Content → ℕ → Bool
stream_after s p r =
    -- "2 .. returns to the start", "3 .. closes all streams"
    cond (among (2 ∷ 3 ∷ []) p.kind) false
    -- "5 .. closes streams whose row changes type"
    (cond (eqb p.kind 5) ((row_at s.rows r).streaming && eqb (row_at s.rows r).ty (table_type p r))
    -- "a passed start opens; .. only where the row's type is that kind's"
    (cond (among (12 ∷ 15 ∷ 25 ∷ []) p.kind && names p r && eqb (row_at s.rows r).ty (stream_type p.kind)) true
    -- "a status opens if it answers a start with 0 and otherwise closes; only where the row's type is that kind's"
    (cond (reports_on s p r) (succeeded p && eqb (answered_kind s.requests p) (start_kind p.kind))
    -- "8 with status 0 to a 6 .. closes all streams"
    (cond (eqb p.kind 8 && succeeded p && eqb (answered_kind s.requests p) 6) false
    -- "11 with status 0 to a 9 does so for rows other than 0 and 16 of that interface"
    (cond (eqb p.kind 11 && succeeded p && eqb (answered_kind s.requests p) 9 && not (eqb r 0 || eqb r 16) && eqb (row_at s.rows r).interface (said "interface" p)) false
    -- all else leaves it
    (row_at s.rows r).streaming)))))

pub record Moved (s : Session) (from : Side) (p : Content) (next : Session) : Type 0 where
  -- "id is u64 once both hellos have passed": a hello is kept with its first capability word
  pub guest : next.head.guest ≡ cond (eqb p.kind 0 && is_guest from) (first_hello s.head.guest (le 4 p.rest 0)) s.head.guest
  pub host : next.head.host ≡ cond (eqb p.kind 0 && not (is_guest from)) (first_hello s.head.host (le 4 p.rest 0)) s.head.host
  -- "1 .. makes the device present", "2 .. returns to the start"
  pub present : next.head.present ≡ cond (eqb p.kind 1) true (cond (eqb p.kind 2) false s.head.present)
  -- "With no device, 5 sets the introduction to one; 4 .. sets two"
  pub introduction : next.head.introduction ≡ cond (eqb p.kind 2) Unintroduced (cond s.head.present s.head.introduction (cond (eqb p.kind 5) One (cond (eqb p.kind 4) Two s.head.introduction)))
  -- "with bit 3 an ack is owed. 24 clears it"
  pub owed : next.head.owed ≡ cond (eqb p.kind 2) (shared_in s.head 3) (cond (eqb p.kind 24) false s.head.owed)
  -- "5 replaces the rows", "2 .. returns to the start"
  pub types : (r : ℕ) → r < 32 → (row_at next.rows r).ty ≡ cond (eqb p.kind 5) (table_type p r) (cond (eqb p.kind 2) (start_type r) (row_at s.rows r).ty)
  pub interfaces : (r : ℕ) → r < 32 → (row_at next.rows r).interface ≡ cond (eqb p.kind 5) (table_interface p r) (cond (eqb p.kind 2) 0 (row_at s.rows r).interface)
  pub streams : (r : ℕ) → r < 32 → (row_at next.rows r).streaming ≡ stream_after s p r
  -- 2 and 3 free "every place"; but for these, what is neither a request nor a reply leaves the requests (for those two see `request-keeps` and
  -- `reply-consumes`)
  pub emptied : among (2 ∷ 3 ∷ []) p.kind ≡ true → (i : ℕ) → place_at next.requests i ≡ free_place
  -- "2 .. returns to the start", "3 frees every place": the table is that of the start, where its free places were so (they are: `run-clean`)
  pub emptied-fresh : among (2 ∷ 3 ∷ []) p.kind ≡ true → Clean s.requests → next.requests ≡ fresh_requests
  pub requests : is_request from p.kind ≡ false → is_reply from p.kind (inward_of p) ≡ false → among (2 ∷ 3 ∷ []) p.kind ≡ false → next.requests ≡ s.requests
  -- no packet stops a session or holds bytes: that is the gate's
  pub stopped : next.head.stopped ≡ s.head.stopped
  pub held : next.head.held ≡ s.head.held

-- of a packet that came out of the wire checks and passes the session checks (`moves`)
abbrev pub PacketMoves : Type 0
PacketMoves =
    (s : Session) (from : Side) (p : Content) → wire_number (link_of from s) p ≡ 0 → (judged s (event_of from p)).number ≡ 0 → Moved s from p (judged s (event_of from p)).session
