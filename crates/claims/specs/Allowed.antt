-- When a packet passes the session checks: in relations over the session and what the packet says, by kind numbers and in the words of
-- document 01. It does not go by the classes of `events` nor run the checks; `AllowedExactly` says that the judge passes a packet exactly then.
-- Shared with the definitions are the table of kinds and the look at a field by its name there (`named`), and what is seen of rows and places.
-- Assumes nothing: these are definitions and a statement.
use Rattle.std.specs.Prelude.{ℕ, ◌≤◌, ◌<◌, Bool, true, false, cond, not, ◌&&◌, ◌||◌, List, [], ◌∷◌, ◌≡◌, ◌⊎◌, ◌↔◌, eqb, Option, Some, None}
use Prim.Native.String.{String}
use Rattle.octets.specs.Bits.{has_bit}
use Rattle.endpoint.specs.declared.Endpoint.{Endpoint}
use Rattle.endpoint.specs.Endpoint.{is_in}
use Rattle.header.specs.declared.Side.{Side}
use Rattle.device.specs.Device.{bulk, control, iso, interrupt, row_at, state_at}
use Rattle.device.specs.declared.Introduction.TheVariants.{Unintroduced, Two}
use Rattle.requests.specs.declared.Request.{Request}
use Rattle.requests.specs.declared.Requests.{Requests}
use Rattle.requests.specs.Requests.{place_at, ids_differ}
use Rattle.header.specs.Link.{is_guest}
use Rattle.kinds.specs.Content.{Content, named}
use Rattle.kinds.specs.Codec.{layout}
use Rattle.kinds.specs.Number.{data_length, wire_number}
use Rattle.events.specs.Event.{event_of}
use Rattle.session.specs.declared.Session.{Session}
use Rattle.session.specs.Session.{link_of}
use Rattle.session.specs.Step.{judged}

-- ---- kinds, by their numbers

abbrev pub among : List ℕ → ℕ → Bool
among [] n = false
among (k ∷ ks) n = eqb n k || among ks n

-- a host's packet of kind 103 on an IN or OUT endpoint
abbrev pub host_interrupt : Side → ℕ → Bool → Bool
host_interrupt from kind direction = not (is_guest from) && eqb kind 103 && direction

-- "Guest kinds 6, 7, 9, 10, 12, 13, 15, 16, 18, 19, 25, 26, 100, 101, 103 take the lowest free place"
abbrev pub is_request : Side → ℕ → Bool
is_request from kind = is_guest from && among (6 ∷ 7 ∷ 9 ∷ 10 ∷ 12 ∷ 13 ∷ 15 ∷ 16 ∷ 18 ∷ 19 ∷ 25 ∷ 26 ∷ 100 ∷ 101 ∷ 103 ∷ []) kind

-- "Replies: 8 ..; 11 ..; 14 ..; 17 ..; 20 ..; 27 ..; host 100, 101, and 103 OUT"
abbrev pub is_reply : Side → ℕ → Bool → Bool
is_reply from kind inward =
    among (8 ∷ 11 ∷ 14 ∷ 17 ∷ 20 ∷ 27 ∷ []) kind || (not (is_guest from) && among (100 ∷ 101 ∷ []) kind) || host_interrupt from kind (not inward)

-- "8 to 6 or 7; 11 to 9 or 10; 14 to 12 or 13; 17 to 15 or 16; 20 to 18 or 19; 27 to 25 or 26; .. to their own kind"
abbrev pub one_of : ℕ → ℕ → ℕ → Bool
one_of m n kind = eqb kind m || eqb kind n

abbrev pub answers_kind : ℕ → ℕ → Bool
answers_kind kind =
    cond (eqb kind 8) (one_of 6 7)
    (cond (eqb kind 11) (one_of 9 10)
    (cond (eqb kind 14) (one_of 12 13)
    (cond (eqb kind 17) (one_of 15 16)
    (cond (eqb kind 20) (one_of 18 19)
    (cond (eqb kind 27) (one_of 25 26) (one_of kind kind))))))

-- "where both carry one, the endpoint or interface": all replies but 8 and 20
abbrev pub carries_target : ℕ → Bool
carries_target kind = not (among (8 ∷ 20 ∷ []) kind)

-- 28: "kinds 12, 13 and 102 want iso, 15, 16 and guest 103 interrupt, .. 25, 26, guest 101 and 104 bulk, guest 100 control;
-- host 103 IN wants interrupt."
abbrev pub wants : Side → ℕ → Bool → Option ℕ
wants from kind inward =
    cond (among (12 ∷ 13 ∷ 102 ∷ []) kind) (Some iso)
    (cond (among (15 ∷ 16 ∷ []) kind || (is_guest from && eqb kind 103) || host_interrupt from kind inward) (Some interrupt)
    (cond (among (25 ∷ 26 ∷ 104 ∷ []) kind || (is_guest from && eqb kind 101)) (Some bulk)
    (cond (is_guest from && eqb kind 100) (Some control) None)))

-- 30: "kind 102, host 103 IN and 104"
abbrev pub comes_on_stream : Side → ℕ → Bool → Bool
comes_on_stream from kind inward = among (102 ∷ 104 ∷ []) kind || host_interrupt from kind inward

-- ---- what a packet names

-- the number that it says under a field's name, 0 where it has no such field
abbrev pub said : String → Content → ℕ
said n p = named n (layout p.kind) p.fields

abbrev pub endpoint_named : Content → Endpoint
endpoint_named p = record { 0 = said "endpoint" p }

abbrev pub inward_of : Content → Bool
inward_of p = is_in (endpoint_named p)

-- the endpoint or interface byte of a reply: an interface in 11
abbrev pub reply_target : Content → ℕ
reply_target p = cond (eqb p.kind 11) (said "interface" p) (said "endpoint" p)

abbrev pub count_of : Content → ℕ
count_of p = data_length (layout p.kind) p.fields

-- the endpoint or interface byte of a request, "0 for what the kind lacks"
abbrev pub request_target : Content → ℕ
request_target p =
    cond (among (12 ∷ 13 ∷ 15 ∷ 16 ∷ 25 ∷ 26 ∷ 100 ∷ 101 ∷ 103 ∷ []) p.kind) (said "endpoint" p) (cond (among (9 ∷ 10 ∷ []) p.kind) (said "interface" p) 0)

-- what a reply says of its outcome: C-12, "0 is success and everything else an error"; "those with status 4"
abbrev pub succeeded : Content → Bool
succeeded p = eqb (said "status" p) 0

abbrev pub stalled : Content → Bool
stalled p = eqb (said "status" p) 4

-- what a place keeps of it: "id, kind, endpoint or interface byte, and length"
abbrev pub request_of : Content → Request
request_of p = record { id = p.id; kind = p.kind; target = request_target p; length = count_of p }

-- ---- the request that a reply answers

-- the live request at place i has the reply's id, a kind that it answers and, where both carry one, its endpoint or interface
pub record AnsweredBy (t : Requests) (p : Content) (i : ℕ) : Type 0 where
  pub place : i < 96
  pub live : (place_at t i).live ≡ true
  pub id : (place_at t i).request.id ≡ p.id
  pub kind : answers_kind p.kind (place_at t i).request.kind ≡ true
  pub target : carries_target p.kind ≡ true → (place_at t i).request.target ≡ reply_target p

-- "Kinds 14, 17, 27 with id 0 and status 4 that match nothing pass as unsolicited."
pub record Unsolicited (t : Requests) (p : Content) : Type 0 where
  pub kind : among (14 ∷ 17 ∷ 27 ∷ []) p.kind ≡ true
  pub id : p.id ≡ 0
  pub status : stalled p ≡ true
  pub unmatched : (i : ℕ) → AnsweredBy t p i → ⊥

-- ---- what each session check asks of a packet

module _ (s : Session) (from : Side) (p : Content) where
  -- 25: "All kinds but 0, 1, 4, 5, 22, 23, 24 get 25 without a device."
  abbrev pub HasDevice : Type 0
  HasDevice = among (0 ∷ 1 ∷ 4 ∷ 5 ∷ 22 ∷ 23 ∷ 24 ∷ []) p.kind ≡ false → s.head.present ≡ true

  -- 27: "Kinds 1, 4, 5 get 27 while an ack is owed"
  abbrev pub NoneOwed : Type 0
  NoneOwed = among (1 ∷ 4 ∷ 5 ∷ []) p.kind ≡ true → s.head.owed ≡ false

  -- 26: "1 needs two .. With a device, 1 gets 26"; "4 needs one or two"; "24 clears it; when none is owed, 26"
  pub record Introduced : Type 0 where
    pub connect : p.kind ≡ 1 → (s.head.present ≡ false) × (s.head.introduction ≡ Two)
    pub interfaces : p.kind ≡ 4 → s.head.present ≡ false → s.head.introduction ≡ Unintroduced → ⊥
    pub acknowledgement : p.kind ≡ 24 → s.head.owed ≡ true

  -- 28: the row of its endpoint has the type that it wants; "18, 19 (every mask bit)" bulk
  pub record RightType : Type 0 where
    pub type : (ty : ℕ) → wants from p.kind (inward_of p) ≡ Some ty → (state_at s.rows (endpoint_named p)).ty ≡ ty
    pub types : among (18 ∷ 19 ∷ []) p.kind ≡ true → (r : ℕ) → r < 32 → has_bit (said "mask" p) r ≡ true → (row_at s.rows r).ty ≡ bulk

  -- 29: "guest kinds 100 to 103 while a kind 6 or 9 waits"
  abbrev pub NoneSettling : Type 0
  NoneSettling =
      is_guest from ≡ true → 100 ≤ p.kind → p.kind ≤ 103 → (i : ℕ) → i < 96 → (place_at s.requests i).live ≡ true → one_of 6 9 (place_at s.requests i).request.kind ≡ false

  -- 30: "kind 102, host 103 IN and 104 on a closed stream"
  abbrev pub StreamOpen : Type 0
  StreamOpen = comes_on_stream from p.kind (inward_of p) ≡ true → (state_at s.rows (endpoint_named p)).streaming ≡ true

  -- 31, 32: "31 if any live request has that id, else 32 if full"
  abbrev pub UnusedId : Type 0
  UnusedId = is_request from p.kind ≡ true → (i : ℕ) → i < 96 → (place_at s.requests i).live ≡ true → (place_at s.requests i).request.id ≡ p.id → ⊥

  abbrev pub HasRoom : Type 0
  HasRoom = is_request from p.kind ≡ true → (i : ℕ) × (i < 96) × ((place_at s.requests i).live ≡ false)

  -- 33: an outstanding request that it answers; or it is unsolicited
  abbrev pub WasAsked : Type 0
  WasAsked = is_reply from p.kind (inward_of p) ≡ true → ((i : ℕ) × AnsweredBy s.requests p i) ⊎ Unsolicited s.requests p

  -- 34: its length is not over that request's
  abbrev pub NotLonger : Type 0
  NotLonger = is_reply from p.kind (inward_of p) ≡ true → (i : ℕ) → AnsweredBy s.requests p i → count_of p ≤ (place_at s.requests i).request.length

  -- the packet is allowed
  pub record Allowed : Type 0 where
    pub device : HasDevice
    pub ack : NoneOwed
    pub order : Introduced
    pub type : RightType
    pub settled : NoneSettling
    pub stream : StreamOpen
    pub unused : UnusedId
    pub room : HasRoom
    pub asked : WasAsked
    pub short : NotLonger

  -- "Where several hold, the lowest from 20 up is given", but 27 comes before 26: a number falls exactly where what comes before it is in order, and its
  -- own is not
  pub record SessionNumbered (n : ℕ) : Type 0 where
    pub no-device : (n ≡ 25) ↔ (HasDevice → ⊥)
    pub ack-owed : (n ≡ 27) ↔ (HasDevice × (NoneOwed → ⊥))
    pub out-of-order : (n ≡ 26) ↔ (HasDevice × (NoneOwed × (Introduced → ⊥)))
    pub wrong-type : (n ≡ 28) ↔ (HasDevice × (NoneOwed × (Introduced × (RightType → ⊥))))
    pub settling : (n ≡ 29) ↔ (HasDevice × (NoneOwed × (Introduced × (RightType × (NoneSettling → ⊥)))))
    pub closed-stream : (n ≡ 30) ↔ (HasDevice × (NoneOwed × (Introduced × (RightType × (NoneSettling × (StreamOpen → ⊥))))))
    pub id-in-use : (n ≡ 31) ↔ (HasDevice × (NoneOwed × (Introduced × (RightType × (NoneSettling × (StreamOpen × (UnusedId → ⊥)))))))
    pub full : (n ≡ 32) ↔ (HasDevice × (NoneOwed × (Introduced × (RightType × (NoneSettling × (StreamOpen × (UnusedId × (HasRoom → ⊥))))))))
    pub unasked : (n ≡ 33) ↔ (HasDevice × (NoneOwed × (Introduced × (RightType × (NoneSettling × (StreamOpen × (UnusedId × (HasRoom × (WasAsked → ⊥)))))))))
    pub too_long : (n ≡ 34) ↔ (HasDevice × (NoneOwed × (Introduced × (RightType × (NoneSettling × (StreamOpen × (UnusedId × (HasRoom × (WasAsked × (NotLonger → ⊥))))))))))

-- demand 2 for the session checks: of a packet that came out of the wire checks, to a session whose live requests have different ids (43 refuses
-- others), they give 0 exactly when it is allowed
abbrev pub AllowedExactly : Type 0
AllowedExactly =
    (s : Session) (from : Side) (p : Content) → wire_number (link_of from s) p ≡ 0 → ids_differ s.requests ≡ true
    → ((judged s (event_of from p)).number ≡ 0) ↔ Allowed s from p

-- and they give each other number exactly where its check is the first that fails
abbrev pub NumberInWords : Type 0
NumberInWords =
    (s : Session) (from : Side) (p : Content) → wire_number (link_of from s) p ≡ 0 → ids_differ s.requests ≡ true
    → SessionNumbered s from p (judged s (event_of from p)).number
