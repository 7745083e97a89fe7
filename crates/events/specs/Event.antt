-- A packet as the session sees it: its class, and of its fields those that the session rules look at, each by its name.
-- Assumes nothing: these are definitions.
use Rattle.std.specs.Prelude.{ℕ, Bool, true, false, cond, ◌&&◌, List, ◌≡◌, get_or, eqb, leb, Option, Some, None}
use Prim.Native.String.{String}
use Rattle.octets.specs.Little.{le}
use Rattle.endpoint.specs.declared.Endpoint.{Endpoint}
use Rattle.endpoint.specs.Endpoint.{is_in}
use Rattle.header.specs.declared.Side.{Side}
use Rattle.header.specs.Link.{is_guest}
use Rattle.kinds.specs.Table.{Field}
use Rattle.kinds.specs.Content.{Value, Content, named}
use Rattle.kinds.specs.Codec.{layout}
use Rattle.kinds.specs.Number.{data_length}
use Rattle.packet.specs.declared.Packet.{Packet}
use Rattle.packet.specs.Packet.{content_of}
use Rattle.packet.specs.Rows.{column}
use Rattle.device.specs.declared.Rows.{Rows}
use Rattle.device.specs.Device.{start_rows}
use Rattle.scan.specs.Scan.{tabulated}
use Rattle.requests.specs.declared.Request.{Request}
use Rattle.requests.specs.declared.Answerable.{Answerable}
use Rattle.events.specs.declared.Typed.{Typed}
use Rattle.events.specs.declared.Typed.TheVariants.{Untyped, OfEndpoint, OfMask}
use Rattle.events.specs.declared.Reply.{Reply}
use Rattle.events.specs.declared.Case.{Case}
use Rattle.events.specs.declared.Case.TheVariants as cases
use Rattle.events.specs.Meaning.{Class, Hello, Connect, Interfaces, Endpoints, Disconnect, Reset, Ack, Cancel, Filter, StartRequest, PlainRequest, StreamStatus, PlainReply, StreamOut, StreamIn, About, nothing, endpoint, interface, mask, Meaning, meanings, look_up}

-- a packet as the session sees it
pub record Event : Type 0 where
  pub sender : Side
  pub class : Class
  -- the request that it makes or answers, as it tells it
  pub request : Request
  -- the requests that it can be a reply to
  pub answers : Answerable
  pub typed : Typed
  pub status : ℕ
  -- a hello's first capability word
  pub word : ℕ
  -- the rows that an endpoint table announces
  pub rows : Rows

-- the number in a packet's field of that name; 0 where the kind lacks it
abbrev pub field : String → Content → ℕ
field n p = named n (layout p.kind) p.fields

unfoldable pub meaning_of : Side → Content → Meaning
meaning_of from p = look_up meanings from p.kind (is_in (record { 0 = field "endpoint" p }))

-- "endpoint or interface byte, .. 0 for what the kind lacks"
abbrev pub target_of : About → Content → ℕ
target_of nothing p = 0
target_of endpoint p = field "endpoint" p
target_of interface p = field "interface" p
target_of mask p = 0

-- it names an endpoint or an interface
abbrev pub is_targeted : About → Bool
is_targeted nothing = false
is_targeted endpoint = true
is_targeted interface = true
is_targeted mask = false

-- the rows whose type is wanted, and the type
abbrev pub typed_of : Option ℕ → About → Content → Typed
typed_of None a p = Untyped
typed_of (Some ty) nothing p = Untyped
typed_of (Some ty) endpoint p = OfEndpoint (record { 0 = field "endpoint" p }) ty
typed_of (Some ty) interface p = Untyped
typed_of (Some ty) mask p = OfMask (field "mask" p) ty

-- the first capability word of a hello; one without words offers nothing
abbrev pub word_of : Content → ℕ
word_of p = cond (eqb p.kind 0) (le 4 p.rest 0) 0

-- the rows that an endpoint table announces: type and interface of each
abbrev pub announced_in : List Field → List Value → Rows
announced_in fs vs =
    record {
      types = tabulated (λ (i : ℕ). get_or (column "type" fs vs) i 0) 0 32;
      interfaces = tabulated (λ (i : ℕ). get_or (column "interface" fs vs) i 0) 0 32;
      streams = start_rows.streams;
    }

abbrev pub rows_told : Content → Rows
rows_told p = cond (eqb p.kind 5) (announced_in (layout p.kind) p.fields) start_rows

abbrev pub event_by : Meaning → Side → Content → Event
event_by m from p =
    record {
      sender = from;
      class = m.class;
      request = record { id = p.id; kind = p.kind; target = target_of m.about p; length = data_length (layout p.kind) p.fields };
      answers = record { first = m.first; second = m.second; targeted = is_targeted m.about };
      typed = typed_of m.wants m.about p;
      status = field "status" p;
      word = word_of p;
      rows = rows_told p;
    }

unfoldable pub event_of : Side → Content → Event
event_of from p = event_by (meaning_of from p) from p

-- 29: "guest kinds 100 to 103"
abbrev pub is_transfer : Event → Bool
is_transfer e = is_guest e.sender && leb 100 e.request.kind && leb e.request.kind 103

-- ---- what the code makes of a packet

-- of an event, what its class needs
abbrev pub reply_of : Event → Reply
reply_of e = record { told = e.request; answers = e.answers; status = e.status }

abbrev pub endpoint_in : Typed → Endpoint
endpoint_in Untyped = record { 0 = 0 }
endpoint_in (OfEndpoint x ty) = x
endpoint_in (OfMask m ty) = record { 0 = 0 }

abbrev pub type_in : Typed → ℕ
type_in Untyped = 0
type_in (OfEndpoint x ty) = ty
type_in (OfMask m ty) = ty

abbrev pub case_by : Class → Event → Case
case_by Hello e = cases.Hello e.word
case_by Connect e = cases.Connect
case_by Interfaces e = cases.Interfaces
case_by Endpoints e = cases.Endpoints
case_by Disconnect e = cases.Disconnect
case_by Reset e = cases.Reset
case_by Ack e = cases.Ack
case_by Cancel e = cases.Cancel
case_by Filter e = cases.Filter
case_by StartRequest e = cases.Asks e.request e.typed true (is_transfer e)
case_by PlainRequest e = cases.Asks e.request e.typed false (is_transfer e)
case_by StreamStatus e = cases.Answers (reply_of e) e.typed true
case_by PlainReply e = cases.Answers (reply_of e) e.typed false
case_by StreamOut e = cases.StreamsOut (endpoint_in e.typed) (type_in e.typed) (is_transfer e)
case_by StreamIn e = cases.StreamsIn (endpoint_in e.typed) (type_in e.typed) e.request.id

abbrev pub case_of : Event → Case
case_of e = case_by e.class e

-- of a packet of the code, whatever the shared set
abbrev pub Shows : Side → ℕ → Packet → List ℕ → Case → Type 0
Shows from id p body c = (caps : ℕ) → c ≡ case_of (event_of from (content_of caps id p body))

abbrev pub Announces : Packet → List ℕ → Rows → Type 0
Announces p body r = (from : Side) (caps id : ℕ) → r ≡ (event_of from (content_of caps id p body)).rows
