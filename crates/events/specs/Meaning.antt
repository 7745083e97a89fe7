-- What a packet means to the session: a table over kinds and senders, to be held against "Session rules" of document 01.
-- Assumes nothing: these are definitions.
use Rattle.std.specs.Prelude.{ℕ, Bool, true, cond, not, ◌&&◌, List, [], ◌∷◌, eqb, Option, Some, None}
use Rattle.header.specs.Link.{is_guest}
use Rattle.header.specs.declared.Side.{Side}
use Rattle.device.specs.Device.{control, iso, bulk, interrupt}

-- what a packet is to the session; two classes of requests and two of replies differ in what they do to a stream: a start opens one, and a
-- stream's status answers a start or a stop, or comes unasked; of data on a stream, that of the host is watched
pub data Class : Type 0 where
  Hello Connect Interfaces Endpoints Disconnect Reset Ack Cancel Filter StartRequest PlainRequest StreamStatus PlainReply StreamOut StreamIn : Class

-- what a packet is about, by the field that names it
pub data About : Type 0 where
  nothing endpoint interface mask : About

pub record Meaning : Type 0 where
  pub class : Class
  pub about : About
  -- the type of its endpoint's row, or of every row of its mask
  pub wants : Option ℕ
  -- the kinds of request that it answers
  pub first : ℕ
  pub second : ℕ

-- ---- how a line is written

abbrev pub plain : Class → Meaning
plain c = record { class = c; about = nothing; wants = None; first = 0; second = 0 }

-- "12 start iso": opens a stream, on an endpoint of this type
abbrev starts : ℕ → Meaning
starts k = record { class = StartRequest; about = endpoint; wants = Some k; first = 0; second = 0 }

-- a request about nothing, an interface, an endpoint of this type, or a mask of rows of this type
abbrev requests : Meaning
requests = plain PlainRequest

abbrev requests_interface : Meaning
requests_interface = record { class = PlainRequest; about = interface; wants = None; first = 0; second = 0 }

abbrev requests_on : ℕ → Meaning
requests_on k = record { class = PlainRequest; about = endpoint; wants = Some k; first = 0; second = 0 }

abbrev requests_mask : ℕ → Meaning
requests_mask k = record { class = PlainRequest; about = mask; wants = Some k; first = 0; second = 0 }

-- a reply to requests of these two kinds
abbrev answers : About → ℕ → ℕ → Meaning
answers a m n = record { class = PlainReply; about = a; wants = None; first = m; second = n }

-- a status of streams of this type, to a start or a stop
abbrev reports : ℕ → ℕ → ℕ → Meaning
reports k start stop = record { class = StreamStatus; about = endpoint; wants = Some k; first = start; second = stop }

-- data on a stream of this type, from the guest and from the host
abbrev streams_out : ℕ → Meaning
streams_out k = record { class = StreamOut; about = endpoint; wants = Some k; first = 0; second = 0 }

abbrev streams_in : ℕ → Meaning
streams_in k = record { class = StreamIn; about = endpoint; wants = Some k; first = 0; second = 0 }

-- whose packets of a kind have the meaning: of whoever may send it, or of one end, or of the host on an endpoint of one direction
pub data Who : Type 0 where
  sender guest host host-in host-out : Who

pub record Line : Type 0 where
  pub kind : ℕ
  pub who : Who
  pub meaning : Meaning

abbrev line : ℕ → Who → Meaning → Line
line n w m = record { kind = n; who = w; meaning = m }

-- ---- the table

unfoldable pub meanings : List Line
meanings =
    line 0 sender (plain Hello)
    ∷ line 1 sender (plain Connect)
    ∷ line 2 sender (plain Disconnect)
    ∷ line 3 sender (plain Reset)
    ∷ line 4 sender (plain Interfaces)
    ∷ line 5 sender (plain Endpoints)
    ∷ line 6 sender requests
    ∷ line 7 sender requests
    ∷ line 8 sender (answers nothing 6 7)
    ∷ line 9 sender requests_interface
    ∷ line 10 sender requests_interface
    ∷ line 11 sender (answers interface 9 10)
    ∷ line 12 sender (starts iso)
    ∷ line 13 sender (requests_on iso)
    ∷ line 14 sender (reports iso 12 13)
    ∷ line 15 sender (starts interrupt)
    ∷ line 16 sender (requests_on interrupt)
    ∷ line 17 sender (reports interrupt 15 16)
    ∷ line 18 sender (requests_mask bulk)
    ∷ line 19 sender (requests_mask bulk)
    ∷ line 20 sender (answers nothing 18 19)
    ∷ line 21 sender (plain Cancel)
    ∷ line 22 sender (plain Filter)
    ∷ line 23 sender (plain Filter)
    ∷ line 24 sender (plain Ack)
    ∷ line 25 sender (starts bulk)
    ∷ line 26 sender (requests_on bulk)
    ∷ line 27 sender (reports bulk 25 26)
    ∷ line 100 guest (requests_on control)
    ∷ line 100 host (answers endpoint 100 100)
    ∷ line 101 guest (requests_on bulk)
    ∷ line 101 host (answers endpoint 101 101)
    ∷ line 102 guest (streams_out iso)
    ∷ line 102 host (streams_in iso)
    ∷ line 103 guest (requests_on interrupt)
    ∷ line 103 host-in (streams_in interrupt)
    ∷ line 103 host-out (answers endpoint 103 103)
    ∷ line 104 sender (streams_in bulk)
    ∷ []

-- ---- the line of a packet, by its kind, its sender and whether its endpoint is IN

abbrev pub admits : Who → Side → Bool → Bool
admits sender from inward = true
admits guest from inward = is_guest from
admits host from inward = not (is_guest from)
admits host-in from inward = not (is_guest from) && inward
admits host-out from inward = not (is_guest from) && not inward

-- every kind has a line for whoever may send it (`one_line` in Examples), so the empty list is never reached
abbrev pub look_up : List Line → Side → ℕ → Bool → Meaning
look_up [] from kind inward = plain Cancel
look_up (l ∷ ls) from kind inward = cond (eqb kind l.kind && admits l.who from inward) l.meaning (look_up ls from kind inward)
