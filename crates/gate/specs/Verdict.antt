-- A whole packet: its number, what is handed out, and the session after it.
-- Assumes nothing: these are definitions.
use Rattle.std.specs.Prelude.{ℕ, true, cond, List, eqb, Option, None, Result, Ok, Err, Some}
use Rattle.header.specs.declared.Header.{Header}
use Rattle.header.specs.declared.Link.{Link}
use Rattle.header.specs.declared.Side.{Side}
use Rattle.header.specs.Header.{kind_of}
use Rattle.kinds.specs.Codec.{decode, read_number}
use Rattle.device.specs.declared.Head.{Head}
use Rattle.device.specs.declared.Rows.{Rows}
use Rattle.packet.specs.declared.Packet.{Packet}
use Rattle.decoder.specs.Reading.{PacketTold, told, read_of}
use Rattle.events.specs.Event.{event_of}
use Rattle.checks.specs.declared.Change.{Change}
use Rattle.session.specs.declared.Session.{Session}
use Rattle.session.specs.Session.{link_of, held_in, held_to}
use Rattle.session.specs.Step.{applied, judged}

-- ---- the held bytes of a direction, and a stop

abbrev pub held_of : Side → Session → ℕ
held_of from s = held_in from s.head

-- the session with so many bytes held in a direction
abbrev pub held_as : Side → ℕ → Session → Session
held_as from n s = record { head = held_to from n s.head.stopped s.head; rows = s.rows; requests = s.requests; watch = s.watch }

abbrev pub stopped_in : Head → Head
stopped_in h = record { guest = h.guest; host = h.host; stopped = true; held = h.held; present = h.present; introduction = h.introduction; owed = h.owed }

abbrev pub stopped_now : Session → Session
stopped_now s = record { head = stopped_in s.head; rows = s.rows; requests = s.requests; watch = s.watch }

-- ---- the verdict

-- "A hello refused with 23, 24 or 13 (that order) is taken whole and stops it too. All other refusals take the whole packet, drop it
-- and go on."
abbrev pub refused_as : Session → ℕ → Session
refused_as s kind = cond (eqb kind 0) (stopped_now s) s

-- what a verdict says: the header, the content and the part of the packet that is handed out, as a reading tells them
pub record VerdictTold : Type 0 where
  pub session : Session
  pub number : ℕ
  pub handed : Option PacketTold

-- "10 to 24 are the wire checks, 25 to 34 the session checks": of a packet that passed them all, "what the reader hands out is that reading"
unfoldable pub verdict_of : Session → Side → List ℕ → VerdictTold
verdict_of s from bytes =
    cond (eqb (read_number (link_of from s) bytes) 0)
    (record {
      session = (judged s (event_of from (decode (link_of from s) bytes))).session;
      number = (judged s (event_of from (decode (link_of from s) bytes))).number;
      handed = cond (eqb (judged s (event_of from (decode (link_of from s) bytes))).number 0) (read_of (link_of from s) bytes).handed None;
    })
    (record { session = refused_as s (kind_of bytes); number = read_number (link_of from s) bytes; handed = None })

-- ---- what the code's types say

-- what is handed out: nothing, or the header and the packet
abbrev pub Handed : Type 0
Handed = Option (Header × Packet)

abbrev pub handed_as : Link → List ℕ → Handed → Option PacketTold
handed_as l bytes None = None
handed_as l bytes (Some (h, p)) = (told l bytes (Ok (h, p))).handed

-- the verdict by a ruling, with what is handed out and the rows announced if it passes
abbrev pub ruled_as : Session → Side → Option PacketTold → Rows → Result Change ℕ → VerdictTold
ruled_as s from out new (Err n) = record { session = s; number = n; handed = None }
ruled_as s from out new (Ok c) = record { session = applied s from c new; number = 0; handed = out }
