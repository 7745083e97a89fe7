-- A reader call: its number, the bytes that it takes of its piece, the session and the holding buffer after it, and what it hands out.
-- Assumes nothing: these are definitions.
use Rattle.std.specs.Prelude.{ℕ, ◌+◌, ◌-◌, ◌≤◌, Bool, cond, not, ◌&&◌, ◌||◌, List, [], ◌++◌, length, take, drop, eqb, ltb, Option, None, Some}
use Rattle.std.proofs.lemmas.List.Edits.{sets}
use Rattle.header.specs.declared.Side.{Side}
use Rattle.header.specs.declared.Link.{Link}
use Rattle.header.specs.Link.{passed, own}
use Rattle.packet.specs.Packet.{in_part, rest_of}
use Rattle.decoder.specs.Reading.{PacketTold}
use Rattle.session.specs.declared.Session.{Session}
use Rattle.session.specs.Session.{link_of, unfit}
use Rattle.frame.specs.Cut.{Cut, more, bad, whole}
use Rattle.frame.specs.declared.Location.{Location}
use Rattle.frame.specs.declared.Location.TheVariants.{Nowhere}
use Rattle.frame.specs.Frame.{head_size, cut_at, is_more, completed, location_for, bytes_at}
use Rattle.gate.specs.Verdict.{Handed}
use Rattle.gate.specs.declared.Offered.{Offered}
use Rattle.gate.specs.Verdict.{held_of, held_as, stopped_now, VerdictTold, verdict_of, handed_as}
use Rattle.header.specs.Header.{hold_size}

-- ---- the held bytes of a direction: "Bytes of an unfinished packet are kept at its front"

abbrev pub held_bytes : Side → Session → List ℕ → List ℕ
held_bytes from s hold = take (held_of from s) hold

-- ---- calls that take nothing: 41, 43, 3, 2, in that order

-- "own hello passed, other's not"
abbrev pub is_waiting : Link → Bool
is_waiting l = passed (own l) && not (passed l.guest && passed l.host)

-- "held bytes of this direction already a whole packet or a header for 10 to 12"
abbrev pub held_whole : Side → Session → List ℕ → Bool
held_whole from s hold = not (is_more (cut_at (link_of from s) (held_bytes from s hold)))

-- "Order: 41, 3, 2, then 1 for an incomplete packet, with 43 right after 41"; 0 where the call can go on
unfoldable pub barred : Side → Session → List ℕ → ℕ
barred from s hold =
    cond (ltb (length hold) hold_size) 41
    (cond (unfit s || held_whole from s hold) 43
    (cond s.head.stopped 3
    (cond (is_waiting (link_of from s)) 2 0)))

-- ---- what a call gives and leaves

pub record Outcome : Type 0 where
  pub session : Session
  pub number : ℕ
  pub taken : ℕ
  -- where the packet or the refused header lies, and its size
  pub location : Location
  pub size : ℕ
  -- at 0, the header, the content and the part of the packet
  pub handed : Option PacketTold
  pub hold : List ℕ

-- "takes nothing"; "nothing taken or changed"
abbrev pub unmoved : Session → List ℕ → ℕ → Outcome
unmoved s hold n = record { session = s; number = n; taken = 0; location = Nowhere; size = 0; handed = None; hold = hold }

-- 1: "piece used up, packet not whole"; it is kept behind what is held
abbrev pub kept : Side → Session → List ℕ → List ℕ → Outcome
kept from s hold piece =
    record {
      session = held_as from (held_of from s + length piece) s;
      number = 1;
      taken = length piece;
      location = Nowhere;
      size = 0;
      handed = None;
      hold = sets hold (held_of from s) piece;
    }

-- "10, 11, 12 .. take just the header, and stop the session": a header of so many bytes, refused with n
abbrev pub header_refused : Side → Session → List ℕ → List ℕ → ℕ → ℕ → Outcome
header_refused from s hold piece n size =
    record {
      session = stopped_now (held_as from 0 s);
      number = n;
      taken = size - held_of from s;
      location = location_for (held_of from s);
      size = size;
      handed = None;
      hold = completed hold (held_of from s) piece size;
    }

-- a whole packet of so many bytes: the first of what is held with the piece behind it; "After any answer but 1, 2, 3, 41 or 43 the held
-- count is 0"
abbrev pub packet_taken : Side → Session → List ℕ → List ℕ → VerdictTold → ℕ → Outcome
packet_taken from s hold piece v size =
    record {
      session = v.session;
      number = v.number;
      taken = size - held_of from s;
      location = location_for (held_of from s);
      size = size;
      handed = v.handed;
      hold = completed hold (held_of from s) piece size;
    }

abbrev pub by_cut : Side → Session → List ℕ → List ℕ → Cut → Outcome
by_cut from s hold piece more = kept from s hold piece
by_cut from s hold piece (bad n) = header_refused from s hold piece n (head_size (link_of from s) (held_bytes from s hold ++ piece))
by_cut from s hold piece (whole n) = packet_taken from s hold piece (verdict_of (held_as from 0 s) from (take n (held_bytes from s hold ++ piece))) n

-- "A reader call ends at its first answer and reports bytes taken."
unfoldable pub offer_of : Side → Session → List ℕ → List ℕ → Outcome
offer_of from s hold piece =
    cond (eqb (barred from s hold) 0)
    (by_cut from s hold piece (cut_at (link_of from s) (held_bytes from s hold ++ piece)))
    (unmoved s hold (barred from s hold))

-- ---- what the code's types say

-- what is handed out is read off the bytes where they lie when the call is over
abbrev pub outcome : Link → Offered → List ℕ → List ℕ → Outcome
outcome l r piece hold =
    record {
      session = r.session;
      number = r.answer.number;
      taken = r.answer.taken;
      location = r.answer.location;
      size = r.answer.size;
      handed = handed_as l (bytes_at r.answer.location r.answer.size piece hold) r.answer.handed;
      hold = hold;
    }

-- the body of a packet that is handed out, behind its header, and the part of it that the packet names
abbrev pub body_in : Handed → List ℕ → List ℕ
body_in None bytes = []
body_in (Some (h, p)) bytes = drop h.size bytes

abbrev pub data_in : Handed → List ℕ → List ℕ
data_in None bytes = []
data_in (Some (h, p)) bytes = in_part (rest_of p) (drop h.size bytes)

-- the bytes of a whole packet of n bytes can be held and are there
pub record WholeHere (hold piece : List ℕ) (held n : ℕ) : Type 0 where
  pub room : n ≤ length hold
  pub begun : held ≤ n
  pub there : n ≤ held + length piece
