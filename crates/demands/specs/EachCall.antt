-- Each call, in the words of document 01 and without the definitions' own tests: the number of a reader call, in its order (`AlwaysBars`), that of a
-- writer call (`AlwaysShuts`), what a reader call takes and leaves of the buffer, and where the packet lies (`AlwaysLeaves`), and when it stops the
-- session (`Stops`).
-- Assumes nothing: these are definitions and statements.
use Rattle.std.specs.Prelude.{ℕ, ◌≤◌, ◌<◌, ◌+◌, Bool, true, false, cond, ◌&&◌, ◌||◌, List, [], ◌∷◌, ◌++◌, ◌≡◌, eqb, ltb, drop, length, take}
use Rattle.std.proofs.lemmas.List.Edits.{sets}
use Rattle.header.specs.declared.Side.{Side}
use Rattle.header.specs.declared.Side.TheVariants.{Guest, Host}
use Rattle.header.specs.Link.{passed}
use Rattle.header.specs.Header.{kind_of, length_of, header_number}
use Rattle.kinds.specs.Content.{Content}
use Rattle.kinds.specs.Codec.{encode, or_next, body_length}
use Rattle.kinds.specs.Number.{wire_number}
use Rattle.frame.specs.Cut.{more, bad, whole}
use Rattle.frame.specs.Frame.{cut_at, head_size, head_number, bytes_at}
use Rattle.checks.specs.Checks.{first_of}
use Rattle.session.specs.declared.Session.{Session}
use Rattle.session.specs.Session.{link_of}
use Rattle.gate.specs.Verdict.{held_of}
use Rattle.gate.specs.Offer.{Outcome, held_bytes, offer_of}
use Rattle.gate.specs.Write.{write_by}
use Rattle.gate.specs.Ready.{Fit}
use Rattle.claims.specs.Allowed.{among}
use Rattle.claims.specs.NumberByKind.{checks_by}
use Rattle.demands.specs.Demand2.{packet_at}
use Rattle.demands.specs.CallLists.{ends_packet}

-- ---- 2: "own hello passed, other's not"

abbrev pub own_passed : Side → Session → Bool
own_passed Guest s = passed s.head.guest
own_passed Host s = passed s.head.host

abbrev pub other_passed : Side → Session → Bool
other_passed Guest s = passed s.head.host
other_passed Host s = passed s.head.guest

-- ---- the reader's order: 41, 43, 3, 2, then 1, or 10 to 12, or the number of a whole packet

-- "held bytes of this direction already a whole packet or a header for 10 to 12" does not hold
abbrev pub Unfinished : Side → Session → List ℕ → Type 0
Unfinished from s hold = cut_at (link_of from s) (held_bytes from s hold) ≡ more

-- none of 41, 43, 3 and 2 holds
pub record Goes (from : Side) (s : Session) (hold : List ℕ) : Type 0 where
  pub room : 32784 ≤ length hold
  pub fit : Fit s
  pub begun : Unfinished from s hold
  pub running : s.head.stopped ≡ false
  pub hello-answered : own_passed from s ≡ true → other_passed from s ≡ true

-- 10, 11 and 12
abbrev pub of_header : ℕ → Bool
of_header n = among (10 ∷ 11 ∷ 12 ∷ []) n

-- the number of a call. "Order: 41, 3, 2, then 1 for an incomplete packet, with 43 right after 41."
pub record Bars (from : Side) (s : Session) (hold piece : List ℕ) (n : ℕ) : Type 0 where
  -- "holding buffer under 32,784 bytes"
  pub short : length hold < 32784 → n ≡ 41
  -- "session not one the gate can leave"
  pub unfit : 32784 ≤ length hold → (Fit s × Unfinished from s hold → ⊥) → n ≡ 43
  -- "session stopped"
  pub stopped : 32784 ≤ length hold → Fit s → Unfinished from s hold → s.head.stopped ≡ true → n ≡ 3
  -- "own hello passed, other's not"
  pub waiting : 32784 ≤ length hold → Fit s → Unfinished from s hold → s.head.stopped ≡ false → own_passed from s ≡ true → other_passed from s ≡ false → n ≡ 2
  -- "piece used up, packet not whole"
  pub not-whole : Goes from s hold → cut_at (link_of from s) (held_bytes from s hold ++ piece) ≡ more → n ≡ 1
  -- "But 10, 11, 12 (that order) fall when the header is whole"
  pub header : Goes from s hold → (m : ℕ) → cut_at (link_of from s) (held_bytes from s hold ++ piece) ≡ bad m → (n ≡ head_number (link_of from s) (held_bytes from s hold ++ piece)) × (of_header n ≡ true)
  -- "10 to 24 are the wire checks, 25 to 34 the session checks."
  pub packet : Goes from s hold → (m : ℕ) → cut_at (link_of from s) (held_bytes from s hold ++ piece) ≡ whole m
      → n ≡ or_next (wire_number (link_of from s) (packet_at from s hold piece m)) (first_of (checks_by s from (packet_at from s hold piece m)))

-- of every reader call (`bars`)
abbrev pub AlwaysBars : Type 0
AlwaysBars =
    (from : Side) (s : Session) (hold piece : List ℕ) → Bars from s hold piece (offer_of from s hold piece).number

-- ---- the writer's order: 43, 3, and 2 for a non-hello, then the wire checks, then 40

-- "It gives 43 (held bytes untested), 3, 2 (for a non-hello) as the reader does, then makes the wire checks, 10 to 12 included, then 40, and
-- accepts all else."
pub record Shuts (from : Side) (s : Session) (p : Content) (room n : ℕ) : Type 0 where
  pub unfit : (Fit s → ⊥) → n ≡ 43
  pub stopped : Fit s → s.head.stopped ≡ true → n ≡ 3
  pub waiting : Fit s → s.head.stopped ≡ false → (p.kind ≡ 0 → ⊥) → own_passed from s ≡ true → other_passed from s ≡ false → n ≡ 2
  pub going : Fit s → s.head.stopped ≡ false → ((p.kind ≡ 0 → ⊥) → own_passed from s ≡ true → other_passed from s ≡ true)
      → n
      ≡ or_next (header_number (link_of from s) p.kind (body_length (link_of from s) p))
      (or_next (wire_number (link_of from s) p) (cond (ltb room (length (encode (link_of from s) p))) 40 0))

-- of every writer call (`shuts`)
abbrev pub AlwaysShuts : Type 0
AlwaysShuts = (from : Side) (s : Session) (p : Content) (room : ℕ) → Shuts from s p room (write_by from s p room)

-- ---- what a call leaves

-- 2, 3, 41 and 43
abbrev pub takes_nothing : ℕ → Bool
takes_nothing n = among (2 ∷ 3 ∷ 41 ∷ 43 ∷ []) n

-- what a call does to the session and the buffer, what it takes, and where the packet lies, by its number
pub record CallLeaves (from : Side) (s : Session) (hold piece : List ℕ) (o : Outcome) : Type 0 where
  -- "takes nothing"; "nothing taken or changed"
  pub unmoved : takes_nothing o.number ≡ true → (o.session ≡ s) × (o.hold ≡ hold) × (o.taken ≡ 0)
  -- 1: "piece used up", kept behind what is held
  pub used-up : o.number ≡ 1 → (o.taken ≡ length piece) × (o.hold ≡ sets hold (held_of from s) piece)
  -- any other answer: "A packet that lies whole in the piece isn't copied."
  pub uncopied : ends_packet o.number ≡ true → held_of from s ≡ 0 → o.hold ≡ hold
  -- "a packet begun there, or a header that 10 to 12 refuse, is completed there and stays readable"
  pub readable : ends_packet o.number ≡ true → bytes_at o.location o.size piece o.hold ≡ take o.size (held_bytes from s hold ++ piece)
  -- "the rest of that buffer is unchanged"
  pub rest : ends_packet o.number ≡ true → drop o.size o.hold ≡ drop o.size hold
  -- and what is taken are the bytes of the piece up to its end
  pub taken : ends_packet o.number ≡ true → held_of from s + o.taken ≡ o.size
  -- 10, 11, 12 "take just the header"
  pub header-size : of_header o.number ≡ true → o.size ≡ head_size (link_of from s) (held_bytes from s hold ++ piece)
  -- "A hello refused with 23, 24 or 13 .. is taken whole"; "All other refusals take the whole packet"; and so does 0
  pub packet-size : ends_packet o.number ≡ true → of_header o.number ≡ false
      → o.size ≡ head_size (link_of from s) (held_bytes from s hold ++ piece) + length_of (held_bytes from s hold ++ piece)

-- of every reader call (`leaves`)
abbrev pub AlwaysLeaves : Type 0
AlwaysLeaves =
    (from : Side) (s : Session) (hold piece : List ℕ) → CallLeaves from s hold piece (offer_of from s hold piece)

-- "After any answer but 1, 2, 3, 41 or 43 the held count is 0."
abbrev pub HeldNone : Type 0
HeldNone =
    (d : Side) (s : Session) (hold piece : List ℕ) → ends_packet (offer_of d s hold piece).number ≡ true → held_of d (offer_of d s hold piece).session ≡ 0

-- ---- when the session stops

-- "10, 11, 12 .. stop the session. A hello refused with 23, 24 or 13 (that order) is taken whole and stops it too."
abbrev pub stopping : ℕ → ℕ → Bool
stopping kind n = of_header n || (eqb kind 0 && among (13 ∷ 23 ∷ 24 ∷ []) n)

-- after a call the session is stopped exactly if it was, or by such a number
abbrev pub Stops : Type 0
Stops =
    (from : Side) (s : Session) (hold piece : List ℕ)
    → (offer_of from s hold piece).session.head.stopped ≡ (s.head.stopped || stopping (kind_of (held_bytes from s hold ++ piece)) (offer_of from s hold piece).number)
