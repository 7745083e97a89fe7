-- Reader and writer of one direction over any state, what a list of reader calls does, and demand 3 as one statement over the lists.
-- Assumes nothing: these are definitions. What stands in quotes is demand 3's or document 01's.
use Rattle.std.specs.Prelude.{ℕ, ◌+◌, ◌-◌, ◌≤◌, min, ◌≡◌, List, [], ◌∷◌, ◌++◌, Bool, true, false, cond, ◌&&◌, ◌||◌, length, take, drop, leb, eqb}
use Rattle.frame.specs.Cut.{more, whole}
use Rattle.wire.specs.Wire.{OneOf, Wire, cut}

-- ---- the reader

-- "A reader call ends at its first answer and reports bytes taken": its number, the bytes taken of its piece, the state after it,
-- and the packets that it hands out
pub record Answer (P X : Type 0) : Type 0 where
  pub number : ℕ
  pub taken : ℕ
  pub next : X
  pub handed : List P

pub record Reader (N : Wire) : Type 1 where
  -- the state: session and both holding buffers
  pub X : Type 0
  -- what a call for the other direction is given: "with whatever the other end sends between"
  pub O : Type 0
  -- of a state: what the direction's wire checks depend on, whether the session is stopped, and the bytes that the direction holds
  pub ctx : X → N.K
  pub stopped : X → Bool
  pub held : X → List ℕ
  -- what every call keeps: "both hellos passed", a session "that 43 doesn't refuse", "a buffer that 41 allows"
  pub Sound : X → Type 0
  -- a call for the direction, with its piece; and the state after a call for the other direction
  pub read : X → List ℕ → Answer N.P X
  pub other : X → O → X

-- "A packet comes out of the wire checks when a call answers 0 or a session check's number"; "25 to 34 the session checks"
unfoldable pub comes_out : ℕ → Bool
comes_out n = eqb n 0 || (leb 25 n && leb n 34)

module _ (N : Wire) (R : Reader N) where
  -- ---- the laws, each of one call from the state x

  -- what the state y after it has of x
  pub record Kept (x y : R.X) : Type 0 where
    pub ctx : R.ctx y ≡ R.ctx x
    pub sound : R.Sound y

  -- 3, "session stopped: takes nothing"
  pub record Stopped (x : R.X) (piece : List ℕ) : Type 0 where
    pub number : comes_out (R.read x piece).number ≡ false
    pub taken : (R.read x piece).taken ≡ 0
    pub next : (R.read x piece).next ≡ x
    pub handed : (R.read x piece).handed ≡ []

  -- 1, "piece used up, packet not whole"
  pub record Part (x : R.X) (piece : List ℕ) : Type 0 where
    pub number : (R.read x piece).number ≡ 1
    pub taken : (R.read x piece).taken ≡ length piece
    pub held : R.held (R.read x piece).next ≡ R.held x ++ piece
    pub handed : (R.read x piece).handed ≡ []
    pub running : R.stopped (R.read x piece).next ≡ false
    pub kept : Kept x (R.read x piece).next

  -- the packet q, of n bytes, is whole
  pub record Full (x : R.X) (piece : List ℕ) (n : ℕ) (q : N.P) : Type 0 where
    pub number : comes_out (R.read x piece).number ≡ true
    pub taken : (R.read x piece).taken ≡ n - length (R.held x)
    pub held : R.held (R.read x piece).next ≡ []
    pub handed : (R.read x piece).handed ≡ cond (eqb (R.read x piece).number 0) (q ∷ []) []
    pub running : R.stopped (R.read x piece).next ≡ false
    pub kept : Kept x (R.read x piece).next

  -- a running session whose held bytes 43 allows: at most 32,783, no "whole packet" and no "header for 10 to 12"
  pub record Open (x : R.X) : Type 0 where
    pub sound : R.Sound x
    pub running : R.stopped x ≡ false
    pub count : length (R.held x) ≤ 32783
    pub begun : cut N (R.ctx x) (R.held x) ≡ more

  pub record ReaderLaws : Type 0 where
    pub stopped : (x : R.X) (piece : List ℕ) → R.Sound x → R.stopped x ≡ true → Stopped x piece
    pub part : (x : R.X) (piece : List ℕ) → Open x → cut N (R.ctx x) (R.held x ++ piece) ≡ more → Part x piece
    -- only of packets that a writer accepts
    pub full : (x : R.X) (piece : List ℕ) (n : ℕ) (q : N.P) → Open x → cut N (R.ctx x) (R.held x ++ piece) ≡ whole n
        → N.wire_no (R.ctx x) (take n (R.held x ++ piece)) ≡ 0 → N.decode (R.ctx x) (take n (R.held x ++ piece)) ≡ q
        → N.Accepted (R.ctx x) q → Full x piece n q
    -- a call for the other direction may stop the session
    pub other : (x : R.X) (o : R.O) → R.Sound x → Kept x (R.other x o)
    pub other-held : (x : R.X) (o : R.O) → R.Sound x → R.held (R.other x o) ≡ R.held x

  -- ---- a list of calls

  -- one for this direction, with its piece, or one for the other
  pub data Call : Type 0 where
    this-way : List ℕ → Call
    other_way : R.O → Call

  -- what a call for this direction found, was given and answered
  pub record Step : Type 0 where
    pub before : R.X
    pub piece : List ℕ
    pub answer : Answer N.P R.X

  -- the calls for this direction. "Each later reader call, for either direction, gets session and holding buffer as the calls before
  -- it left them; nobody else writes these."
  unfoldable pub run : R.X → List Call → List Step
  run x [] = []
  run x (this-way piece ∷ cs) = record { before = x; piece = piece; answer = R.read x piece } ∷ run (R.read x piece).next cs
  run x (other_way o ∷ cs) = run (R.other x o) cs

  -- "It is the reading of the bytes taken for it": of those held, and of those taken of the piece
  abbrev pub reading : Step → N.P
  reading t = N.decode (R.ctx t.before) (R.held t.before ++ take t.answer.taken t.piece)

  -- "the packets that came out of the wire checks in that direction"
  unfoldable pub outs : List Step → List N.P
  outs [] = []
  outs (t ∷ ts) = cond (comes_out t.answer.number) (reading t ∷ []) [] ++ outs ts

  -- how many bytes were taken
  unfoldable pub taken : List Step → ℕ
  taken [] = 0
  taken (t ∷ ts) = t.answer.taken + taken ts

  -- "its pieces, empty ones too, are cut from the joined bytes at the first not yet taken"
  abbrev pub Cuts : List Step → List ℕ → Type 0
  Cuts [] bytes = Unit {0}
  Cuts (t ∷ ts) bytes = ((rest : List ℕ) × (t.piece ++ rest ≡ bytes)) × Cuts ts (drop t.answer.taken bytes)

-- with n bytes taken of the packets' bytes: those "whose bytes were all taken"
unfoldable pub within : (N : Wire) → N.K → ℕ → List N.P → List N.P
within N k n [] = []
within N k n (p ∷ ps) = cond (leb (length (N.encode k p)) n) (p ∷ within N k (n - length (N.encode k p)) ps) []

-- and the bytes left "up to the end of the packet under way", 0 where there is none
unfoldable pub left : (N : Wire) → N.K → ℕ → List N.P → ℕ
left N k n [] = 0
left N k n (p ∷ ps) =
    cond (leb (length (N.encode k p)) n) (left N k (n - length (N.encode k p)) ps) (length (N.encode k p) - n)

-- Of each call, with n bytes taken before the first. "Until the other end stops the session, each call for that direction takes its
-- piece up to the end of the packet under way": so does a call that finds the session running, and it leaves it running. "at 0 what
-- the reader hands out is that reading": and at any other number nothing.
abbrev pub Steady : (N : Wire) (R : Reader N) → N.K → List N.P → ℕ → List (Step N R) → Type 0
Steady N R k ps n [] = Unit {0}
Steady N R k ps n (t ∷ ts) =
    (R.stopped t.before ≡ false → (t.answer.taken ≡ min (length t.piece) (left N k n ps)) × (R.stopped t.answer.next ≡ false))
    × (t.answer.handed ≡ cond (eqb t.answer.number 0) (reading N R t ∷ []) [])
    × Steady N R k ps (n + t.answer.taken) ts

-- "each field not shared is shown as absent", in each packet of a list
abbrev pub AllAbsent : (N : Wire) → N.K → List N.P → Type 0
AllAbsent N k [] = Unit {0}
AllAbsent N k (p ∷ ps) = N.Absent k p × AllAbsent N k ps

-- ---- the writer

-- "every writer call .. get the starting session": of a call w, its packet, its number, and the bytes that it puts out
pub record Writer (N : Wire) : Type 1 where
  pub W : Type 0
  pub packet : W → N.P
  pub number : W → ℕ
  pub put : W → List ℕ

pub record WriterLaws (N : Wire) (k : N.K) (Y : Writer N) : Type 0 where
  pub checked : (w : Y.W) → Y.number w ≡ 0 → N.Accepted k (Y.packet w)
  pub bytes : (w : Y.W) → Y.number w ≡ 0 → Y.put w ≡ N.encode k (Y.packet w)
  pub unshared : (w : Y.W) → N.Unshared k (Y.packet w) → OneOf N.unshared_numbers (Y.number w)
  pub unsuited : (w : Y.W) → N.Unsuited k (Y.packet w) → OneOf N.unsuited_numbers (Y.number w)

-- the packets of the calls that are accepted
unfoldable pub accepted : (N : Wire) (Y : Writer N) → List Y.W → List N.P
accepted N Y [] = []
accepted N Y (w ∷ ws) = cond (eqb (Y.number w) 0) (Y.packet w ∷ accepted N Y ws) (accepted N Y ws)

-- "For every list of writer calls for that direction, refused ones included, join the bytes that the accepted calls put out."
unfoldable pub joined : (N : Wire) (Y : Writer N) → List Y.W → List ℕ
joined N Y [] = []
joined N Y (w ∷ ws) = cond (eqb (Y.number w) 0) (Y.put w) [] ++ joined N Y ws

-- ---- demand 3

-- "any session that isn't stopped, both hellos passed .. and one direction at a packet's start"; "The direction starts with nothing held"
pub record Start (N : Wire) (R : Reader N) (x : R.X) : Type 0 where
  pub sound : R.Sound x
  pub running : R.stopped x ≡ false
  pub fresh : R.held x ≡ []

-- of the accepted packets ps and the reader's calls
pub record Read (N : Wire) (R : Reader N) (k : N.K) (ps : List N.P) (ts : List (Step N R)) : Type 0 where
  -- "the packets that came out of the wire checks in that direction are, in order, exactly the accepted ones whose bytes were all
  -- taken. Kind, fields and data are equal"
  pub out : outs N R ts ≡ within N k (taken N R ts) ps
  -- "and each field not shared is shown as absent."
  pub absent : AllAbsent N k (outs N R ts)
  pub steady : Steady N R k ps 0 ts

pub record Demand3 (N : Wire) (R : Reader N) (Y : Writer N) (x : R.X) : Type 0 where
  -- "For every list of reader calls that offers these bytes, in any cuts, with whatever the other end sends between"
  pub read : (ws : List Y.W) (cs : List (Call N R)) → Cuts N R (run N R x cs) (joined N Y ws)
      → Read N R (R.ctx x) (accepted N Y ws) (run N R x cs)
  -- "What the shared set doesn't allow, the writer refuses by number."
  pub unshared : (w : Y.W) → N.Unshared (R.ctx x) (Y.packet w) → OneOf N.unshared_numbers (Y.number w)
  pub unsuited : (w : Y.W) → N.Unsuited (R.ctx x) (Y.packet w) → OneOf N.unsuited_numbers (Y.number w)
  -- "Two different lists of accepted packets from one start and direction never give the same bytes"
  pub apart : (vs ws : List Y.W) → joined N Y vs ≡ joined N Y ws → accepted N Y vs ≡ accepted N Y ws
  -- "and one's bytes begin the other's only if its list does."
  pub begins : (vs ws : List Y.W) (rest : List ℕ) → joined N Y vs ≡ joined N Y ws ++ rest
      → (more : List N.P) × (accepted N Y vs ≡ accepted N Y ws ++ more)
