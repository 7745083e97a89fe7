-- C-12: "every status byte is allowed": a packet has the same number with any status (`any-status`), and so it has for the writer
-- (`any-status-written`). In the bytes, a packet with another status is a body with another byte in one place (`status-byte`), so its number does
-- not depend on that byte (`any-status-byte`).
-- Assumes nothing: these are definitions, examples by computation, and the statements that `proofs/AnyStatus.antt` and
-- `proofs/StatusByte.antt` prove.
use Rattle.std.specs.Prelude.{ℕ, ◌+◌, Bool, true, false, cond, ◌||◌, List, [], ◌∷◌, ◌++◌, ◌≡◌, refl, length, replicate, set, Some, None}
use lib.Text.{eqt}
use Rattle.header.specs.declared.Link.{Link}
use Rattle.header.specs.Link.{shared_set}
use Rattle.kinds.specs.Table.{Bits, Field, Kind, kinds}
use Rattle.kinds.specs.Content.{Value, one, Content, packet_of, shared, size_of}
use Rattle.kinds.specs.Number.{wire_number}
use Rattle.kinds.specs.Codec.{layout, content_at, write_number}

-- ---- a packet with another status

-- x in the place of each of a field's numbers; a status has one
abbrev pub replaced_by : ℕ → Value → Value
replaced_by x None = None
replaced_by x (Some xs) = Some (replicate (length xs) x)

abbrev pub status_in : ℕ → List Field → List Value → List Value
status_in x [] vs = vs
status_in x (f ∷ fs) [] = []
status_in x (f ∷ fs) (v ∷ vs) = cond (eqt "status" f.name) (replaced_by x v) v ∷ status_in x fs vs

abbrev pub with_status : ℕ → Content → Content
with_status x p = record { kind = p.kind; id = p.id; fields = status_in x (layout p.kind) p.fields; rest = p.rest }

-- the eleven kinds that have a status, whatever their other fields hold; and 12, which has none
pub with-status : (x id s : ℕ) (a b c d e f : Value) (rest : List ℕ)
    → (with_status x (packet_of 8 id (one s ∷ a ∷ []) rest) ≡ packet_of 8 id (one x ∷ a ∷ []) rest)
    × (with_status x (packet_of 11 id (one s ∷ a ∷ b ∷ []) rest) ≡ packet_of 11 id (one x ∷ a ∷ b ∷ []) rest)
    × (with_status x (packet_of 14 id (one s ∷ a ∷ []) rest) ≡ packet_of 14 id (one x ∷ a ∷ []) rest)
    × (with_status x (packet_of 17 id (one s ∷ a ∷ []) rest) ≡ packet_of 17 id (one x ∷ a ∷ []) rest)
    × (with_status x (packet_of 20 id (a ∷ b ∷ one s ∷ []) rest) ≡ packet_of 20 id (a ∷ b ∷ one x ∷ []) rest)
    × (with_status x (packet_of 27 id (a ∷ b ∷ one s ∷ []) rest) ≡ packet_of 27 id (a ∷ b ∷ one x ∷ []) rest)
    × (with_status x (packet_of 100 id (a ∷ b ∷ c ∷ one s ∷ d ∷ e ∷ f ∷ []) rest) ≡ packet_of 100 id (a ∷ b ∷ c ∷ one x ∷ d ∷ e ∷ f ∷ []) rest)
    × (with_status x (packet_of 101 id (a ∷ one s ∷ b ∷ c ∷ d ∷ []) rest) ≡ packet_of 101 id (a ∷ one x ∷ b ∷ c ∷ d ∷ []) rest)
    × (with_status x (packet_of 102 id (a ∷ one s ∷ b ∷ []) rest) ≡ packet_of 102 id (a ∷ one x ∷ b ∷ []) rest)
    × (with_status x (packet_of 103 id (a ∷ one s ∷ b ∷ []) rest) ≡ packet_of 103 id (a ∷ one x ∷ b ∷ []) rest)
    × (with_status x (packet_of 104 id (a ∷ b ∷ c ∷ one s ∷ []) rest) ≡ packet_of 104 id (a ∷ b ∷ c ∷ one x ∷ []) rest)
    × (with_status x (packet_of 12 id (a ∷ b ∷ c ∷ []) rest) ≡ packet_of 12 id (a ∷ b ∷ c ∷ []) rest)
unfolding layout kinds
with-status x id s a b c d e f rest = (refl, refl, refl, refl, refl, refl, refl, refl, refl, refl, refl, refl)

-- ---- where the status stands

-- some field is a status
abbrev pub has_status : List Field → Bool
has_status [] = false
has_status (f ∷ fs) = eqt "status" f.name || has_status fs

-- its place, counted from the body's first byte; `has` says which fields are there
abbrev pub status_at : (Bits → Bool) → List Field → ℕ
status_at has [] = 0
status_at has (f ∷ fs) = cond (eqt "status" f.name) 0 (size_of has f + status_at has fs)

-- the numbers of the kinds that have a status, each with its place
abbrev places : (Bits → Bool) → List Kind → List (ℕ × ℕ)
places has [] = []
places has (k ∷ ks) = cond (has_status k.fields) ((k.number, status_at has k.fields) ∷ []) [] ++ places has ks

-- the same whatever has been shared
pub status-places : (caps : ℕ) → places (shared caps) kinds
    ≡ ((8, 0) ∷ (11, 0) ∷ (14, 0) ∷ (17, 0) ∷ (20, 8) ∷ (27, 5) ∷ (100, 3) ∷ (101, 1) ∷ (102, 1) ∷ (103, 1) ∷ (104, 9) ∷ [])
unfolding kinds
status-places caps = refl

-- ---- the statements

-- of every packet and both ends, whatever has been shared
abbrev pub AnyStatus : Type 0
AnyStatus = (l : Link) (p : Content) (x : ℕ) → wire_number l (with_status x p) ≡ wire_number l p

-- and of a packet to be written into so many bytes, 10 to 12 and 40 included
abbrev pub AnyStatusWritten : Type 0
AnyStatusWritten = (l : Link) (p : Content) (x room : ℕ) → write_number l (with_status x p) room ≡ write_number l p room

-- a body with another byte in the place of its status reads as the packet with that status, a body that is cut short too
abbrev pub StatusByte : Type 0
StatusByte = (caps kind id : ℕ) (body : List ℕ) (x : ℕ) → has_status (layout kind) ≡ true
    → content_at caps kind id (set body (status_at (shared caps) (layout kind)) x) ≡ with_status x (content_at caps kind id body)

-- so the number of a body that was read does not depend on its status byte
abbrev pub AnyStatusByte : Type 0
AnyStatusByte = (l : Link) (kind id : ℕ) (body : List ℕ) (x : ℕ) → has_status (layout kind) ≡ true
    → wire_number l (content_at (shared_set l) kind id (set body (status_at (shared (shared_set l)) (layout kind)) x)) ≡ wire_number l (content_at (shared_set l) kind id body)
