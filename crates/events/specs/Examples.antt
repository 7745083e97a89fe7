-- The table of meanings against the lists of document 01, "Session rules", each by computation; and the word of a hello.
-- Assumes nothing.
use Rattle.std.specs.Prelude.{ℕ, suc, ◌+◌, ◌≡◌, refl, Bool, true, false, cond, not, ◌&&◌, ◌||◌, List, [], ◌∷◌, length, eqb, leb, Option, Some, None}
use Rattle.std.proofs.Common.{◌∙◌}
use Rattle.std.proofs.lemmas.Bool.{false≢true}
use Rattle.std.proofs.Math.Dec.{leb-zero, leb-suc-suc}
use Rattle.octets.specs.Little.{le}
use Rattle.header.specs.declared.Side.{Side}
use Rattle.header.specs.declared.Side.TheVariants.{Guest, Host}
use Rattle.kinds.specs.Table.{words, Kind, kinds}
use Rattle.kinds.specs.Content.{Value, one, Content, packet_of}
use Rattle.kinds.specs.Codec.{layout}
use Rattle.kinds.specs.Slots.{from}
use Rattle.kinds.specs.Number.{sends, tail_ok, is_none}
use Rattle.packet.specs.Rows.{word_of as rows_word}
use Rattle.device.specs.Device.{control, iso, bulk, interrupt, invalid}
use Rattle.events.specs.Meaning.{Class, Hello, Connect, Interfaces, Endpoints, Disconnect, Reset, Ack, Cancel, Filter, StartRequest, PlainRequest, StreamStatus, PlainReply, StreamOut, StreamIn, Who, sender, guest, host, host-in, Line, meanings, admits, look_up}
use Rattle.events.specs.Event.{field, event_of}
use Rattle.events.specs.Status.{is_success, is_stall}

-- ---- lines by their class

-- a number for each class, to compare them by
abbrev tag : Class → ℕ
tag Hello = 0
tag Connect = 1
tag Interfaces = 2
tag Endpoints = 3
tag Disconnect = 4
tag Reset = 5
tag Ack = 6
tag Cancel = 7
tag Filter = 8
tag StartRequest = 9
tag PlainRequest = 10
tag StreamStatus = 11
tag PlainReply = 12
tag StreamOut = 13
tag StreamIn = 14

-- a class is one of these
abbrev pub among : List Class → Class → Bool
among [] c = false
among (d ∷ ds) c = eqb (tag c) (tag d) || among ds c

-- what is shown of each line that passes the test
abbrev shown : {A : Type 0} → (Line → Bool) → (Line → A) → List Line → List A
shown p f [] = []
shown p f (l ∷ ls) = cond (p l) (f l ∷ shown p f ls) (shown p f ls)

-- a line's class is one of these
abbrev classed : List Class → Line → Bool
classed cs l = among cs l.meaning.class

abbrev requests : List Class
requests = StartRequest ∷ PlainRequest ∷ []

abbrev replies : List Class
replies = StreamStatus ∷ PlainReply ∷ []

-- "Guest kinds 6, 7, 9, 10, 12, 13, 15, 16, 18, 19, 25, 26, 100, 101, 103 take the lowest free place"
abbrev request_kinds : List ℕ
request_kinds = 6 ∷ 7 ∷ 9 ∷ 10 ∷ 12 ∷ 13 ∷ 15 ∷ 16 ∷ 18 ∷ 19 ∷ 25 ∷ 26 ∷ 100 ∷ 101 ∷ 103 ∷ []

-- ---- what a line answers and wants

-- a line's kind and the two kinds of request that it answers
abbrev pair_of : Line → ℕ × ℕ × ℕ
pair_of l = (l.kind, l.meaning.first, l.meaning.second)

-- a line names a kind of request that it answers
abbrev answering : Line → Bool
answering l = not (eqb l.meaning.first 0 && eqb l.meaning.second 0)

-- "Replies: 8 to 6 or 7; 11 to 9 or 10; 14 to 12 or 13; 17 to 15 or 16; 20 to 18 or 19; 27 to 25 or 26;
-- host 100, 101, and 103 OUT to their own kind."
abbrev reply_pairs : List (ℕ × ℕ × ℕ)
reply_pairs = (8, 6, 7) ∷ (11, 9, 10) ∷ (14, 12, 13) ∷ (17, 15, 16) ∷ (20, 18, 19) ∷ (27, 25, 26) ∷ (100, 100, 100) ∷ (101, 101, 101) ∷ (103, 103, 103) ∷ []

-- the lines that answer are those of the two classes of replies
pub pairs : (shown answering pair_of meanings ≡ reply_pairs) × (shown (classed replies) pair_of meanings ≡ reply_pairs)
unfolding meanings
pairs = (refl, refl)

-- a line wants a type
abbrev typed : Line → Bool
typed l = not (is_none l.meaning.wants)

abbrev or_invalid : Option ℕ → ℕ
or_invalid None = invalid
or_invalid (Some k) = k

-- a line's kind, whose packets it is about, and the type that it wants
abbrev type_of : Line → ℕ × Who × ℕ
type_of l = (l.kind, l.who, or_invalid l.meaning.wants)

-- "28: kinds 12, 13 and 102 want iso, 15, 16 and guest 103 interrupt, 18, 19 .., 25, 26, guest 101 and 104 bulk, guest 100 control;
-- host 103 IN wants interrupt"; and 14, 17, 27 move a stream "only where the row's type is that kind's"
pub typed-kinds : shown typed type_of meanings
    ≡ ((12, sender, iso) ∷ (13, sender, iso) ∷ (14, sender, iso)
    ∷ (15, sender, interrupt) ∷ (16, sender, interrupt) ∷ (17, sender, interrupt)
    ∷ (18, sender, bulk) ∷ (19, sender, bulk)
    ∷ (25, sender, bulk) ∷ (26, sender, bulk) ∷ (27, sender, bulk)
    ∷ (100, guest, control) ∷ (101, guest, bulk) ∷ (102, guest, iso) ∷ (102, host, iso)
    ∷ (103, guest, interrupt) ∷ (103, host-in, interrupt) ∷ (104, sender, bulk) ∷ [])
unfolding meanings
typed-kinds = refl

-- ---- the line of a packet

-- how many lines admit packets of a kind, from a sender, on an IN endpoint or not
abbrev admitting : List Line → Side → ℕ → Bool → ℕ
admitting [] from n inward = 0
admitting (l ∷ ls) from n inward = cond (eqb n l.kind && admits l.who from inward) 1 0 + admitting ls from n inward

-- one line admits each kind that the sender may send
abbrev once : List Kind → Side → Bool → Bool
once [] from inward = true
once (k ∷ ks) from inward = (not (sends k.sender from) || eqb (admitting meanings from k.number inward) 1) && once ks from inward

-- a number is a kind's
abbrev is_kind : List Kind → ℕ → Bool
is_kind [] n = false
is_kind (k ∷ ks) n = eqb n k.number || is_kind ks n

-- every line's kind is one of the table of kinds
abbrev listed : List Line → Bool
listed [] = true
listed (l ∷ ls) = is_kind kinds l.kind && listed ls

-- whoever sends, on an endpoint of either direction
pub one_line : (from : Side) (inward : Bool) → once kinds from inward ≡ true
unfolding kinds meanings
one_line Guest true = refl
one_line Guest false = refl
one_line Host true = refl
one_line Host false = refl

pub all_listed : listed meanings ≡ true
unfolding kinds meanings
all_listed = refl

-- the kinds that a side sends as one of these classes, on an IN endpoint or not
abbrev sent_as : List Class → Side → Bool → List Kind → List ℕ
sent_as cs from inward [] = []
sent_as cs from inward (k ∷ ks) =
    cond (sends k.sender from && among cs (look_up meanings from k.number inward).class) (k.number ∷ sent_as cs from inward ks) (sent_as cs from inward ks)

-- on an OUT endpoint and on an IN one: the guest makes the requests; the host sends the replies, and 102, 103 IN and 104 as stream data
pub by-sender : (sent_as requests Guest false kinds ≡ request_kinds)
    × (sent_as requests Guest true kinds ≡ request_kinds)
    × (sent_as requests Host false kinds ≡ [])
    × (sent_as requests Host true kinds ≡ [])
    × (sent_as replies Guest false kinds ≡ [])
    × (sent_as replies Guest true kinds ≡ [])
    × (sent_as replies Host false kinds ≡ (8 ∷ 11 ∷ 14 ∷ 17 ∷ 20 ∷ 27 ∷ 100 ∷ 101 ∷ 103 ∷ []))
    × (sent_as replies Host true kinds ≡ (8 ∷ 11 ∷ 14 ∷ 17 ∷ 20 ∷ 27 ∷ 100 ∷ 101 ∷ []))
    × (sent_as (StreamOut ∷ []) Guest false kinds ≡ (102 ∷ []))
    × (sent_as (StreamOut ∷ []) Guest true kinds ≡ (102 ∷ []))
    × (sent_as (StreamOut ∷ []) Host false kinds ≡ [])
    × (sent_as (StreamOut ∷ []) Host true kinds ≡ [])
    × (sent_as (StreamIn ∷ []) Guest false kinds ≡ [])
    × (sent_as (StreamIn ∷ []) Guest true kinds ≡ [])
    × (sent_as (StreamIn ∷ []) Host false kinds ≡ (102 ∷ 104 ∷ []))
    × (sent_as (StreamIn ∷ []) Host true kinds ≡ (102 ∷ 103 ∷ 104 ∷ []))
unfolding kinds meanings
by-sender = (refl, refl, refl, refl, refl, refl, refl, refl, refl, refl, refl, refl, refl, refl, refl, refl)

-- ---- the word of a hello

abbrev or_zero : Option ℕ → ℕ
or_zero None = 0
or_zero (Some x) = x

-- the word that the event of a hello carries is its first word, and 0 where it has none
pub first_word : (from : Side) (p : Content) → p.kind ≡ 0 → tail_ok words from [] [] (length p.rest) ≡ true
    → (event_of from p).word ≡ or_zero (rows_word p.rest 0)
unfolding event_of
first_word from p k h = rw k (go p.rest h)
  where
    whole : (n : ℕ) → leb 4 (suc (suc (suc (suc n)))) ≡ true
    whole n = leb-suc-suc 3 (suc (suc (suc n))) ∙ leb-suc-suc 2 (suc (suc n)) ∙ leb-suc-suc 1 (suc n) ∙ leb-suc-suc 0 n ∙ leb-zero n

    go : (s : List ℕ) → tail_ok words from [] [] (length s) ≡ true → le 4 s 0 ≡ or_zero (rows_word s 0)
    go [] h = refl
    go (a ∷ []) h = absurd (false≢true h)
    go (a ∷ b ∷ []) h = absurd (false≢true h)
    go (a ∷ b ∷ c ∷ []) h = absurd (false≢true h)
    go (a ∷ b ∷ c ∷ d ∷ s) h = rw (whole (length s))

-- ---- what a status says

-- the numbers that pass the test
abbrev picked : (ℕ → Bool) → List ℕ → List ℕ
picked p [] = []
picked p (x ∷ xs) = cond (p x) (x ∷ picked p xs) (picked p xs)

-- of all bytes, 0 alone is success and 4 alone a stall
pub success-and-stall : (picked is_success (from 256 0) ≡ (0 ∷ [])) × (picked is_stall (from 256 0) ≡ (4 ∷ []))
success-and-stall = (refl, refl)

-- and the status that is asked is the one that was sent, in every kind that has one, whatever its other fields hold
pub status-as-sent : (id x : ℕ) (a b c d e f : Value) (s : List ℕ)
    → (field "status" (packet_of 8 id (one x ∷ a ∷ []) s) ≡ x)
    × (field "status" (packet_of 11 id (one x ∷ a ∷ b ∷ []) s) ≡ x)
    × (field "status" (packet_of 14 id (one x ∷ a ∷ []) s) ≡ x)
    × (field "status" (packet_of 17 id (one x ∷ a ∷ []) s) ≡ x)
    × (field "status" (packet_of 20 id (a ∷ b ∷ one x ∷ []) s) ≡ x)
    × (field "status" (packet_of 27 id (a ∷ b ∷ one x ∷ []) s) ≡ x)
    × (field "status" (packet_of 100 id (a ∷ b ∷ c ∷ one x ∷ d ∷ e ∷ f ∷ []) s) ≡ x)
    × (field "status" (packet_of 101 id (a ∷ one x ∷ b ∷ c ∷ d ∷ []) s) ≡ x)
    × (field "status" (packet_of 102 id (a ∷ one x ∷ b ∷ []) s) ≡ x)
    × (field "status" (packet_of 103 id (a ∷ one x ∷ b ∷ []) s) ≡ x)
    × (field "status" (packet_of 104 id (a ∷ b ∷ c ∷ one x ∷ []) s) ≡ x)
unfolding layout kinds
status-as-sent id x a b c d e f s = (refl, refl, refl, refl, refl, refl, refl, refl, refl, refl, refl)
