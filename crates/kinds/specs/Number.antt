-- The wire checks 13 and 20 to 24: one definition, over a packet's content, for reader and writer.
-- Assumes nothing: these are definitions.
use Rattle.std.specs.Prelude.{ℕ, zero, suc, ◌+◌, ◌*◌, ◌/◌, ◌%◌, ◌^◌, Bool, true, false, cond, not, ◌&&◌, ◌||◌, List, [], ◌∷◌, length, get_or, eqb, leb, ltb, Option, Some, None}
use Rattle.octets.specs.Little.{le}
use Rattle.octets.specs.Bits.{has_bit}
use Rattle.endpoint.specs.Endpoint.{is_address}
use Rattle.header.specs.declared.Side.{Side}
use Rattle.header.specs.declared.Side.TheVariants.{Guest, Host}
use Rattle.header.specs.declared.Link.{Link}
use Rattle.header.specs.Link.{is_guest, shared_set, id_width}
use Rattle.kinds.specs.Table.{Sender, G, H, B, Rule, any, holding-zero, speed, at-most-32, endpoint-type, endpoint, endpoint-in, endpoint-onward, endpoint-out-of-guest, as-endpoint, nonzero, zero-without, Field, Tail, nothing, words, string, payload, payload-onward, Id, id-any, id-zero, Kind, kinds}
use Rattle.kinds.specs.Content.{Value, Content, shared, size_of, size, named, find}

-- ---- 21: wrong sender

abbrev pub sends : Sender → Side → Bool
sends G from = is_guest from
sends H from = not (is_guest from)
sends B from = true

-- the one side that sends
abbrev pub alone : Sender → Option Side
alone G = Some Guest
alone H = Some Host
alone B = None

-- ---- 22: needed bit not shared; of the writer also a field that the shared set leaves out, or an id that its width cannot hold

-- a field is there that is not shared
abbrev pub surplus : ℕ → List Field → List Value → Bool
surplus caps [] vs = false
surplus caps (f ∷ fs) [] = false
surplus caps (f ∷ fs) (None ∷ vs) = surplus caps fs vs
surplus caps (f ∷ fs) (Some xs ∷ vs) = not (shared caps f.there) || surplus caps fs vs

-- "a non-hello's id over 32 bits without bit 5"
abbrev pub wide_id : Link → Content → Bool
wide_id l p = not (eqb p.kind 0) && leb (256 ^ id_width l p.kind) p.id

-- ---- 23: body size wrong

-- every field that is there has all its numbers
abbrev pub complete : List Field → List Value → Bool
complete [] vs = true
complete (f ∷ fs) [] = false
complete (f ∷ fs) (None ∷ vs) = complete fs vs
complete (f ∷ fs) (Some xs ∷ vs) = eqb (length xs) f.times && complete fs vs

-- "The bulk count is low + 65,536 times high, or low without bit 6."
abbrev pub data_length : List Field → List Value → ℕ
data_length fs vs = named "length" fs vs + 65536 * named "length high" fs vs

-- the direction bit of the endpoints on which a side's data goes: OUT for the guest, IN for the host
abbrev pub onward_bit : Side → ℕ
onward_bit Guest = 0
onward_bit Host = 1

abbrev pub onward : Side → ℕ → Bool
onward from e = eqb (e / 128) (onward_bit from)

-- n bytes follow the fields: "Where data follows, its size equals the length field; elsewhere there is none"
abbrev pub tail_ok : Tail → Side → List Field → List Value → ℕ → Bool
tail_ok nothing from fs vs n = eqb n 0
tail_ok words from fs vs n = leb n 32 && eqb (n % 4) 0
tail_ok string from fs vs n = leb 1 n
tail_ok payload from fs vs n = eqb n (data_length fs vs)
tail_ok payload-onward from fs vs n = eqb n (cond (onward from (named "endpoint" fs vs)) (data_length fs vs) 0)

abbrev pub size_ok : Side → Kind → Content → Bool
size_ok from k p = complete k.fields p.fields && tail_ok k.tail from k.fields p.fields (length p.rest)

-- ---- 24: field rule broken, and which field it is

-- the place of the first zero, the length where there is none
abbrev pub zero_at : List ℕ → ℕ
zero_at [] = 0
zero_at (b ∷ s) = cond (eqb b 0) 0 (suc (zero_at s))

abbrev pub address_ok : ℕ → Bool
address_ok b = is_address (record { 0 = b })

-- number i of a field's numbers xs keeps the rule; e is the packet's endpoint byte
abbrev pub holds : Rule → Side → ℕ → ℕ → List ℕ → ℕ → Bool
holds any from caps e xs i = true
holds holding-zero from caps e xs i = ltb (zero_at xs) (length xs)
holds speed from caps e xs i = leb (get_or xs i 0) 3 || eqb (get_or xs i 0) 255
holds at-most-32 from caps e xs i = leb (get_or xs i 0) 32
holds endpoint-type from caps e xs i = cond (eqb (i % 16) 0) (eqb (get_or xs i 0) 0) (leb (get_or xs i 0) 3 || eqb (get_or xs i 0) 255)
holds endpoint from caps e xs i = address_ok (get_or xs i 0)
holds endpoint-in from caps e xs i = address_ok (get_or xs i 0) && eqb (get_or xs i 0 / 128) 1
holds endpoint-onward from caps e xs i = address_ok (get_or xs i 0) && onward from (get_or xs i 0)
holds endpoint-out-of-guest from caps e xs i = address_ok (get_or xs i 0) && (not (is_guest from) || onward from (get_or xs i 0))
holds as-endpoint from caps e xs i = eqb (get_or xs i 0 / 128) (e / 128)
holds nonzero from caps e xs i = not (eqb (get_or xs i 0) 0)
holds (zero-without j) from caps e xs i = has_bit caps j || eqb (get_or xs i 0) 0

abbrev pub or_else : Option ℕ → Option ℕ → Option ℕ
or_else None y = y
or_else (Some x) y = Some x

-- the place of the first of n numbers, of w bytes each, that fails, counted from number i
abbrev pub first_bad : (ℕ → Bool) → ℕ → ℕ → ℕ → ℕ → Option ℕ
first_bad ok w zero i at = None
first_bad ok w (suc n) i at = cond (ok i) (first_bad ok w n (suc i) (at + w)) (Some at)

-- in a field that starts at `at`; "such a field missing where shared is 24"
abbrev pub bad_field : Side → ℕ → ℕ → Field → Value → ℕ → Option ℕ
bad_field from caps e f None at = cond (shared caps f.there) (Some at) None
bad_field from caps e f (Some xs) at = first_bad (holds f.rule from caps e xs) f.width f.times 0 at

abbrev pub bad_fields : Side → ℕ → ℕ → List Field → List Value → ℕ → Option ℕ
bad_fields from caps e [] vs at = None
bad_fields from caps e (f ∷ fs) [] at = None
bad_fields from caps e (f ∷ fs) (v ∷ vs) at = or_else (bad_field from caps e f v at) (bad_fields from caps e fs vs (at + size_of (shared caps) f))

abbrev pub bad_tail : Tail → List ℕ → ℕ → Option ℕ
bad_tail nothing s at = None
bad_tail words s at = None
bad_tail string s at = cond (eqb (zero_at s + 1) (length s)) None (Some at)
bad_tail payload s at = None
bad_tail payload-onward s at = None

-- an id that has to be 0 and is not: 65,535, after every field
abbrev pub bad_id : Id → ℕ → Option ℕ
bad_id id-any n = None
bad_id id-zero n = cond (eqb n 0) None (Some 65535)

-- where the first field in body order that breaks a rule starts, counted from the body's first byte
unfoldable pub bad : Side → ℕ → Kind → Content → Option ℕ
bad from caps k p =
    or_else (bad_fields from caps (named "endpoint" k.fields p.fields) k.fields p.fields 0)
    (or_else (bad_tail k.tail p.rest (size (shared caps) k.fields)) (bad_id k.id p.id))

abbrev pub is_none : Option ℕ → Bool
is_none None = true
is_none (Some x) = false

-- ---- 13: hello has bit 0 without bit 4

abbrev pub streams_alone : Tail → List ℕ → Bool
streams_alone nothing s = false
streams_alone words s = has_bit (le 4 s 0) 0 && not (has_bit (le 4 s 0) 4)
streams_alone string s = false
streams_alone payload s = false
streams_alone payload-onward s = false

-- ---- the number: the first that holds of 20 to 24, then 13 (so "23, 24 or 13 (that order)" for a hello)

abbrev pub in_order : Bool → Bool → Bool → Bool → Bool → ℕ
in_order wrong_sender not_shared wrong_size bad_field streams =
    cond wrong_sender 21 (cond not_shared 22 (cond wrong_size 23 (cond bad_field 24 (cond streams 13 0))))

unfoldable pub kind_number : Link → Kind → Content → ℕ
kind_number l k p =
    in_order (not (sends k.sender l.sender))
    (not (shared (shared_set l) k.needs) || surplus (shared_set l) k.fields p.fields || wide_id l p)
    (not (size_ok l.sender k p))
    (not (is_none (bad l.sender (shared_set l) k p)))
    (streams_alone k.tail p.rest)

abbrev pub by_kind : Link → Option Kind → Content → ℕ
by_kind l None p = 20
by_kind l (Some k) p = kind_number l k p

unfoldable pub wire_number : Link → Content → ℕ
wire_number l p = by_kind l (find p.kind kinds) p
