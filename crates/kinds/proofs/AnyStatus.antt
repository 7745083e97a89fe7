-- A packet has the same number with any status (`any-status`), for the writer too (`any-status-written`).
-- No check reads a status: which fields are there and how many numbers they have stays, other fields are looked up under other names, and of
-- the table's lines none has a rule for it (`found-unread`). What is written is as long.
-- Assumes nothing.
use Rattle.std.specs.Prelude.{Option, Some, None}
use Prim.Native.Nat.{ℕ, zero, suc, ◌+◌, ◌*◌}
use Prim.Native.String.{String}
use mathlib.Core.Path.{◌≡◌, refl, sym, ap, ◌∙◌}
use mathlib.Core.Bool.{Bool, true, false, cond, not, ◌&&◌, false≢true}
use mathlib.Core.List.{List, [], ◌∷◌}
use lib.ListN.{length, replicate, length-replicate, length-append}
use lib.Text.{eqt}
use borrow.Table.Steps.{cases}
use Rattle.octets.proofs.Logic.{and_parts, or_parts, false-not}
use Rattle.header.specs.declared.Side.{Side}
use Rattle.header.specs.declared.Link.{Link}
use Rattle.header.specs.Link.{shared_set}
use Rattle.header.specs.Header.{header_bytes}
use Rattle.kinds.specs.Table.{Rule, any, holding-zero, speed, at-most-32, endpoint-type, endpoint, endpoint-in, endpoint-onward, endpoint-out-of-guest, as-endpoint, nonzero, zero-without, Field, Kind, Tail, nothing, words, string, payload, payload-onward, kinds}
use Rattle.kinds.specs.Content.{Value, Content, shared, size_of, bytes_of_value, bytes, first_number, named, find, fields_of}
use Rattle.kinds.specs.Number.{surplus, complete, data_length, tail_ok, holds, or_else, first_bad, bad_field, bad_fields, bad, kind_number, wire_number, by_kind}
use Rattle.kinds.specs.Codec.{layout, body_of, encode, packet_number, write_number}
use Rattle.kinds.proofs.FieldBytes.{length-all}
use Rattle.kinds.proofs.TableLines.{every_line, of-found}
use Rattle.kinds.specs.AnyStatus.{replaced_by, status_in, with_status, has_status, AnyStatus, AnyStatusWritten}

-- ---- of the table: a status has no rule, and is not what a check looks up by its name

abbrev is_any : Rule → Bool
is_any any = true
is_any holding-zero = false
is_any speed = false
is_any at-most-32 = false
is_any endpoint-type = false
is_any endpoint = false
is_any endpoint-in = false
is_any endpoint-onward = false
is_any endpoint-out-of-guest = false
is_any as-endpoint = false
is_any nonzero = false
is_any (zero-without j) = false

any-holds : (r : Rule) → is_any r ≡ true → (from : Side) (caps e : ℕ) (xs : List ℕ) (i : ℕ) → holds r from caps e xs i ≡ true
any-holds any h from caps e xs i = refl
any-holds holding-zero h from caps e xs i = absurd (false≢true h)
any-holds speed h from caps e xs i = absurd (false≢true h)
any-holds at-most-32 h from caps e xs i = absurd (false≢true h)
any-holds endpoint-type h from caps e xs i = absurd (false≢true h)
any-holds endpoint h from caps e xs i = absurd (false≢true h)
any-holds endpoint-in h from caps e xs i = absurd (false≢true h)
any-holds endpoint-onward h from caps e xs i = absurd (false≢true h)
any-holds endpoint-out-of-guest h from caps e xs i = absurd (false≢true h)
any-holds as-endpoint h from caps e xs i = absurd (false≢true h)
any-holds nonzero h from caps e xs i = absurd (false≢true h)
any-holds (zero-without j) h from caps e xs i = absurd (false≢true h)

-- the names that the checks look up, those of the session too
abbrev looked_up : String → Bool
looked_up n = cond (eqt "endpoint" n) true (cond (eqt "interface" n) true (cond (eqt "mask" n) true (cond (eqt "length" n) true (eqt "length high" n))))

abbrev unread : List Field → Bool
unread [] = true
unread (f ∷ fs) = cond (eqt "status" f.name) (is_any f.rule && not (looked_up f.name)) true && unread fs

all-unread : every_line unread kinds ≡ true
unfolding kinds
all-unread = refl

found-unread : (n : ℕ) (k : Kind) → find n kinds ≡ Some k → unread k.fields ≡ true
found-unread n k f = of-found unread refl n kinds k all-unread f

-- ---- what a check asks of the fields stays

length-same : (x : ℕ) (xs : List ℕ) → length (replicate (length xs) x) ≡ length xs
length-same x xs = length-replicate {A = ℕ} (length xs) x

surplus-same : (x caps : ℕ) (fs : List Field) (vs : List Value) → surplus caps fs (status_in x fs vs) ≡ surplus caps fs vs
surplus-same x caps [] vs = refl
surplus-same x caps (f ∷ fs) [] = refl
surplus-same x caps (f ∷ fs) (None ∷ vs) = cases (eqt "status" f.name) (λ t. rw t (surplus-same x caps fs vs)) (λ t. rw t (surplus-same x caps fs vs))
surplus-same x caps (f ∷ fs) (Some xs ∷ vs) = cases (eqt "status" f.name) (λ t. rw (t, surplus-same x caps fs vs)) (λ t. rw (t, surplus-same x caps fs vs))

complete-same : (x : ℕ) (fs : List Field) (vs : List Value) → complete fs (status_in x fs vs) ≡ complete fs vs
complete-same x [] vs = refl
complete-same x (f ∷ fs) [] = refl
complete-same x (f ∷ fs) (None ∷ vs) = cases (eqt "status" f.name) (λ t. rw t (complete-same x fs vs)) (λ t. rw t (complete-same x fs vs))
complete-same x (f ∷ fs) (Some xs ∷ vs) = cases (eqt "status" f.name) (λ t. rw (t, length-same x xs, complete-same x fs vs)) (λ t. rw (t, complete-same x fs vs))

-- what a check looks up by its name
named-same : (n : String) → ((m : String) → eqt n m ≡ true → looked_up m ≡ true) → (x : ℕ) (fs : List Field) (vs : List Value) → unread fs ≡ true → named n fs (status_in x fs vs) ≡ named n fs vs
named-same n l x [] vs u = refl
named-same n l x (f ∷ fs) [] u = refl
named-same n l x (f ∷ fs) (v ∷ vs) u =
    let h = and_parts (cond (eqt "status" f.name) (is_any f.rule && not (looked_up f.name)) true) (unread fs) u in
    cases (eqt n f.name)
    (λ t. cases (eqt "status" f.name)
    (λ r. absurd (false≢true (sym (false-not (looked_up f.name) (l f.name t)) ∙ (and_parts (is_any f.rule) (not (looked_up f.name)) (rw r at h.0)).1)))
    (λ r. rw (t, r)))
    (λ t. rw t (named-same n l x fs vs h.1))

-- a field under no rule breaks none
none-bad : (r : Rule) → is_any r ≡ true → (from : Side) (caps e : ℕ) (xs : List ℕ) (w n i at : ℕ) → first_bad (holds r from caps e xs) w n i at ≡ None
none-bad r a from caps e xs w zero i at = refl
none-bad r a from caps e xs w (suc n) i at = rw (any-holds r a from caps e xs i) (none-bad r a from caps e xs w n (suc i) (at + w))

bad-same : (from : Side) (caps e x : ℕ) (fs : List Field) (vs : List Value) (at : ℕ) → unread fs ≡ true → bad_fields from caps e fs (status_in x fs vs) at ≡ bad_fields from caps e fs vs at
bad-same from caps e x [] vs at u = refl
bad-same from caps e x (f ∷ fs) [] at u = refl
bad-same from caps e x (f ∷ fs) (v ∷ vs) at u =
    let h = and_parts (cond (eqt "status" f.name) (is_any f.rule && not (looked_up f.name)) true) (unread fs) u in
    let rest = bad-same from caps e x fs vs (at + size_of (shared caps) f) h.1 in
    cases (eqt "status" f.name)
    (λ t. rw (t, rest) (ap (λ (o : Option ℕ). or_else o (bad_fields from caps e fs vs (at + size_of (shared caps) f))) (first v (and_parts (is_any f.rule) (not (looked_up f.name)) (rw t at h.0)).0)))
    (λ t. rw (t, rest))
  where
    first : (v : Value) → is_any f.rule ≡ true → bad_field from caps e f (replaced_by x v) at ≡ bad_field from caps e f v at
    first None a = refl
    first (Some xs) a = none-bad f.rule a from caps e (replicate (length xs) x) f.width f.times 0 at ∙ sym (none-bad f.rule a from caps e xs f.width f.times 0 at)

-- ---- the number stays

flat : (b : Bool) → cond b true true ≡ true
flat true = refl
flat false = refl

module _ (x : ℕ) (fs : List Field) (vs : List Value) (u : unread fs ≡ true) where
  endpoint-same : named "endpoint" fs (status_in x fs vs) ≡ named "endpoint" fs vs
  endpoint-same = named-same "endpoint" (λ m t. rw t) x fs vs u

  interface-same : named "interface" fs (status_in x fs vs) ≡ named "interface" fs vs
  interface-same = named-same "interface" (λ m t. rw t (flat (eqt "endpoint" m))) x fs vs u

  mask-same : named "mask" fs (status_in x fs vs) ≡ named "mask" fs vs
  mask-same = named-same "mask" (λ m t. rw (t, flat (eqt "interface" m)) (flat (eqt "endpoint" m))) x fs vs u

  length-field-same : data_length fs (status_in x fs vs) ≡ data_length fs vs
  length-field-same = rw (low, high)
    where
      low : named "length" fs (status_in x fs vs) ≡ named "length" fs vs
      low = named-same "length" (λ m t. rw (t, flat (eqt "mask" m), flat (eqt "interface" m)) (flat (eqt "endpoint" m))) x fs vs u

      high : named "length high" fs (status_in x fs vs) ≡ named "length high" fs vs
      high = named-same "length high" (λ m t. rw (t, flat (eqt "length" m), flat (eqt "mask" m), flat (eqt "interface" m)) (flat (eqt "endpoint" m))) x fs vs u

  tail-same : (t : Tail) (from : Side) (n : ℕ) → tail_ok t from fs (status_in x fs vs) n ≡ tail_ok t from fs vs n
  tail-same nothing from n = refl
  tail-same words from n = refl
  tail-same string from n = refl
  tail-same payload from n = rw length-field-same
  tail-same payload-onward from n = rw (length-field-same, endpoint-same)

-- of a packet whose kind is in the table
kind-same : (l : Link) (k : Kind) (p : Content) (x : ℕ) → unread k.fields ≡ true
    → kind_number l k (record { kind = p.kind; id = p.id; fields = status_in x k.fields p.fields; rest = p.rest }) ≡ kind_number l k p
unfolding kind_number bad
kind-same l k p x u =
    rw (
      surplus-same x (shared_set l) k.fields p.fields,
      complete-same x k.fields p.fields,
      tail-same x k.fields p.fields u k.tail l.sender (length p.rest),
      endpoint-same x k.fields p.fields u,
      bad-same l.sender (shared_set l) (named "endpoint" k.fields p.fields) x k.fields p.fields 0 u,
    )

pub any-status : AnyStatus
unfolding wire_number layout
any-status l p x = go (find p.kind kinds) refl
  where
    go : (o : Option Kind) → find p.kind kinds ≡ o
        → by_kind l o (record { kind = p.kind; id = p.id; fields = status_in x (fields_of o) p.fields; rest = p.rest }) ≡ by_kind l o p
    go None f = refl
    go (Some k) f = kind-same l k p x (found-unread p.kind k f)

-- ---- and what is written is as long

bytes_same : (x : ℕ) (fs : List Field) (vs : List Value) → length (bytes fs (status_in x fs vs)) ≡ length (bytes fs vs)
bytes_same x [] vs = refl
bytes_same x (f ∷ fs) [] = refl
bytes_same x (f ∷ fs) (v ∷ vs) =
    length-append (bytes_of_value f.width (cond (eqt "status" f.name) (replaced_by x v) v)) (bytes fs (status_in x fs vs))
    ∙ rw (bytes_same x fs vs) (ap (λ (n : ℕ). n + length (bytes fs vs)) (cases (eqt "status" f.name) (λ t. rw t (first v)) (λ t. rw t)))
    ∙ sym (length-append (bytes_of_value f.width v) (bytes fs vs))
  where
    first : (v : Value) → length (bytes_of_value f.width (replaced_by x v)) ≡ length (bytes_of_value f.width v)
    first None = refl
    first (Some xs) = length-all f.width (replicate (length xs) x) ∙ ap (λ (n : ℕ). f.width * n) (length-same x xs) ∙ sym (length-all f.width xs)

body_same : (p : Content) (x : ℕ) → length (body_of (with_status x p)) ≡ length (body_of p)
body_same p x =
    length-append (bytes (layout p.kind) (status_in x (layout p.kind) p.fields)) p.rest
    ∙ ap (λ (n : ℕ). n + length p.rest) (bytes_same x (layout p.kind) p.fields)
    ∙ sym (length-append (bytes (layout p.kind) p.fields) p.rest)

encoded-same : (l : Link) (p : Content) (x : ℕ) → length (encode l (with_status x p)) ≡ length (encode l p)
unfolding encode
encoded-same l p x =
    length-append (header_bytes l p.kind (length (body_of (with_status x p))) p.id) (body_of (with_status x p))
    ∙ ap (λ (n : ℕ). length (header_bytes l p.kind n p.id) + n) (body_same p x)
    ∙ sym (length-append (header_bytes l p.kind (length (body_of p)) p.id) (body_of p))

pub any-status-written : AnyStatusWritten
unfolding write_number packet_number
any-status-written l p x room = rw (any-status l p x, encoded-same l p x)

-- ---- what the session looks up

pub record Kept (fs : List Field) (vs ws : List Value) : Type 0 where
  pub endpoint : named "endpoint" fs ws ≡ named "endpoint" fs vs
  pub interface : named "interface" fs ws ≡ named "interface" fs vs
  pub mask : named "mask" fs ws ≡ named "mask" fs vs
  pub length : data_length fs ws ≡ data_length fs vs

pub kept : (p : Content) (x : ℕ) → Kept (layout p.kind) p.fields (with_status x p).fields
unfolding layout
kept p x = go (find p.kind kinds) refl
  where
    go : (o : Option Kind) → find p.kind kinds ≡ o → Kept (fields_of o) p.fields (status_in x (fields_of o) p.fields)
    go None f = record { endpoint = refl; interface = refl; mask = refl; length = refl }
    go (Some k) f =
        let u : unread k.fields ≡ true = found-unread p.kind k f in
        record {
          endpoint = endpoint-same x k.fields p.fields u;
          interface = interface-same x k.fields p.fields u;
          mask = mask-same x k.fields p.fields u;
          length = length-field-same x k.fields p.fields u;
        }

-- whether there is a status
abbrev is_filled : Value → Bool
is_filled None = false
is_filled (Some []) = false
is_filled (Some (x ∷ xs)) = true

abbrev pub stated : List Field → List Value → Bool
stated [] vs = false
stated (f ∷ fs) [] = false
stated (f ∷ fs) (v ∷ vs) = cond (eqt "status" f.name) (is_filled v) (stated fs vs)

pub status-is : (x : ℕ) (fs : List Field) (vs : List Value) → named "status" fs (status_in x fs vs) ≡ cond (stated fs vs) x 0
status-is x [] vs = refl
status-is x (f ∷ fs) [] = refl
status-is x (f ∷ fs) (v ∷ vs) = cases (eqt "status" f.name) (λ t. rw t (first v)) (λ t. rw t (status-is x fs vs))
  where
    first : (v : Value) → first_number (replaced_by x v) ≡ cond (is_filled v) x 0
    first None = refl
    first (Some []) = refl
    first (Some (y ∷ ys)) = refl

-- where no field is a status, none is replaced
pub none-replaced : (x : ℕ) (fs : List Field) (vs : List Value) → has_status fs ≡ false → status_in x fs vs ≡ vs
none-replaced x [] vs n = refl
none-replaced x (f ∷ fs) [] n = refl
none-replaced x (f ∷ fs) (v ∷ vs) n = let h = or_parts (eqt "status" f.name) (has_status fs) n in rw (h.0, none-replaced x fs vs h.1)

-- an endpoint table has none
pub table_kept : (x : ℕ) (vs : List Value) → status_in x (layout 5) vs ≡ vs
unfolding layout kinds
table_kept x vs = none-replaced x (layout 5) vs refl
