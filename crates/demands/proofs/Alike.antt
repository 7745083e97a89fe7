-- Sessions that are alike decide alike, but for the bytes of two hellos (`AlikeHello.antt`): the links of a direction (`links`), what is read and
-- written (`told_same`, `writes-same`), and the judge (`judged-same`).
-- The shared set is that of the words' remainders by 256, which words with the same bits 0 to 7 have in common. A link decides by its sender, by its
-- shared set and by whether the sender's hello has passed (`AlikeLinks`): each definition over links is taken along these. Of a session the hellos
-- alone are other ones (`with_hellos`), and no session check looks at them.
-- Assumes nothing.
use Rattle.std.specs.Prelude.{Option, Some, None}
use Prim.Native.Nat.{ℕ, zero, suc, ◌+◌, ◌-◌, ◌*◌, ◌/◌, ◌%◌, ◌^◌, ◌≤◌, ◌<◌}
use native.Mathlib.Omega.{arith}
use mathlib.Core.Path.{◌≡◌, refl, sym, ap, ap₂, subst, ◌∙◌}
use mathlib.Core.Bool.{Bool, true, false, cond, not, ◌&&◌, ◌||◌}
use mathlib.Core.List.{List, ◌++◌}
use lib.Bits.{bit_and, and_mask, and_mod}
use lib.Pow.{mod-pow-add, mod-mod-pow, field}
use lib.ListN.{length, drop}
use lib.Dec.{eqb, leb, ltb}
use borrow.Author.Tests.{eqb-true, eqb-false}
use borrow.Table.Steps.{cases}
use Rattle.octets.specs.Bits.{has_bit}
use Rattle.octets.specs.Little.{le, bytes_of}
use Rattle.header.specs.declared.Side.{Side}
use Rattle.header.specs.declared.Side.TheVariants.{Guest, Host}
use Rattle.header.specs.declared.Link.{Link}
use Rattle.header.specs.Link.{is_guest, offered, passed, own, shared_set, id_width}
use Rattle.header.specs.Header.{kind_of, length_of, header_size, header_bytes, header_number}
use Rattle.kinds.specs.Table.{Kind, kinds}
use Rattle.kinds.specs.Content.{Content, shared, size, find}
use Rattle.kinds.specs.Number.{sends, surplus, size_ok, bad, is_none, streams_alone, in_order, kind_number, by_kind, wire_number}
use Rattle.kinds.specs.Codec.{layout, content_at, decode, or_next, read_number, body_of, encode, body_length, packet_number, write_number, written, written_size}
use Rattle.device.specs.declared.Introduction.{Introduction}
use Rattle.device.specs.Device.{control_rows}
use Rattle.requests.specs.Requests.{ids_differ}
use Rattle.events.specs.Meaning.{Class, Hello as Hello-class, Connect, Interfaces, Endpoints, Disconnect, Reset, Ack, Cancel, Filter, StartRequest, PlainRequest, StreamStatus, PlainReply, StreamOut, StreamIn}
use Rattle.events.specs.Event.{Event}
use Rattle.checks.specs.declared.Change.{Change}
use Rattle.checks.specs.declared.Change.TheVariants as changes
use Rattle.checks.specs.Checks.{Match, out_of_order, match_of, number_for}
use Rattle.checks.specs.Change.{change_for}
use Rattle.session.specs.declared.Session.{Session}
use Rattle.session.specs.Session.{link_of, is_wide, unfit}
use Rattle.session.specs.Step.{kept_hello, device_to, head_after, watch_after, applied, next_for, Judged, judged_by, judged}
use Rattle.decoder.specs.Reading.{numbered, rows_at, rest_at, kind_or, read_of}
use Rattle.frame.specs.Cut.{more, bad as refused, whole, cut_of}
use Rattle.frame.specs.Frame.{head_size, head_number, cut_at}
use Rattle.gate.specs.Verdict.{stopped_now, refused_as}
use Rattle.gate.specs.Offer.{is_waiting}
use Rattle.gate.specs.Write.{shut, write_by, output, output_size}
use Rattle.demands.specs.Ignored.{SameBits, AlikeHellos, AlikeHeads, AlikeSessions, SameWriting, SameWriter}

-- ---- words

bit-same : (x y : ℕ) → eqb (x % 2) 1 ≡ eqb (y % 2) 1 → x % 2 ≡ y % 2
bit-same x y e = cases (eqb (y % 2) 1) (λ t. eqb-true _ _ (e ∙ t) ∙ sym (eqb-true _ _ t)) (λ t. unset x (e ∙ t) ∙ sym (unset y t))
  where
    unset : (n : ℕ) → eqb (n % 2) 1 ≡ false → n % 2 ≡ 0
    unset n t = let d = eqb-false (n % 2) 1 t in omega (arith, d)

-- words with the same low bits have the same remainder
low_same : (v w k : ℕ) → ((j : ℕ) → j < k → has_bit v j ≡ has_bit w j) → v % 2 ^ k ≡ w % 2 ^ k
low_same v w zero h = omega arith
low_same v w (suc k) h =
    let n : suc k ≡ 1 + k = omega arith in
    ap (λ (m : ℕ). v % 2 ^ m) n
    ∙ mod-pow-add v 1 k
    ∙ ap₂ (λ (x y : ℕ). x * 2 ^ k + y) (bit-same (v / 2 ^ k) (w / 2 ^ k) (h k (omega arith))) (low_same v w k (λ j l. h j (omega arith)))
    ∙ sym (mod-pow-add w 1 k)
    ∙ sym (ap (λ (m : ℕ). w % 2 ^ m) n)

pub same_low : (v w : ℕ) → SameBits v w → v % 256 ≡ w % 256
same_low v w h = low_same v w 8 (λ j l. h j (omega arith))

-- and back
digit : (v j : ℕ) → j ≤ 7 → v / 2 ^ j % 2 ≡ v % 256 % 2 ^ (1 + j) / 2 ^ j
digit v j h =
    let n : 7 - j + (1 + j) ≡ 8 = omega arith in
    sym (field v 1 j) ∙ ap (λ (x : ℕ). x / 2 ^ j) (sym (mod-mod-pow v (7 - j) (1 + j)) ∙ ap (λ (m : ℕ). v % 2 ^ m % 2 ^ (1 + j)) n)

pub same_bits : (v w : ℕ) → v % 256 ≡ w % 256 → SameBits v w
same_bits v w e j h = ap (λ (x : ℕ). eqb x 1) (digit v j h ∙ ap (λ (r : ℕ). r % 2 ^ (1 + j) / 2 ^ j) e ∙ sym (digit w j h))

-- ---- links

offered-same : (g h : Option ℕ) → AlikeHellos g h → offered g % 256 ≡ offered h % 256
offered-same None None a = refl
offered-same None (Some w) a = absurd a
offered-same (Some v) None a = absurd a
offered-same (Some v) (Some w) a = same_low v w a

passed-same : (g h : Option ℕ) → AlikeHellos g h → passed g ≡ passed h
passed-same None None a = refl
passed-same None (Some w) a = absurd a
passed-same (Some v) None a = absurd a
passed-same (Some v) (Some w) a = refl

-- what a link decides by
pub record AlikeLinks (l m : Link) : Type 0 where
  pub sender : l.sender ≡ m.sender
  pub set : shared_set l ≡ shared_set m
  pub begun : passed (own l) ≡ passed (own m)

-- bytes that begin with the same kind and length
pub record SameStart (a b : List ℕ) : Type 0 where
  pub count : length a ≡ length b
  pub kind : kind_of a ≡ kind_of b
  pub says : length_of a ≡ length_of b

module _ (l m : Link) (a : AlikeLinks l m) where
  pub width : (k : ℕ) → id_width l k ≡ id_width m k
  unfolding id_width
  width k = ap (λ (c : ℕ). cond (not (eqb k 0) && has_bit c 5) 8 4) a.set

  head-size : (k : ℕ) → header_size l k ≡ header_size m k
  unfolding header_size
  head-size k = ap (λ (n : ℕ). 8 + n) (width k)

  pub head-number : (k n : ℕ) → header_number l k n ≡ header_number m k n
  unfolding header_number
  head-number k n = ap (λ (b : Bool). cond (ltb 32768 n) 10 (cond b (cond (eqb k 0) 12 0) (cond (eqb k 0) 0 11))) a.begun

  pub size-at : (x y : List ℕ) → SameStart x y → head_size l x ≡ head_size m y
  size-at x y h = head-size (kind_of x) ∙ ap (header_size m) h.kind

  pub cut-same : (x y : List ℕ) → SameStart x y → cut_at l x ≡ cut_at m y
  unfolding cut_of
  cut-same x y h =
      let w : head_size l x ≡ head_size m y = size-at x y h in
      let n : head_number l x ≡ head_number m y = head-number (kind_of x) (length_of x) ∙ ap₂ (header_number m) h.kind h.says in
      λ i. cond (ltb (h.count i) (w i)) more (cond (eqb (n i) 0) (cond (ltb (h.count i) (w i + h.says i)) more (whole (w i + h.says i))) (refused (n i)))

  pub decode-same : (b : List ℕ) → decode l b ≡ decode m b
  unfolding decode
  decode-same b = λ i. content_at (a.set i) (kind_of b) (le (width (kind_of b) i) b 8) (drop (head-size (kind_of b) i) b)

  kind-same : (k : Kind) (p : Content) → kind_number l k p ≡ kind_number m k p
  unfolding kind_number
  kind-same k p =
      λ i. in_order (not (sends k.sender (a.sender i)))
      (not (shared (a.set i) k.needs) || surplus (a.set i) k.fields p.fields || (not (eqb p.kind 0) && leb (256 ^ width p.kind i) p.id))
      (not (size_ok (a.sender i) k p))
      (not (is_none (bad (a.sender i) (a.set i) k p)))
      (streams_alone k.tail p.rest)

  pub wire-same : (p : Content) → wire_number l p ≡ wire_number m p
  unfolding wire_number
  wire-same p = go (find p.kind kinds)
    where
      go : (o : Option Kind) → by_kind l o p ≡ by_kind m o p
      go None = refl
      go (Some k) = kind-same k p

  pub read_same : (b : List ℕ) → read_number l b ≡ read_number m b
  unfolding read_number
  read_same b =
      let w : wire_number l (decode l b) ≡ wire_number m (decode m b) = wire-same (decode l b) ∙ ap (wire_number m) (decode-same b) in
      λ i. cond (ltb (length b) (head-size (kind_of b) i)) 23
      (or_next (head-number (kind_of b) (length_of b) i)
      (cond (eqb (length b) (head-size (kind_of b) i + length_of b)) (w i) 23))

  pub told_same : (b : List ℕ) → read_of l b ≡ read_of m b
  unfolding read_of
  told_same b =
      λ i. numbered (read_same b i)
      (record {
        header = record { kind = kind_of b; length = length_of b; id = le (width (kind_of b) i) b 8; size = head-size (kind_of b) i };
        content = decode-same b i;
        rows = rows_at (a.set i) (kind_or (find (kind_of b) kinds));
        rest = rest_at (a.set i) (kind_or (find (kind_of b) kinds)) (length (drop (head-size (kind_of b) i) b));
      })

  -- ---- the writer

  encode_same : (p : Content) → encode l p ≡ encode m p
  unfolding encode header_bytes
  encode_same p = λ i. (bytes_of 4 p.kind ++ (bytes_of 4 (length (body_of p)) ++ bytes_of (width p.kind i) p.id)) ++ body_of p

  packet-same : (p : Content) → packet_number l p ≡ packet_number m p
  unfolding packet_number
  packet-same p =
      let n : body_length l p ≡ body_length m p = ap (λ (c : ℕ). size (shared c) (layout p.kind) + length p.rest) a.set in
      let h : header_number l p.kind (body_length l p) ≡ header_number m p.kind (body_length m p) = head-number p.kind (body_length l p) ∙ ap (header_number m p.kind) n in
      λ i. or_next (h i) (wire-same p i)

  write_same : (p : Content) (room : ℕ) → write_number l p room ≡ write_number m p room
  unfolding write_number
  write_same p room = λ i. or_next (packet-same p i) (cond (ltb room (length (encode_same p i))) 40 0)

  written_same : (p : Content) (out : List ℕ) → written l p out ≡ written m p out
  unfolding written
  written_same p out = λ i. cond (eqb (write_same p (length out) i) 0) (encode_same p i ++ drop (length (encode_same p i)) out) out

  size_same : (p : Content) (room : ℕ) → written_size l p room ≡ written_size m p room
  unfolding written_size
  size_same p room = λ i. cond (eqb (write_same p room i) 0) (length (encode_same p i)) 0

-- ---- sessions

-- a session with other hellos
abbrev pub with_hellos : Option ℕ → Option ℕ → Session → Session
with_hellos g h s =
    record {
      head =
          record { guest = g; host = h; stopped = s.head.stopped; held = s.head.held; present = s.head.present; introduction = s.head.introduction; owed = s.head.owed };
      rows = s.rows;
      requests = s.requests;
      watch = s.watch;
    }

-- what a session that is alike is
pub alike_is : (s t : Session) → AlikeSessions s t → with_hellos t.head.guest t.head.host s ≡ t
alike_is s t a =
    let h = a.head in
    λ i. record {
      head =
          record { guest = t.head.guest; host = t.head.host; stopped = h.stopped i; held = h.held i; present = h.present i; introduction = h.introduction i; owed = h.owed i };
      rows = a.rows i;
      requests = a.requests i;
      watch = a.watch i;
    }

-- a hello comes, or not
greeted : (b : Bool) (g h : Option ℕ) (v w : ℕ) → AlikeHellos g h → SameBits v w
    → AlikeHellos (cond b (kept_hello g v) g) (cond b (kept_hello h w) h) × AlikeHellos (cond b g (kept_hello g v)) (cond b h (kept_hello h w))
greeted true None None v w a e = (e, a)
greeted true None (Some y) v w a e = absurd a
greeted true (Some x) None v w a e = absurd a
greeted true (Some x) (Some y) v w a e = (a, a)
greeted false None None v w a e = (a, e)
greeted false None (Some y) v w a e = absurd a
greeted false (Some x) None v w a e = absurd a
greeted false (Some x) (Some y) v w a e = (a, a)

pub record AlikeJudged (x y : Judged) : Type 0 where
  pub session : AlikeSessions x.session y.session
  pub number : x.number ≡ y.number

module _ (s : Session) (g h : Option ℕ) (ag : AlikeHellos s.head.guest g) (ah : AlikeHellos s.head.host h) where
  abbrev t : Session
  t = with_hellos g h s

  pub links : (from : Side) → AlikeLinks (link_of from s) (link_of from t)
  unfolding shared_set
  links from = record { sender = refl; set = mask; begun = by from }
    where
      masked : (v w : ℕ) → bit_and (bit_and v w) 255 ≡ bit_and (v % 256) (w % 256)
      masked v w = and_mask (bit_and v w) 8 ∙ and_mod v w 8

      mask : shared_set (link_of from s) ≡ shared_set (link_of from t)
      mask =
          masked (offered s.head.guest) (offered s.head.host)
          ∙ ap₂ bit_and (offered-same s.head.guest g ag) (offered-same s.head.host h ah)
          ∙ sym (masked (offered g) (offered h))

      by : (from : Side) → passed (own (link_of from s)) ≡ passed (own (link_of from t))
      by Guest = passed-same s.head.guest g ag
      by Host = passed-same s.head.host h ah

  pub waiting-same : (from : Side) → is_waiting (link_of from s) ≡ is_waiting (link_of from t)
  waiting-same from =
      let p = (links from).begun in
      let q = passed-same s.head.guest g ag in
      let r = passed-same s.head.host h ah in
      λ i. p i && not (q i && r i)

  pub unfit-same : unfit s ≡ unfit t
  unfolding unfit
  unfit-same =
      let q = passed-same s.head.guest g ag in
      let r = passed-same s.head.host h ah in
      λ i. unfit_by (q i) (r i)
    where
      held_bad_by : Bool → Bool → ℕ → Bool
      held_bad_by own other n = ltb 32783 n || (own && not other && ltb 0 n)

      unfit_by : Bool → Bool → Bool
      unfit_by x y =
          held_bad_by x y s.head.held.guest || held_bad_by y x s.head.held.host || not (ids_differ s.requests) || not (control_rows s.rows)

  -- ---- the judge

  order_same : (c : Class) → out_of_order t.head c ≡ out_of_order s.head c
  order_same Hello-class = refl
  order_same Connect = refl
  order_same Interfaces = refl
  order_same Endpoints = refl
  order_same Disconnect = refl
  order_same Reset = refl
  order_same Ack = refl
  order_same Cancel = refl
  order_same Filter = refl
  order_same StartRequest = refl
  order_same PlainRequest = refl
  order_same StreamStatus = refl
  order_same PlainReply = refl
  order_same StreamOut = refl
  order_same StreamIn = refl

  -- a head of which the device's part alone is new
  device-same : (present : Bool) (i : Introduction) (o p : Bool) → o ≡ p
      → AlikeHeads (device_to s.head present i o) (device_to t.head present i p)
  device-same present i o p e = record { guest = ag; host = ah; stopped = refl; held = refl; present = refl; introduction = refl; owed = e }

  head-same : AlikeHeads s.head t.head
  head-same = device-same s.head.present s.head.introduction s.head.owed s.head.owed refl

  pub greet-same : (from : Side) (v w : ℕ) → SameBits v w → AlikeHeads (head_after s.head from (changes.Hello v)) (head_after t.head from (changes.Hello w))
  greet-same from v w e =
      record {
        guest = (greeted (is_guest from) s.head.guest g v w ag e).0;
        host = (greeted (is_guest from) s.head.host h v w ah e).1;
        stopped = refl;
        held = refl;
        present = refl;
        introduction = refl;
        owed = refl;
      }

  head-after : (from : Side) (c : Change) → AlikeHeads (head_after s.head from c) (head_after t.head from c)
  head-after from changes.NoChange = head-same
  head-after from (changes.Seen e id) = head-same
  head-after from (changes.Hello word) = greet-same from word word (λ j l. refl)
  head-after from changes.Connect = device-same true s.head.introduction s.head.owed s.head.owed refl
  head-after from changes.Interfaces = device-same s.head.present _ s.head.owed s.head.owed refl
  head-after from changes.Endpoints = device-same s.head.present _ s.head.owed s.head.owed refl
  head-after from changes.Disconnect = device-same false _ _ _ (ap (λ (c : ℕ). has_bit c 3) (links Guest).set)
  head-after from changes.Reset = head-same
  head-after from changes.Acknowledge = device-same s.head.present s.head.introduction false false refl
  head-after from (changes.Take i q) = head-same
  head-after from (changes.TakeAndOpen i q typed) = head-same
  head-after from (changes.Release i typed stream scope) = head-same

  -- the width of ids is that of the shared set
  watch-after : (c : Change) → watch_after s.watch (is_wide s.head) c ≡ watch_after s.watch (is_wide t.head) c
  watch-after c = ap (λ (b : ℕ). watch_after s.watch (has_bit b 5) c) (links Guest).set

  pub alike : AlikeSessions s t
  alike = record { head = head-same; rows = refl; requests = refl; watch = refl }

  number_same : (e : Event) (m : Match) → number_for s.head s.rows s.requests e m ≡ number_for t.head s.rows s.requests e m
  unfolding number_for
  number_same e m = rw (order_same e.class) refl

  pub judged-same : (e : Event) → AlikeJudged (judged s e) (judged t e)
  unfolding judged next_for applied
  judged-same e =
      let m : Match = match_of s.requests e in
      subst (λ (n : ℕ). AlikeJudged (judged s e) (judged_by t e m n)) (number_same e m) (go m (number_for s.head s.rows s.requests e m))
    where
      go : (m : Match) (n : ℕ) → AlikeJudged (judged_by s e m n) (judged_by t e m n)
      go m n =
          cases (eqb n 0)
          (λ z. rw z (record { session = record { head = head-after e.sender (change_for s.requests e m); rows = refl; requests = refl; watch = watch-after (change_for s.requests e m) }; number = refl }))
          (λ z. rw z (record { session = alike; number = refl }))

  pub refused-same : (kind : ℕ) → AlikeSessions (refused_as s kind) (refused_as t kind)
  refused-same kind = go (eqb kind 0)
    where
      go : (b : Bool) → AlikeSessions (cond b (stopped_now s) s) (cond b (stopped_now t) t)
      go true = record { head = record { guest = ag; host = ah; stopped = refl; held = refl; present = refl; introduction = refl; owed = refl }; rows = refl; requests = refl; watch = refl }
      go false = alike

  -- ---- the writer

  shut-same : (from : Side) (hello : Bool) → shut from s hello ≡ shut from t hello
  unfolding shut
  shut-same from hello = λ i. cond (unfit-same i) 43 (cond s.head.stopped 3 (cond (waiting-same from i && not hello) 2 0))

  writes-same : (from : Side) (p : Content) (out : List ℕ) → SameWriting from s t p out
  unfolding write_by output output_size
  writes-same from p out =
      let l : Link = link_of from s in
      let m : Link = link_of from t in
      let a = links from in
      let b = shut-same from (eqb p.kind 0) in
      record {
        number = λ i. or_next (b i) (write_same l m a p (length out) i);
        size = λ i. cond (eqb (b i) 0) (size_same l m a p (length out) i) 0;
        output = λ i. cond (eqb (b i) 0) (written_same l m a p out i) out;
      }

pub same_writer : SameWriter
same_writer from s t p out a =
    subst (λ (u : Session). SameWriting from s u p out) (alike_is s t a)
    (writes-same s t.head.guest t.head.host a.head.guest a.head.host from p out)
