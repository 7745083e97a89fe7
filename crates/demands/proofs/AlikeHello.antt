-- The verdict on a whole packet is alike: of the same bytes (`verdict-same`), and of two hellos that are alike (`verdict-near`).
-- Bytes from a hello's first on are compared place by place (`Near`). So the header, the id and the version are the same, and of the words their
-- count and the remainder of the first by 256; the wire checks and the judge take no more. A packet that is no hello is refused by its header.
-- Assumes nothing.
use Rattle.std.specs.Prelude.{Option, Some, None}
use Prim.Native.Nat.{ℕ, zero, suc, ◌+◌, ◌-◌, ◌*◌, ◌%◌, ◌^◌, ◌≤◌, ◌<◌, min}
use native.Mathlib.Nat.{le_trans}
use native.Mathlib.Omega.{arith}
use mathlib.Core.Path.{◌≡◌, refl, sym, ap, ap₂, subst, ◌∙◌}
use mathlib.Core.Bool.{Bool, true, false, cond, not, ◌&&◌, ◌||◌, false≢true}
use mathlib.Core.List.{List, [], ◌∷◌}
use lib.ListN.{length, get_or, take, drop, length-take, length-drop, get_or-eq_default}
use lib.Seq.{get_or-take, get_or-drop}
use lib.Dec.{eqb, leb, ltb}
use borrow.Author.Tests.{eqb-true, ltb-true, ltb-false}
use borrow.Table.Steps.{cases}
use Rattle.octets.specs.Little.{le}
use Rattle.header.specs.declared.Side.{Side}
use Rattle.header.specs.declared.Side.TheVariants.{Guest, Host}
use Rattle.header.specs.declared.Link.{Link}
use Rattle.header.specs.Link.{passed, own, shared_set, id_width}
use Rattle.header.proofs.Widths.{narrow}
use Rattle.header.specs.Header.{kind_of, length_of, header_of, header_size, header_number}
use Rattle.kinds.specs.Table.{kinds, kind_at}
use Rattle.kinds.specs.Content.{Content, shared, numbers, find}
use Rattle.kinds.specs.Number.{sends, surplus, complete, bad, is_none, in_order, kind_number, wire_number}
use Rattle.kinds.specs.Codec.{layout, content_at, decode, or_next, read_number}
use Rattle.events.specs.Meaning.{meanings}
use Rattle.events.specs.Event.{meaning_of, event_of}
use Rattle.checks.specs.declared.Change.TheVariants as changes
use Rattle.checks.specs.Checks.{match_of, number_for}
use Rattle.session.specs.declared.Session.{Session}
use Rattle.session.specs.Session.{link_of}
use Rattle.session.specs.Step.{head_after, applied, next_for, Judged, judged}
use Rattle.decoder.specs.Reading.{Told, rows_at, rest_at, kind_or, kind_of_bytes, body_size, read_of}
use Rattle.frame.specs.Frame.{head_size, head_number}
use Rattle.gate.specs.Verdict.{stopped_now, VerdictTold, refused_as, verdict_of}
use Rattle.claims.proofs.KeptByPacket.{kept-plain}
use Rattle.demands.specs.Ignored.{SameBits, AlikeHellos, AlikeSessions, AlikeBytes, AlikeHanded, begun, AlikeHandedOut}
use Rattle.demands.proofs.Alike.{SameStart, AlikeJudged, with_hellos, same_low, same_bits, width, head-number, size-at, decode-same, wire-same, read_same, told_same, links, greet-same, judged-same, refused-same}

-- ---- a whole packet

pub record AlikeVerdicts (b : Bool) (v u : VerdictTold) : Type 0 where
  pub session : AlikeSessions v.session u.session
  pub number : v.number ≡ u.number
  pub handed : AlikeHandedOut b v.handed u.handed

-- a verdict by what was read
abbrev verdict_by : Session → Side → ℕ → Content → Told → ℕ → VerdictTold
verdict_by s from n p o k =
    cond (eqb n 0)
    (record {
      session = (judged s (event_of from p)).session;
      number = (judged s (event_of from p)).number;
      handed = cond (eqb (judged s (event_of from p)).number 0) o.handed None;
    })
    (record { session = refused_as s k; number = n; handed = None })

pub no-hand : (b : Bool) → AlikeHandedOut b None None
no-hand true = refl
no-hand false = tt

verdict-by : (b : Bool) (s : Session) (g h : Option ℕ) (ag : AlikeHellos s.head.guest g) (ah : AlikeHellos s.head.host h) (from : Side) (n : ℕ) (p q : Content) (o w : Told) (k : ℕ)
    → (eqb n 0 ≡ true → AlikeJudged (judged s (event_of from p)) (judged (with_hellos g h s) (event_of from q)) × AlikeHandedOut b o.handed w.handed)
    → AlikeVerdicts b (verdict_by s from n p o k) (verdict_by (with_hellos g h s) from n q w k)
verdict-by b s g h ag ah from n p q o w k e =
    cases (eqb n 0) (λ z. rw z (passes (e z).0 (e z).1))
    (λ z. rw z (record { session = refused-same s g h ag ah k; number = refl; handed = no-hand b }))
  where
    x : Judged
    x = judged s (event_of from p)

    y : Judged
    y = judged (with_hellos g h s) (event_of from q)

    out : (c : Bool) → AlikeHandedOut b o.handed w.handed → AlikeHandedOut b (cond c o.handed None) (cond c w.handed None)
    out true r = r
    out false r = no-hand b

    passes : AlikeJudged x y → AlikeHandedOut b o.handed w.handed
        → AlikeVerdicts b (record { session = x.session; number = x.number; handed = cond (eqb x.number 0) o.handed None })
        (record { session = y.session; number = y.number; handed = cond (eqb y.number 0) w.handed None })
    passes j r =
        record {
          session = j.session;
          number = j.number;
          handed = subst (λ (m : ℕ). AlikeHandedOut b (cond (eqb x.number 0) o.handed None) (cond (eqb m 0) w.handed None)) j.number (out (eqb x.number 0) r);
        }

-- of the same bytes
pub verdict-same : (s : Session) (g h : Option ℕ) (ag : AlikeHellos s.head.guest g) (ah : AlikeHellos s.head.host h) (from : Side) (b : List ℕ)
    → AlikeVerdicts true (verdict_of s from b) (verdict_of (with_hellos g h s) from b)
unfolding verdict_of
verdict-same s g h ag ah from b =
    let l : Link = link_of from s in
    let m : Link = link_of from (with_hellos g h s) in
    let a = links s g h ag ah from in
    let n = read_same l m a b in
    let p = decode-same l m a b in
    let o = told_same l m a b in
    subst (λ (v : VerdictTold). AlikeVerdicts true (verdict_by s from (read_number l b) (decode l b) (read_of l b) (kind_of b)) v)
    (λ i. verdict_by (with_hellos g h s) from (n i) (p i) (o i) (kind_of b))
    (verdict-by true s g h ag ah from (read_number l b) (decode l b) (decode l b) (read_of l b) (read_of l b) (kind_of b)
    (λ z. (judged-same s g h ag ah (event_of from (decode l b)), refl)))

-- what the verdict leaves held
pub verdict-held : (s : Session) (from : Side) (b : List ℕ) → (verdict_of s from b).session.head.held ≡ s.head.held
unfolding verdict_of
verdict-held s from b =
    cases (eqb (read_number (link_of from s) b) 0) (λ z. rw z (kept-plain s (event_of from (decode (link_of from s) b))).held) (λ z. rw z (by (eqb (kind_of b) 0)))
  where
    by : (c : Bool) → (cond c (stopped_now s) s).head.held ≡ s.head.held
    by true = refl
    by false = refl

-- ---- the bytes of a hello

-- bytes that agree before place 76, and there but for what is left out by 256
pub record Near (a b : List ℕ) : Type 0 where
  pub count : length a ≡ length b
  pub front : (i : ℕ) → i < 76 → get_or a i 0 ≡ get_or b i 0
  pub byte : get_or a 76 0 % 256 ≡ get_or b 76 0 % 256

pub near : (a b : List ℕ) → AlikeBytes a b → Near a b
near a b e =
    record {
      count = e.count;
      front = λ i l. sym (get_or-take 76 a i 0 l) ∙ ap (λ (x : List ℕ). get_or x i 0) e.front ∙ get_or-take 76 b i 0 l;
      byte = low a ∙ same_low (le 4 a 76) (le 4 b 76) e.word ∙ sym (low b);
    }
  where
    low : (x : List ℕ) → get_or x 76 0 % 256 ≡ le 4 x 76 % 256
    low x = omega arith

pub le-near : (a b : List ℕ) → Near a b → (n at : ℕ) → at + n ≤ 76 → le n a at ≡ le n b at
le-near a b e zero at h = refl
le-near a b e (suc n) at h = ap₂ (λ (x y : ℕ). x + 256 * y) (e.front at (omega arith)) (le-near a b e n (suc at) (omega arith))

-- a part of them
at_place : (n : ℕ) (x : List ℕ) (i : ℕ) → get_or (take n x) i 0 ≡ cond (ltb i n) (get_or x i 0) 0
at_place n x i =
    cases (ltb i n) (λ z. rw z (get_or-take n x i 0 (ltb-true i n z)))
    (λ z. rw z (get_or-eq_default (take n x) 0 (le_trans (length-take-le-n n x) (ltb-false i n z))))
  where
    length-take-le-n : (n : ℕ) (x : List ℕ) → length (take n x) ≤ n
    length-take-le-n zero x = omega arith
    length-take-le-n (suc n) [] = omega arith
    length-take-le-n (suc n) (y ∷ x) = let h = length-take-le-n n x in omega (arith, h)

pub near-take : (n : ℕ) (a b : List ℕ) → Near a b → Near (take n a) (take n b)
near-take n a b e =
    record {
      count = length-take n a ∙ ap (min n) e.count ∙ sym (length-take n b);
      front = λ i l. at_place n a i ∙ ap (λ (x : ℕ). cond (ltb i n) x 0) (e.front i l) ∙ sym (at_place n b i);
      byte = ap (λ (x : ℕ). x % 256) (at_place n a 76) ∙ pick (ltb 76 n) ∙ sym (ap (λ (x : ℕ). x % 256) (at_place n b 76));
    }
  where
    pick : (c : Bool) → cond c (get_or a 76 0) 0 % 256 ≡ cond c (get_or b 76 0) 0 % 256
    pick true = e.byte
    pick false = refl

-- what a hello says: its words follow 12 bytes of header and 64 of version
abbrev words_in : List ℕ → List ℕ
words_in b = drop 64 (drop 12 b)

abbrev hello_in : List ℕ → Content
hello_in b = record { kind = 0; id = le 4 b 8; fields = Some (cond (leb 64 (length (drop 12 b))) (numbers 1 64 (drop 12 b) 0) []) ∷ []; rest = words_in b }

decode-hello : (l : Link) (b : List ℕ) → kind_of b ≡ 0 → decode l b ≡ hello_in b
unfolding decode content_at layout kinds header_size id_width
decode-hello l b z = λ i. content_at (shared_set l) (z i) (le (id_width l (z i)) b 8) (drop (header_size l (z i)) b)

numbers-near : (x y : List ℕ) (n at : ℕ) → ((i : ℕ) → i < at + n → get_or x i 0 ≡ get_or y i 0) → numbers 1 n x at ≡ numbers 1 n y at
numbers-near x y zero at h = refl
numbers-near x y (suc n) at h =
    ap₂ (λ (v : ℕ) (vs : List ℕ). (v + 256 * 0) ∷ vs) (h at (omega arith)) (numbers-near x y n (at + 1) (λ i l. h i (omega arith)))

module _ (a b : List ℕ) (e : Near a b) where
  id-near : le 4 a 8 ≡ le 4 b 8
  id-near = le-near a b e 4 8 (omega arith)

  fields-near : (hello_in a).fields ≡ (hello_in b).fields
  fields-near =
      let c : length (drop 12 a) ≡ length (drop 12 b) = length-drop 12 a ∙ ap (λ (n : ℕ). n - 12) e.count ∙ sym (length-drop 12 b) in
      let v : numbers 1 64 (drop 12 a) 0 ≡ numbers 1 64 (drop 12 b) 0 =
      numbers-near (drop 12 a) (drop 12 b) 64 0 (λ i l. get_or-drop 12 a i 0 ∙ e.front (12 + i) (omega arith) ∙ sym (get_or-drop 12 b i 0)) in
      λ i. Some (cond (leb 64 (c i)) (v i) []) ∷ []

  words_count : length (words_in a) ≡ length (words_in b)
  words_count = counted a ∙ ap (λ (n : ℕ). n - 12 - 64) e.count ∙ sym (counted b)
    where
      counted : (x : List ℕ) → length (words_in x) ≡ length x - 12 - 64
      counted x = length-drop 64 (drop 12 x) ∙ ap (λ (n : ℕ). n - 64) (length-drop 12 x)

  words-near : SameBits (le 4 (words_in a) 0) (le 4 (words_in b) 0)
  words-near = same_bits (le 4 (words_in a) 0) (le 4 (words_in b) 0) (low a ∙ e.byte ∙ sym (low b))
    where
      low : (x : List ℕ) → le 4 (words_in x) 0 % 256 ≡ get_or x 76 0 % 256
      low x = let f : get_or (words_in x) 0 0 ≡ get_or x 76 0 = get_or-drop 64 (drop 12 x) 0 0 ∙ get_or-drop 12 x 64 0 in omega (arith, f)

  -- its number
  wire-near : (m : Link) → wire_number m (hello_in a) ≡ wire_number m (hello_in b)
  unfolding wire_number kind_number bad kinds
  wire-near m =
      let v = id-near in
      let f = fields-near in
      let n = words_count in
      let x = words-near 0 (omega arith) in
      let y = words-near 4 (omega arith) in
      λ i. in_order (not (sends (kind_at 0).sender m.sender))
      (not (shared (shared_set m) (kind_at 0).needs) || surplus (shared_set m) (kind_at 0).fields (f i) || (not (eqb 0 0) && leb (256 ^ id_width m 0) (v i)))
      (not (complete (kind_at 0).fields (f i) && (leb (n i) 32 && eqb (n i % 4) 0)))
      (not (is_none (bad m.sender (shared_set m) (kind_at 0) (record { kind = 0; id = v i; fields = f i; rest = [] }))))
      (x i && not (y i))

-- ---- the verdict on a hello

-- it passes the session checks
abbrev greets : Session → Side → ℕ → Judged
greets s from w = record { session = record { head = head_after s.head from (changes.Hello w); rows = s.rows; requests = s.requests; watch = s.watch }; number = 0 }

judged-hello : (s : Session) (from : Side) (b : List ℕ) → judged s (event_of from (hello_in b)) ≡ greets s from (le 4 (words_in b) 0)
unfolding judged next_for applied number_for match_of event_of meaning_of meanings layout kinds
judged-hello s Guest b = refl
judged-hello s Host b = refl

module _ (s : Session) (g h : Option ℕ) (ag : AlikeHellos s.head.guest g) (ah : AlikeHellos s.head.host h) (from : Side) (a b : List ℕ) (e : Near a b) (first : begun from s ≡ false) where
  abbrev fore : Link
  fore = link_of from s

  abbrev rear : Link
  rear = link_of from (with_hellos g h s)

  starting : SameStart a b
  starting = record { count = e.count; kind = le-near a b e 4 0 (omega arith); says = le-near a b e 4 4 (omega arith) }

  sizes : head_size fore a ≡ head_size rear b
  sizes = size-at fore rear (links s g h ag ah from) a b starting

  -- a packet that is not a hello
  other-number : (l : Link) (x : List ℕ) → passed (own l) ≡ false → eqb (kind_of x) 0 ≡ false → read_number l x ≡ cond (ltb (length x) (head_size l x)) 23 (cond (ltb 32768 (length_of x)) 10 11)
  unfolding read_number header_number
  other-number l x p z = rw (p, z) (ap (λ (n : ℕ). cond (ltb (length x) (head_size l x)) 23 n) (skip (ltb 32768 (length_of x)) (cond (eqb (length x) (head_size l x + length_of x)) (wire_number l (decode l x)) 23)))
    where
      skip : (c : Bool) (n : ℕ) → or_next (cond c 10 11) n ≡ cond c 10 11
      skip true n = refl
      skip false n = refl

  other-refused : (c d : Bool) → eqb (cond c 23 (cond d 10 11)) 0 ≡ false
  other-refused true d = refl
  other-refused false true = refl
  other-refused false false = refl

  number-near : (eqb (kind_of a) 0 ≡ true → wire_number fore (decode fore a) ≡ wire_number rear (decode rear b)) → read_number fore a ≡ read_number rear b
  unfolding read_number
  number-near w =
      cases (eqb (kind_of a) 0)
      (λ z.
      let n : head_number fore a ≡ head_number rear b = head-number fore rear (links s g h ag ah from) (kind_of a) (length_of a) ∙ ap₂ (header_number rear) starting.kind starting.says in
      let v = w z in
      λ i. cond (ltb (e.count i) (sizes i)) 23 (or_next (n i) (cond (eqb (e.count i) (sizes i + starting.says i)) (v i) 23)))
      (λ z.
      other-number fore a first z
      ∙ (λ i. cond (ltb (e.count i) (sizes i)) 23 (cond (ltb 32768 (starting.says i)) 10 11))
      ∙ sym (other-number rear b (sym (links s g h ag ah from).begun ∙ first) (ap (λ (k : ℕ). eqb k 0) (sym starting.kind) ∙ z)))

  module _ (z : kind_of a ≡ 0) where
    zero-too : kind_of b ≡ 0
    zero-too = sym starting.kind ∙ z

    wire-hello : wire_number fore (decode fore a) ≡ wire_number rear (decode rear b)
    wire-hello =
        wire-same fore rear (links s g h ag ah from) (decode fore a)
        ∙ ap (wire_number rear) (decode-hello fore a z)
        ∙ wire-near a b e rear
        ∙ ap (wire_number rear) (sym (decode-hello rear b zero-too))

    judged-near : AlikeJudged (judged s (event_of from (decode fore a))) (judged (with_hellos g h s) (event_of from (decode rear b)))
    judged-near =
        subst (λ (y : Judged). AlikeJudged (judged s (event_of from (decode fore a))) y) (sym (ap (λ (c : Content). judged (with_hellos g h s) (event_of from c)) (decode-hello rear b zero-too) ∙ judged-hello (with_hellos g h s) from b))
        (subst (λ (x : Judged). AlikeJudged x (greets (with_hellos g h s) from (le 4 (words_in b) 0))) (sym (ap (λ (c : Content). judged s (event_of from c)) (decode-hello fore a z) ∙ judged-hello s from a))
        (record {
          session = record { head = greet-same s g h ag ah from (le 4 (words_in a) 0) (le 4 (words_in b) 0) (words-near a b e); rows = refl; requests = refl; watch = refl };
          number = refl;
        }))

    handed-near : eqb (read_number fore a) 0 ≡ true → read_number fore a ≡ read_number rear b → AlikeHanded (read_of fore a).handed (read_of rear b).handed
    unfolding read_of header_size
    handed-near t n =
        let u : eqb (read_number rear b) 0 ≡ true = ap (λ (k : ℕ). eqb k 0) (sym n) ∙ t in
        rw (t, u) (record { header = header; rows = rows; rest = rest; kind = ap (λ (c : Content). c.kind) (decode-hello fore a z) ∙ sym (ap (λ (c : Content). c.kind) (decode-hello rear b zero-too)); id = ap (λ (c : Content). c.id) (decode-hello fore a z) ∙ id-near a b e ∙ sym (ap (λ (c : Content). c.id) (decode-hello rear b zero-too)); fields = fields; words = ap (λ (c : Content). length c.rest) (decode-hello fore a z) ∙ words_count a b e ∙ sym (ap (λ (c : Content). length c.rest) (decode-hello rear b zero-too)) })
      where
        ids : le (id_width fore (kind_of a)) a 8 ≡ le (id_width rear (kind_of b)) b 8
        ids =
            ap (λ (w : ℕ). le w a 8) (width fore rear (links s g h ag ah from) (kind_of a) ∙ ap (id_width rear) starting.kind)
            ∙ le-near a b e (id_width rear (kind_of b)) 8 (let r = narrow rear (kind_of b) in omega (arith, r))

        header : header_of fore a ≡ header_of rear b
        header = λ i. record { kind = starting.kind i; length = starting.says i; id = ids i; size = sizes i }

        rows : rows_at (shared_set fore) (kind_of_bytes a) ≡ rows_at (shared_set rear) (kind_of_bytes b)
        rows = λ i. rows_at ((links s g h ag ah from).set i) (kind_or (find (starting.kind i) kinds))

        rest : rest_at (shared_set fore) (kind_of_bytes a) (body_size fore a) ≡ rest_at (shared_set rear) (kind_of_bytes b) (body_size rear b)
        rest =
            let c : length (drop (head_size fore a) a) ≡ length (drop (head_size rear b) b) = length-drop (head_size fore a) a ∙ (λ i. e.count i - sizes i) ∙ sym (length-drop (head_size rear b) b) in
            λ i. rest_at ((links s g h ag ah from).set i) (kind_or (find (starting.kind i) kinds)) (c i)

        fields : (decode fore a).fields ≡ (decode rear b).fields
        fields = ap (λ (c : Content). c.fields) (decode-hello fore a z) ∙ fields-near a b e ∙ sym (ap (λ (c : Content). c.fields) (decode-hello rear b zero-too))

  pub verdict-near : AlikeVerdicts false (verdict_of s from a) (verdict_of (with_hellos g h s) from b)
  unfolding verdict_of
  verdict-near =
      let n = number-near (λ z. wire-hello (eqb-true (kind_of a) 0 z)) in
      subst (λ (v : VerdictTold). AlikeVerdicts false (verdict_by s from (read_number fore a) (decode fore a) (read_of fore a) (kind_of a)) v)
      (λ i. verdict_by (with_hellos g h s) from (n i) (decode rear b) (read_of rear b) (starting.kind i))
      (verdict-by false s g h ag ah from (read_number fore a) (decode fore a) (decode rear b) (read_of fore a) (read_of rear b) (kind_of a)
      (λ t. cases (eqb (kind_of a) 0)
      (λ z. let k = eqb-true (kind_of a) 0 z in (judged-near k, handed-near k t n))
      (λ z. absurd (false≢true (sym (other-refused (ltb (length a) (head_size fore a)) (ltb 32768 (length_of a))) ∙ ap (λ (k : ℕ). eqb k 0) (sym (other-number fore a first z)) ∙ t)))))
