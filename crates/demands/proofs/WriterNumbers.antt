-- The writer's 22 and 24 exactly: each is `writer-number-is` with the check that fails, and those before it.
-- Assumes nothing.
use Rattle.std.specs.Prelude.{Option, Some, None}
use Prim.Native.Nat.{ℕ, zero, suc, ◌+◌, ◌*◌, ◌/◌, ◌%◌, ◌^◌, ◌≤◌, ◌<◌}
use native.Mathlib.Omega.{arith}
use mathlib.Core.Bool.{Bool, true, false, cond, ◌||◌, true≢false, false≢true}
use mathlib.Core.List.{List, [], ◌∷◌}
use Rattle.std.proofs.lemmas.Option.{none-some, same_Some}
use mathlib.Core.Path.{◌≡◌, refl, sym, ap, subst, ◌∙◌}
use lib.ListN.{length, get_or, drop, length-drop}
use lib.Dec.{eqb, leb, lit<, lit≤}
use borrow.Author.Tests.{lt-leb, le-leb, lt-ltb, eq-eqb}
use borrow.Table.Steps.{cases}
use Rattle.octets.specs.Bits.{has_bit}
use Rattle.header.specs.declared.Side.{Side}
use Rattle.header.specs.declared.Side.TheVariants.{Host}
use Rattle.header.specs.declared.Link.{Link}
use Rattle.header.specs.Link.{shared_set, id_width}
use Rattle.kinds.specs.Table.{Kind, kinds, kind_at}
use Rattle.kinds.specs.Content.{Value, one, Content, first_number, named, numbers, size}
use Rattle.kinds.specs.Codec.{layout}
use Rattle.kinds.specs.Number.{bad, kind_number, wire_number}
use Rattle.kinds.specs.Formed.{Line, field_at, There, Sends, Shared, Sharing, Onward, count_with, data_count, Sized}
use Rattle.kinds.proofs.Formed.{id-fits, wire-number-is}
use Rattle.kinds.proofs.FieldBytes.{length-numbers}
use Rattle.packet.specs.declared.Connect.{Connect as ConnectFields}
use Rattle.packet.specs.declared.EndpointTable.{EndpointTable as EndpointTableFields}
use Rattle.packet.specs.declared.Bulk.{Bulk as BulkFields}
use Rattle.packet.specs.declared.Packet.TheVariants.{Connect, EndpointTable, Bulk}
use Rattle.packet.specs.Packet.{in_part, high, columns_of, single, rows_in, content_of}
use Rattle.packet.specs.Rows.{table_size}
use Rattle.packet.proofs.Rows.{table-size}
use Rattle.session.specs.declared.Session.{Session}
use Rattle.session.specs.Session.{link_of}
use Rattle.gate.specs.Write.{write_by}
use Rattle.demands.specs.PassesInWords.{Reaches}
use Rattle.demands.proofs.PassesInWords.{writer-number-is}
use Rattle.demands.specs.WriterNumbers.{connect_version, max_packet, max_streams, length_high, OptionalFields, LeftOut, LeftOutIs22, Missing, MissingIs24, connect, ConnectNumbers, ConnectIs, table, Rows32, TableIs, bulk, BulkIs, said_by, ConnectPacketIs, TablePacketIs, BulkPacketIs}

pub optional-fields : OptionalFields
unfolding kinds
optional-fields = record { only = refl; connect-version = refl; max-packet = refl; max-streams = refl; length-high = refl }

-- ---- the lines

line-1 : (p : Content) → p.kind ≡ 1 → Line p (kind_at 1)
unfolding kinds
line-1 p e = record { slot = 1; listed = omega arith; line = refl; number = sym e }

line-5 : (p : Content) → p.kind ≡ 5 → Line p (kind_at 5)
unfolding kinds
line-5 p e = record { slot = 5; listed = omega arith; line = refl; number = sym e }

line-101 : (p : Content) → p.kind ≡ 101 → Line p (kind_at 29)
unfolding kinds
line-101 p e = record { slot = 29; listed = omega arith; line = refl; number = sym e }

-- ---- 22

module _ (from : Side) (s : Session) (p : Content) (space : ℕ) (r : Reaches from s p) where
  abbrev l : Link
  l = link_of from s

  is-22 : (k : Kind) → Line p k → Sends k.sender from → (Sharing l k p → ⊥) → write_by from s p space ≡ 22
  is-22 k h a z = (writer-number-is from s p space r).not-shared.1 (k, h, a, z)

  -- a field that is there and is not shared
  surplus : (k : Kind) → Line p k → Sends k.sender from → (i : ℕ) → i < length k.fields → (Shared (shared_set l) (field_at k i).there → ⊥)
      → (xs : List ℕ) → There p i xs → write_by from s p space ≡ 22
  surplus k h a i n z xs t = is-22 k h a (λ q. z (q.fields i n xs t))

  -- a shared field that is not there
  is-24 : (k : Kind) → Line p k → Sends k.sender from → Sharing l k p → Sized l k p → (i : ℕ) → i < length k.fields → Shared (shared_set l) (field_at k i).there
      → ((xs : List ℕ) → There p i xs → ⊥) → write_by from s p space ≡ 24
  is-24 k h a b c i n w z = (writer-number-is from s p space r).rule-broken.1 (k, h, a, b, c, λ q. let t = q.there i n w in z t.0 t.1)

  -- without its high part a bulk count is the low one
  high_zero : (vs : List Value) → get_or vs length_high None ≡ None → named "length high" (kind_at 29).fields vs ≡ 0
  unfolding kinds
  high_zero [] e = refl
  high_zero (a ∷ []) e = refl
  high_zero (a ∷ b ∷ []) e = refl
  high_zero (a ∷ b ∷ c ∷ []) e = refl
  high_zero (a ∷ b ∷ c ∷ d ∷ []) e = refl
  high_zero (a ∷ b ∷ c ∷ d ∷ None ∷ vs) e = refl
  high_zero (a ∷ b ∷ c ∷ d ∷ Some xs ∷ vs) e = absurd (none-some _ (sym e))

  has-high : named "length" (kind_at 29).fields p.fields ≤ 65535 → 65535 < count_with true (named "length" (kind_at 29).fields p.fields) (named "length high" (kind_at 29).fields p.fields) → (xs : List ℕ) × There p length_high xs
  has-high u v = go (get_or p.fields length_high None) refl
    where
      go : (o : Value) → get_or p.fields length_high None ≡ o → (xs : List ℕ) × There p length_high xs
      go None e = let z : named "length high" (kind_at 29).fields p.fields ≡ 0 = high_zero p.fields e in absurd (omega (arith, u, v, z))
      go (Some xs) e = (xs, e)

  left_out : LeftOut from s p (write_by from s p space)
  unfolding kinds
  left_out =
      record {
        connect-version = λ e h b xs t. surplus (kind_at 1) (line-1 p e) h connect_version (lit< tt) (λ q. true≢false (sym q ∙ b)) xs t;
        max-packet = λ e h b xs t. surplus (kind_at 5) (line-5 p e) h max_packet (lit< tt) (λ q. true≢false (sym q ∙ b)) xs t;
        max-streams = λ e h b xs t. surplus (kind_at 5) (line-5 p e) h max_streams (lit< tt) (λ q. b q.0 q.1) xs t;
        bulk-count = λ e b u v. let t = has-high u v in surplus (kind_at 29) (line-101 p e) tt length_high (lit< tt) (λ q. true≢false (sym q ∙ b)) t.0 t.1;
        wide-id = λ k h a z b n. is-22 k h a (λ q. let w : p.id < 4294967296 = q.narrow z b in omega (arith, w, n));
      }

  missing : Missing from s p (write_by from s p space)
  unfolding kinds
  missing =
      record {
        connect-version = λ e h a c b z. is-24 (kind_at 1) (line-1 p e) h a c connect_version (lit< tt) b z;
        max-packet = λ e h a c b z. is-24 (kind_at 5) (line-5 p e) h a c max_packet (lit< tt) b z;
        max-streams = λ e h a c b d z. is-24 (kind_at 5) (line-5 p e) h a c max_streams (lit< tt) (b, d) z;
        length-high = λ e a c b z. is-24 (kind_at 29) (line-101 p e) tt a c length_high (lit< tt) b z;
      }

pub left-out-is-22 : LeftOutIs22
left-out-is-22 = left_out

pub missing-is-24 : MissingIs24
missing-is-24 = missing

-- ---- a connect

-- its wire checks up to 23 hold, and with no version where bit 1 is shared a field rule is broken, whatever the speed is
connect-24 : (link : Link) (id speed class subclass protocol vendor product : ℕ) → link.sender ≡ Host → has_bit (shared_set link) 1 ≡ true → id < 256 ^ id_width link 1
    → wire_number link (connect id speed class subclass protocol vendor product None) ≡ 24
unfolding wire_number kind_number bad kinds id_width shared_set
connect-24 link id speed class subclass protocol vendor product h b n =
    cases (leb speed 3 || eqb speed 255) (λ t. rw (h, b, lt-leb (256 ^ id_width link 1) id n, t) refl) (λ t. rw (h, b, lt-leb (256 ^ id_width link 1) id n, t) refl)

pub connect-is : ConnectIs
connect-is s id speed class subclass protocol vendor product space =
    record {
      present = λ version r b. (left-out-is-22 Host s (connect id speed class subclass protocol vendor product (one version)) space r).connect-version refl refl b (version ∷ []) refl;
      absent = λ r b n.
          let p : Content = connect id speed class subclass protocol vendor product None in
          (writer-number-is Host s p space r).rule-broken.1 ((wire-number-is (link_of Host s) p).rule-broken.0 (connect-24 (link_of Host s) id speed class subclass protocol vendor product refl b n));
    }

-- ---- an endpoint table

module _ (s : Session) (id : ℕ) (types intervals interfaces : List ℕ) (packets streams : Value) where
  abbrev t : Content
  t = table id types intervals interfaces packets streams

  -- nothing is there that is not shared
  table-sharing : ((xs : List ℕ) → packets ≡ Some xs → has_bit (shared_set (link_of Host s)) 4 ≡ true)
      → ((xs : List ℕ) → streams ≡ Some xs → (has_bit (shared_set (link_of Host s)) 4 ≡ true) × (has_bit (shared_set (link_of Host s)) 0 ≡ true))
      → id < 256 ^ id_width (link_of Host s) 5 → Sharing (link_of Host s) (kind_at 5) t
  unfolding kinds
  table-sharing a b n = record { needed = tt; fields = at; narrow = λ z. (id-fits (link_of Host s) 5 id z n).0; wide = λ z. (id-fits (link_of Host s) 5 id z n).1 }
    where
      at : (i : ℕ) → i < length (kind_at 5).fields → (xs : List ℕ) → There t i xs → Shared (shared_set (link_of Host s)) (field_at (kind_at 5) i).there
      at zero h xs e = tt
      at (suc zero) h xs e = tt
      at (suc (suc zero)) h xs e = tt
      at (suc (suc (suc zero))) h xs e = a xs e
      at (suc (suc (suc (suc zero)))) h xs e = b xs e
      at (suc (suc (suc (suc (suc i))))) h xs e = absurd (none-some _ e)

  table-sized : Rows32 (Some types) → Rows32 (Some intervals) → Rows32 (Some interfaces) → Rows32 packets → Rows32 streams → Sized (link_of Host s) (kind_at 5) t
  unfolding kinds
  table-sized a b c d e = record { all = lit≤ tt; whole = at; tail = refl }
    where
      at : (i : ℕ) → i < length (kind_at 5).fields → (xs : List ℕ) → There t i xs → length xs ≡ (field_at (kind_at 5) i).times
      at zero h xs q = a xs q
      at (suc zero) h xs q = b xs q
      at (suc (suc zero)) h xs q = c xs q
      at (suc (suc (suc zero))) h xs q = d xs q
      at (suc (suc (suc (suc zero)))) h xs q = e xs q
      at (suc (suc (suc (suc (suc i))))) h xs q = absurd (none-some _ q)

-- a field that is not there has no numbers
absent-of : (v : Value) → v ≡ None → (xs : List ℕ) → v ≡ Some xs → ⊥
absent-of v e xs q = none-some _ (sym e ∙ q)

pub table_is : TableIs
table_is s id types intervals interfaces packets streams space r =
    let p : Content = table id types intervals interfaces packets streams in
    let out = left-out-is-22 Host s p space r in
    let gone = missing-is-24 Host s p space r in
    record {
      packets-present = λ b xs e. out.max-packet refl refl b xs e;
      streams-present = λ b xs e. out.max-streams refl refl b xs e;
      packets-absent = λ a b c d n four zero-too e.
          gone.max-packet refl refl
          (table-sharing s id types intervals interfaces packets streams (λ xs q. absurd (absent-of packets e xs q)) (λ xs q. (four, zero-too xs q)) n)
          (table-sized s id types intervals interfaces packets streams a b c (λ xs q. absurd (absent-of packets e xs q)) d) four (absent-of packets e);
      streams-absent = λ a b c d n four zero-too e.
          gone.max-streams refl refl
          (table-sharing s id types intervals interfaces packets streams (λ xs q. four) (λ xs q. absurd (absent-of streams e xs q)) n)
          (table-sized s id types intervals interfaces packets streams a b c d (λ xs q. absurd (absent-of streams e xs q))) four zero-too (absent-of streams e);
    }

-- ---- a bulk packet

-- one number
one_number : (x : ℕ) (xs : List ℕ) → one x ≡ Some xs → length xs ≡ 1
one_number x xs e = ap length (sym (same_Some _ _ e))

module _ (from : Side) (s : Session) (id e status low stream : ℕ) (high : Value) (rest : List ℕ) where
  abbrev u : Content
  u = bulk id e status low stream high rest

  bulk-sharing : high ≡ None → id < 256 ^ id_width (link_of from s) 101 → Sharing (link_of from s) (kind_at 29) u
  unfolding kinds
  bulk-sharing z n = record { needed = tt; fields = at; narrow = λ k. (id-fits (link_of from s) 101 id k n).0; wide = λ k. (id-fits (link_of from s) 101 id k n).1 }
    where
      at : (i : ℕ) → i < length (kind_at 29).fields → (xs : List ℕ) → There u i xs → Shared (shared_set (link_of from s)) (field_at (kind_at 29) i).there
      at zero h xs q = tt
      at (suc zero) h xs q = tt
      at (suc (suc zero)) h xs q = tt
      at (suc (suc (suc zero))) h xs q = tt
      at (suc (suc (suc (suc zero)))) h xs q = absurd (absent-of high z xs q)
      at (suc (suc (suc (suc (suc i))))) h xs q = absurd (none-some _ q)

  -- the count is the low part
  low_count : high ≡ None → data_count (link_of from s) (kind_at 29) u ≡ low
  unfolding kinds
  low_count z = go (has_bit (shared_set (link_of from s)) 6) (ap first_number z)
    where
      go : (b : Bool) → first_number high ≡ 0 → count_with b low (first_number high) ≡ low
      go true k = omega (arith, k)
      go false k = refl

  bulk-sized : high ≡ None → (Onward from e → length rest ≡ low) → ((Onward from e → ⊥) → length rest ≡ 0) → Sized (link_of from s) (kind_at 29) u
  unfolding kinds
  bulk-sized z a b = record { all = lit≤ tt; whole = at; tail = (λ o. a o ∙ sym (low_count z), b) }
    where
      at : (i : ℕ) → i < length (kind_at 29).fields → (xs : List ℕ) → There u i xs → length xs ≡ (field_at (kind_at 29) i).times
      at zero h xs q = one_number e xs q
      at (suc zero) h xs q = one_number status xs q
      at (suc (suc zero)) h xs q = one_number low xs q
      at (suc (suc (suc zero))) h xs q = one_number stream xs q
      at (suc (suc (suc (suc zero)))) h xs q = absurd (absent-of high z xs q)
      at (suc (suc (suc (suc (suc i))))) h xs q = absurd (none-some _ q)

  -- a high part that is there is one that is not shared
  high-22 : (space : ℕ) → Reaches from s u → has_bit (shared_set (link_of from s)) 6 ≡ false → (xs : List ℕ) → high ≡ Some xs → write_by from s u space ≡ 22
  unfolding kinds
  high-22 space r b xs q = surplus from s u space r (kind_at 29) (line-101 u refl) tt length_high (lit< tt) (λ w. true≢false (sym w ∙ b)) xs q

pub bulk-is : BulkIs
bulk-is from s id e status low stream high rest space r =
    record {
      high-present = high-22 from s id e status low stream high rest space r;
      high-absent = λ b z n u v.
          (missing-is-24 from s (bulk id e status low stream high rest) space r).length-high refl
          (bulk-sharing from s id e status low stream high rest z n)
          (bulk-sized from s id e status low stream high rest z u v) b (absent-of high z);
    }

-- ---- the packets of the code

connect-said : (caps id : ℕ) (x : ConnectFields) (body : List ℕ)
    → content_of caps id (Connect x) body ≡ connect id x.speed x.class x.subclass x.protocol x.vendor x.product (single x.version)
unfolding content_of layout kinds
connect-said caps id x body = refl

pub connect-packet-is : ConnectPacketIs
connect-packet-is s id x body space r =
    record {
      present = λ v q b. let w = said-as (Some v) q in ap (λ (p : Content). write_by Host s p space) w ∙ numbers_of.present v (subst (Reaches Host s) w r) b;
      absent = λ q b n. let w = said-as None q in ap (λ (p : Content). write_by Host s p space) w ∙ numbers_of.absent (subst (Reaches Host s) w r) b n;
    }
  where
    numbers_of : ConnectNumbers s id x.speed x.class x.subclass x.protocol x.vendor x.product space
    numbers_of = connect-is s id x.speed x.class x.subclass x.protocol x.vendor x.product space

    said-as : (v : Option ℕ) → x.version ≡ v → said_by Host s id (Connect x) body ≡ connect id x.speed x.class x.subclass x.protocol x.vendor x.product (single v)
    said-as v q =
        connect-said (shared_set (link_of Host s)) id x body
        ∙ ap (λ (o : Option ℕ). connect id x.speed x.class x.subclass x.protocol x.vendor x.product (single o)) q

-- a column of 32 numbers of w bytes, none where it is cut short
abbrev column : ℕ → List ℕ → List ℕ
column w s = cond (leb (w * 32) (length s)) (numbers w 32 s 0) []

column-length : (w : ℕ) (s : List ℕ) → w * 32 ≤ length s → length (column w s) ≡ 32
column-length w s h = rw (le-leb (w * 32) (length s) h) (length-numbers w 32 s 0)

-- a table's columns, one behind the other
module _ (packets streams : Bool) (part : List ℕ) where
  abbrev rows : List ℕ
  rows = rows_in (size (columns_of packets streams) (layout 5)) part

  abbrev behind : List ℕ
  behind = drop 32 (drop 32 (drop 32 rows))

  abbrev max_packets : Value
  max_packets = cond packets (Some (column 2 behind)) None

  abbrev all_streams : Value
  all_streams = cond streams (Some (column 4 (drop (cond packets 64 0) behind))) None

  abbrev table_of : ℕ → Content
  table_of id = table id (column 1 rows) (column 1 (drop 32 rows)) (column 1 (drop 32 (drop 32 rows))) max_packets all_streams

  total : table_size packets streams ≡ 96 + (cond packets 64 0 + cond streams 128 0)
  total = go packets streams
    where
      go : (a b : Bool) → table_size a b ≡ 96 + (cond a 64 0 + cond b 128 0)
      go true true = refl
      go true false = refl
      go false true = refl
      go false false = refl

  module _ (h : length part ≡ table_size packets streams) where
    rows_are : rows ≡ part
    rows_are = rw (eq-eqb (length part) (size (columns_of packets streams) (layout 5)) (h ∙ table-size packets streams)) refl

    rows-count : length rows ≡ 96 + (cond packets 64 0 + cond streams 128 0)
    rows-count = ap length rows_are ∙ h ∙ total

    behind-count : length behind ≡ cond packets 64 0 + cond streams 128 0
    behind-count =
        let a = length-drop 32 (drop 32 (drop 32 rows)) in
        let b = length-drop 32 (drop 32 rows) in
        let c = length-drop 32 rows in
        let d = rows-count in omega (arith, a, b, c, d)

    first_rows : Rows32 (Some (column 1 rows))
    first_rows xs e = ap length (sym (same_Some _ _ e)) ∙ column-length 1 rows (let d = rows-count in omega (arith, d))

    second-rows : Rows32 (Some (column 1 (drop 32 rows)))
    second-rows xs e =
        ap length (sym (same_Some _ _ e)) ∙ column-length 1 (drop 32 rows) (let d = rows-count in let c = length-drop 32 rows in omega (arith, c, d))

    third-rows : Rows32 (Some (column 1 (drop 32 (drop 32 rows))))
    third-rows xs e =
        ap length (sym (same_Some _ _ e))
        ∙ column-length 1 (drop 32 (drop 32 rows)) (let d = rows-count in let c = length-drop 32 rows in let b = length-drop 32 (drop 32 rows) in omega (arith, b, c, d))

    packet-rows : Rows32 max_packets
    packet-rows xs e =
        cases packets
        (λ t. let q : Some (column 2 behind) ≡ Some xs = sym (rw t refl) ∙ e in
        let n : ◌≡◌ {A = ℕ} (cond packets 64 0) 64 = rw t refl in
        ap length (sym (same_Some _ _ q)) ∙ column-length 2 behind (let d = behind-count in omega (arith, d, n)))
        (λ t. let q : None ≡ Some xs = sym (rw t refl) ∙ e in absurd (none-some _ q))

    stream-rows : Rows32 all_streams
    stream-rows xs e =
        cases streams
        (λ t. let q : Some (column 4 (drop (cond packets 64 0) behind)) ≡ Some xs = sym (rw t refl) ∙ e in
        let n : ◌≡◌ {A = ℕ} (cond streams 128 0) 128 = rw t refl in
        ap length (sym (same_Some _ _ q))
        ∙ column-length 4 (drop (cond packets 64 0) behind) (let d = behind-count in let c = length-drop (cond packets 64 0) behind in omega (arith, c, d, n)))
        (λ t. let q : None ≡ Some xs = sym (rw t refl) ∙ e in absurd (none-some _ q))

table-said : (caps id : ℕ) (x : EndpointTableFields) (body : List ℕ) → content_of caps id (EndpointTable x) body ≡ table_of x.maxpacket x.maxstreams (in_part x.rows body) id
unfolding content_of layout kinds
table-said caps id x body = refl

pub table-packet-is : TablePacketIs
table-packet-is s id x body space r =
    let packets = x.maxpacket in
    let streams = x.maxstreams in
    let part = in_part x.rows body in
    let w = table-said (shared_set (link_of Host s)) id x body in
    let same : write_by Host s (said_by Host s id (EndpointTable x) body) space ≡ write_by Host s (table_of packets streams part id) space = ap (λ (p : Content). write_by Host s p space) w in
    let n = table_is s id _ _ _ (max_packets packets streams part) (all_streams packets streams part) space (subst (Reaches Host s) w r) in
    record {
      packets-present = λ b t. same ∙ n.packets-present b (column 2 (behind packets streams part)) (there packets t (column 2 (behind packets streams part)));
      streams-present = λ b t. same ∙ n.streams-present b _ (there streams t (column 4 (drop (cond packets 64 0) (behind packets streams part))));
      packets-absent = λ h i four zero-too t.
          same
          ∙ n.packets-absent (first_rows packets streams part h) (second-rows packets streams part h) (third-rows packets streams part h) (stream-rows packets streams part h) i four
          (λ xs e. zero-too (given streams _ xs e)) (gone packets t _);
      streams-absent = λ h i four zero-too t.
          same
          ∙ n.streams-absent (first_rows packets streams part h) (second-rows packets streams part h) (third-rows packets streams part h) (packet-rows packets streams part h) i four zero-too (gone streams t _);
    }
  where
    there : (b : Bool) → b ≡ true → (xs : List ℕ) → cond b (Some xs) None ≡ Some xs
    there true t xs = refl
    there false t xs = absurd (false≢true t)

    gone : (b : Bool) → b ≡ false → (xs : List ℕ) → ◌≡◌ {A = Value} (cond b (Some xs) None) None
    gone true t xs = absurd (true≢false t)
    gone false t xs = refl

    given : (b : Bool) (xs ys : List ℕ) → cond b (Some xs) None ≡ Some ys → b ≡ true
    given true xs ys e = refl
    given false xs ys e = absurd (none-some _ e)

bulk-said : (caps id : ℕ) (x : BulkFields) (body : List ℕ)
    → content_of caps id (Bulk x) body ≡ bulk id x.endpoint.0 x.status (x.length % 65536) x.stream (single (high caps x.length)) (in_part x.payload body)
unfolding content_of layout kinds
bulk-said caps id x body = refl

pub bulk-packet-is : BulkPacketIs
bulk-packet-is from s id x body space r b n =
    let w = bulk-said (shared_set (link_of from s)) id x body in
    ap (λ (p : Content). write_by from s p space) w
    ∙ (bulk-is from s id x.endpoint.0 x.status (x.length % 65536) x.stream (single (high (shared_set (link_of from s)) x.length)) (in_part x.payload body) space (subst (Reaches from s) w r)
    ).high-present b ((x.length / 65536) ∷ []) (rw (b, lt-ltb 65535 x.length n) refl)
