-- Each reading of a kind below 100 says what the table says: a law for each variant, and how an arm of the code cites it.
-- Assumes nothing.
use Rattle.std.specs.Bool.{then_some}
use Rattle.std.specs.Prelude.{Some, None}
use Prim.Native.Nat.{ℕ, zero, suc, ◌+◌, ◌*◌, ◌≤◌, ◌<◌}
use native.Mathlib.Nat.{mul-suc}
use native.Mathlib.Omega.{arith}
use mathlib.Core.Path.{◌≡◌, refl, sym, ap, subst, ◌∙◌}
use mathlib.Core.Bool.{Bool, true, false, cond, ◌&&◌}
use mathlib.Core.List.{List, [], ◌∷◌, ◌++◌}
use lib.ListN.{length, take, drop, length-drop, drop_of_length-le, take-append-drop}
use lib.Seq.{take-length, length-take-le}
use lib.Dec.{eqb, leb}
use borrow.Author.Tests.{eq-eqb, le-leb}
use Rattle.octets.specs.Little.{le}
use Rattle.octets.specs.Bits.{has_bit}
use Rattle.octets.proofs.Integers.{le-front}
use Rattle.kinds.specs.Table.{kinds, kind_at}
use Rattle.kinds.specs.Content.{one, numbers, shared, size, split}
use Rattle.kinds.specs.Codec.{layout, content_at}
use Rattle.kinds.proofs.FieldBytes.{split-full}
use Rattle.packet.specs.declared.Packet.{Packet}
use Rattle.packet.specs.declared.Packet.TheVariants.{Hello, Connect, Disconnect, Reset, InterfaceTable, EndpointTable, SetConfiguration, GetConfiguration, ConfigurationStatus, SetAlt, GetAlt, AltStatus, StartIso, StopIso, IsoStatus, StartInterrupt, StopInterrupt, InterruptStatus, AllocStreams, FreeStreams, StreamsStatus, Cancel, FilterReject, Filter, DisconnectAck, StartBulkReceiving, StopBulkReceiving, BulkReceivingStatus}
use Rattle.packet.specs.Packet.{content_of, single, rows_in}
use Rattle.decoder.specs.Body.{Fits, ReadsBody}

none_left : (body : List ℕ) (n : ℕ) → length body ≡ n → drop n body ≡ []
none_left body n e = let h : length body ≤ n = omega (arith, e) in drop_of_length-le body h

pub disconnect : (caps : ℕ) (body : List ℕ) → Fits caps 2 body → ReadsBody caps 2 body Disconnect
unfolding kinds layout content_of content_at
disconnect caps body f =
    record {
      content = λ id i. record { kind = 2; id = id; fields = sym (split-full (shared caps) (kind_at 2).fields body f.there) i; rest = sym (none_left body 0 (f.exact refl)) i };
      rows = refl;
      rest = refl;
    }

pub reset : (caps : ℕ) (body : List ℕ) → Fits caps 3 body → ReadsBody caps 3 body Reset
unfolding kinds layout content_of content_at
reset caps body f =
    record {
      content = λ id i. record { kind = 3; id = id; fields = sym (split-full (shared caps) (kind_at 3).fields body f.there) i; rest = sym (none_left body 0 (f.exact refl)) i };
      rows = refl;
      rest = refl;
    }

pub set-configuration : (caps : ℕ) (body : List ℕ) → Fits caps 6 body → ReadsBody caps 6 body (SetConfiguration (record { configuration = le 1 body 0 }))
unfolding kinds layout content_of content_at
set-configuration caps body f =
    record {
      content = λ id i. record { kind = 6; id = id; fields = sym (split-full (shared caps) (kind_at 6).fields body f.there) i; rest = sym (none_left body 1 (f.exact refl)) i };
      rows = refl;
      rest = refl;
    }

pub get-configuration : (caps : ℕ) (body : List ℕ) → Fits caps 7 body → ReadsBody caps 7 body GetConfiguration
unfolding kinds layout content_of content_at
get-configuration caps body f =
    record {
      content = λ id i. record { kind = 7; id = id; fields = sym (split-full (shared caps) (kind_at 7).fields body f.there) i; rest = sym (none_left body 0 (f.exact refl)) i };
      rows = refl;
      rest = refl;
    }

pub configuration-status : (caps : ℕ) (body : List ℕ) → Fits caps 8 body → ReadsBody caps 8 body (ConfigurationStatus (record { status = le 1 body 0; configuration = le 1 body 1 }))
unfolding kinds layout content_of content_at
configuration-status caps body f =
    record {
      content = λ id i. record { kind = 8; id = id; fields = sym (split-full (shared caps) (kind_at 8).fields body f.there) i; rest = sym (none_left body 2 (f.exact refl)) i };
      rows = refl;
      rest = refl;
    }

pub set_alt : (caps : ℕ) (body : List ℕ) → Fits caps 9 body → ReadsBody caps 9 body (SetAlt (record { interface = le 1 body 0; alt = le 1 body 1 }))
unfolding kinds layout content_of content_at
set_alt caps body f =
    record {
      content = λ id i. record { kind = 9; id = id; fields = sym (split-full (shared caps) (kind_at 9).fields body f.there) i; rest = sym (none_left body 2 (f.exact refl)) i };
      rows = refl;
      rest = refl;
    }

pub get-alt : (caps : ℕ) (body : List ℕ) → Fits caps 10 body → ReadsBody caps 10 body (GetAlt (record { interface = le 1 body 0 }))
unfolding kinds layout content_of content_at
get-alt caps body f =
    record {
      content = λ id i. record { kind = 10; id = id; fields = sym (split-full (shared caps) (kind_at 10).fields body f.there) i; rest = sym (none_left body 1 (f.exact refl)) i };
      rows = refl;
      rest = refl;
    }

pub alt_status : (caps : ℕ) (body : List ℕ) → Fits caps 11 body → ReadsBody caps 11 body (AltStatus (record { status = le 1 body 0; interface = le 1 body 1; alt = le 1 body 2 }))
unfolding kinds layout content_of content_at
alt_status caps body f =
    record {
      content = λ id i. record { kind = 11; id = id; fields = sym (split-full (shared caps) (kind_at 11).fields body f.there) i; rest = sym (none_left body 3 (f.exact refl)) i };
      rows = refl;
      rest = refl;
    }

pub start_iso : (caps : ℕ) (body : List ℕ) → Fits caps 12 body → ReadsBody caps 12 body (StartIso (record { endpoint = record { 0 = le 1 body 0 }; packets = le 1 body 1; urbs = le 1 body 2 }))
unfolding kinds layout content_of content_at
start_iso caps body f =
    record {
      content = λ id i. record { kind = 12; id = id; fields = sym (split-full (shared caps) (kind_at 12).fields body f.there) i; rest = sym (none_left body 3 (f.exact refl)) i };
      rows = refl;
      rest = refl;
    }

pub stop_iso : (caps : ℕ) (body : List ℕ) → Fits caps 13 body → ReadsBody caps 13 body (StopIso (record { endpoint = record { 0 = le 1 body 0 } }))
unfolding kinds layout content_of content_at
stop_iso caps body f =
    record {
      content = λ id i. record { kind = 13; id = id; fields = sym (split-full (shared caps) (kind_at 13).fields body f.there) i; rest = sym (none_left body 1 (f.exact refl)) i };
      rows = refl;
      rest = refl;
    }

pub iso_status : (caps : ℕ) (body : List ℕ) → Fits caps 14 body → ReadsBody caps 14 body (IsoStatus (record { status = le 1 body 0; endpoint = record { 0 = le 1 body 1 } }))
unfolding kinds layout content_of content_at
iso_status caps body f =
    record {
      content = λ id i. record { kind = 14; id = id; fields = sym (split-full (shared caps) (kind_at 14).fields body f.there) i; rest = sym (none_left body 2 (f.exact refl)) i };
      rows = refl;
      rest = refl;
    }

pub start_interrupt : (caps : ℕ) (body : List ℕ) → Fits caps 15 body → ReadsBody caps 15 body (StartInterrupt (record { endpoint = record { 0 = le 1 body 0 } }))
unfolding kinds layout content_of content_at
start_interrupt caps body f =
    record {
      content = λ id i. record { kind = 15; id = id; fields = sym (split-full (shared caps) (kind_at 15).fields body f.there) i; rest = sym (none_left body 1 (f.exact refl)) i };
      rows = refl;
      rest = refl;
    }

pub stop-interrupt : (caps : ℕ) (body : List ℕ) → Fits caps 16 body → ReadsBody caps 16 body (StopInterrupt (record { endpoint = record { 0 = le 1 body 0 } }))
unfolding kinds layout content_of content_at
stop-interrupt caps body f =
    record {
      content = λ id i. record { kind = 16; id = id; fields = sym (split-full (shared caps) (kind_at 16).fields body f.there) i; rest = sym (none_left body 1 (f.exact refl)) i };
      rows = refl;
      rest = refl;
    }

pub interrupt-status : (caps : ℕ) (body : List ℕ) → Fits caps 17 body → ReadsBody caps 17 body (InterruptStatus (record { status = le 1 body 0; endpoint = record { 0 = le 1 body 1 } }))
unfolding kinds layout content_of content_at
interrupt-status caps body f =
    record {
      content = λ id i. record { kind = 17; id = id; fields = sym (split-full (shared caps) (kind_at 17).fields body f.there) i; rest = sym (none_left body 2 (f.exact refl)) i };
      rows = refl;
      rest = refl;
    }

pub alloc-streams : (caps : ℕ) (body : List ℕ) → Fits caps 18 body → ReadsBody caps 18 body (AllocStreams (record { mask = le 4 body 0; count = le 4 body 4 }))
unfolding kinds layout content_of content_at
alloc-streams caps body f =
    record {
      content = λ id i. record { kind = 18; id = id; fields = sym (split-full (shared caps) (kind_at 18).fields body f.there) i; rest = sym (none_left body 8 (f.exact refl)) i };
      rows = refl;
      rest = refl;
    }

pub free-streams : (caps : ℕ) (body : List ℕ) → Fits caps 19 body → ReadsBody caps 19 body (FreeStreams (record { mask = le 4 body 0 }))
unfolding kinds layout content_of content_at
free-streams caps body f =
    record {
      content = λ id i. record { kind = 19; id = id; fields = sym (split-full (shared caps) (kind_at 19).fields body f.there) i; rest = sym (none_left body 4 (f.exact refl)) i };
      rows = refl;
      rest = refl;
    }

pub streams-status : (caps : ℕ) (body : List ℕ) → Fits caps 20 body → ReadsBody caps 20 body (StreamsStatus (record { mask = le 4 body 0; count = le 4 body 4; status = le 1 body 8 }))
unfolding kinds layout content_of content_at
streams-status caps body f =
    record {
      content = λ id i. record { kind = 20; id = id; fields = sym (split-full (shared caps) (kind_at 20).fields body f.there) i; rest = sym (none_left body 9 (f.exact refl)) i };
      rows = refl;
      rest = refl;
    }

pub cancel : (caps : ℕ) (body : List ℕ) → Fits caps 21 body → ReadsBody caps 21 body Cancel
unfolding kinds layout content_of content_at
cancel caps body f =
    record {
      content = λ id i. record { kind = 21; id = id; fields = sym (split-full (shared caps) (kind_at 21).fields body f.there) i; rest = sym (none_left body 0 (f.exact refl)) i };
      rows = refl;
      rest = refl;
    }

pub filter-reject : (caps : ℕ) (body : List ℕ) → Fits caps 22 body → ReadsBody caps 22 body FilterReject
unfolding kinds layout content_of content_at
filter-reject caps body f =
    record {
      content = λ id i. record { kind = 22; id = id; fields = sym (split-full (shared caps) (kind_at 22).fields body f.there) i; rest = sym (none_left body 0 (f.exact refl)) i };
      rows = refl;
      rest = refl;
    }

pub disconnect-ack : (caps : ℕ) (body : List ℕ) → Fits caps 24 body → ReadsBody caps 24 body DisconnectAck
unfolding kinds layout content_of content_at
disconnect-ack caps body f =
    record {
      content = λ id i. record { kind = 24; id = id; fields = sym (split-full (shared caps) (kind_at 24).fields body f.there) i; rest = sym (none_left body 0 (f.exact refl)) i };
      rows = refl;
      rest = refl;
    }

pub start-bulk-receiving : (caps : ℕ) (body : List ℕ) → Fits caps 25 body → ReadsBody caps 25 body (StartBulkReceiving (record { stream = le 4 body 0; bytes = le 4 body 4; endpoint = record { 0 = le 1 body 8 }; transfers = le 1 body 9 }))
unfolding kinds layout content_of content_at
start-bulk-receiving caps body f =
    record {
      content = λ id i. record { kind = 25; id = id; fields = sym (split-full (shared caps) (kind_at 25).fields body f.there) i; rest = sym (none_left body 10 (f.exact refl)) i };
      rows = refl;
      rest = refl;
    }

pub stop-bulk-receiving : (caps : ℕ) (body : List ℕ) → Fits caps 26 body → ReadsBody caps 26 body (StopBulkReceiving (record { stream = le 4 body 0; endpoint = record { 0 = le 1 body 4 } }))
unfolding kinds layout content_of content_at
stop-bulk-receiving caps body f =
    record {
      content = λ id i. record { kind = 26; id = id; fields = sym (split-full (shared caps) (kind_at 26).fields body f.there) i; rest = sym (none_left body 5 (f.exact refl)) i };
      rows = refl;
      rest = refl;
    }

pub bulk-receiving-status : (caps : ℕ) (body : List ℕ) → Fits caps 27 body → ReadsBody caps 27 body (BulkReceivingStatus (record { stream = le 4 body 0; endpoint = record { 0 = le 1 body 4 }; status = le 1 body 5 }))
unfolding kinds layout content_of content_at
bulk-receiving-status caps body f =
    record {
      content = λ id i. record { kind = 27; id = id; fields = sym (split-full (shared caps) (kind_at 27).fields body f.there) i; rest = sym (none_left body 6 (f.exact refl)) i };
      rows = refl;
      rest = refl;
    }

pub filter : (caps : ℕ) (body : List ℕ) → Fits caps 23 body → ReadsBody caps 23 body (Filter (record { string = record { start = 0; end = length body } }))
unfolding kinds layout content_of content_at
filter caps body f =
    let e : drop 0 (take (length body) body) ≡ drop 0 body = ap (drop 0) (take-length body) in
    record { content = λ id i. record { kind = 23; id = id; fields = sym (split-full (shared caps) (kind_at 23).fields body f.there) i; rest = e i }; rows = refl; rest = refl }

-- ---- the kinds with a field that may be absent, and the tables

optional-value : (b : Bool) (x : ℕ) → single ((then_some b x)) ≡ cond b (one x) None
optional-value true x = refl
optional-value false x = refl

pub connect : (caps : ℕ) (body : List ℕ) → Fits caps 1 body
    → ReadsBody caps 1 body (Connect (record { speed = le 1 body 0; class = le 1 body 1; subclass = le 1 body 2; protocol = le 1 body 3; vendor = le 2 body 4; product = le 2 body 6; version = then_some (has_bit caps 1) (le 2 body 8) }))
unfolding kinds layout content_of content_at
connect caps body f =
    let e : single ((then_some (has_bit caps 1) (le 2 body 8))) ≡ cond (has_bit caps 1) (one (le 2 body 8)) None = optional-value (has_bit caps 1) (le 2 body 8) in
    record {
      content = λ id.
          (λ i. record { kind = 1; id = id; fields = one (le 1 body 0) ∷ one (le 1 body 1) ∷ one (le 1 body 2) ∷ one (le 1 body 3) ∷ one (le 2 body 4) ∷ one (le 2 body 6) ∷ e i ∷ []; rest = [] })
          ∙ (λ i. record { kind = 1; id = id; fields = sym (split-full (shared caps) (kind_at 1).fields body f.there) i; rest = sym (none_left body (size (shared caps) (kind_at 1).fields) (f.exact refl)) i });
      rows = refl;
      rest = refl;
    }

-- fields are read off their own bytes: what stands behind these does not matter
numbers-front : (w n : ℕ) (a b : List ℕ) (at : ℕ) → at + w * n ≤ length a → numbers w n (a ++ b) at ≡ numbers w n a at
numbers-front w zero a b at h = refl
numbers-front w (suc n) a b at h =
    λ i. le-front w a b at (omega (arith, mul-suc w n)) i ∷ numbers-front w n a b (at + w) (omega (arith, mul-suc w n)) i

front-numbers : (w n : ℕ) (s : List ℕ) → w * n ≤ length s → numbers w n (take (w * n) s) 0 ≡ numbers w n s 0
front-numbers w n s h =
    sym (numbers-front w n (take (w * n) s) (drop (w * n) s) 0 (omega (arith, length-take-le (w * n) s h)))
    ∙ ap (λ (r : List ℕ). numbers w n r 0) (take-append-drop (w * n) s)

pub hello : (caps : ℕ) (body : List ℕ) → Fits caps 0 body
    → ReadsBody caps 0 body (Hello (record { version = record { start = 0; end = 64 }; words = record { start = 64; end = length body } }))
unfolding kinds layout content_of content_at
hello caps body f =
    let n : length (take 64 body) ≡ 64 = length-take-le 64 body f.there in
    let t : eqb (length (take 64 body)) 64 ≡ true = eq-eqb (length (take 64 body)) 64 n in
    let l : leb 64 (length (take 64 body)) ≡ true = le-leb 64 (length (take 64 body)) (omega (arith, n)) in
    let m : leb 64 (length body) ≡ true = le-leb 64 (length body) f.there in
    let e : drop 64 (take (length body) body) ≡ drop 64 body = ap (drop 64) (take-length body) in
    record {
      content = λ id. rw (t, l, m) (λ i. record { kind = 0; id = id; fields = Some (front-numbers 1 64 body f.there i) ∷ []; rest = e i });
      rows = refl;
      rest = refl;
    }

-- the rows of a table that fills the body, and of one behind its count
rows_all : (n : ℕ) (body : List ℕ) → length body ≡ n → rows_in n (drop 0 (take n body)) ≡ body
rows_all n body e = let t : take n body ≡ body = ap (λ (m : ℕ). take m body) (sym e) ∙ take-length body in rw (t, eq-eqb (length body) n e)

rows_whole : (a n : ℕ) (body : List ℕ) → length body ≡ a + n → rows_in n (drop a (take (a + n) body)) ≡ drop a body
rows_whole a n body e =
    let t : take (a + n) body ≡ body = ap (λ (m : ℕ). take m body) (sym e) ∙ take-length body in
    let l : length (drop a body) ≡ n = length-drop a body ∙ omega (arith, e) in
    rw (t, eq-eqb (length (drop a body)) n l)

pub interface-table : (caps : ℕ) (body : List ℕ) → Fits caps 4 body
    → ReadsBody caps 4 body (InterfaceTable (record { count = le 4 body 0; rows = record { start = 4; end = 132 } }))
unfolding kinds layout content_of content_at
interface-table caps body f =
    let e : length body ≡ 132 = f.exact refl in
    let l : leb 4 (length body) ≡ true = le-leb 4 (length body) (omega (arith, e)) in
    record {
      content = λ id. rw l (λ i. record { kind = 4; id = id; fields = one (le 4 body 0) ∷ split (shared caps) (drop 1 (kind_at 4).fields) (rows_whole 4 128 body e i); rest = sym (none_left body 132 e) i });
      rows = refl;
      rest = refl;
    }

abbrev endpoints_to : ℕ → ℕ → Packet
endpoints_to caps end = EndpointTable (record { rows = record { start = 0; end = end }; maxpacket = has_bit caps 4; maxstreams = has_bit caps 4 && has_bit caps 0 })

endpoints-whole : (caps : ℕ) (body : List ℕ) → length body ≡ size (shared caps) (kind_at 5).fields → ReadsBody caps 5 body (endpoints_to caps (size (shared caps) (kind_at 5).fields))
unfolding kinds layout content_of content_at
endpoints-whole caps body e =
    let n : ℕ = size (shared caps) (kind_at 5).fields in
    record {
      content = λ id i. record { kind = 5; id = id; fields = split (shared caps) (kind_at 5).fields (rows_all n body e i); rest = sym (none_left body n e) i };
      rows = refl;
      rest = refl;
    }

pub endpoint_table_packet : (caps : ℕ) (body : List ℕ) → Fits caps 5 body → ReadsBody caps 5 body (endpoints_to caps (length body))
unfolding kinds
endpoint_table_packet caps body f = subst (λ (n : ℕ). ReadsBody caps 5 body (endpoints_to caps n)) (sym (f.exact refl)) (endpoints-whole caps body (f.exact refl))

-- ---- a reading by a slot that is known

pub reads-by : {caps slot k : ℕ} {body : List ℕ} {p q : Packet} → (Fits caps k body → ReadsBody caps k body q) → Fits caps slot body → slot ≡ k → p ≡ q
    → ReadsBody caps slot body p
reads-by {caps} {slot} {k} {body} {p} {q} law f e r =
    subst (λ (x : Packet). ReadsBody caps slot body x) (sym r) (subst (λ (n : ℕ). Fits caps n body → ReadsBody caps n body q) (sym e) law f)

-- none of the numbers below n
abbrev NoneBelow : ℕ → ℕ → Type 0
NoneBelow slot zero = Unit {0}
NoneBelow slot (suc n) = NoneBelow slot n × (slot ≡ n → ⊥)

at_least : (slot n : ℕ) → NoneBelow slot n → n ≤ slot
at_least slot zero h = omega arith
at_least slot (suc n) h =
    let l : n ≤ slot = at_least slot n h.0 in
    let m : slot ≡ n → ⊥ = h.1 in
    omega arith

-- the slot that is left is the last
pub last : {slot : ℕ} → slot < 28 → NoneBelow slot 27 → slot ≡ 27
last {slot} h b = both slot h (at_least slot 27 b)
  where
    both : (s : ℕ) → s < 28 → 27 ≤ s → s ≡ 27
    both s h l = omega arith
