-- What each kind's rules find is what the table's checks say: a law for each variant, by computation.
-- Assumes nothing.
use Rattle.std.specs.Prelude.{Option, Some, None, is_some}
use Prim.Native.Nat.{ℕ, zero, suc, ◌+◌, ◌*◌, ◌/◌, ◌%◌, ◌≤◌, ◌<◌}
use native.Mathlib.Nat.{add-zero}
use native.Mathlib.Numerals.{add-one}
use native.Mathlib.Omega.{arith}
use mathlib.Core.Path.{◌≡◌, refl, sym, ap, ◌∙◌}
use mathlib.Core.Bool.{Bool, true, false, cond, not, ◌&&◌, ◌||◌, false≢true, or-false, and-true}
use mathlib.Core.List.{List, [], ◌∷◌}
use lib.ListN.{length, drop}
use lib.Dec.{eqb, leb, ltb, lit<, lit≤, leb-suc-zero, leb-suc-suc}
use borrow.Author.Tests.{eqb-true, ltb-false, le-leb, lt-leb}
use borrow.Table.Steps.{cases}
use Rattle.octets.specs.Little.{le}
use Rattle.octets.specs.Bits.{has_bit}
use Rattle.octets.proofs.Logic.{and_parts, or_parts}
use Rattle.header.specs.declared.Side.{Side}
use Rattle.header.specs.Link.{is_guest}
use Rattle.kinds.specs.Table.{Bits, Field, kinds, kind_at, endpoint-type}
use Rattle.kinds.specs.Content.{Content, numbers, size, split}
use Rattle.kinds.specs.Number.{onward, or_else, address_ok, zero_at, holds, first_bad, bad, complete, size_ok, surplus, streams_alone}
use Rattle.kinds.specs.Codec.{layout}
use Rattle.kinds.proofs.FieldBytes.{complete-split, numbers_after}
use Rattle.packet.specs.declared.Part.{Part}
use Rattle.packet.specs.declared.Hello.{Hello as HelloFields}
use Rattle.packet.specs.declared.Connect.{Connect as ConnectFields}
use Rattle.packet.specs.declared.InterfaceTable.{InterfaceTable as InterfaceTableFields}
use Rattle.packet.specs.declared.EndpointTable.{EndpointTable as EndpointTableFields}
use Rattle.packet.specs.declared.SetConfiguration.{SetConfiguration as SetConfigurationFields}
use Rattle.packet.specs.declared.ConfigurationStatus.{ConfigurationStatus as ConfigurationStatusFields}
use Rattle.packet.specs.declared.SetAlt.{SetAlt as SetAltFields}
use Rattle.packet.specs.declared.GetAlt.{GetAlt as GetAltFields}
use Rattle.packet.specs.declared.AltStatus.{AltStatus as AltStatusFields}
use Rattle.packet.specs.declared.StartIso.{StartIso as StartIsoFields}
use Rattle.packet.specs.declared.StopIso.{StopIso as StopIsoFields}
use Rattle.packet.specs.declared.IsoStatus.{IsoStatus as IsoStatusFields}
use Rattle.packet.specs.declared.StartInterrupt.{StartInterrupt as StartInterruptFields}
use Rattle.packet.specs.declared.StopInterrupt.{StopInterrupt as StopInterruptFields}
use Rattle.packet.specs.declared.InterruptStatus.{InterruptStatus as InterruptStatusFields}
use Rattle.packet.specs.declared.AllocStreams.{AllocStreams as AllocStreamsFields}
use Rattle.packet.specs.declared.FreeStreams.{FreeStreams as FreeStreamsFields}
use Rattle.packet.specs.declared.StreamsStatus.{StreamsStatus as StreamsStatusFields}
use Rattle.packet.specs.declared.Filter.{Filter as FilterFields}
use Rattle.packet.specs.declared.StartBulkReceiving.{StartBulkReceiving as StartBulkReceivingFields}
use Rattle.packet.specs.declared.StopBulkReceiving.{StopBulkReceiving as StopBulkReceivingFields}
use Rattle.packet.specs.declared.BulkReceivingStatus.{BulkReceivingStatus as BulkReceivingStatusFields}
use Rattle.packet.specs.declared.Control.{Control as ControlFields}
use Rattle.packet.specs.declared.Bulk.{Bulk as BulkFields}
use Rattle.packet.specs.declared.Iso.{Iso as IsoFields}
use Rattle.packet.specs.declared.Interrupt.{Interrupt as InterruptFields}
use Rattle.packet.specs.declared.BufferedBulk.{BufferedBulk as BufferedBulkFields}
use Rattle.packet.specs.declared.Packet.TheVariants.{Hello, Connect, Disconnect, Reset, InterfaceTable, EndpointTable, SetConfiguration, GetConfiguration, ConfigurationStatus, SetAlt, GetAlt, AltStatus, StartIso, StopIso, IsoStatus, StartInterrupt, StopInterrupt, InterruptStatus, AllocStreams, FreeStreams, StreamsStatus, Cancel, FilterReject, Filter, DisconnectAck, StartBulkReceiving, StopBulkReceiving, BulkReceivingStatus, Control, Bulk, Iso, Interrupt, BufferedBulk}
use Rattle.packet.specs.Packet.{in_part, no_part, rows_in, columns_in, columns_of, content_of}
use Rattle.packet.specs.Rows.{table_size}
use Rattle.packet.proofs.Rows.{table-size}
use Rattle.rules.specs.Findings.{Finds, findings, no_id, type_fault}

fault-step : (b : Bool) (x : Option ℕ) (a : ℕ) (y : Option ℕ) → or_else (cond b x (Some a)) y ≡ cond b (or_else x y) (Some a)
fault-step true x a y = refl
fault-step false x a y = refl

or_assoc : (x y z : Option ℕ) → or_else (or_else x y) z ≡ or_else x (or_else y z)
or_assoc None y z = refl
or_assoc (Some a) y z = refl

-- ---- the kinds with fields of numbers alone

pub disconnect : (from : Side) (caps id : ℕ) (body : List ℕ) → Finds from caps id Disconnect body (findings 2 false true (no_id id) false)
unfolding kinds layout content_of bad
disconnect from caps id body = record { small = lit< tt; kind = refl; surplus = refl; sized = refl; fault = λ h. refl; alone = refl }

pub reset : (from : Side) (caps id : ℕ) (body : List ℕ) → Finds from caps id Reset body (findings 3 false true None false)
unfolding kinds layout content_of bad
reset from caps id body = record { small = lit< tt; kind = refl; surplus = refl; sized = refl; fault = λ h. refl; alone = refl }

pub set-configuration : (from : Side) (caps id : ℕ) (x : SetConfigurationFields) (body : List ℕ) → Finds from caps id (SetConfiguration x) body (findings 6 false true None false)
unfolding kinds layout content_of bad
set-configuration from caps id x body = record { small = lit< tt; kind = refl; surplus = refl; sized = refl; fault = λ h. refl; alone = refl }

pub get-configuration : (from : Side) (caps id : ℕ) (body : List ℕ) → Finds from caps id GetConfiguration body (findings 7 false true None false)
unfolding kinds layout content_of bad
get-configuration from caps id body = record { small = lit< tt; kind = refl; surplus = refl; sized = refl; fault = λ h. refl; alone = refl }

pub configuration-status : (from : Side) (caps id : ℕ) (x : ConfigurationStatusFields) (body : List ℕ) → Finds from caps id (ConfigurationStatus x) body (findings 8 false true None false)
unfolding kinds layout content_of bad
configuration-status from caps id x body = record { small = lit< tt; kind = refl; surplus = refl; sized = refl; fault = λ h. refl; alone = refl }

pub set_alt : (from : Side) (caps id : ℕ) (x : SetAltFields) (body : List ℕ) → Finds from caps id (SetAlt x) body (findings 9 false true None false)
unfolding kinds layout content_of bad
set_alt from caps id x body = record { small = lit< tt; kind = refl; surplus = refl; sized = refl; fault = λ h. refl; alone = refl }

pub get-alt : (from : Side) (caps id : ℕ) (x : GetAltFields) (body : List ℕ) → Finds from caps id (GetAlt x) body (findings 10 false true None false)
unfolding kinds layout content_of bad
get-alt from caps id x body = record { small = lit< tt; kind = refl; surplus = refl; sized = refl; fault = λ h. refl; alone = refl }

pub alt_status : (from : Side) (caps id : ℕ) (x : AltStatusFields) (body : List ℕ) → Finds from caps id (AltStatus x) body (findings 11 false true None false)
unfolding kinds layout content_of bad
alt_status from caps id x body = record { small = lit< tt; kind = refl; surplus = refl; sized = refl; fault = λ h. refl; alone = refl }

pub start_iso : (from : Side) (caps id : ℕ) (x : StartIsoFields) (body : List ℕ) → Finds from caps id (StartIso x) body (findings 12 false true (cond (address_ok x.endpoint.0) None (Some 0)) false)
unfolding kinds layout content_of bad
start_iso from caps id x body = record { small = lit< tt; kind = refl; surplus = refl; sized = refl; fault = λ h. simp fault-step; alone = refl }

pub stop_iso : (from : Side) (caps id : ℕ) (x : StopIsoFields) (body : List ℕ) → Finds from caps id (StopIso x) body (findings 13 false true (cond (address_ok x.endpoint.0) None (Some 0)) false)
unfolding kinds layout content_of bad
stop_iso from caps id x body = record { small = lit< tt; kind = refl; surplus = refl; sized = refl; fault = λ h. simp fault-step; alone = refl }

pub iso_status : (from : Side) (caps id : ℕ) (x : IsoStatusFields) (body : List ℕ) → Finds from caps id (IsoStatus x) body (findings 14 false true (cond (address_ok x.endpoint.0) None (Some 1)) false)
unfolding kinds layout content_of bad
iso_status from caps id x body = record { small = lit< tt; kind = refl; surplus = refl; sized = refl; fault = λ h. simp fault-step; alone = refl }

pub start_interrupt : (from : Side) (caps id : ℕ) (x : StartInterruptFields) (body : List ℕ) → Finds from caps id (StartInterrupt x) body (findings 15 false true (cond (address_ok x.endpoint.0 && eqb (x.endpoint.0 / 128) 1) None (Some 0)) false)
unfolding kinds layout content_of bad
start_interrupt from caps id x body = record { small = lit< tt; kind = refl; surplus = refl; sized = refl; fault = λ h. simp fault-step; alone = refl }

pub stop-interrupt : (from : Side) (caps id : ℕ) (x : StopInterruptFields) (body : List ℕ) → Finds from caps id (StopInterrupt x) body (findings 16 false true (cond (address_ok x.endpoint.0 && eqb (x.endpoint.0 / 128) 1) None (Some 0)) false)
unfolding kinds layout content_of bad
stop-interrupt from caps id x body = record { small = lit< tt; kind = refl; surplus = refl; sized = refl; fault = λ h. simp fault-step; alone = refl }

pub interrupt-status : (from : Side) (caps id : ℕ) (x : InterruptStatusFields) (body : List ℕ) → Finds from caps id (InterruptStatus x) body (findings 17 false true (cond (address_ok x.endpoint.0) None (Some 1)) false)
unfolding kinds layout content_of bad
interrupt-status from caps id x body = record { small = lit< tt; kind = refl; surplus = refl; sized = refl; fault = λ h. simp fault-step; alone = refl }

pub alloc-streams : (from : Side) (caps id : ℕ) (x : AllocStreamsFields) (body : List ℕ) → Finds from caps id (AllocStreams x) body (findings 18 false true (cond (not (eqb x.mask 0)) None (Some 0)) false)
unfolding kinds layout content_of bad
alloc-streams from caps id x body = record { small = lit< tt; kind = refl; surplus = refl; sized = refl; fault = λ h. simp fault-step; alone = refl }

pub free-streams : (from : Side) (caps id : ℕ) (x : FreeStreamsFields) (body : List ℕ) → Finds from caps id (FreeStreams x) body (findings 19 false true (cond (not (eqb x.mask 0)) None (Some 0)) false)
unfolding kinds layout content_of bad
free-streams from caps id x body = record { small = lit< tt; kind = refl; surplus = refl; sized = refl; fault = λ h. simp fault-step; alone = refl }

pub streams-status : (from : Side) (caps id : ℕ) (x : StreamsStatusFields) (body : List ℕ) → Finds from caps id (StreamsStatus x) body (findings 20 false true None false)
unfolding kinds layout content_of bad
streams-status from caps id x body = record { small = lit< tt; kind = refl; surplus = refl; sized = refl; fault = λ h. refl; alone = refl }

pub cancel : (from : Side) (caps id : ℕ) (body : List ℕ) → Finds from caps id Cancel body (findings 21 false true None false)
unfolding kinds layout content_of bad
cancel from caps id body = record { small = lit< tt; kind = refl; surplus = refl; sized = refl; fault = λ h. refl; alone = refl }

pub filter-reject : (from : Side) (caps id : ℕ) (body : List ℕ) → Finds from caps id FilterReject body (findings 22 false true (no_id id) false)
unfolding kinds layout content_of bad
filter-reject from caps id body = record { small = lit< tt; kind = refl; surplus = refl; sized = refl; fault = λ h. refl; alone = refl }

pub disconnect-ack : (from : Side) (caps id : ℕ) (body : List ℕ) → Finds from caps id DisconnectAck body (findings 24 false true (no_id id) false)
unfolding kinds layout content_of bad
disconnect-ack from caps id body = record { small = lit< tt; kind = refl; surplus = refl; sized = refl; fault = λ h. refl; alone = refl }

pub start-bulk-receiving : (from : Side) (caps id : ℕ) (x : StartBulkReceivingFields) (body : List ℕ) → Finds from caps id (StartBulkReceiving x) body (findings 25 false true (cond (address_ok x.endpoint.0 && eqb (x.endpoint.0 / 128) 1) None (Some 8)) false)
unfolding kinds layout content_of bad
start-bulk-receiving from caps id x body = record { small = lit< tt; kind = refl; surplus = refl; sized = refl; fault = λ h. simp fault-step; alone = refl }

pub stop-bulk-receiving : (from : Side) (caps id : ℕ) (x : StopBulkReceivingFields) (body : List ℕ) → Finds from caps id (StopBulkReceiving x) body (findings 26 false true (cond (address_ok x.endpoint.0 && eqb (x.endpoint.0 / 128) 1) None (Some 4)) false)
unfolding kinds layout content_of bad
stop-bulk-receiving from caps id x body = record { small = lit< tt; kind = refl; surplus = refl; sized = refl; fault = λ h. simp fault-step; alone = refl }

pub bulk-receiving-status : (from : Side) (caps id : ℕ) (x : BulkReceivingStatusFields) (body : List ℕ) → Finds from caps id (BulkReceivingStatus x) body (findings 27 false true (cond (address_ok x.endpoint.0 && eqb (x.endpoint.0 / 128) 1) None (Some 4)) false)
unfolding kinds layout content_of bad
bulk-receiving-status from caps id x body = record { small = lit< tt; kind = refl; surplus = refl; sized = refl; fault = λ h. simp fault-step; alone = refl }

-- ---- the kinds with data

pub control : (from : Side) (caps id : ℕ) (x : ControlFields) (body : List ℕ)
    → Finds from caps id (Control x) body
    (findings 28 false (eqb (length (in_part x.payload body)) (cond (onward from x.endpoint.0) x.length 0))
    (cond (address_ok x.endpoint.0) (cond (eqb (x.requesttype / 128) (x.endpoint.0 / 128)) None (Some 2)) (Some 0)) false)
unfolding kinds layout content_of bad
control from caps id x body = record { small = lit< tt; kind = refl; surplus = refl; sized = simp add-zero; fault = λ h. simp fault-step; alone = refl }

pub iso : (from : Side) (caps id : ℕ) (x : IsoFields) (body : List ℕ)
    → Finds from caps id (Iso x) body
    (findings 30 false (eqb (length (in_part x.payload body)) x.length)
    (cond (address_ok x.endpoint.0 && onward from x.endpoint.0) None (Some 0)) false)
unfolding kinds layout content_of bad
iso from caps id x body = record { small = lit< tt; kind = refl; surplus = refl; sized = simp add-zero; fault = λ h. simp fault-step; alone = refl }

pub interrupt : (from : Side) (caps id : ℕ) (x : InterruptFields) (body : List ℕ)
    → Finds from caps id (Interrupt x) body
    (findings 31 false (eqb (length (in_part x.payload body)) (cond (onward from x.endpoint.0) x.length 0))
    (cond (address_ok x.endpoint.0 && (not (is_guest from) || onward from x.endpoint.0)) None (Some 0)) false)
unfolding kinds layout content_of bad
interrupt from caps id x body = record { small = lit< tt; kind = refl; surplus = refl; sized = simp add-zero; fault = λ h. simp fault-step; alone = refl }

pub buffered-bulk : (from : Side) (caps id : ℕ) (x : BufferedBulkFields) (body : List ℕ)
    → Finds from caps id (BufferedBulk x) body
    (findings 32 false (eqb (length (in_part x.payload body)) x.length)
    (cond (address_ok x.endpoint.0 && eqb (x.endpoint.0 / 128) 1) None (Some 8)) false)
unfolding kinds layout content_of bad
buffered-bulk from caps id x body = record { small = lit< tt; kind = refl; surplus = refl; sized = simp add-zero; fault = λ h. simp fault-step; alone = refl }

-- the count of a bulk packet from its two parts
count-back : (b : Bool) (n : ℕ) → (b ≡ false → n < 65536) → n % 65536 + 65536 * cond b (n / 65536) 0 ≡ n
count-back true n h = omega arith
count-back false n h = let l : n < 65536 = h refl in omega arith

pub bulk : (from : Side) (caps id : ℕ) (x : BulkFields) (body : List ℕ)
    → Finds from caps id (Bulk x) body
    (findings 29 (not (has_bit caps 6) && ltb 65535 x.length) (eqb (length (in_part x.payload body)) (cond (onward from x.endpoint.0) x.length 0))
    (cond (address_ok x.endpoint.0) (cond (has_bit caps 0 || eqb x.stream 0) None (Some 4)) (Some 0)) false)
unfolding kinds layout content_of bad
bulk from caps id x body =
    let n : ℕ = x.length in
    let b : Bool = has_bit caps 6 || ltb 65535 n in
    let small : b ≡ false → n < 65536 = λ t. let l : n ≤ 65535 = ltb-false 65535 n (or_parts (has_bit caps 6) (ltb 65535 n) t).1 in omega arith in
    record {
      small = lit< tt;
      kind = refl;
      surplus = cases (has_bit caps 6) (λ t. simp t) (λ t. cases (ltb 65535 n) (λ u. simp (t, u)) (λ u. simp (t, u)));
      sized = cases b
          (λ t. let c : n % 65536 + 65536 * (n / 65536) ≡ n = count-back true n (λ f. small (absurd (false≢true (sym f)))) in simp (t, c))
          (λ t. let c : n % 65536 + 0 ≡ n = count-back false n (λ f. small t) in simp (t, c));
      fault = λ h. cases (has_bit caps 6) (λ t. simp (t, fault-step)) (λ t. cases (ltb 65535 n) (λ u. simp (t, u, fault-step)) (λ u. simp (t, u, fault-step)));
      alone = refl;
    }

-- ---- the kinds whose rules look into the body, or that have a field which may be absent

pub filter : (from : Side) (caps id : ℕ) (x : FilterFields) (body : List ℕ)
    → Finds from caps id (Filter x) body
    (findings 23 false (leb 1 (length (in_part x.string body)))
    (cond (eqb (zero_at (in_part x.string body) + 1) (length (in_part x.string body))) (no_id id) (Some 0)) false)
unfolding kinds layout content_of bad
filter from caps id x body = record { small = lit< tt; kind = refl; surplus = refl; sized = refl; fault = λ h. simp fault-step; alone = refl }

pub connect : (from : Side) (caps id : ℕ) (x : ConnectFields) (body : List ℕ)
    → Finds from caps id (Connect x) body
    (findings 1 (is_some x.version && not (has_bit caps 1)) true
    (cond (leb x.speed 3 || eqb x.speed 255) (cond (is_some x.version || not (has_bit caps 1)) (no_id id) (Some 8)) (Some 0)) false)
unfolding kinds layout content_of bad
connect from caps id x body = go x.version
  where
    go : (v : Option ℕ)
        → Finds from caps id (Connect (record { speed = x.speed; class = x.class; subclass = x.subclass; protocol = x.protocol; vendor = x.vendor; product = x.product; version = v })) body
        (findings 1 (is_some v && not (has_bit caps 1)) true
        (cond (leb x.speed 3 || eqb x.speed 255) (cond (is_some v || not (has_bit caps 1)) (no_id id) (Some 8)) (Some 0)) false)
    go None =
        record {
          small = lit< tt;
          kind = refl;
          surplus = refl;
          sized = refl;
          fault = λ h. cases (has_bit caps 1) (λ e. simp (e, fault-step)) (λ e. simp (e, fault-step));
          alone = refl;
        }
    go (Some n) =
        record {
          small = lit< tt;
          kind = refl;
          surplus = sym (or-false (not (has_bit caps 1)));
          sized = refl;
          fault = λ h. simp fault-step;
          alone = refl;
        }

-- ---- fields in a part of the body: all there exactly where the part is as long as they are

rows-complete : (has : Bits → Bool) (fs : List Field) (s : List ℕ) → 0 < size has fs → complete fs (columns_in has fs s) ≡ eqb (length s) (size has fs)
rows-complete has fs s h =
    cases (eqb (length s) (size has fs))
    (λ t. let e : length s ≡ size has fs = eqb-true (length s) (size has fs) t in rw t (complete-split has fs s ∙ le-leb (size has fs) (length s) (omega (arith, e))))
    (λ t. rw t (complete-split has fs [] ∙ lt-leb (size has fs) 0 h))

-- the rows are there where the part is as long
rows-there : (n : ℕ) (s : List ℕ) → eqb (length s) n ≡ true → rows_in n s ≡ s
rows-there n s t = rw t

pub interface-table : (from : Side) (caps id : ℕ) (x : InterfaceTableFields) (body : List ℕ)
    → Finds from caps id (InterfaceTable x) body
    (findings 4 false (eqb (length (in_part x.rows body)) 128) (cond (leb x.count 32) (no_id id) (Some 0)) false)
unfolding kinds layout content_of bad
interface-table from caps id x body =
    record {
      small = lit< tt;
      kind = refl;
      surplus = refl;
      sized = sym (rw (rows-complete (λ b. true) (drop 1 (kind_at 4).fields) (in_part x.rows body) (lit< tt)) (and-true _));
      fault = λ h. simp fault-step;
      alone = refl;
    }

-- ---- a zero byte in the first n numbers is one in the first n bytes

zero_in : (n : ℕ) (s : List ℕ) → ltb (zero_at (numbers 1 n s 0)) n ≡ ltb (zero_at s) n
zero_in zero s = leb-suc-zero (zero_at (numbers 1 0 s 0)) ∙ sym (leb-suc-zero (zero_at s))
zero_in (suc n) [] = refl
zero_in (suc n) (b ∷ s) =
    rw (add-zero b, numbers_after 1 n 1 (b ∷ []) s refl)
    (cases (eqb b 0) (λ e. rw e) (λ e. rw (e, leb-suc-suc (suc (zero_at (numbers 1 n s 0))) n, leb-suc-suc (suc (zero_at s)) n) (zero_in n s)))

pub hello : (from : Side) (caps id : ℕ) (x : HelloFields) (body : List ℕ)
    → Finds from caps id (Hello x) body
    (findings 0 false
    (eqb (length (in_part x.version body)) 64 && (leb (length (in_part x.words body)) 32 && eqb (length (in_part x.words body) % 4) 0))
    (cond (ltb (zero_at (in_part x.version body)) 64) (no_id id) (Some 0))
    (has_bit (le 4 (in_part x.words body) 0) 0 && not (has_bit (le 4 (in_part x.words body) 0) 4)))
unfolding kinds layout content_of bad
hello from caps id x body =
    let v : List ℕ = in_part x.version body in
    record {
      small = lit< tt;
      kind = refl;
      surplus = refl;
      sized = sym (rw (rows-complete (λ b. true) (kind_at 0).fields v (lit< tt)));
      fault = λ h.
          let t : eqb (length v) 64 ≡ true = (and_parts (eqb (length v) 64) _ h).0 in
          let e : length v ≡ 64 = eqb-true (length v) 64 t in
          let l : leb 64 (length v) ≡ true = le-leb 64 (length v) (omega (arith, e)) in
          rw (← zero_in 64 v) (cases (ltb (zero_at (numbers 1 64 v 0)) 64) (λ u. simp (t, l, u)) (λ u. simp (t, l, u)));
      alone = refl;
    }

-- ---- an endpoint table's rows

abbrev first_fault : (ℕ → Bool) → ℕ → ℕ → Option ℕ → Option ℕ
first_fault ok zero i next = next
first_fault ok (suc n) i next = cond (ok i) (first_fault ok n (suc i) next) (Some i)

-- numbers of one byte each: a number's place is its index
fault-first : (ok : ℕ → Bool) (n i : ℕ) (y : Option ℕ) → (or_else (first_bad ok 1 n i i) y) ≡ first_fault ok n i y
fault-first ok zero i y = refl
fault-first ok (suc n) i y =
    fault-step (ok i) (first_bad ok 1 n (suc i) (i + 1)) i y
    ∙ ap (λ (m : ℕ). cond (ok i) ((or_else (first_bad ok 1 n (suc i) m) y)) (Some i)) (add-one i)
    ∙ ap (λ (z : Option ℕ). cond (ok i) z (Some i)) (fault-first ok n (suc i) y)

-- what is missing behind the rows: max packet at 96, max streams at 160
missing : (caps id : ℕ) (p s : Bool) → Option ℕ
missing caps id p s =
    or_else (cond p None (cond (has_bit caps 4) (Some 96) None))
    (or_else (cond s None (cond (has_bit caps 4 && has_bit caps 0) (Some (96 + cond (has_bit caps 4) 64 0)) None)) (cond (eqb id 0) None (Some 65535)))

missing-fault : (caps id : ℕ) (p s : Bool)
    → (missing caps id p s) ≡ cond (p || not (has_bit caps 4)) (cond (s || not (has_bit caps 4 && has_bit caps 0)) (no_id id) (Some 160)) (Some 96)
unfolding missing
missing-fault caps id true true = refl
missing-fault caps id true false = cases (has_bit caps 4)
    (λ t. cases (has_bit caps 0) (λ u. simp (t, u)) (λ u. simp (t, u)))
    (λ t. simp (t))
missing-fault caps id false true = cases (has_bit caps 4) (λ t. simp t) (λ t. simp (t))
missing-fault caps id false false = cases (has_bit caps 4) (λ t. simp t) (λ t. simp (t))

-- the types are there where the table is
types-there : (n : ℕ) (rows : List ℕ) → 32 ≤ n → eqb (length rows) n ≡ true → leb 32 (length rows) ≡ true
types-there n rows h t = let e : length rows ≡ n = eqb-true (length rows) n t in le-leb 32 (length rows) (omega (arith, e))

abbrev endpoint_table : Part → Bool → Bool → EndpointTableFields
endpoint_table rows p s = record { rows = rows; maxpacket = p; maxstreams = s }

module _ (from : Side) (caps id : ℕ) (part : Part) (body : List ℕ) where
  table-over : (p s : Bool)
      → ((p && not (has_bit caps 4)) || (s && not (has_bit caps 4 && has_bit caps 0)))
      ≡ surplus caps (kind_at 5).fields (content_of caps id (EndpointTable (endpoint_table part p s)) body).fields
  unfolding kinds layout content_of
  table-over true true = simp or-false
  table-over true false = simp or-false
  table-over false true = simp or-false
  table-over false false = refl

  table-kind : (p s : Bool) → (kind_at 5).number ≡ (content_of caps id (EndpointTable (endpoint_table part p s)) body).kind
  unfolding kinds content_of
  table-kind p s = refl

  table-alone : (p s : Bool) → false ≡ streams_alone (kind_at 5).tail (content_of caps id (EndpointTable (endpoint_table part p s)) body).rest
  unfolding kinds content_of
  table-alone p s = refl

  table-whole : (p s : Bool) → eqb (length (in_part part body)) (table_size p s) ≡ size_ok from (kind_at 5) (content_of caps id (EndpointTable (endpoint_table part p s)) body)
  unfolding kinds layout content_of
  table-whole true true = sym (rw (rows-complete (columns_of true true) (kind_at 5).fields (in_part part body) (lit< tt)) (and-true _))
  table-whole true false = sym (rw (rows-complete (columns_of true false) (kind_at 5).fields (in_part part body) (lit< tt)) (and-true _))
  table-whole false true = sym (rw (rows-complete (columns_of false true) (kind_at 5).fields (in_part part body) (lit< tt)) (and-true _))
  table-whole false false = sym (rw (rows-complete (columns_of false false) (kind_at 5).fields (in_part part body) (lit< tt)) (and-true _))

  -- the content, where the rows are there
  abbrev table_content : Bool → Bool → Content
  table_content p s = record { kind = 5; id = id; fields = split (columns_of p s) (layout 5) (in_part part body); rest = in_part no_part body }

  table-content : (p s : Bool) → eqb (length (in_part part body)) (table_size p s) ≡ true → content_of caps id (EndpointTable (endpoint_table part p s)) body ≡ table_content p s
  unfolding content_of
  table-content p s t =
      let e : rows_in (size (columns_of p s) (layout 5)) (in_part part body) ≡ in_part part body = rows-there (size (columns_of p s) (layout 5)) (in_part part body) (rw (← table-size p s) t) in
      λ i. record { kind = 5; id = id; fields = split (columns_of p s) (layout 5) (e i); rest = in_part no_part body }

  table-first : (p s : Bool) → leb 32 (length (in_part part body)) ≡ true
      → (bad from caps (kind_at 5) (table_content p s))
      ≡ (or_else (first_bad (holds endpoint-type from caps 0 (numbers 1 32 (in_part part body) 0)) 1 32 0 0) (missing caps id p s))
  unfolding kinds layout bad missing
  table-first true true t = simp (t, or_assoc)
  table-first true false t = simp (t, or_assoc)
  table-first false true t = simp (t, or_assoc)
  table-first false false t = simp (t, or_assoc)

  types-are-there : (p s : Bool) → eqb (length (in_part part body)) (table_size p s) ≡ true → leb 32 (length (in_part part body)) ≡ true
  types-are-there true true t = types-there 288 (in_part part body) (lit≤ tt) t
  types-are-there true false t = types-there 160 (in_part part body) (lit≤ tt) t
  types-are-there false true t = types-there 224 (in_part part body) (lit≤ tt) t
  types-are-there false false t = types-there 96 (in_part part body) (lit≤ tt) t

  table-fault : (p s : Bool) → eqb (length (in_part part body)) (table_size p s) ≡ true
      → type_fault (in_part part body) 32 0 (cond (p || not (has_bit caps 4)) (cond (s || not (has_bit caps 4 && has_bit caps 0)) (no_id id) (Some 160)) (Some 96))
      ≡ (bad from caps (kind_at 5) (content_of caps id (EndpointTable (endpoint_table part p s)) body))
  table-fault p s h =
      let ok : ℕ → Bool = holds endpoint-type from caps 0 (numbers 1 32 (in_part part body) 0) in
      ap (first_fault ok 32 0) (sym (missing-fault caps id p s)) ∙ sym (fault-first ok 32 0 (missing caps id p s)) ∙ sym (table-first p s (types-are-there p s h))
      ∙ ap (λ (q : Content). (bad from caps (kind_at 5) q)) (sym (table-content p s h))

pub endpoint_table_packet : (from : Side) (caps id : ℕ) (x : EndpointTableFields) (body : List ℕ)
    → Finds from caps id (EndpointTable x) body
    (findings 5 ((x.maxpacket && not (has_bit caps 4)) || (x.maxstreams && not (has_bit caps 4 && has_bit caps 0)))
    (eqb (length (in_part x.rows body)) (table_size x.maxpacket x.maxstreams))
    (type_fault (in_part x.rows body) 32 0
    (cond (x.maxpacket || not (has_bit caps 4)) (cond (x.maxstreams || not (has_bit caps 4 && has_bit caps 0)) (no_id id) (Some 160)) (Some 96))) false)
endpoint_table_packet from caps id x body =
    record {
      small = lit< tt;
      kind = table-kind from caps id x.rows body x.maxpacket x.maxstreams;
      surplus = table-over from caps id x.rows body x.maxpacket x.maxstreams;
      sized = table-whole from caps id x.rows body x.maxpacket x.maxstreams;
      fault = table-fault from caps id x.rows body x.maxpacket x.maxstreams;
      alone = table-alone from caps id x.rows body x.maxpacket x.maxstreams;
    }
