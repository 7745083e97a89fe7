-- `NamedFields` holds: by computation, field by field. A version's numbers of one byte each are its bytes (`ones`), and the cells of the tables are
-- `interface-cells` and `endpoint-cells`.
-- Assumes nothing.
use Rattle.std.specs.Prelude.{Option, Some, None}
use Prim.Native.Nat.{ℕ, zero, suc, ◌+◌, ◌*◌, ◌≤◌, ◌<◌}
use native.Mathlib.Omega.{arith}
use mathlib.Core.Bool.{Bool, true, false, cond}
use mathlib.Core.Path.{◌≡◌, refl, sym, ap, ap₂, ◌∙◌}
use mathlib.Core.List.{List, [], ◌∷◌}
use lib.ListN.{length, get_or, drop, drop_of_length-le}
use lib.Seq.{drop-cons}
use lib.Dec.{leb, lit<}
use borrow.Author.Tests.{eq-eqb, ne_eqb, le-leb, lt-leb}
use Rattle.kinds.specs.Table.{kinds}
use Rattle.kinds.specs.Content.{first_number, numbers}
use Rattle.kinds.specs.Codec.{layout}
use Rattle.packet.specs.declared.InterfaceRow.{InterfaceRow}
use Rattle.packet.specs.declared.EndpointRow.{EndpointRow}
use Rattle.packet.specs.Packet.{high, in_part, single, rows_in, content_of}
use Rattle.packet.specs.Fields.{or_zero}
use Rattle.packet.proofs.Same.{bulk-count}
use Rattle.packet.proofs.Rows.{interface-cells, endpoint-cells}
use Rattle.packet.specs.Rows.{interface_row, endpoint_row}
use Rattle.packet.specs.Names.{is_there, NamedFields}

pub first-single : (v : Option ℕ) → first_number (single v) ≡ or_zero v
first-single None = refl
first-single (Some x) = refl

-- a field that is there where b holds
there-when : (b : Bool) (xs : List ℕ) → is_there (cond b (Some xs) None) ≡ b
there-when true xs = refl
there-when false xs = refl

-- numbers of one byte each are the bytes
ones : (n : ℕ) (s : List ℕ) (at : ℕ) → at + n ≡ length s → numbers 1 n s at ≡ drop at s
ones zero s at e = let h : length s ≤ at = omega (arith, e) in sym (drop_of_length-le s h)
ones (suc n) s at e =
    let a : get_or s at 0 + 256 * 0 ≡ get_or s at 0 = omega arith in
    let b : at + 1 ≡ suc at = omega arith in
    let c : at + 1 + n ≡ length s = omega (arith, e) in
    ap₂ ◌∷◌ a (ones n s (at + 1) c ∙ ap (λ (k : ℕ). drop k s) b) ∙ sym (drop-cons s at 0 (omega (arith, e)))

-- the numbers that a part of n bytes holds
abbrev bytes_in : ℕ → List ℕ → List ℕ
bytes_in n s = cond (leb n (length (rows_in n s))) (numbers 1 n (rows_in n s) 0) []

bytes-are : (n : ℕ) (s : List ℕ) → length s ≡ n → bytes_in n s ≡ s
bytes-are n s e =
    let h : 0 + n ≡ length s = omega (arith, e) in
    rw (eq-eqb (length s) n e, le-leb n (length s) (omega (arith, e))) (ones n s 0 h)

bytes_cut : (n : ℕ) (s : List ℕ) → 0 < n → (length s ≡ n → ⊥) → bytes_in n s ≡ []
bytes_cut n s h z = rw (ne_eqb (length s) n z, lt-leb n 0 h) refl

pub named-fields : (caps id : ℕ) (body : List ℕ) → NamedFields caps id body
unfolding content_of layout kinds interface_row endpoint_row
named-fields caps id body =
    record {
      hello-kind = λ x. refl;
      connect-kind = λ x. refl;
      disconnect-kind = refl;
      reset-kind = refl;
      interface-table-kind = λ x. refl;
      endpoint-table-kind = λ x. refl;
      set-configuration-kind = λ x. refl;
      get-configuration-kind = refl;
      configuration-status-kind = λ x. refl;
      set-alt-kind = λ x. refl;
      get-alt-kind = λ x. refl;
      alt-status-kind = λ x. refl;
      start-iso-kind = λ x. refl;
      stop-iso-kind = λ x. refl;
      iso-status-kind = λ x. refl;
      start-interrupt-kind = λ x. refl;
      stop-interrupt-kind = λ x. refl;
      interrupt-status-kind = λ x. refl;
      alloc-streams-kind = λ x. refl;
      free-streams-kind = λ x. refl;
      streams-status-kind = λ x. refl;
      cancel-kind = refl;
      filter-reject-kind = refl;
      filter-kind = λ x. refl;
      disconnect-ack-kind = refl;
      start-bulk-receiving-kind = λ x. refl;
      stop-bulk-receiving-kind = λ x. refl;
      bulk-receiving-status-kind = λ x. refl;
      control-kind = λ x. refl;
      bulk-kind = λ x. refl;
      iso-kind = λ x. refl;
      interrupt-kind = λ x. refl;
      buffered-bulk-kind = λ x. refl;
      hello-version = λ x e. bytes-are 64 (in_part x.version body) e;
      hello-version-cut = λ x z. bytes_cut 64 (in_part x.version body) (lit< tt) z;
      hello-words = λ x. refl;
      connect-speed = λ x. refl;
      connect-class = λ x. refl;
      connect-subclass = λ x. refl;
      connect-protocol = λ x. refl;
      connect-vendor = λ x. refl;
      connect-product = λ x. refl;
      connect-version = λ x. first-single x.version;
      connect-version-there = λ x. refl;
      interface-table-count = λ x. refl;
      interface-table-interface = λ x i. sym (ap (λ (r : InterfaceRow). r.interface) (interface-cells x body i));
      interface-table-class = λ x i. sym (ap (λ (r : InterfaceRow). r.class) (interface-cells x body i));
      interface-table-subclass = λ x i. sym (ap (λ (r : InterfaceRow). r.subclass) (interface-cells x body i));
      interface-table-protocol = λ x i. sym (ap (λ (r : InterfaceRow). r.protocol) (interface-cells x body i));
      interface-row-interface = λ x i. refl;
      interface-row-class = λ x i. refl;
      interface-row-subclass = λ x i. refl;
      interface-row-protocol = λ x i. refl;
      endpoint-table-type = λ x i. sym (ap (λ (r : EndpointRow). r.ty) (endpoint-cells x body i));
      endpoint-table-interval = λ x i. sym (ap (λ (r : EndpointRow). r.interval) (endpoint-cells x body i));
      endpoint-table-interface = λ x i. sym (ap (λ (r : EndpointRow). r.interface) (endpoint-cells x body i));
      endpoint-table-maxpacket = λ x. there-when x.maxpacket _;
      endpoint-table-maxstreams = λ x. there-when x.maxstreams _;
      endpoint-table-maxpacket-cells = λ x i. sym (ap (λ (r : EndpointRow). r.maxpacket) (endpoint-cells x body i));
      endpoint-table-maxstreams-cells = λ x i. sym (ap (λ (r : EndpointRow). r.maxstreams) (endpoint-cells x body i));
      endpoint-row-type = λ x i. refl;
      endpoint-row-interval = λ x i. refl;
      endpoint-row-interface = λ x i. refl;
      endpoint-row-maxpacket = λ x i. refl;
      endpoint-row-maxstreams = λ x i. refl;
      set-configuration-configuration = λ x. refl;
      configuration-status-status = λ x. refl;
      configuration-status-configuration = λ x. refl;
      set-alt-interface = λ x. refl;
      set-alt-alt = λ x. refl;
      get-alt-interface = λ x. refl;
      alt-status-status = λ x. refl;
      alt-status-interface = λ x. refl;
      alt-status-alt = λ x. refl;
      start-iso-endpoint = λ x. refl;
      start-iso-packets = λ x. refl;
      start-iso-urbs = λ x. refl;
      stop-iso-endpoint = λ x. refl;
      iso-status-status = λ x. refl;
      iso-status-endpoint = λ x. refl;
      start-interrupt-endpoint = λ x. refl;
      stop-interrupt-endpoint = λ x. refl;
      interrupt-status-status = λ x. refl;
      interrupt-status-endpoint = λ x. refl;
      alloc-streams-mask = λ x. refl;
      alloc-streams-count = λ x. refl;
      free-streams-mask = λ x. refl;
      streams-status-mask = λ x. refl;
      streams-status-count = λ x. refl;
      streams-status-status = λ x. refl;
      filter-string = λ x. refl;
      start-bulk-receiving-stream = λ x. refl;
      start-bulk-receiving-bytes = λ x. refl;
      start-bulk-receiving-endpoint = λ x. refl;
      start-bulk-receiving-transfers = λ x. refl;
      stop-bulk-receiving-stream = λ x. refl;
      stop-bulk-receiving-endpoint = λ x. refl;
      bulk-receiving-status-stream = λ x. refl;
      bulk-receiving-status-endpoint = λ x. refl;
      bulk-receiving-status-status = λ x. refl;
      control-endpoint = λ x. refl;
      control-request = λ x. refl;
      control-requesttype = λ x. refl;
      control-status = λ x. refl;
      control-value = λ x. refl;
      control-index = λ x. refl;
      control-length = λ x. refl;
      control-payload = λ x. refl;
      bulk-endpoint = λ x. refl;
      bulk-status = λ x. refl;
      bulk-length = λ x. rw (first-single (high caps x.length)) (bulk-count caps x.length);
      bulk-length-high = λ x. refl;
      bulk-stream = λ x. refl;
      bulk-payload = λ x. refl;
      iso-endpoint = λ x. refl;
      iso_status = λ x. refl;
      iso-length = λ x. refl;
      iso-payload = λ x. refl;
      interrupt-endpoint = λ x. refl;
      interrupt-status = λ x. refl;
      interrupt-length = λ x. refl;
      interrupt-payload = λ x. refl;
      buffered-bulk-stream = λ x. refl;
      buffered-bulk-length = λ x. refl;
      buffered-bulk-endpoint = λ x. refl;
      buffered-bulk-status = λ x. refl;
      buffered-bulk-payload = λ x. refl;
    }
