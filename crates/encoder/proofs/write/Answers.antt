-- `encoder::write` meets its contract: the number by the header is that of the content, though the length is capped; where nothing is wrong the
-- packet is accepted, its bytes are the header, its numbers, its rows and the rest, and so the size and what is laid are those of the packet
-- (`Writing.antt`).
-- Assumes nothing.
use Prim.Native.Nat.{◌+◌, ◌≤◌}
use native.Mathlib.Omega.{arith}
use mathlib.Core.Path.{◌≡◌, sym, ◌∙◌}
use lib.ListN.{length}
use Rattle.header.specs.Link.{shared_set}
use Rattle.header.proofs.Widths.{id-widths}
use Rattle.kinds.specs.Content.{shared}
use Rattle.kinds.specs.Codec.{encode, Accepted}
use Rattle.kinds.specs.Slots.{few}
use Rattle.kinds.proofs.Again.{Octets}
use Rattle.packet.specs.Packet.{content_of}
use Rattle.packet.specs.Fields.{in_widths}
use Rattle.encoder.specs.Layout.{laid_out}
use Rattle.encoder.proofs.Body.{encoded, sum}
use Rattle.encoder.proofs.Outcome.{by-header, by-wire, unwritten, no_room, put-out}
use Rattle.encoder.proofs.Writing.{given, listed, headed, passed, long, small, right, accepting, rows_short}
use Rattle.encoder.proofs.write.Goals as goal

pub overflow_add-length : goal.overflow_add-length
overflow_add-length c =
    omega (arith, c.min.ensures, c.fields_size.ensures, few (shared c.shared_set-caps.result) c.fields_of-f.result.slot c.fields_of-f.ensures.small)

pub returns-in-Err : goal.returns-in-Err
returns-in-Err c =
    let a = c.args in
    let k =
    given a.l a.id a.body.now c.shared_set-caps.ensures c.fields_of-f.ensures c.part_of-rest.ensures c.kind_of-kind.ensures c.fields_size.ensures c.min.ensures in
    let q = content_of (shared_set a.l) a.id a.p a.body.now in
    let r = c.in-Err.refusal in
    rw (c.refused.ensures, c.number.ensures) (unwritten a.l q a.out.now r (by-header a.l q r (c.in-Err.ensures ∙ headed k)))

pub returns-in-Err-check_wire : goal.returns-in-Err-check_wire
returns-in-Err-check_wire c =
    let a = c.args in
    let k =
    given a.l a.id a.body.now c.shared_set-caps.ensures c.fields_of-f.ensures c.part_of-rest.ensures c.kind_of-kind.ensures c.fields_size.ensures c.min.ensures in
    let q = content_of (shared_set a.l) a.id a.p a.body.now in
    let r = c.in-Err-check_wire.refusal in
    rw (c.refused-in-Err-check_wire.ensures, c.number-in-Err-check_wire.ensures)
    (unwritten a.l q a.out.now r (by-wire a.l q _ (passed k c.in_default.ensures) c.in-Err-check_wire.ensures))

pub overflow_add-size : goal.overflow_add-size
overflow_add-size c =
    let narrow : c.id_width-width.result ≤ 8 = rw c.id_width-width.ensures (id-widths (λ n. n ≤ 8) (omega arith) (omega arith) c.args.l c.kind_of-kind.result) in
    omega (arith, narrow)

pub overflow_add-size-2 : goal.overflow_add-size-2
overflow_add-size-2 c =
    let a = c.args in
    let k =
    given a.l a.id a.body.now c.shared_set-caps.ensures c.fields_of-f.ensures c.part_of-rest.ensures c.kind_of-kind.ensures c.fields_size.ensures c.min.ensures in
    let narrow : c.id_width-width.result ≤ 8 = rw c.id_width-width.ensures (id-widths (λ n. n ≤ 8) (omega arith) (omega arith) c.args.l c.kind_of-kind.result) in
    omega (arith, narrow, small k c.in_default.ensures)

pub returns-then-is_short : goal.returns-then-is_short
returns-then-is_short c =
    let a = c.args in
    let k =
    given a.l a.id a.body.now c.shared_set-caps.ensures c.fields_of-f.ensures c.part_of-rest.ensures c.kind_of-kind.ensures c.fields_size.ensures c.min.ensures in
    let q = content_of (shared_set a.l) a.id a.p a.body.now in
    let w = c.in_default-check_wire.ensures in
    let octets : Octets a.body.now = λ i. (c.type_inv.body i).fits in
    let fine : Accepted a.l q = accepting k c.in_default.ensures w octets (omega (arith, c.ranges.id)) in
    let sized : length (encode a.l q) ≡ 8 + c.id_width-width.result + (c.fields_size.result + c.min.result) =
    rw (long k c.in_default.ensures, c.id_width-width.ensures, c.kind_of-kind.ensures) (sum a.l a.id a.p a.body.now c.fields_of-f.result (listed k) (sym w) octets fine) in
    rw c.refused-then-is_short.ensures
    (no_room a.l q a.out.now (right k c.in_default.ensures w) (rw sized c.if-is_short.true))

pub lay_out-requires : goal.lay_out-requires
lay_out-requires c =
    let a = c.args in
    let k =
    given a.l a.id a.body.now c.shared_set-caps.ensures c.fields_of-f.ensures c.part_of-rest.ensures c.kind_of-kind.ensures c.fields_size.ensures c.min.ensures in
    let q = content_of (shared_set a.l) a.id a.p a.body.now in
    let w = c.in_default-check_wire.ensures in
    let octets : Octets a.body.now = λ i. (c.type_inv.body i).fits in
    let narrow : c.id_width-width.result ≤ 8 = rw c.id_width-width.ensures (id-widths (λ n. n ≤ 8) (omega arith) (omega arith) c.args.l c.kind_of-kind.result) in
    (narrow, c.fields_of-f.ensures.few, rw c.part_of.ensures (rows_short k c.in_default.ensures w octets (omega (arith, c.ranges.id))))

pub returns : goal.returns
returns c =
    let a = c.args in
    let k =
    given a.l a.id a.body.now c.shared_set-caps.ensures c.fields_of-f.ensures c.part_of-rest.ensures c.kind_of-kind.ensures c.fields_size.ensures c.min.ensures in
    let q = content_of (shared_set a.l) a.id a.p a.body.now in
    let w = c.in_default-check_wire.ensures in
    let octets : Octets a.body.now = λ i. (c.type_inv.body i).fits in
    let fine : Accepted a.l q = accepting k c.in_default.ensures w octets (omega (arith, c.ranges.id)) in
    let sized : length (encode a.l q) ≡ 8 + c.id_width-width.result + (c.fields_size.result + c.min.result) =
    rw (long k c.in_default.ensures, c.id_width-width.ensures, c.kind_of-kind.ensures) (sum a.l a.id a.p a.body.now c.fields_of-f.result (listed k) (sym w) octets fine) in
    let packed : encode a.l q ≡ laid_out c.id_width-width.result c.kind_of-kind.result a.id (c.fields_size.result + c.min.result) (in_widths c.fields_of-f.result.count c.widths.result c.fields_of-f.result.numbers) c.part_of.result.now c.part_of-rest.result.now =
    rw (long k c.in_default.ensures, c.id_width-width.ensures, c.kind_of-kind.ensures, c.widths.ensures, c.part_of.ensures, c.part_of-rest.ensures)
    (encoded a.l a.id a.p a.body.now c.fields_of-f.result (listed k) (sym w) octets fine) in
    put-out a.l q a.out.now _ _ _ fine sized c.if-is_short.false packed c.lay_out.ensures
