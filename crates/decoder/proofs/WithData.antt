-- Each reading of a kind with data says what the table says, where the fields are there: a law for each variant.
-- Assumes nothing.
use Rattle.std.specs.Prelude.{Some, None}
use Prim.Native.Nat.{ℕ, ◌+◌, ◌*◌, ◌/◌, ◌%◌, ◌≤◌, ◌<◌}
use native.Mathlib.Omega.{arith}
use mathlib.Core.Path.{◌≡◌, refl, sym, ap, ◌∙◌}
use mathlib.Core.Bool.{Bool, true, false, cond, ◌||◌}
use mathlib.Core.List.{List, [], ◌∷◌}
use lib.ListN.{length, take, drop}
use lib.Seq.{take-length}
use lib.Dec.{ltb}
use borrow.Author.Tests.{le-ltb}
use Rattle.octets.specs.Little.{le}
use Rattle.octets.specs.Bits.{has_bit}
use Rattle.kinds.specs.Table.{kinds, kind_at}
use Rattle.kinds.specs.Content.{one, shared, size}
use Rattle.kinds.specs.Codec.{layout, content_at}
use Rattle.kinds.proofs.FieldBytes.{split-full}
use Rattle.packet.specs.declared.Packet.TheVariants.{Control, Bulk, Iso, Interrupt, BufferedBulk}
use Rattle.packet.specs.Packet.{content_of, single, high}
use Rattle.decoder.specs.Body.{ReadsBody, bulk_count}

pub control : (caps : ℕ) (body : List ℕ) → 10 ≤ length body → ReadsBody caps 28 body (Control (record { endpoint = record { 0 = le 1 body 0 }; request = le 1 body 1; requesttype = le 1 body 2; status = le 1 body 3; value = le 2 body 4; index = le 2 body 6; length = le 2 body 8; payload = record { start = 10; end = length body } }))
unfolding kinds layout content_of content_at
control caps body there =
    let e : drop 10 (take (length body) body) ≡ drop 10 body = ap (drop 10) (take-length body) in
    record { content = λ id i. record { kind = 100; id = id; fields = sym (split-full (shared caps) (kind_at 28).fields body there) i; rest = e i }; rows = refl; rest = refl }

pub iso : (caps : ℕ) (body : List ℕ) → 4 ≤ length body → ReadsBody caps 30 body (Iso (record { endpoint = record { 0 = le 1 body 0 }; status = le 1 body 1; length = le 2 body 2; payload = record { start = 4; end = length body } }))
unfolding kinds layout content_of content_at
iso caps body there =
    let e : drop 4 (take (length body) body) ≡ drop 4 body = ap (drop 4) (take-length body) in
    record { content = λ id i. record { kind = 102; id = id; fields = sym (split-full (shared caps) (kind_at 30).fields body there) i; rest = e i }; rows = refl; rest = refl }

pub interrupt : (caps : ℕ) (body : List ℕ) → 4 ≤ length body → ReadsBody caps 31 body (Interrupt (record { endpoint = record { 0 = le 1 body 0 }; status = le 1 body 1; length = le 2 body 2; payload = record { start = 4; end = length body } }))
unfolding kinds layout content_of content_at
interrupt caps body there =
    let e : drop 4 (take (length body) body) ≡ drop 4 body = ap (drop 4) (take-length body) in
    record { content = λ id i. record { kind = 103; id = id; fields = sym (split-full (shared caps) (kind_at 31).fields body there) i; rest = e i }; rows = refl; rest = refl }

pub buffered-bulk : (caps : ℕ) (body : List ℕ) → 10 ≤ length body → ReadsBody caps 32 body (BufferedBulk (record { stream = le 4 body 0; length = le 4 body 4; endpoint = record { 0 = le 1 body 8 }; status = le 1 body 9; payload = record { start = 10; end = length body } }))
unfolding kinds layout content_of content_at
buffered-bulk caps body there =
    let e : drop 10 (take (length body) body) ≡ drop 10 body = ap (drop 10) (take-length body) in
    record { content = λ id i. record { kind = 104; id = id; fields = sym (split-full (shared caps) (kind_at 32).fields body there) i; rest = e i }; rows = refl; rest = refl }

-- ---- bulk data, whose count has its high half where bit 6 is shared

count_low : (b : Bool) (low x : ℕ) → low < 65536 → cond b (low + 65536 * x) low % 65536 ≡ low
count_low true low x h = omega arith
count_low false low x h = omega arith

count-high : (b : Bool) (low x : ℕ) → low < 65536 → single (cond (b || ltb 65535 (cond b (low + 65536 * x) low)) (Some (cond b (low + 65536 * x) low / 65536)) None) ≡ cond b (one x) None
count-high true low x h = let e : (low + 65536 * x) / 65536 ≡ x = omega arith in ap one e
count-high false low x h = rw (le-ltb 65535 low (omega arith))

size-either : (b : Bool) → cond b 10 8 ≡ 1 + (1 + (2 + (4 + (cond b 2 0 + 0))))
size-either true = refl
size-either false = refl

pub size-bulk : (caps : ℕ) → cond (has_bit caps 6) 10 8 ≡ size (shared caps) (kind_at 29).fields
unfolding kinds
size-bulk caps = size-either (has_bit caps 6)

pub bulk : (caps : ℕ) (body : List ℕ) → le 2 body 2 < 65536 → cond (has_bit caps 6) 10 8 ≤ length body
    → ReadsBody caps 29 body (Bulk (record { endpoint = record { 0 = le 1 body 0 }; status = le 1 body 1; length = bulk_count caps body; stream = le 4 body 4; payload = record { start = cond (has_bit caps 6) 10 8; end = length body } }))
unfolding kinds layout content_of content_at
bulk caps body h there =
    let b : Bool = has_bit caps 6 in
    let lo : bulk_count caps body % 65536 ≡ le 2 body 2 = count_low b (le 2 body 2) (le 2 body 8) h in
    let hi : single (high caps (bulk_count caps body)) ≡ cond b (one (le 2 body 8)) None = count-high b (le 2 body 2) (le 2 body 8) h in
    let d : drop (cond b 10 8) (take (length body) body) ≡ drop (size (shared caps) (kind_at 29).fields) body = ap (drop (cond b 10 8)) (take-length body) ∙ ap (λ (n : ℕ). drop n body) (size-bulk caps) in
    record {
      content = λ id.
          (λ i. record { kind = 101; id = id; fields = one (le 1 body 0) ∷ one (le 1 body 1) ∷ one (lo i) ∷ one (le 4 body 4) ∷ hi i ∷ []; rest = drop (cond b 10 8) (take (length body) body) })
          ∙ (λ i. record { kind = 101; id = id; fields = sym (split-full (shared caps) (kind_at 29).fields body (omega (arith, size-bulk caps))) i; rest = d i });
      rows = refl;
      rest = λ i. record { start = size-bulk caps i; end = length body };
    }
