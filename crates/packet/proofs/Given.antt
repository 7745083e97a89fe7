-- The fields of a connect packet and of a bulk packet, whose last number may not be there.
-- By its two cases: a number that is not there has no bytes and owes nothing.
-- Assumes nothing.
use Rattle.std.specs.Prelude.{Option, Some, None, is_some}
use Prim.Native.Nat.{ℕ, ◌/◌, ◌%◌, ◌<◌, ◌≤◌}
use native.Mathlib.Omega.{arith}
use mathlib.Core.Path.{◌≡◌, refl}
use mathlib.Core.Bool.{cond, ◌||◌}
use mathlib.Core.List.{[], ◌∷◌}
use lib.Dec.{ltb, lit<, lit≤}
use borrow.Author.Tests.{ltb-false}
use borrow.Table.Steps.{cases}
use Rattle.octets.specs.Bits.{has_bit}
use Rattle.octets.proofs.Logic.{or_parts}
use Rattle.endpoint.specs.declared.Endpoint.{Endpoint}
use Rattle.kinds.specs.Table.{kinds}
use Rattle.kinds.specs.Codec.{layout}
use Rattle.packet.specs.declared.Part.{Part}
use Rattle.packet.specs.declared.Packet.TheVariants.{Connect, Bulk}
use Rattle.packet.specs.Fields.{or_zero, plain_fields, with_rest, Lists}

pub connect : (caps speed class subclass protocol vendor product : ℕ) (version : Option ℕ) → speed < 256 → class < 256 → subclass < 256 → protocol < 256
    → vendor < 65536 → product < 65536 → or_zero version < 65536
    → Lists caps (Connect (record { speed = speed; class = class; subclass = subclass; protocol = protocol; vendor = vendor; product = product; version = version }))
    (plain_fields 1 (cond (is_some version) 7 6) (speed ∷ class ∷ subclass ∷ protocol ∷ vendor ∷ product ∷ or_zero version ∷ []))
unfolding kinds layout
connect caps a b c d e f None ha hb hc hd he hf hv =
    record { exact = refl; small = lit< tt; kind = refl; few = lit≤ tt; bare = λ z. refl; bytes = refl; fits = ((ha, tt), ((hb, tt), ((hc, tt), ((hd, tt), ((he, tt), ((hf, tt), tt)))))) }
connect caps a b c d e f (Some x) ha hb hc hd he hf hv =
    record { exact = refl; small = lit< tt; kind = refl; few = lit≤ tt; bare = λ z. refl; bytes = refl; fits = ((ha, tt), ((hb, tt), ((hc, tt), ((hd, tt), ((he, tt), ((hf, tt), ((hv, tt), tt))))))) }

pub bulk : (caps : ℕ) (e : Endpoint) (status n stream : ℕ) (part : Part) → e.0 < 256 → status < 256 → n < 4294967296 → stream < 4294967296
    → Lists caps (Bulk (record { endpoint = e; status = status; length = n; stream = stream; payload = part }))
    (with_rest (plain_fields 29 (cond (has_bit caps 6 || ltb 65535 n) 5 4) (e.0 ∷ status ∷ n % 65536 ∷ stream ∷ n / 65536 ∷ 0 ∷ 0 ∷ [])) part)
unfolding kinds layout
bulk caps e status n stream part he hs hn ht =
    cases (has_bit caps 6 || ltb 65535 n)
    (λ t. rw t (record { exact = rw t; small = lit< tt; kind = refl; few = lit≤ tt; bare = λ z. refl; bytes = rw t; fits = rw t ((he, tt), ((hs, tt), ((omega arith, tt), ((ht, tt), ((omega arith, tt), tt))))) }))
    (λ t.
    let l : n ≤ 65535 = ltb-false 65535 n (or_parts (has_bit caps 6) (ltb 65535 n) t).1 in
    let z : n / 65536 ≡ 0 = omega arith in
    rw t (record { exact = rw (t, z); small = lit< tt; kind = refl; few = lit≤ tt; bare = λ z. refl; bytes = rw t; fits = rw t ((he, tt), ((hs, tt), ((omega arith, tt), ((ht, tt), tt)))) }))
