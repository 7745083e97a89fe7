-- What a reading and a writing of its packet tell together: a packet that was read is written again (`rewrite-passed`), one that was refused is
-- not (`rewrite-refused`); and what the writing of a bulk packet tells (`bulk-written`).
-- What the read packet says is `decode` of the bytes (`passing`), and of that content the encoder's contract speaks.
-- Assumes nothing.
use Rattle.std.specs.Prelude.{Ok, Err}
use mathlib.Core.Path.{◌≡◌}
use mathlib.Core.List.{List}
use Prim.Native.Nat.{ℕ}
use lib.ListN.{length}
use lib.Seq.{slice, take-length}
use Rattle.header.specs.declared.Refusal.{Refusal}
use Rattle.header.specs.declared.Header.{Header}
use Rattle.header.specs.declared.Link.{Link}
use Rattle.header.specs.Link.{shared_set}
use Rattle.kinds.specs.Codec.{decode}
use Rattle.packet.specs.declared.Packet.{Packet}
use Rattle.packet.specs.Packet.{content_of}
use Rattle.decoder.specs.Reading.{Reading, told, read_of}
use Rattle.decoder.proofs.Decoded.{refusing, passing}
use Rattle.encoder.specs.declared.Written.{Written}
use Rattle.encoder.specs.Written.{Writes}
use Rattle.test_probe.specs.Probe.{Rewrites, WritesBulk, bulk_of}

module _ {l m : Link} (same-link : l ≡ m) {bytes : List ℕ} {r : Reading} (t : told l bytes r ≡ read_of l bytes) {out : List ℕ} where
  pub rewrite-refused : {v : Refusal} → r ≡ Err v → Rewrites m bytes out 0 out
  rewrite-refused e = let s = refusing t e in record { size = rw (← same-link, s.nonzero); output = rw (← same-link, s.nonzero) }

  pub rewrite-passed : {h : Header} {p : Packet} {body : List ℕ} {w : Written} {after : List ℕ} → r ≡ Ok (h, p)
      → body ≡ slice h.size (length bytes) bytes
      → Writes l (content_of (shared_set l) h.id p body) out w after
      → Rewrites m bytes out w.size after
  rewrite-passed {h} {p} {body} e b w =
      let s = passing t e in
      let c : content_of (shared_set l) h.id p body ≡ decode l bytes = rw (b, take-length bytes) s.content in
      record { size = rw (← same-link, s.number, ← c) w.size; output = rw (← same-link, s.number, ← c) w.output }

pub bulk-written : {l m : Link} → l ≡ m → {id e n : ℕ} {s out : List ℕ} {w : Written} {after : List ℕ}
    → Writes l (bulk_of l id e n s) out w after
    → WritesBulk m id e n s out w.number after
bulk-written same w = record { number = rw (← same) w.number; output = rw (← same) w.output }
