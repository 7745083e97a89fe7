-- A packet of number 0 is accepted: its fields fit, since each number is of its type and each byte of the body is one.
-- Assumes nothing.
use mathlib.Core.Path.{◌≡◌, sym, subst}
use mathlib.Core.List.{List, map}
use Prim.Native.Nat.{ℕ, ◌<◌, ◌^◌}
use lib.ListN.{length, take, drop, length-map}
use lib.Dec.{eqb, lit<}
use borrow.Table.Steps.{cases}
use Rattle.header.specs.declared.Link.{Link}
use Rattle.header.specs.Link.{shared_set}
use Rattle.kinds.specs.Table.{Field}
use Rattle.kinds.specs.Content.{size, split}
use Rattle.kinds.specs.Codec.{layout, packet_number, Fitting, Accepted}
use Rattle.kinds.proofs.FieldBytes.{fitting-split, fitting-append}
use Rattle.packet.specs.declared.Packet.{Packet}
use Rattle.packet.specs.Packet.{shown_of, content_of, in_part, single, rows_in}
use Rattle.kinds.proofs.Again.{Octets, octets-drop, octets-take}

-- the fields that a packet holds as numbers fit
abbrev pub FrontFits : ℕ → Packet → Type 0
FrontFits caps p = Fitting (take (length (shown_of caps p).front) (layout (shown_of caps p).kind)) (map single (shown_of caps p).front)

rows-octets : (n : ℕ) (s : List ℕ) → Octets s → Octets (rows_in n s)
rows-octets n s o = cases (eqb (length s) n) (λ t. rw t o) (λ t. rw t (λ k. lit< tt))

pub accept : (l : Link) (id : ℕ) (p : Packet) (body : List ℕ) → FrontFits (shared_set l) p → Octets body → id < 256 ^ 8
    → packet_number l (content_of (shared_set l) id p body) ≡ 0 → Accepted l (content_of (shared_set l) id p body)
unfolding content_of
accept l id p body f b i z =
    let s = shown_of (shared_set l) p in
    let gs : List Field = drop (length s.front) (layout s.kind) in
    let rows : List ℕ = rows_in (size s.columns gs) (in_part s.rows body) in
    let n : length (map single s.front) ≡ length s.front = length-map s.front single in
    record {
      fields =
          fitting-append (layout s.kind) (map single s.front) (split s.columns gs rows)
          (subst (λ (m : ℕ). Fitting (take m (layout s.kind)) (map single s.front)) (sym n) f)
          (subst (λ (m : ℕ). Fitting (drop m (layout s.kind)) (split s.columns gs rows)) (sym n)
          (fitting-split s.columns gs rows
          (rows-octets (size s.columns gs) (in_part s.rows body) (octets-drop s.rows.start (take s.rows.end body) (octets-take s.rows.end body b)))));
      id = i;
      number = z;
    }
