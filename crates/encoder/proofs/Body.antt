-- What the code knows of a packet's content: how long its body is, and so the header's number (`header`), and, where the writer accepts it, which
-- bytes it has (`encoded`) and how many (`sum`).
-- The fields (`Lists`) tell the kind and the parts of the body. Where the checks find nothing the rows are as long as their fields (`full`), and
-- fields that are read off bytes and written again are these bytes (`again`): so the body is the numbers, the rows and the rest as they stand
-- (`whole`).
-- Assumes nothing.
use Rattle.std.specs.Prelude.{Option, Some, None}
use mathlib.Core.Path.{◌≡◌, refl, sym, ap, ◌∙◌}
use mathlib.Core.Bool.{Bool, true}
use mathlib.Core.List.{List, [], ◌∷◌, ◌++◌, map, append_assoc, append-nil}
use Prim.Native.Nat.{ℕ, ◌+◌, ◌≤◌, min}
use native.Mathlib.Omega.{arith}
use lib.ListN.{length, take, drop, length-append, length-map, drop_of_length-le}
use lib.Dec.{eqb}
use borrow.Author.Tests.{eqb-true, leb-true}
use borrow.Table.Steps.{cases}
use Rattle.octets.specs.Little.{bytes_of}
use Rattle.octets.proofs.Integers.{length-bytes}
use Rattle.octets.proofs.Logic.{and_parts}
use Rattle.header.specs.declared.Link.{Link}
use Rattle.header.specs.Link.{shared_set, id_width}
use Rattle.header.specs.Header.{header_bytes, header_number}
use Rattle.header.proofs.Widths.{short}
use Rattle.kinds.specs.Table.{Bits, Field, kinds, kind_at}
use Rattle.kinds.specs.Content.{Value, Content, shared, size, split, bytes, widths, find, fields_of}
use Rattle.kinds.specs.Number.{complete, wire_number}
use Rattle.kinds.specs.Codec.{layout, body_of, body_length, encode, Accepted}
use Rattle.kinds.proofs.FieldBytes.{complete-split, length-of}
use Rattle.kinds.proofs.Reread.{all_there}
use Rattle.kinds.proofs.RoundTrip.{accepted}
use Rattle.kinds.specs.Slots.{found}
use Rattle.kinds.proofs.Again.{Octets, octets-take, octets-drop, again, bytes-append}
use Rattle.packet.specs.declared.Packet.{Packet}
use Rattle.packet.specs.declared.Fields.{Fields}
use Rattle.packet.specs.Packet.{Shown, shown_of, in_part, single, columns_in, content_of}
use Rattle.packet.specs.Fields.{in_widths, Lists}
use Rattle.encoder.specs.Layout.{laid_out}
use Rattle.encoder.proofs.Outcome.{capped}

-- the columns behind the front fields are complete where all fields are
behind-complete : (fs : List Field) (vs : List (Option ℕ)) (ws : List Value) → complete fs (map single vs ++ ws) ≡ true → complete (drop (length vs) fs) ws ≡ true
behind-complete fs [] ws h = h
behind-complete [] (v ∷ vs) ws h = refl
behind-complete (f ∷ fs) (None ∷ vs) ws h = behind-complete fs vs ws h
behind-complete (f ∷ fs) (Some x ∷ vs) ws h = behind-complete fs vs ws (and_parts (eqb 1 f.times) (complete fs (map single vs ++ ws)) h).1

-- rows that are all there are as long as their fields, or there are no fields
rows-full : (has : Bits → Bool) (fs : List Field) (s : List ℕ) → complete fs (columns_in has fs s) ≡ true → (size has fs ≡ 0 → s ≡ []) → eqb (length s) (size has fs) ≡ true
rows-full has fs s h z =
    cases (eqb (length s) (size has fs)) (λ t. t)
    (λ t.
    let c : complete fs (split has fs []) ≡ true = rw t at h in
    let l : size has fs ≤ 0 = leb-true (size has fs) 0 (sym (complete-split has fs []) ∙ c) in
    let e : size has fs ≡ 0 = omega arith in
    rw (z e, e))

rows_same : (has : Bits → Bool) (fs : List Field) (s : List ℕ) → eqb (length s) (size has fs) ≡ true → Octets s → bytes fs (columns_in has fs s) ≡ s
rows_same has fs s t o =
    let e : length s ≡ size has fs = eqb-true (length s) (size has fs) t in
    let n : drop (size has fs) s ≡ [] = drop_of_length-le s (let h : length s ≤ size has fs = omega (arith, e) in h) in
    rw t (sym (append-nil (bytes fs (split has fs s))) ∙ ap (λ (r : List ℕ). bytes fs (split has fs s) ++ r) (sym n) ∙ again has fs s o (omega (arith, e)))

-- ---- one packet, by its fields

abbrev shown : Link → Packet → Shown
shown l p = shown_of (shared_set l) p

abbrev content : Link → ℕ → Packet → List ℕ → Content
content l id p body = content_of (shared_set l) id p body

module _ (l : Link) (id : ℕ) (p : Packet) (body : List ℕ) (f : Fields) (s : Lists (shared_set l) p f) where
  known : find (shown l p).kind kinds ≡ Some (kind_at f.slot)
  known = ap (λ (m : ℕ). find m kinds) (sym s.kind) ∙ found f.slot s.small

  fields : layout (shown l p).kind ≡ (kind_at f.slot).fields
  unfolding layout
  fields = ap fields_of known

  rows : in_part (shown l p).rows body ≡ in_part f.rows body
  rows = ap (λ (g : Fields). in_part g.rows body) (sym s.exact)

  rest : in_part (shown l p).rest body ≡ in_part f.rest body
  rest = ap (λ (g : Fields). in_part g.rest body) (sym s.exact)

  -- the body's length
  pub counted : body_length l (content l id p body) ≡ size (shared (shared_set l)) (kind_at f.slot).fields + length (in_part f.rest body)
  unfolding content_of
  counted = λ i. size (shared (shared_set l)) (fields i) + length (rest i)

  -- the number by the header, from the length as the code has it
  pub header : header_number l (kind_at f.slot).number (size (shared (shared_set l)) (kind_at f.slot).fields + min (length (in_part f.rest body)) 65536)
      ≡ header_number l (content l id p body).kind (body_length l (content l id p body))
  unfolding content_of
  header =
      capped l (kind_at f.slot).number (size (shared (shared_set l)) (kind_at f.slot).fields) (length (in_part f.rest body))
      ∙ (λ i. header_number l (s.kind i) (sym counted i))

  -- what a header that nothing refuses leaves to the rest
  pub short-rest : header_number l (content l id p body).kind (body_length l (content l id p body)) ≡ 0 → length (in_part f.rest body) ≤ 32768
  short-rest z = omega (arith, short l (content l id p body).kind (body_length l (content l id p body)) z, counted)

  module _ (w : wire_number l (content l id p body) ≡ 0) (b : Octets body) where
    abbrev gs : List Field
    gs = drop (length (shown l p).front) (layout (shown l p).kind)

    octets : Octets (in_part (shown l p).rows body)
    octets = octets-drop (shown l p).rows.start (take (shown l p).rows.end body) (octets-take (shown l p).rows.end body b)

    bare_rows : size (shown l p).columns gs ≡ 0 → in_part (shown l p).rows body ≡ []
    bare_rows z = rows ∙ ap (λ part. in_part part body) (s.bare z)

    -- the rows are as long as their fields
    full : eqb (length (in_part (shown l p).rows body)) (size (shown l p).columns gs) ≡ true
    unfolding content_of
    full =
        rows-full (shown l p).columns gs (in_part (shown l p).rows body)
        (behind-complete (layout (shown l p).kind) (shown l p).front (columns_in (shown l p).columns gs (in_part (shown l p).rows body))
        ((λ i. complete (fields i) (content l id p body).fields) ∙ all_there l (content l id p body) (kind_at f.slot) known w))
        bare_rows

    -- the body: the numbers, the rows and the rest
    whole : body_of (content l id p body) ≡ in_widths f.count (widths (kind_at f.slot).fields) f.numbers ++ (in_part f.rows body ++ in_part f.rest body)
    unfolding content_of
    whole =
        let v = shown l p in
        let fs : List Field = layout v.kind in
        let r : List ℕ = in_part v.rows body in
        let t : List ℕ = in_part v.rest body in
        let m : length (map single v.front) ≡ length v.front = length-map v.front single in
        ap (λ (x : List ℕ). x ++ t) (bytes-append fs (map single v.front) (columns_in v.columns gs r))
        ∙ (λ i. (bytes fs (map single v.front) ++ bytes (drop (m i) fs) (columns_in v.columns gs r)) ++ t)
        ∙ (λ i. (sym s.bytes i ++ rows_same v.columns gs r full octets i) ++ t)
        ∙ append_assoc (in_widths f.count (widths (kind_at f.slot).fields) f.numbers) r t
        ∙ (λ i. in_widths f.count (widths (kind_at f.slot).fields) f.numbers ++ (rows i ++ rest i))

    module _ (a : Accepted l (content l id p body)) where
      -- its length is what the shared set lays out
      body-length : length (body_of (content l id p body)) ≡ body_length l (content l id p body)
      body-length =
          let q : Content = content l id p body in
          length-append (bytes (layout q.kind) q.fields) q.rest
          ∙ ap (λ (n : ℕ). n + length q.rest) (length-of (shared (shared_set l)) (layout q.kind) q.fields (accepted l q a).fields)

      pub size_is : length (body_of (content l id p body)) ≡ size (shared (shared_set l)) (kind_at f.slot).fields + length (in_part f.rest body)
      size_is = body-length ∙ counted

      -- the packet, as it is laid
      pub encoded : encode l (content l id p body)
          ≡ laid_out (id_width l (kind_at f.slot).number) (kind_at f.slot).number id
          (size (shared (shared_set l)) (kind_at f.slot).fields + length (in_part f.rest body))
          (in_widths f.count (widths (kind_at f.slot).fields) f.numbers) (in_part f.rows body) (in_part f.rest body)
      unfolding content_of encode header_bytes
      encoded = λ i. bytes_of 4 (sym s.kind i) ++ (bytes_of 4 (size_is i) ++ (bytes_of (id_width l (sym s.kind i)) id ++ whole i))

      -- its size
      pub sum : length (encode l (content l id p body))
          ≡ 8 + id_width l (kind_at f.slot).number + (size (shared (shared_set l)) (kind_at f.slot).fields + length (in_part f.rest body))
      unfolding content_of encode header_bytes
      sum =
          let d : ℕ = id_width l (kind_at f.slot).number in
          ap length (λ i. bytes_of 4 (sym s.kind i) ++ (bytes_of 4 (size_is i) ++ (bytes_of (id_width l (sym s.kind i)) id ++ body_of (content l id p body))))
          ∙ omega (arith, length-append (bytes_of d id) (body_of (content l id p body)), length-bytes d id, size_is)

      -- the rows are short
      pub short-rows : header_number l (content l id p body).kind (body_length l (content l id p body)) ≡ 0 → length (in_part f.rows body) ≤ 32768
      short-rows z =
          let n = in_widths f.count (widths (kind_at f.slot).fields) f.numbers in
          omega (
            arith,
            short l (content l id p body).kind (body_length l (content l id p body)) z,
            body-length,
            ap length whole,
            length-append n (in_part f.rows body ++ in_part f.rest body),
            length-append (in_part f.rows body) (in_part f.rest body),
          )
