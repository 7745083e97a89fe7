-- What `body_of` and `data_of` lend, and what a writer call of the code gives, case by case, is what the definition gives: a call that is shut
-- (`write-shut`), and one that leaves what the encoder leaves (`write-open`).
-- Each case computes once the code's equations are put in. The code asks of the packet whether it is a hello, the definition of its content under
-- the shared set: a packet's kind is the same whatever is shared (`shown-same`).
-- Assumes nothing.
use Rattle.std.specs.Prelude.{Some, None}
use Prim.Native.Nat.{ℕ}
use mathlib.Core.Path.{◌≡◌, refl, sym, ap, ◌∙◌}
use mathlib.Core.Bool.{Bool, true, false}
use mathlib.Core.List.{List, []}
use lib.ListN.{length, drop}
use lib.Seq.{slice, take-length}
use lib.Dec.{eqb}
use borrow.Author.Tests.{ne_eqb}
use Rattle.header.specs.declared.Header.{Header}
use Rattle.header.specs.declared.Side.{Side}
use Rattle.header.specs.declared.Link.{Link}
use Rattle.header.specs.declared.Refusal.{Refusal}
use Rattle.header.specs.Refusal.{number_of}
use Rattle.header.proofs.Refusals.{refused}
use Rattle.header.specs.Link.{shared_set}
use Rattle.kinds.specs.Content.{Content}
use Rattle.packet.specs.declared.Part.{Part}
use Rattle.packet.specs.declared.Packet.{Packet}
use Rattle.packet.specs.Packet.{content_of, in_part, rest_of, is_hello}
use Rattle.packet.proofs.Same.{shown-same}
use Rattle.encoder.specs.declared.Written.{Written}
use Rattle.encoder.specs.Written.{Writes}
use Rattle.session.specs.declared.Session.{Session}
use Rattle.session.specs.Session.{link_of}
use Rattle.gate.specs.Verdict.{Handed}
use Rattle.gate.specs.Offer.{body_in, data_in}
use Rattle.gate.specs.Write.{shut, write_by, output, output_size, WritesBy}

-- ---- what is handed out, lent

module _ {handed : Handed} (bytes : List ℕ) where
  pub body-none : handed ≡ None → [] ≡ body_in handed bytes
  body-none e = ap (λ (h : Handed). body_in h bytes) (sym e)

  pub body-passed : {h : Header} {p : Packet} {lent r : List ℕ} → handed ≡ Some (h, p) → lent ≡ bytes → r ≡ slice h.size (length lent) lent → r ≡ body_in handed bytes
  body-passed {h} {lent = lent} e el er =
      er ∙ ap (drop h.size) (take-length lent ∙ el) ∙ ap (λ (h : Handed). body_in h bytes) (sym e)

  pub data-none : {body : List ℕ} → handed ≡ None → body ≡ body_in handed bytes → body ≡ data_in handed bytes
  data-none e eb = eb ∙ ap (λ (h : Handed). body_in h bytes) e ∙ ap (λ (h : Handed). data_in h bytes) (sym e)

  pub data-passed : {h : Header} {p : Packet} {part : Part} {body r : List ℕ} → handed ≡ Some (h, p) → body ≡ body_in handed bytes → part ≡ rest_of p → r ≡ in_part part body
      → r ≡ data_in handed bytes
  data-passed {h} {p} {part} {body} e eb ep er =
      er ∙ ap (λ (q : Part). in_part q body) ep ∙ ap (in_part (rest_of p)) (eb ∙ ap (λ (h : Handed). body_in h bytes) e) ∙ ap (λ (h : Handed). data_in h bytes) (sym e)

-- ---- a writer call

hello-is : (caps id : ℕ) (p : Packet) (body : List ℕ) → is_hello p ≡ eqb (content_of caps id p body).kind 0
unfolding content_of
hello-is caps id p body = ap (λ (k : ℕ). eqb k 0) (sym (shown-same caps p).0)

module _ (from : Side) (s : Session) (id : ℕ) (p : Packet) (body out : List ℕ) {hello : Bool} {n : ℕ} (eh : hello ≡ is_hello p) (en : n ≡ shut from s hello) where
  abbrev content : Content
  content = content_of (shared_set (link_of from s)) id p body

  shut-is : n ≡ shut from s (eqb content.kind 0)
  shut-is = en ∙ ap (shut from s) (eh ∙ hello-is (shared_set (link_of from s)) id p body)

  pub write-shut : (r : Refusal) → n ≡ number_of r → {m : ℕ} → m ≡ number_of r → WritesBy from s content out (record { number = m; size = 0 }) out
  unfolding write_by output output_size
  write-shut r e {m} em =
      let k : m ≡ shut from s (eqb content.kind 0) = em ∙ sym e ∙ shut-is in
      let z : m ≡ 0 → ⊥ = λ q. refused r (sym em ∙ q) in
      let q : eqb (shut from s (eqb content.kind 0)) 0 ≡ false = ap (λ (i : ℕ). eqb i 0) (sym k) ∙ ne_eqb m 0 z in
      record { number = rw q k; size = rw q refl; output = rw q refl; accepted = λ e. absurd (z e) }

  pub write-open : n ≡ 0 → {l : Link} {r : Written} {after : List ℕ} → l ≡ link_of from s → Writes l (content_of (shared_set l) id p body) out r after → WritesBy from s content out r after
  unfolding write_by output output_size
  write-open z {r = r} {after = after} el w =
      let q : eqb (shut from s (eqb content.kind 0)) 0 ≡ true = ap (λ (m : ℕ). eqb m 0) (sym shut-is ∙ z) in
      let v : Writes (link_of from s) content out r after = rw el at w in
      record { number = rw q v.number; size = rw q v.size; output = rw q v.output; accepted = v.accepted }
