-- The steps of reading as the code takes them: a body of a known kind, its fields, its number.
-- Assumes nothing: these are definitions.
use Rattle.std.specs.Prelude.{ℕ, ◌+◌, ◌*◌, ◌≤◌, ◌<◌, ◌≡◌, false, cond, List, length}
use Rattle.octets.specs.Little.{le}
use Rattle.octets.specs.Bits.{has_bit}
use Rattle.header.specs.declared.Header.{Header}
use Rattle.header.specs.declared.Link.{Link}
use Rattle.header.specs.Link.{shared_set}
use Rattle.kinds.specs.Table.{kind_at}
use Rattle.kinds.specs.Content.{Content, shared, size}
use Rattle.kinds.specs.Number.{wire_number}
use Rattle.kinds.specs.Codec.{content_at}
use Rattle.packet.specs.declared.Packet.{Packet}
use Rattle.packet.specs.Packet.{shown_of, content_of}
use Rattle.decoder.specs.Reading.{Reading, Told, numbered, told_behind, carries, rows_at, rest_at}

abbrev pub bulk_count : ℕ → List ℕ → ℕ
bulk_count caps body = cond (has_bit caps 6) (le 2 body 2 + 65536 * le 2 body 8) (le 2 body 2)

-- of a kind below 100 all fields are there, and nothing behind them where nothing may follow
pub record Fits (caps slot : ℕ) (body : List ℕ) : Type 0 where
  pub small : slot < 28
  pub there : size (shared caps) (kind_at slot).fields ≤ length body
  pub exact : carries (kind_at slot) ≡ false → length body ≡ size (shared caps) (kind_at slot).fields

-- a packet says what the body says, and names its parts
pub record ReadsBody (caps slot : ℕ) (body : List ℕ) (p : Packet) : Type 0 where
  pub content : (id : ℕ) → content_of caps id p body ≡ content_at caps (kind_at slot).number id body
  pub rows : (shown_of caps p).rows ≡ rows_at caps (kind_at slot)
  pub rest : (shown_of caps p).rest ≡ rest_at caps (kind_at slot) (length body)

-- what a reading of a body of a known kind has to tell
abbrev pub content_in : Link → Header → ℕ → List ℕ → Content
content_in l h slot body = content_at (shared_set l) (kind_at slot).number h.id body

abbrev pub read_body_of : Link → Header → ℕ → List ℕ → Told
read_body_of l h slot body =
    numbered (wire_number l (content_in l h slot body))
    (record { header = h; content = content_in l h slot body; rows = rows_at (shared_set l) (kind_at slot); rest = rest_at (shared_set l) (kind_at slot) (length body) })

pub record ReadsKind (l : Link) (h : Header) (slot : ℕ) (body : List ℕ) (r : Reading) : Type 0 where
  pub tells : told_behind l body r ≡ read_body_of l h slot body
