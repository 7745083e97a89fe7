-- `header::shared_set` meets its contract: each of the two words is what the end's hello offered.
-- Assumes nothing.
use Rattle.std.specs.Prelude.{ℕ, ◌≡◌, Option, Some, None, unwrap_or, refl}
use Rattle.header.specs.Link.{offered, shared_set}
use Rattle.header.proofs.shared_set.Goals as goal

offered-is : (h : Option ℕ) → unwrap_or h 0 ≡ offered h
offered-is None = refl
offered-is (Some word) = refl

pub returns : goal.returns
unfolding shared_set
returns c = let a = c.args in rw (c.unwrap_or.ensures, c.unwrap_or-2.ensures, offered-is a.l.guest, offered-is a.l.host)
