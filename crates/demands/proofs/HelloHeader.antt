-- A header's size is 8 and the id's width, which is 8 for any kind but a hello where bit 5 is shared, and 4 else.
-- Assumes nothing.
use Prim.Native.Nat.{ℕ}
use mathlib.Core.Bool.{Bool, true, false, cond, not, ◌&&◌}
use mathlib.Core.Path.{◌≡◌, refl}
use lib.Dec.{eqb}
use borrow.Author.Tests.{ne_eqb}
use Rattle.header.specs.Link.{id_width}
use Rattle.header.specs.Header.{header_size}
use Rattle.demands.specs.HelloHeader.{HelloHeader}

neither : (b : Bool) → ◌≡◌ {A = ℕ} (cond (b && false) 8 4) 4
neither true = refl
neither false = refl

pub hello-header : HelloHeader
unfolding header_size id_width
hello-header l =
    record {
      hello = refl;
      wide = λ kind h b. rw (b, ne_eqb kind 0 h);
      narrow = λ kind b. rw (b, neither (not (eqb kind 0)));
    }
