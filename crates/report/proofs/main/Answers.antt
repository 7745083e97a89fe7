-- `report::main` is safe and ends: the buffers are as `report_input` asks for.
-- Assumes nothing.
use Prim.Native.Nat.{ℕ}
use mathlib.Core.Path.{refl}
use lib.ListN.{length-replicate}
use Rattle.transcript.specs.Input.{start}
use Rattle.report.proofs.main.Goals as goal

pub report_input-requires : goal.report_input-requires
unfolding start
report_input-requires c = (refl, refl, length-replicate {A = ℕ} 65536 0, length-replicate {A = ℕ} 262144 0, length-replicate {A = ℕ} 256 0)
