-- `transcript::line_end` meets its contract: as the library finds the first newline.
-- Assumes nothing.
use Rattle.std.proofs.Common.{◌∙◌}
use Rattle.transcript.proofs.Lines.{end-is}
use Rattle.transcript.proofs.line_end.Goals as goal

pub returns : goal.returns
returns c = rw c.newline.ensures at c.unwrap_or.ensures ∙ end-is c.args.bytes.now
