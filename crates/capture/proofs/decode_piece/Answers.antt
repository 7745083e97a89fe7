-- `capture::decode_piece` meets its contract: digits without a flaw are a spelling.
-- Assumes nothing.
use Rattle.capture.proofs.Spelling.{decodes-piece}
use Rattle.capture.proofs.decode_piece.Goals as goal

pub returns : goal.returns
returns c = decodes-piece c.args.from c.args.s.now c.in_ok-test_digits.ensures c.lay_spelt.ensures
