-- `capture::decode_line` meets its contract: by the prefix that the line starts with.
-- Assumes nothing.
use mathlib.Core.Path.{sym, ◌∙◌}
use Rattle.header.specs.declared.Side.TheVariants.{Guest, Host}
use Rattle.capture.specs.Lines.{start_of}
use Rattle.capture.proofs.Spelling.{strips, decodes-guest, decodes-host, decodes-other}
use Rattle.capture.proofs.decode_line.Goals as goal

pub returns-in-Some : goal.returns-in-Some
returns-in-Some c =
    let l = c.args.line.now in
    let h = c.in-Some.ensures.cases in
    decodes-guest l (sym (strips (start_of Guest) l) ∙ h.0) h.1 c.decode_piece.ensures

pub returns-in-Some-strip_prefix : goal.returns-in-Some-strip_prefix
returns-in-Some-strip_prefix c =
    let l = c.args.line.now in
    let h = c.in-Some-strip_prefix.ensures.cases in
    decodes-host l (sym (strips (start_of Guest) l) ∙ c.in_default.ensures.cases) (sym (strips (start_of Host) l) ∙ h.0) h.1 c.decode_piece-in-Some-strip_prefix.ensures

pub returns : goal.returns
returns c =
    let l = c.args.line.now in
    decodes-other l (sym (strips (start_of Guest) l) ∙ c.in_default.ensures.cases) (sym (strips (start_of Host) l) ∙ c.in_default-strip_prefix.ensures.cases)
