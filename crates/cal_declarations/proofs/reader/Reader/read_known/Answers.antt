use Rattle.std.proofs.Common.{sym, ◌∙◌, ap}
use Rattle.cal_script.specs.Lines.{is_skipped}
use Rattle.cal_declarations.proofs.Runs.{line_after_words}
use Rattle.cal_declarations.proofs.reader.Reader.read_known.Goals as goal

pub returns-clause-said : goal.returns-clause-said
returns-clause-said c =
    rw (line_after_words _ c.args.line.now c.utf8.line (ap is_skipped (sym c.as_bytes.ensures.value) ∙ sym c.is_skipped.ensures ∙ c.if-is_skipped.false)) c.read_text.ensures.said
