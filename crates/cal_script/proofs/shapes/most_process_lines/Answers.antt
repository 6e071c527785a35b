use Rattle.std.proofs.Common.{sym, ◌∙◌}
use Rattle.cal_script.proofs.ScopeLemmas.{no_process_lines}
use Rattle.cal_script.proofs.shapes.most_process_lines.Goals as goal

pub returns-then-not-has_process_attribute : goal.returns-then-not-has_process_attribute
returns-then-not-has_process_attribute c =
    sym (no_process_lines c.args.script.now (sym c.has_process_attribute.ensures ∙ c.if-not-has_process_attribute.true))
