use Rattle.std.proofs.Common.{sym, ◌∙◌}
use Rattle.cal_run.proofs.ScopeLemmas.{no_history}
use Rattle.cal_run.proofs.placing.plain_history.Goals as goal

pub returns-else-has_process_attribute : goal.returns-else-has_process_attribute
returns-else-has_process_attribute c =
    c.new.ensures
    ∙ sym (no_history c.args.script.now (sym c.has_process_attribute.ensures ∙ c.if-has_process_attribute.false))
