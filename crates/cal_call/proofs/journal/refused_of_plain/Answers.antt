use Rattle.std.proofs.Common.{◌∙◌, subst, sym}
use Rattle.cal_run.specs.Plain.{plain}
use Rattle.cal_call.proofs.FewLines.{few_lines, refused-same}
use Rattle.cal_call.specs.Refusals.{HasFewLines}
use Rattle.cal_call.proofs.journal.refused_of_plain.Goals as goal

pub count_refused-requires : goal.count_refused-requires
count_refused-requires c =
    let script = c.args.script.now in
    subst HasFewLines (sym c.in_ok-journal-in-None.ensures.plain)
    (few_lines script (plain script) c.requires.runnable (c.plain_journal_law.ensures.read script))
