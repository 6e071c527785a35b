use Rattle.cal_call.proofs.FewLines.{few_lines}
use Rattle.cal_call.proofs.threads.lawful_refused.Goals as goal

pub count_refused-requires : goal.count_refused-requires
count_refused-requires c =
    let script = c.args.script.now in
    let journal = c.args.journal.now in
    few_lines script journal c.requires.runnable
    (c.lawful_journal_law.ensures script journal c.requires.lawful)
