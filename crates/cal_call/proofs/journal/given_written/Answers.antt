use Rattle.cal_call.proofs.FewLines.{few_lines}
use Rattle.cal_call.proofs.journal.given_written.Goals as goal

pub count_refused-requires : goal.count_refused-requires
count_refused-requires c =
    few_lines c.args.script.now c.args.journal.now c.requires.runnable c.requires.read
