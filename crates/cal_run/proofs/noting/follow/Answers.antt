use Rattle.std.proofs.Common.{sym, ◌∙◌}
use Rattle.cal_run.proofs.PlainLemmas.{on_ok-always, shared-still}
use Rattle.cal_run.proofs.noting.follow.Goals as goal

pub returns-then-is_process_line-clause-board : goal.returns-then-is_process_line-clause-board
returns-then-is_process_line-clause-board c =
    on_ok-always c.take_next.result
    (shared-still c.args.script.now c.args.thread.now.board c.args.line c.args.accepted
    (sym c.is_process_line.ensures ∙ c.if-is_process_line.true))
