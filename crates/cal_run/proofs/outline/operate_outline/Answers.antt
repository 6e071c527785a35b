use Rattle.cal_run.proofs.OutlineLemmas.{ended-outlined}
use Rattle.cal_run.proofs.outline.operate_outline.Goals as goal

pub returns-in-End : goal.returns-in-End
returns-in-End c =
    ended-outlined c.args.script.now c.args.board.now c.end-reply.new.self c.args.op
    c.attr_ref-attr.result c.in-End.is c.attr_ref-attr.ensures c.end-reply.ensures.after
