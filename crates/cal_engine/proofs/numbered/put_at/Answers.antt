use Rattle.std.proofs.Common.{◌∙◌, arith}
use Rattle.std.proofs.lemmas.Result.{on_ok_weaker}
use Rattle.cal_engine.proofs.Gathering.{put_parts_end}
use Rattle.cal_engine.proofs.numbered.put_at.Goals as goal

pub returns-clause-ok : goal.returns-clause-ok
returns-clause-ok c =
    on_ok_weaker c.push.result
    (λ is. is ∙ put_parts_end c.args.table.now c.args.number c.args.parts.now
    (omega (arith, c.requires, c.if-number-count.false, c.count.ensures)))
    c.push.ensures.ok
