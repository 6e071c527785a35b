use Rattle.std.proofs.Common.{◌∙◌}
use Rattle.cal_query.proofs.FoldedWholes.{folded_whole}
use Rattle.cal_query.proofs.whole.fold_whole.Goals as goal

pub returns-clause-folded : goal.returns-clause-folded
returns-clause-folded c =
    let read = c.in_ok-context-2 in
    folded_whole c.args.query.now c.args.bytes.now read.field-0 read.ensures.read
    (read.ensures.about ∙ c.in_ok-context.ensures.query)
