use Rattle.std.proofs.Common.{◌∙◌}
use Rattle.cal_context.specs.Snapshots.{meaning}
use Rattle.cal_filter.proofs.Holding.{cond_is, differs, found_holds}
use Rattle.cal_filter.proofs.condition.Condition.holds.Goals as goal

pub returns : goal.returns
returns c = λ asked ready.
    let r = meaning c.args.context.now c.args.snapshot.now in
    differs c.finds.result c.args.self.now.negated
    ∙ cond_is c.finds.result c.args.self.now.negated asked r ready.asked.not
    (c.finds.ensures ready.knows ∙ found_holds asked c.args.self.now r ready.asked)
