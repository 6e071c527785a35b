use Rattle.std.proofs.Common.{arith}
use Rattle.cal_filter.proofs.Zips.{zip_more}
use Rattle.cal_groups.proofs.columns.seekers_of.Goals as goal
use Rattle.cal_groups.specs.Columns.{Finds}

pub loop-value-preserved : goal.loop-value-preserved
loop-value-preserved c =
    zip_more (Finds c.args.context.now) c.args.values.now c.loop-value.seekers.items
    c.push.new.self.items c.loop-value.value-index c.value-item.result c.in_ok-seeker.seeker
    c.loop-value.invariant (omega arith) c.value-item.is c.in_ok-push.ensures.items
    c.in_ok-seeker.ensures
