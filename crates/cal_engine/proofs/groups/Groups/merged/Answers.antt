use Rattle.std.proofs.Common.{[]}
use Rattle.cal_engine.proofs.groups.Groups.merged.Goals as goal

pub returns : goal.returns
returns c = λ q rs ss is also.
    c.in_ok-gather_all-2.ensures q rs ss (c.in_ok-gather_all.ensures q [] rs c.new-merged.ensures is) also
