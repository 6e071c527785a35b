use Rattle.std.proofs.Common.{sym}
use Rattle.cal_agg.specs.Limits.{sum_over-within_118}
use Rattle.tests_query.proofs.kernels.summed.Goals as goal

pub returns : goal.returns
returns g c =
    rw c.kernel_of.ensures
    (sum_over-within_118 c.args.numbers.now c.check.ensures.small c.check.ensures.few)
