use Rattle.std.proofs.Common.{ℕ, ◌<◌, slice_index_or}
use Rattle.cal_agg.specs.declared.num.Num.{Num}
use Rattle.cal_agg.specs.Numbers.{IsSmall}
use Rattle.tests_query.proofs.kernels.check.Given as goal

-- the numbers before this one are small
abbrev pub invariant-loop-n : goal.invariant-loop-n
invariant-loop-n g l = (k : ℕ) (d : Num) → k < l.n-index → IsSmall (slice_index_or l.numbers k d)
