use Rattle.cal_agg.specs.Numbers.{IsWithin}
use Rattle.tests_query.proofs.kernels.a_count_reaches_2_to_126.Given as goal

abbrev pub invariant-loop-bits : goal.invariant-loop-bits
invariant-loop-bits g l = IsWithin l.bits l.count
