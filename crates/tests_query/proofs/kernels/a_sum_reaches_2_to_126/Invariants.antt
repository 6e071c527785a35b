use Rattle.cal_agg.specs.Parts.{AreWithin}
use Rattle.tests_query.proofs.kernels.a_sum_reaches_2_to_126.Given as goal

abbrev pub invariant-loop-bits : goal.invariant-loop-bits
invariant-loop-bits g l = AreWithin l.bits l.sum
