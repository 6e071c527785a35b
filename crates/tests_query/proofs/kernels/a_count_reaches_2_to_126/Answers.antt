use Rattle.tests_query.proofs.Doubled.{doubled_within}
use Rattle.tests_query.proofs.kernels.a_count_reaches_2_to_126.Goals as goal

pub merge-requires : goal.merge-requires
merge-requires g c = doubled_within _ c.loop-bits.bits c.loop-bits.invariant c.loop-bits-test.true
