use Rattle.std.proofs.Common.{◌+◌, subst, sym, arith}
use Rattle.cal_agg.specs.Parts.{AreWithin}
use Rattle.tests_query.proofs.Doubled.{doubled_parts, parts_within}
use Rattle.tests_query.proofs.kernels.a_sum_reaches_2_to_126.Goals as goal

pub merge-requires : goal.merge-requires
merge-requires g c =
    parts_within _ (c.loop-bits.bits + 1) (doubled_parts _ _ c.loop-bits.invariant) (omega arith)

pub loop-bits-preserved : goal.loop-bits-preserved
loop-bits-preserved g c =
    subst (AreWithin (c.loop-bits.bits + 1)) (sym c.merge.ensures)
    (doubled_parts _ _ c.loop-bits.invariant)
