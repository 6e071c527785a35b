-- The entry of a kernel that shows what is held of a group.
use Rattle.std.proofs.Common.{◌≡◌, Option, Some, ap, subst}
use Rattle.std.specs.Prelude.{ℤ, option_map}
use Rattle.cal_agg.specs.declared.num.Num.TheVariants.{Whole}
use Rattle.cal_filter.specs.Kept.{result_entry}
use Rattle.cal_filter.specs.Numbers.{value_of_number}
use Rattle.cal_ql.specs.declared.names.KernelName as kernels
use Rattle.cal_ql.specs.declared.query.Agg.{Agg}
use Rattle.cal_engine.proofs.Results.{takes_whole}
use Rattle.cal_engine.specs.Finishing.{Lists, entry_of_result}
use Rattle.cal_parts.specs.Kernels.{contributed}
use Rattle.cal_parts.specs.Parts.{Gathered, part_over}
use Rattle.cal_parts.specs.Shown.{ComesTo}

pub shown-entry : (agg : Agg) (lists : Lists) (k : kernels.KernelName) (own : Option Gathered)
    (n : ℤ) → k ≡ agg.kernel → own ≡ Some (part_over agg.kernel (contributed agg lists.own))
    → ComesTo k own n
    → entry_of_result lists agg ≡ Some (result_entry agg.name (value_of_number (Whole n)))
shown-entry agg lists k own n is at comes =
    ap (option_map (λ m. result_entry agg.name (value_of_number m)))
    (subst (λ (j : kernels.KernelName). ComesTo j own n) is comes (contributed agg lists.own)
    (contributed agg lists.all) (contributed agg lists.below) at (takes_whole agg lists.own))
