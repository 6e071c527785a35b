use Rattle.std.proofs.Common.{refl}
use Rattle.cal_lawful.proofs.MergeLemmas.{none-merged}
use Rattle.cal_lawful.proofs.merged.Merged.new.Goals as goal

pub returns : goal.returns
returns c = none-merged 1024 c.in_ok-marks.marks.items refl
    (c.in_ok-marks.ensures.items_if_clones_equal (λ y same. same))
