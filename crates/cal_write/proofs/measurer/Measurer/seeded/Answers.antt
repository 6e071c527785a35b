use Rattle.std.proofs.Common.{refl}
use Rattle.cal_write.proofs.MeasureLemmas.{nothing-measured}
use Rattle.cal_write.proofs.measurer.Measurer.seeded.Goals as goal

pub returns : goal.returns
returns c = λ t. nothing-measured t _ (c.in_ok-seeded.ensures t) refl refl
