use Rattle.std.proofs.Common.{ap, ◌∙◌, arith, pos}
use Rattle.std.specs.Prelude.{unwrap_or}
use Rattle.cal_agg.specs.declared.num.Num.TheVariants.{Whole}
use Rattle.cal_parts.proofs.CountSums.{count_is}
use Rattle.cal_parts.proofs.part.Part.count.Goals as goal

pub returns : goal.returns
returns c = λ ns whole held.
    let sum = ap (λ o. unwrap_or o (Whole (pos 0))) (c.sum_value.ensures ns held) ∙ count_is ns whole in
    grind (arith, c.unwrap_or.ensures, sum)
