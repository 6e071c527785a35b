use Rattle.std.proofs.Common.{◌≡◌, ap, sym, below_more, ◌∙◌, arith}
use Rattle.cal_context.specs.declared.numbers.NodeNumber.{NodeNumber}
use Rattle.cal_records.proofs.group_keys.have_no_immediates.Goals as goal

pub loop-number-preserved : goal.loop-number-preserved
loop-number-preserved c =
    let none : c.immediates.result.0 ≡ 0 = omega arith in
    below_more _ _ c.loop-number.invariant
    (ap (λ (node : NodeNumber). node.0) (sym c.immediates.ensures) ∙ none)

pub returns : goal.returns
returns c = λ is n within. c.loop-number.invariant n (omega (arith, within))
