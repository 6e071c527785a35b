use Rattle.std.proofs.lemmas.Result.{IfOk-weaker}
use Rattle.cal_context.specs.declared.numbers.AttributeNumber.{AttributeNumber}
use Rattle.cal_run.proofs.GainLemmas.{gains-added}
use Rattle.cal_run.proofs.numbers.number_added.Goals as goal

pub returns-clause-only : goal.returns-clause-only
returns-clause-only c = IfOk-weaker c.attribute.result _ _
    (λ (n : AttributeNumber) added. gains-added _ _ n _ added) c.attribute.ensures.added
