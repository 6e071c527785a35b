use Rattle.std.proofs.Common.{ap, ◌∙◌}
use Rattle.std.proofs.lemmas.Result.{IfOk-weaker}
use Rattle.cal_engine.specs.Answers.{answer_with}
use Rattle.cal_engine.proofs.fold.answer_over.Goals as goal

pub returns : goal.returns
returns c = IfOk-weaker c.finished.result _ _
    (λ answer is. λ rs folded. is ∙ ap (answer_with c.args.query.now) (c.in_ok-rows.ensures rs folded))
    c.finished.ensures
