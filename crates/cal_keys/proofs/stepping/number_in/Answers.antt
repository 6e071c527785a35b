use Rattle.std.proofs.lemmas.Result.{IfOk-weaker}
use Rattle.cal_context.proofs.CallerLemmas.{Grows-refl}
use Rattle.cal_keys.proofs.Reaching.{added-numbered}
use Rattle.cal_keys.proofs.stepping.number_in.Goals as goal

pub returns-clause-numbered : goal.returns-clause-numbered
returns-clause-numbered c =
    IfOk-weaker c.attribute.result _ _ (λ n adds. added-numbered c.args.context.now c.attribute.new.self c.args.attribute.now n adds) c.attribute.ensures.added

pub returns-in-Some-clause-grows : goal.returns-in-Some-clause-grows
returns-in-Some-clause-grows c = Grows-refl c.args.context.now
