use Rattle.cal_context.proofs.CallerLemmas.{keeps_meanings}
use Rattle.cal_context.proofs.laws.numbers_stay.Goals as goal

pub returns : goal.returns
returns c = λ old new grows. keeps_meanings grows
