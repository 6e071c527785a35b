use Rattle.cal_profile.proofs.GroupOrder.{one_profile}
use Rattle.cal_profile.proofs.laws.alike_answers_have_one_profile.Goals as goal

pub returns : goal.returns
returns c = λ q rs ss aggregated order h plain. one_profile q aggregated order rs ss h plain
