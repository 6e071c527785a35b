use Rattle.cal_profile.proofs.AnswerRows.{same_answers}
use Rattle.cal_profile.proofs.laws.alike_answers_have_the_same_rows.Goals as goal

pub returns : goal.returns
returns c = λ q rs ss aggregated h. same_answers q aggregated rs ss h
