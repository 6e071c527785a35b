use Rattle.cal_profile.proofs.StandingIn.{stand_ins_answer}
use Rattle.cal_profile.proofs.laws.stand_ins_answer_alike.Goals as goal

pub returns : goal.returns
returns c = λ q rs parts addable h. stand_ins_answer q addable rs parts h
