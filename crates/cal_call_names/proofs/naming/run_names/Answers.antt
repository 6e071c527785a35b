use Rattle.cal_call_names.proofs.Deciding.{IsOneMeaning, answers_decide}
use Rattle.cal_call_names.proofs.naming.run_names.Goals as goal

pub returns-clause-answers : goal.returns-clause-answers
returns-clause-answers g c =
    rw (c.end.ensures.fault, c.end.ensures.replies) c.name-ended.ensures.answers

pub returns-clause-decided : goal.returns-clause-decided
returns-clause-decided g c =
    let meaning = c.meaning_law.ensures in
    let law : IsOneMeaning = record {
      said = meaning.said;
      one_meaning = meaning.one_meaning;
      one_fault = meaning.one_fault;
    } in
    rw c.end.ensures.fault (answers_decide law _ _ _ _ _ c.name-ended.ensures.answers)
