use Rattle.std.proofs.Common.{◌≡◌, subst, ◌∙◌}
use Rattle.cal_engine.specs.Answers.{answer_of}
use Rattle.cal_ql.specs.declared.query.Query.{Query}
use Rattle.cal_rowset.specs.Numbers.{rowset_of}
use Rattle.cal_query.proofs.Layouts.{sees_what}
use Rattle.cal_query.proofs.answering.find_answer.Goals as goal

-- the fold is still about the query that it was made for
pub returns-clause-answer : goal.returns-clause-answer
returns-clause-answer g c =
    sees_what _ _ _ _ _
    (λ rows seen.
    subst (λ (q : Query). rowset_of c.in_ok-finish.field-0 ≡ answer_of q rows)
    (c.in_ok-seen.ensures.about ∙ c.in_ok-context.ensures.query) (c.in_ok-finish.ensures rows seen))
    c.in_ok-seen.ensures.taken
