use Rattle.std.proofs.Common.{◌≡◌, filter, subst, ◌∙◌}
use Rattle.cal_engine.specs.Answers.{answer_of}
use Rattle.cal_filter.specs.Conditions.{where_holds}
use Rattle.cal_ql.specs.declared.query.Query.{Query}
use Rattle.cal_rowset.specs.Numbers.{rowset_of}
use Rattle.cal_query.proofs.Layouts.{sees_what}
use Rattle.cal_query.proofs.answering_where.answer_where.Goals as goal

pub see_rows-requires : goal.see_rows-requires
see_rows-requires g c = record {
  answers = c.requires.answers _;
  taken = c.in_ok-context.ensures.none;
}

-- the fold is still about the query that it was made for
pub returns-clause-answer : goal.returns-clause-answer
returns-clause-answer g c =
    sees_what _ _ _ _ _
    (λ rows seen.
    let through = filter (where_holds g.K.Guard.conditions) rows in
    subst (λ (q : Query). rowset_of c.in_ok-finish.field-0 ≡ answer_of q through)
    (c.in_ok-seen.ensures.about ∙ c.in_ok-context.ensures.query)
    (c.in_ok-finish.ensures through seen.taken))
    c.in_ok-seen.ensures.taken
