use Rattle.std.proofs.Common.{ℕ, List, ap, ◌∙◌, subst}
use Rattle.std.specs.List.{AllZip}
use Rattle.cal_engine.specs.Answers.{answer_of}
use Rattle.cal_ql.specs.declared.query.Query.{Query}
use Rattle.cal_read.specs.Stream.{IsStreamOf}
use Rattle.cal_multi.specs.Many.{rows_of_all}
use Rattle.cal_multi.proofs.many.answer_many.Goals as goal

pub returns-clause-answer : goal.returns-clause-answer
returns-clause-answer g c =
    let joined = c.in_ok-context.ensures.joined in
    let rows = rows_of_all joined.all in
    record {
      all = joined.all;
      streams = subst (λ (files : List (List ℕ)). AllZip IsStreamOf files joined.all)
          c.in_ok-shares.ensures.bytes joined.streams;
      is = c.in_ok-finish.ensures rows joined.taken
          ∙ ap (λ (query : Query). answer_of query rows) joined.about;
    }
