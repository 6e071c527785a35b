use Rattle.cal_query.proofs.Layouts.{sees_what}
use Rattle.cal_query.proofs.answering.rows_text.Goals as goal

pub see_rows-requires : goal.see_rows-requires
see_rows-requires g c = c.seeded-writer.ensures _

pub returns-clause-text : goal.returns-clause-text
returns-clause-text g c =
    sees_what _ _ _ _ _ (λ rows seen. c.finish.ensures _ rows seen)
    c.in_ok-seen.ensures.taken
