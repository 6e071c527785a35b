use Rattle.cal_query.proofs.Layouts.{sees_what}
use Rattle.cal_query.proofs.answering_where.rows_where.Goals as goal

pub see_rows-requires : goal.see_rows-requires
see_rows-requires g c = record { answers = c.requires _; taken = c.seeded.ensures _ }

pub returns-clause-text : goal.returns-clause-text
returns-clause-text g c =
    sees_what _ _ _ _ _ (λ rows seen. c.finish.ensures _ _ seen.taken)
    c.in_ok-seen.ensures.taken
