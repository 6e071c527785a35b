use Rattle.std.proofs.Common.{List, ◌++◌, subst, sym}
use Rattle.cal_engine.specs.Answers.{answer_of}
use Rattle.cal_engine.specs.Making.{MakesRows}
use Rattle.cal_engine.specs.Sorting.{sorted}
use Rattle.cal_groups.proofs.groups.take_table_groups.Goals as goal
use Rattle.cal_groups.specs.ContextRows.{records_of}
use Rattle.cal_profile.specs.Groups.{group_records, rows_cmp}
use Rattle.cal_ql.specs.declared.query.Agg.{Agg}
use Rattle.cal_ql.specs.declared.query.Query.{Query}

pub returns-clause-taken : goal.returns-clause-taken
returns-clause-taken g c = λ keyed means before had.
    let has_taken = g.T.Taker.has_taken in
    let t = c.group_rows.new.context in
    let q = c.in_ok-query.query in
    let recs = records_of c.args.channel.now keyed in
    let rs = (answer_of q recs).rows.rows in
    let made = subst (λ (a : List Agg). MakesRows t a c.in_ok-rows.rows rs)
    (sym c.as_slice.ensures) (c.in_ok-rows.ensures.rows keyed means) in
    let taken = subst (λ (a : List Agg). has_taken c.take_grouped_rows.new.taker t
    (before ++ sorted (rows_cmp a) rs)) c.as_slice.ensures
    (c.in_ok-take_grouped_rows.ensures.taken rs made before
    (g.met.T.Taker.stays _ _ _ _ had c.in_ok-rows.ensures.grows)) in
    subst (λ (k : Query). has_taken c.take_grouped_rows.new.taker t
    (before ++ group_records k recs)) c.in_ok-query.ensures.query taken
