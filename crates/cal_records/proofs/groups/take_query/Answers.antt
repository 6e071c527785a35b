use Rattle.std.proofs.Common.{List, [], ◌++◌, map, ap, subst, sym}
use Rattle.std.specs.Prelude.{option_copied}
use Rattle.cal_engine.specs.Answers.{answer_of}
use Rattle.cal_engine.specs.Making.{MakesRows}
use Rattle.cal_engine.specs.Sorting.{sorted}
use Rattle.cal_profile.specs.Groups.{rows_cmp}
use Rattle.cal_ql.specs.declared.query.Agg.{Agg}
use Rattle.cal_records.specs.Told.{told}
use Rattle.cal_run.specs.Runs.{snapshots}
use Rattle.cal_value.specs.declared.record.Rec.{Rec}
use Rattle.cal_records.proofs.groups.take_query.Goals as goal

pub returns-clause-taken : goal.returns-clause-taken
returns-clause-taken g c =
    let taken = snapshots c.args.script.now (told c.args.script.now (option_copied c.args.journal)) c.args.channel.now in
    let t = c.group_rows.new.context in
    let rs = (answer_of c.args.query.now taken).rows.rows in
    let made = subst (λ (a : List Agg). MakesRows t a c.in_ok-rows.rows rs)
    (sym c.as_slice.ensures) c.in_ok-rows.ensures.rows in
    λ before had. subst (λ (a : List Agg). g.T.Taker.has_taken c.take_grouped_rows.new.taker t (before ++ sorted (rows_cmp a) rs))
    c.as_slice.ensures (c.in_ok-take_grouped_rows.ensures.taken rs made before
    (g.met.T.Taker.stays _ _ _ _ had c.in_ok-rows.ensures.grows))
