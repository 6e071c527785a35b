use Rattle.std.proofs.Common.{ℕ, List, ◌++◌, map, ap, subst, ◌∙◌}
use Rattle.std.proofs.lemmas.Result.{on_ok_weaker}
use Rattle.cal_rowset.specs.Answers.{nth_row}
use Rattle.cal_value.specs.declared.record.Rec.{Rec}
use Rattle.cal_records.proofs.groups.take_grouped_rows.Goals as goal

pub returns-clause-taken : goal.returns-clause-taken
returns-clause-taken g c =
    on_ok_weaker c.take_rows.result
    (λ takes rs made before had.
    subst (λ (l : List Rec). g.T.Taker.has_taken c.take_rows.new.taker c.args.context.now (before ++ l))
    (ap (map (nth_row rs)) c.as_slice.ensures.value ∙ c.in_ok-order.ensures rs made) (takes c.args.aggs.now rs made before had))
    c.take_rows.ensures.taken

pub returns-clause-about : goal.returns-clause-about
returns-clause-about g c = c.take_rows.ensures.about
