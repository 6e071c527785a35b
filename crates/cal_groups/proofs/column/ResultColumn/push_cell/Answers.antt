use Rattle.std.proofs.Common.{ap, subst, ◌∙◌}
use Rattle.std.specs.Option.{option_to_list}
use Rattle.cal_groups.proofs.Appending.{appends_then}
use Rattle.cal_groups.proofs.Cells.{count_back, three_listed}
use Rattle.cal_groups.proofs.column.ResultColumn.push_cell.Goals as goal
use Rattle.cal_groups.specs.Appended.{Appends}
use Rattle.cal_profile.specs.Groups.{agg_of}
use Rattle.cal_profile.specs.TableRows.{entry_for, row_result}
use Rattle.cal_ql.specs.declared.names.KernelName.TheVariants as kernel

pub returns : goal.returns
returns c = λ t attr column.
    let one = c.args.imms.now.items in
    let two = c.push.new.imms.items in
    let three = c.push-2.new.imms.items in
    let four = c.push-3.new.imms.items in
    let same = count_back c.args.count c.requires.count in
    let sum = subst (λ o. Appends t one two
    (option_to_list (entry_for (agg_of kernel.Sum attr) o)))
    (c.sum_result-sum.ensures
    ∙ ap (λ n. row_result n c.args.known c.args.cell.now kernel.Sum) same)
    (c.in_ok-push.ensures t (agg_of kernel.Sum attr) column.sum) in
    let least = subst (λ o. Appends t two three
    (option_to_list (entry_for (agg_of kernel.Min attr) o)))
    (c.least_result-least.ensures c.args.count)
    (c.in_ok-push-2.ensures t (agg_of kernel.Min attr) column.least) in
    let greatest = subst (λ o. Appends t three four
    (option_to_list (entry_for (agg_of kernel.Max attr) o)))
    (c.greatest_result-greatest.ensures c.args.count)
    (c.in_ok-push-3.ensures t (agg_of kernel.Max attr) column.greatest) in
    subst (Appends t one four) (three_listed _ _ _)
    (appends_then t one three four _ _ (appends_then t one two three _ _ sum least) greatest)
