use Rattle.std.proofs.Common.{rules, arith}
use Rattle.std.proofs.lemmas.Grind.{common_steps}
use Rattle.cal_steps.proofs.GroupLemmas.{sorted-groups}
use Rattle.cal_steps.proofs.groups.sorted_by_group.Goals as goal

pub returns : goal.returns
returns c =
    let same = sorted-groups c.args.aggs.now c.args.rows c.in_ok-grouped.grouped.items _
    c.in_ok-grouped.ensures c.in_ok-sort_by.ensures.sorted c.sort_by.ensures.stable
    (λ a r q k. search rules) in
    grind (arith, common_steps, same, c.rows_of.ensures)
