use Rattle.std.proofs.Common.{rules, ◌≡◌, [], sym, ap, ◌∙◌, arith}
use Rattle.std.proofs.lemmas.Grind.{common_steps}
use Rattle.cal_engine.specs.Sorting.{sorted_rows}
use Rattle.cal_engine.proofs.Ranking.{sorted_by_ranks, sorted_without_keys}
use Rattle.cal_engine.proofs.sorting.sorted_rows.Goals as goal

pub returns-then-is_empty : goal.returns-then-is_empty
returns-then-is_empty c =
    let none : c.args.order.now ≡ [] = grind (arith, common_steps, c.if-is_empty.true, c.is_empty.ensures) in
    sorted_without_keys c.args.rows ∙ ap (λ keys. sorted_rows keys c.args.rows) (sym none)

pub returns : goal.returns
returns c =
    let same = sorted_by_ranks c.as_slice-order.result.now c.args.rows c.in_ok-ranked.ranked.items _
    c.in_ok-ranked.ensures c.in_ok-sort_by.ensures.sorted c.sort_by.ensures.stable
    (λ a r q k. search rules) in
    grind (arith, common_steps, same, c.rows_of.ensures, c.as_slice-order.ensures)
