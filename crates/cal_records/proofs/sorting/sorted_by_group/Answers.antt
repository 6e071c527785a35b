use Rattle.std.proofs.Common.{◌≡◌, List, map, ap, ◌∙◌}
use Rattle.std.proofs.lemmas.Result.{IfOk-weaker}
use Rattle.cal_engine.specs.Making.{MakesRows}
use Rattle.cal_engine.specs.Sorting.{sorted}
use Rattle.cal_profile.specs.Groups.{rows_cmp}
use Rattle.cal_records.proofs.Ranking.{ordered_rows}
use Rattle.cal_records.proofs.sorting.sorted_by_group.Goals as goal
use Rattle.cal_records.specs.Ranks.{order_of}
use Rattle.cal_rowset.specs.Answers.{nth_row}
use Rattle.cal_value.specs.declared.record.Rec.{Rec}

pub returns-then-is_order : goal.returns-then-is_order
returns-then-is_order c = λ rs made.
    let lent : c.in_ok-likely.likely.items ≡ c.deref-2.result.now = cc in
    ap (map (nth_row rs)) (lent ∙ c.is_order.ensures c.if-is_order.true)
    ∙ ordered_rows c.args.context.now c.room-room.result.now c.args.aggs.now c.args.rows.now
    c.in_ok-keys.keys rs c.room-room.ensures made c.in_ok-keys.ensures

pub returns : goal.returns
returns c =
    let t = c.args.context.now in
    let aggs = c.args.aggs.now in
    let g = c.args.rows.now in
    let keys = c.in_ok-keys.keys in
    IfOk-weaker c.sorted_numbers.result
    (λ numbers. numbers.items ≡ order_of c.room-room.result.now g keys)
    (λ numbers. (rs : List Rec) → MakesRows t aggs g rs
    → map (nth_row rs) numbers.items ≡ sorted (rows_cmp aggs) rs)
    (λ numbers is rs made. ap (map (nth_row rs)) is
    ∙ ordered_rows t c.room-room.result.now aggs g keys rs c.room-room.ensures made
    c.in_ok-keys.ensures)
    c.sorted_numbers.ensures
