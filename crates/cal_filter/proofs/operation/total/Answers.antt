use Rattle.std.proofs.Common.{rules, sym, ◌∙◌, ap, arith, Some, None}
use Rattle.std.proofs.lemmas.List.{take_all}
use Rattle.cal_agg.specs.Parts.{sum_over}
use Rattle.cal_filter.proofs.Sums.{there, sum_same, total_next, total_room}
use Rattle.cal_filter.proofs.operation.total.Goals as goal
use Rattle.cal_filter.proofs.operation.total.Goals.{in-Some, in_default}

pub add-requires-clause-room : goal.add-requires-clause-room
add-requires-clause-room c =
    total_room c.args.numbers.now c.loop-number.number-index (Some c.in-Some.number)
    c.loop-number.sum c.loop-number.invariant (omega arith) (search rules) c.requires.small
    c.requires.few

pub loop-number-preserved : goal.loop-number-preserved
loop-number-preserved c =
    elim c.match-number.branch [
      | in-Some w ↦
          w.sum-is ∙ w.add.ensures
          ∙ total_next c.args.numbers.now c.loop-number.number-index (Some w.in-Some.number)
          c.loop-number.sum c.loop-number.invariant (omega arith) (search rules)
      | in_default w ↦
          w.sum-is ∙ sym (sum_same c.loop-number.sum)
          ∙ total_next c.args.numbers.now c.loop-number.number-index None
          c.loop-number.sum c.loop-number.invariant (omega arith) (search rules)
    ]

pub returns : goal.returns
returns c =
    c.value.ensures.added (there c.args.numbers.now)
    (c.loop-number.invariant
    ∙ ap (λ xs. sum_over (there xs)) (take_all c.loop-number.number-index c.args.numbers.now (omega arith)))
