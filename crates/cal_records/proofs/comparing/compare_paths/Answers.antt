use Rattle.std.proofs.Common.{sym, ◌∙◌, arith}
use Rattle.cal_context.specs.Tree.{path_at}
use Rattle.cal_context.specs.declared.numbers.NodeNumber.{NodeNumber}
use Rattle.cal_records.proofs.ListOrder.{compare-longer, compare-map, compare-shorter}
use Rattle.cal_records.proofs.comparing.compare_paths.Goals as goal
use Rattle.cal_value.specs.Order.{path_cmp}

pub loop-place-init : goal.loop-place-init
loop-place-init c =
    compare-map path_cmp (path_at c.args.context.now) c.args.one.now c.args.other.now

pub returns-then-other-place : goal.returns-then-other-place
returns-then-other-place c = sym
    (c.loop-place.invariant ∙ compare-longer
    (λ (n m : NodeNumber). path_cmp (path_at c.args.context.now n) (path_at c.args.context.now m))
    c.args.one.now c.args.other.now c.loop-place.place c.loop-place-test.true
    c.if-other-place.true)

pub returns-then-one-other : goal.returns-then-one-other
returns-then-one-other c = sym
    (c.loop-place.invariant ∙ compare-shorter
    (λ (n m : NodeNumber). path_cmp (path_at c.args.context.now n) (path_at c.args.context.now m))
    c.args.one.now c.args.other.now c.loop-place.place c.loop-place-test.false (omega arith))
