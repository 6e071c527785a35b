use Rattle.std.proofs.Common.{sym, ◌∙◌, arith}
use Rattle.cal_records.proofs.ListOrder.{compare-longer, compare-map, compare-shorter}
use Rattle.cal_records.proofs.sorting.compare_keys.Goals as goal
use Rattle.cal_records.specs.Ranks.{key_entry}
use Rattle.cal_records.specs.declared.sorting.Key.{Key}
use Rattle.cal_value.specs.Order.{entry_cmp}

pub loop-place-init : goal.loop-place-init
loop-place-init c = compare-map entry_cmp key_entry c.args.one.now c.args.other.now

pub returns-then-other-place : goal.returns-then-other-place
returns-then-other-place c = sym
    (c.loop-place.invariant ∙ compare-longer
    (λ (k m : Key). entry_cmp (key_entry k) (key_entry m))
    c.args.one.now c.args.other.now c.loop-place.place c.loop-place-test.true
    c.if-other-place.true)

pub returns-then-one-other : goal.returns-then-one-other
returns-then-one-other c = sym
    (c.loop-place.invariant ∙ compare-shorter
    (λ (k m : Key). entry_cmp (key_entry k) (key_entry m))
    c.args.one.now c.args.other.now c.loop-place.place c.loop-place-test.false (omega arith))
