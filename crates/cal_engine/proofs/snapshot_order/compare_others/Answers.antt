use Rattle.std.proofs.Common.{◌≡◌, ◌≢◌, sym, ap, ◌∙◌, arith, drop, ◌+◌}
use Rattle.std.specs.Option.{option_cmp}
use Rattle.std.specs.Ordering.{ordering_then}
use Rattle.std.specs.declared.cmp.Ordering.TheVariants.{Equal}
use Rattle.cal_value.specs.Order.{value_cmp}
use Rattle.cal_engine.specs.Ranks.{value_in, values_cmp}
use Rattle.cal_engine.specs.SnapshotRanks.{others_in}
use Rattle.cal_engine.specs.Sorting.{directed}
use Rattle.cal_engine.proofs.Ranking.{then_equal, then_other, values_next}
use Rattle.cal_engine.proofs.snapshot_order.compare_others.Goals as goal

pub returns-then-ne : goal.returns-then-ne
returns-then-ne c =
    let n = c.loop-place.place in
    let keys = c.args.order.now in
    let vs = others_in c.args.one.now in
    let ws = others_in c.args.other.now in
    let key = c.index-order-place.result in
    let answer = c.compare_values-answer.ensures ∙ (λ i. option_cmp value_cmp (c.value_of.ensures i) (c.value_of-in-loop-place.ensures i)) in
    let next = values_next keys vs ws n key (omega arith) c.index-order-place.is in
    let rest = values_cmp (drop (n + 1) keys) (drop (n + 1) vs) (drop (n + 1) ws) in
    let other : c.compare_values-answer.result ≢ Equal = grind (arith, c.if-ne.true, c.ne.ensures) in
    c.directed.ensures
    ∙ sym (then_other key.down c.compare_values-answer.result rest other)
    ∙ ap (λ a. ordering_then (directed key.down a) rest) answer
    ∙ sym next ∙ sym c.loop-place.invariant

pub loop-place-preserved : goal.loop-place-preserved
loop-place-preserved c =
    let n = c.loop-place.place in
    let keys = c.args.order.now in
    let vs = others_in c.args.one.now in
    let ws = others_in c.args.other.now in
    let key = c.index-order-place.result in
    let answer = c.compare_values-answer.ensures ∙ (λ i. option_cmp value_cmp (c.value_of.ensures i) (c.value_of-in-loop-place.ensures i)) in
    let next = values_next keys vs ws n key (omega arith) c.index-order-place.is in
    let rest = values_cmp (drop (n + 1) keys) (drop (n + 1) vs) (drop (n + 1) ws) in
    let equal : c.compare_values-answer.result ≡ Equal = grind (arith, c.if-ne.false, c.ne.ensures) in
    c.loop-place.invariant ∙ next
    ∙ then_equal key.down (option_cmp value_cmp (value_in vs n) (value_in ws n)) rest (sym answer ∙ equal)
