use Rattle.std.proofs.Common.{◌≡◌, map, take}
use Rattle.cal_engine.proofs.columns.item_columns.Given as goal

abbrev pub invariant-loop-item : goal.invariant-loop-item
invariant-loop-item l =
    l.columns.items ≡ map (λ i. record { header = i.header; name = i.name }) (take l.item-index l.items)
