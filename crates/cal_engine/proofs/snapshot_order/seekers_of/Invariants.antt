use Rattle.std.proofs.Common.{◌≡◌, map, take}
use Rattle.std.specs.List.{All}
use Rattle.cal_filter.specs.Known.{KnowsAll, sought}
use Rattle.cal_filter.specs.Sought.{any_of}
use Rattle.cal_engine.proofs.snapshot_order.seekers_of.Given as goal

abbrev pub invariant-loop-key : goal.invariant-loop-key
invariant-loop-key l = record {
  same : map sought l.seekers.items ≡ map (λ key. any_of key.name) (take l.key-index l.order);
  knows : All (KnowsAll l.context) l.seekers.items;
}
