use Rattle.std.proofs.Common.{◌≡◌, ◌++◌, map, take}
use Rattle.cal_engine.specs.Answers.{plain_column}
use Rattle.cal_engine.proofs.columns.group_columns.Given as goal

abbrev pub invariant-loop-agg : goal.invariant-loop-agg
invariant-loop-agg l =
    l.columns.items ≡ map plain_column (l.names ++ map (λ agg. agg.name) (take l.agg-index l.aggs))
