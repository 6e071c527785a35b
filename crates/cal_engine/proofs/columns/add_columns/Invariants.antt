use Rattle.std.proofs.Common.{◌≡◌, ◌++◌, map, take}
use Rattle.cal_engine.specs.Answers.{plain_column}
use Rattle.cal_engine.proofs.columns.add_columns.Given as goal

abbrev pub invariant-loop-name : goal.invariant-loop-name
invariant-loop-name l =
    l.columns.items ≡ l.initial.columns.items ++ map plain_column (take l.name-index l.names)
