use Rattle.std.proofs.Common.{◌≡◌, [], map, take}
use Rattle.cal_tabfmt.specs.Tables.{held}
use Rattle.cal_tabfmt.proofs.held.nothing_held.Given as goal

abbrev pub invariant-loop-column : goal.invariant-loop-column
invariant-loop-column l = l.none.items ≡ map (held []) (take l.column-index l.columns)
