use Rattle.std.proofs.Common.{◌≡◌, true, take}
use Rattle.cal_value.specs.Flat.{joined}
use Rattle.cal_engine.specs.Learning.{learned, names_beside}
use Rattle.cal_engine.proofs.columns.learn_row.Given as goal

abbrev pub invariant-loop-path : goal.invariant-loop-path
invariant-loop-path l =
    l.names.keys ≡ learned l.initial.names.keys (names_beside true (joined (take l.path-index l.row.paths)))
