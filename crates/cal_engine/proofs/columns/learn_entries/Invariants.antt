use Rattle.std.proofs.Common.{◌≡◌, take}
use Rattle.cal_engine.specs.Learning.{learned, names_beside}
use Rattle.cal_engine.proofs.columns.learn_entries.Given as goal

abbrev pub invariant-loop-entry : goal.invariant-loop-entry
invariant-loop-entry l =
    l.names.keys ≡ learned l.initial.names.keys (names_beside l.in_path (take l.entry-index l.entries))
