use Rattle.std.proofs.Common.{◌≡◌, List, ◌++◌}
use Rattle.cal_value.specs.Flat.{flat}
use Rattle.cal_value.specs.declared.attribute.Entry.{Entry}
use Rattle.cal_rowset.specs.Filling.{Holds}
use Rattle.cal_rowset.proofs.cells.Cells.fill_all.Given as goal

-- the entries so far, and those that are left
abbrev pub invariant-loop-entry : goal.invariant-loop-entry
invariant-loop-entry l = (before : List Entry) → Holds l.fn.self before
    → (done : List Entry) × (done ++ l.entry-iterator ≡ flat l.row) × Holds l.self done
