use Rattle.std.proofs.Common.{◌≡◌, List, ◌++◌}
use Rattle.cal_value.specs.Flat.{flat}
use Rattle.cal_value.specs.declared.attribute.Entry.{Entry}
use Rattle.cal_rowset.specs.Filling.{Holds, names}
use Rattle.cal_rowset.specs.Known.{known_entries}
use Rattle.cal_rowset.proofs.cells.Cells.fill.Given as goal

-- the entries so far, and those that are left
abbrev pub invariant-loop-entry : goal.invariant-loop-entry
invariant-loop-entry l = record {
  same : names l.self ≡ names l.fn.self;
  filled : (before : List Entry) → Holds l.fn.self before
      → (done : List Entry) × (done ++ l.entry-iterator ≡ flat l.row) × Holds l.self (known_entries (names l.fn.self) done);
}
