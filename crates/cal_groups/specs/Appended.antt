-- Immediates behind others (private).
use Rattle.std.specs.Prelude.{◌≡◌, List, ◌++◌, map}
use Rattle.cal_context.specs.Snapshots.{entry_of}
use Rattle.cal_context.specs.Tree.{Tree, path_at}
use Rattle.cal_context.specs.declared.numbers.NodeNumber.{NodeNumber}
use Rattle.cal_context.specs.declared.snapshot.Immediate.{Immediate}
use Rattle.cal_filter.specs.Interned.{AreEntries}
use Rattle.cal_value.specs.declared.attribute.Entry.{Entry}
use Rattle.cal_value.specs.declared.record.Rec.{Rec}

-- immediates were put behind others, and mean these entries
pub record Appends (t : Tree) (old new : List Immediate) (entries : List Entry) : Type 0 where
  pub more : List Immediate
  pub new_is : new ≡ old ++ more
  pub means : AreEntries t more entries

-- the record that nodes and immediates mean
abbrev pub record_of : Tree → List NodeNumber → List Immediate → Rec
record_of t nodes imms = record { paths = map (path_at t) nodes; imms = map (entry_of t) imms }
