-- Entries as immediates of a context.
use Rattle.std.specs.Prelude.{◌≡◌, ◌<◌, List, length, map}
use Rattle.std.specs.List.{All}
use Rattle.cal_context.specs.Snapshots.{entry_of}
use Rattle.cal_context.specs.Tree.{Tree}
use Rattle.cal_context.specs.declared.snapshot.Immediate.{Immediate}
use Rattle.cal_value.specs.declared.attribute.Entry.{Entry}

-- immediates mean these entries, one after another
pub record AreEntries (t : Tree) (imms : List Immediate) (es : List Entry) : Type 0 where
  pub within : All (λ i. i.attribute.0 < length t.attributes) imms
  pub means : map (entry_of t) imms ≡ es
