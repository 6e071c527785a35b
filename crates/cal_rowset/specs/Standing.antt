-- The cells of a row, between the snapshots of a context that are shown in them.
use Rattle.std.specs.Prelude.{◌≡◌, ◌<◌, List, [], ◌++◌, length, true}
use Rattle.cal_value.specs.declared.attribute.Entry.{Entry}
use Rattle.cal_context.specs.Tree.{Tree, path_at}
use Rattle.cal_rowset.specs.Cells.{values}
use Rattle.cal_rowset.specs.Filling.{Shows, names}
use Rattle.cal_rowset.specs.Known.{known_entries}
use Rattle.cal_rowset.specs.Rooms.{KnowsAttributes, nested}
use Rattle.cal_rowset.specs.Trails.{IsTrail}
use Rattle.cal_rowset.specs.declared.shown_row.ShownRow.{ShownRow}

-- those entries of a row that its cells take
abbrev pub taken : ShownRow → List Entry → List Entry
taken s entries = known_entries (names s.cells) entries

-- They hold no entry, and stand at the root.
abbrev pub HoldsNothing : ShownRow → Type 0
HoldsNothing s = IsTrail s.cells [] × (s.node.0 ≡ 0) × (s.depth ≡ 0)

-- They know the attributes of the context, and hold the path of a node and then some entries.
pub record StandsIn (t : Tree) (s : ShownRow) : Type 0 where
  pub knows : KnowsAttributes t s
  pub within : s.node.0 < length t.paths
  pub more : List Entry
  pub trail : IsTrail s.cells (taken s (path_at t s.node) ++ more)
  pub depth : s.depth ≡ length (taken s (path_at t s.node))

-- They hold the path of a node alone, which is the root's if the hierarchy is to be shown.
pub record StandsAt (t : Tree) (s : ShownRow) : Type 0 where
  pub knows : KnowsAttributes t s
  pub within : s.node.0 < length t.paths
  pub trail : IsTrail s.cells (taken s (path_at t s.node))
  pub depth : s.depth ≡ length (taken s (path_at t s.node))
  pub root : s.shows_path ≡ true → s.node.0 ≡ 0
  pub hierarchy : Shows s.hierarchy []

-- They hold these entries, the path of a node first, and these of the hierarchy if it is shown.
pub record IsFilled (t : Tree) (s : ShownRow) (entries of_path : List Entry) : Type 0 where
  pub stands : StandsIn t s
  pub trail : IsTrail s.cells (taken s entries)
  pub hierarchy : s.shows_path ≡ true → Shows s.hierarchy (values of_path)

-- the same of the entries of paths
abbrev pub IsFilledWith : Tree → ShownRow → List Entry → Type 0
IsFilledWith t s path = IsFilled t s path (nested path)
