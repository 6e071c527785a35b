-- What is known of a context's attributes and paths while a snapshot is laid out.
use Rattle.std.specs.Prelude.{◌≡◌, ℕ, zero, suc, ◌<◌, ◌≤◌, List, [], ◌++◌, Some}
use Rattle.std.specs.Prelude.{length, slice_get, slice_index_or}
use Rattle.cal_value.specs.declared.attribute.Entry.{Entry}
use Rattle.cal_context.specs.Tree.{Tree, attribute_at, path_at}
use Rattle.cal_context.specs.declared.numbers.AttributeNumber.{AttributeNumber}
use Rattle.cal_context.specs.declared.numbers.NodeNumber.{NodeNumber}
use Rattle.cal_rowset.specs.Filling.{names}
use Rattle.cal_rowset.specs.Trails.{IsTrail}
use Rattle.cal_tabfmt.specs.declared.snapshot_cells.SnapshotCells.{SnapshotCells}

-- of the first attributes it is known at which place their names stand
pub record KnowsPlaces (t : Tree) (names : List (List ℕ)) (places : List ℕ) : Type 0 where
  pub within : length places ≤ length t.attributes
  pub known : (n : AttributeNumber) → n.0 < length places
      → slice_get names (slice_index_or places n.0 0) ≡ Some (attribute_at t n).name

-- of each attribute of the context it is known
pub record KnowsAll (t : Tree) (names : List (List ℕ)) (places : List ℕ) : Type 0 where
  pub each : KnowsPlaces t names places
  pub all : length t.attributes ≤ length places

-- the path of the node of a number; that of the root is empty in every tree
abbrev pub path_numbered : Tree → ℕ → List Entry
path_numbered t zero = []
path_numbered t (suc n) = path_at t (record { 0 = suc n })

abbrev pub path_to : Tree → NodeNumber → List Entry
path_to t n = path_numbered t n.0

-- Cells that stand at a node: they hold its path, and know some attributes.
pub record StandAt (t : Tree) (s : SnapshotCells) : Type 0 where
  pub trail : IsTrail s.trail (path_at t s.node)
  pub depth : s.depth ≡ length (path_at t s.node)
  pub places : KnowsPlaces t (names s.trail) s.places.items

-- the same, and they know all
pub record StandKnowing (t : Tree) (s : SnapshotCells) : Type 0 where
  pub stand : StandAt t s
  pub places : KnowsAll t (names s.trail) s.places.items

-- Cells that hold the path of a node and then some entries, and know some attributes.
pub record AreReady (t : Tree) (s : SnapshotCells) : Type 0 where
  pub within : 0 < s.node.0 → s.node.0 < length t.paths
  pub more : List Entry
  pub trail : IsTrail s.trail (path_to t s.node ++ more)
  pub depth : s.depth ≡ length (path_to t s.node)
  pub places : KnowsPlaces t (names s.trail) s.places.items

-- Cells that hold these entries of a snapshot, the path of a node first, and know all attributes.
pub record AreFilled (t : Tree) (s : SnapshotCells) (entries : List Entry) : Type 0 where
  pub within : s.node.0 < length t.paths
  pub more : List Entry
  pub front : entries ≡ path_to t s.node ++ more
  pub trail : IsTrail s.trail entries
  pub depth : s.depth ≡ length (path_to t s.node)
  pub places : KnowsAll t (names s.trail) s.places.items
