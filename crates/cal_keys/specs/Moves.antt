-- Numbers of one context in another.
use Rattle.std.specs.Prelude.{◌≡◌, ◌<◌, List, Option, Some, length, map, slice_get}
use Rattle.std.specs.List.{All}
use Rattle.cal_context.specs.Snapshots.{entry_of}
use Rattle.cal_context.specs.Tree.{Tree, attribute_at, path_at}
use Rattle.cal_context.specs.declared.numbers.AttributeNumber.{AttributeNumber}
use Rattle.cal_context.specs.declared.numbers.NodeNumber.{NodeNumber}
use Rattle.cal_context.specs.declared.snapshot.Immediate.{Immediate}
use Rattle.cal_context.specs.declared.snapshot.Snapshot.{Snapshot}
use Rattle.cal_filter.specs.Results.{IsNumbered}
use Rattle.cal_rowset.specs.NumberedRows.{NumberedRow}
use Rattle.cal_keys.specs.Leading.{Leads}
use Rattle.cal_keys.specs.declared.key.GroupKey.{GroupKey}
use Rattle.cal_keys.specs.declared.moving.Moved.{Moved}

-- the numbers that the first attributes of a context have in another one
abbrev pub AreMovedAttributes : Tree → Tree → List AttributeNumber → Type 0
AreMovedAttributes t u attributes = (n k : AttributeNumber)
    → slice_get attributes n.0 ≡ Some k → IsNumbered u (attribute_at t n) k

-- the numbers of those nodes that were put into another context
abbrev pub AreMovedNodes : Tree → Tree → List (Option NodeNumber) → Type 0
AreMovedNodes t u nodes = (n k : NodeNumber)
    → slice_get nodes n.0 ≡ Some (Some k) → Leads u (path_at t n) k

-- what was put of a context into another
pub record IsMoved (t : Tree) (m : Moved) : Type 0 where
  pub attributes : AreMovedAttributes m.from t m.attributes.items
  pub nodes : AreMovedNodes m.from t m.nodes.items

-- a key of one context is this one in another
pub record IsMovedKey (t u : Tree) (old new : GroupKey) : Type 0 where
  pub paths : map (path_at u) new.paths ≡ map (path_at t) old.paths
  pub imms : Leads u (path_at t old.imms) new.imms

-- immediates of one context are these in another
pub record AreMovedImms (t u : Tree) (old new : List Immediate) : Type 0 where
  pub mean : map (entry_of u) new ≡ map (entry_of t) old
  pub within : All (λ i. i.attribute.0 < length u.attributes) new

-- a row by number of one context is this snapshot of another
pub record IsMovedRow (t u : Tree) (row : NumberedRow) (moved : Snapshot) : Type 0 where
  pub nodes : map (path_at u) moved.nodes.items ≡ map (path_at t) row.nodes
  pub imms : AreMovedImms t u row.imms moved.imms.items
