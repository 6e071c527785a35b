-- The chains of children and of rows.
use Rattle.std.specs.Prelude.{◌≡◌, ℕ, ◌<◌, ◌≤◌, List, drop, length, map}
use Rattle.cal_value.specs.declared.attribute.Entry.{Entry}
use Rattle.cal_value.specs.declared.record.Rec.{Rec}
use Rattle.cal_context.specs.Tree.{Tree, path_at}
use Rattle.cal_context.specs.declared.numbers.NodeNumber.{NodeNumber}
use Rattle.cal_rowset.specs.Hierarchy.{hierarchy}
use Rattle.cal_treefmt.specs.Chains.{IsChained, key_at}
use Rattle.cal_treefmt.specs.Nodes.{parent}
use Rattle.cal_treefmt.specs.Walks.{AreAt}
use Rattle.cal_treefmt.specs.declared.chains.Chains.{Chains}

-- the nodes of a context but its root
abbrev pub nodes_in : Tree → List (List Entry)
nodes_in t = drop 1 t.paths

-- the number of a node's parent, which is smaller
pub record IsParent (t : Tree) (number : ℕ) (above : NodeNumber) : Type 0 where
  pub earlier : above.0 < number
  pub path : path_at t above ≡ parent (path_at t (record { 0 = number }))

-- the parents of these nodes, each of which has a smaller number than its child
pub record AreParents (t : Tree) (numbers : List NodeNumber) : Type 0 where
  pub at : AreAt t numbers (map parent (nodes_in t))
  pub earlier : (k : ℕ) → k < length numbers → key_at numbers k ≤ k

-- chains of the children of each node
abbrev pub AreChildren : Tree → Chains → Type 0
AreChildren t chains = (numbers : List NodeNumber) × AreParents t numbers
    × IsChained numbers (length t.paths) chains

-- chains of the rows at each node
abbrev pub AreRows : Tree → List Rec → Chains → Type 0
AreRows t rows chains = (numbers : List NodeNumber) × AreAt t numbers (map hierarchy rows)
    × IsChained numbers (length t.paths) chains
