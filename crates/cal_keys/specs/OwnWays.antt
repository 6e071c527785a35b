-- Where the own nodes of keys may stand for the ways to their groups.
use Rattle.std.specs.Prelude.{◌≡◌, ℕ, true, ◌<◌, length}
use Rattle.std.specs.List.{All}
use Rattle.cal_context.specs.Tree.{Tree, path_at}
use Rattle.cal_context.specs.declared.numbers.NodeNumber.{NodeNumber}
use Rattle.cal_rowset.specs.Hierarchy.{is_of_hierarchy}

-- the entries on a node's path are of the hierarchy
pub record IsNestedAt (t : Tree) (n : NodeNumber) : Type 0 where
  pub within : n.0 < length t.paths
  pub nested : All (λ e. is_of_hierarchy e.attr ≡ true) (path_at t n)

abbrev pub AreNestedBefore : Tree → ℕ → Type 0
AreNestedBefore t count = (n : NodeNumber) → n.0 < count → IsNestedAt t n
