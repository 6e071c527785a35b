-- What is added up at the nodes of a tree.
use Rattle.std.specs.Prelude.{◌≡◌, ◌<◌, ◌&&◌, not, List, [], length}
use Rattle.std.specs.Prelude.{slice_index_or}
use Rattle.std.specs.Prelude.{fold, if◌then◌else◌}
use Rattle.cal_context.specs.Tree.{Tree, path_at}
use Rattle.cal_context.specs.declared.numbers.NodeNumber.{NodeNumber}
use Rattle.cal_engine.specs.Finishing.{parts_where}
use Rattle.cal_parts.specs.Parts.{Gathered, merged_parts}
use Rattle.cal_keys.specs.Trails.{begins}

-- Parts were added at a node, and at each node whose path begins the node's.
pub record IsAddedAbove (t : Tree) (node : NodeNumber) (parts : List Gathered)
    (old new : List (List Gathered)) : Type 0 where
  pub at : (n : NodeNumber) (d : List Gathered) → n.0 < length t.paths
      → slice_index_or new n.0 d
      ≡ (if begins (path_at t n) (path_at t node)
      then merged_parts (slice_index_or old n.0 d) parts
      else slice_index_or old n.0 d)

-- They were added so from a node on up to before another one.
pub record IsAddedFrom (t : Tree) (from node : NodeNumber) (parts : List Gathered)
    (old new : List (List Gathered)) : Type 0 where
  pub at : (n : NodeNumber) (d : List Gathered) → n.0 < length t.paths
      → slice_index_or new n.0 d
      ≡ (if begins (path_at t n) (path_at t from) && not (begins (path_at t n) (path_at t node))
      then merged_parts (slice_index_or old n.0 d) parts
      else slice_index_or old n.0 d)

-- At each node stand the parts of those nodes taken together whose paths it begins.
pub record AreTotals (t : Tree) (nodes : List NodeNumber) (parts : List (List Gathered))
    (none : List Gathered) (totals : List (List Gathered)) : Type 0 where
  pub long : length totals ≡ length t.paths
  pub at : (n : NodeNumber) (d : List Gathered) → n.0 < length t.paths
      → slice_index_or totals n.0 d
      ≡ fold merged_parts none
      (parts_where (λ m. begins (path_at t n) (path_at t m)) nodes parts)
