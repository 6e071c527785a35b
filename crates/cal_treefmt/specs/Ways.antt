-- Ways that were gone from the root of a tree along the nodes of a context; for private clauses.
use Rattle.std.specs.Prelude.{◌≡◌, ◌==◌, ◌<◌, List, [], ◌∷◌, ◌++◌, Option, None, Some, filter}
use Rattle.std.specs.Prelude.{length, reverse, slice_index_or, slice_set, IfSome, MatchOption, ⊤}
use Rattle.std.specs.Prelude.{if◌then◌else◌}
use Rattle.cal_value.specs.declared.attribute.Entry.{Entry}
use Rattle.cal_context.specs.Tree.{Tree, path_at}
use Rattle.cal_context.specs.declared.numbers.NodeNumber.{NodeNumber}
use Rattle.cal_rowset.specs.Hierarchy.{is_of_hierarchy}
use Rattle.cal_treefmt.specs.Walks.{HasOnWay}
use Rattle.cal_treefmt.specs.declared.ways.Ways.{Ways}

-- the entries of a node's hierarchy
abbrev pub nested_at : Tree → NodeNumber → List Entry
nested_at t n = filter (λ e. is_of_hierarchy e.attr) (path_at t n)

-- a node of a tree is the one to which these entries lead from its root
pub record IsWay (t : Tree) (entries : List Entry) (n : NodeNumber) : Type 0 where
  pub within : n.0 < length t.paths
  pub path : path_at t n ≡ entries
  pub has : HasOnWay t [] entries

-- what is known of each node of a context is a way in the tree
pub record AreWays (t nodes : Tree) (w : Ways) : Type 0 where
  pub counted : length w.known.items ≡ length t.paths
  pub ways : (n : NodeNumber) → n.0 < length t.paths
      → IfSome (slice_index_or w.known.items n.0 None) (IsWay nodes (nested_at t n))

-- what is known of a node for a way from the root
abbrev pub known_at : List (Option NodeNumber) → NodeNumber → NodeNumber → Option NodeNumber
known_at known from n = if from.0 == 0 then slice_index_or known n.0 None else None

-- and the same with one more
abbrev pub with_known : List (Option NodeNumber) → NodeNumber → NodeNumber → NodeNumber
    → List (Option NodeNumber)
with_known known from n at = if from.0 == 0 then slice_set known n.0 (Some at) else known

-- a node is the parent of another one
pub record IsAbove (t : Tree) (above n : NodeNumber) : Type 0 where
  pub earlier : above.0 < n.0
  pub within : n.0 < length t.paths
  pub path : (e : Entry) × (path_at t n ≡ path_at t above ++ e ∷ [])

-- the way to a node is known, or it is the root
abbrev pub IsUp : Tree → List (Option NodeNumber) → NodeNumber → NodeNumber → Type 0
IsUp t known from n = MatchOption (known_at known from n) (path_at t n ≡ []) (λ way. ⊤)

-- from a node one comes down to another one by these, each the parent of the next
abbrev pub Descends : Tree → NodeNumber → List NodeNumber → NodeNumber → Type 0
Descends t from [] to = from ≡ to
Descends t from (n ∷ ns) to = IsAbove t from n × Descends t n ns to

-- the same by a list that has the first one last
abbrev pub LeadsTo : Tree → NodeNumber → List NodeNumber → NodeNumber → Type 0
LeadsTo t from left to = Descends t from (reverse left) to
