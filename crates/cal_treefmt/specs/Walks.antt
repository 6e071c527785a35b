-- What a context has of rows.
use Rattle.std.specs.Prelude.{◌≡◌, ◌<◌, List, [], ◌∷◌, ◌++◌, length, map}
use Rattle.std.specs.List.{All, Contains, flat_map}
use Rattle.std.specs.Ordering.{eq_by_cmp}
use Rattle.cal_value.specs.Order.{attribute_cmp}
use Rattle.cal_value.specs.declared.attribute.Attribute.{Attribute}
use Rattle.cal_value.specs.declared.attribute.Entry.{Entry}
use Rattle.cal_value.specs.declared.record.Rec.{Rec}
use Rattle.cal_context.specs.Tree.{Tree, Grows, path_at}
use Rattle.cal_context.specs.declared.numbers.NodeNumber.{NodeNumber}
use Rattle.cal_rowset.specs.Hierarchy.{hierarchy}
use Rattle.cal_treefmt.specs.Nodes.{firsts, is_node, nodes_of, nodes_on}

-- the nodes with these paths
pub record AreAt (t : Tree) (numbers : List NodeNumber) (nodes : List (List Entry)) : Type 0 where
  pub within : All (λ n. n.0 < length t.paths) numbers
  pub paths : map (path_at t) numbers ≡ nodes

-- The attributes of entries, each where it is first seen.
abbrev pub attributes_of : List Entry → List Attribute
attributes_of entries = firsts (eq_by_cmp attribute_cmp) (map (λ e. e.attr) entries)

-- the root and the nodes of rows, and the attributes in their hierarchies, each where first seen
pub record HasNodes (t : Tree) (rows : List Rec) : Type 0 where
  pub nodes : t.paths ≡ [] ∷ nodes_of rows
  pub attributes : t.attributes ≡ attributes_of (flat_map hierarchy rows)

-- a context has the nodes on the way along entries from a node, and their attributes
pub record HasOnWay (t : Tree) (path entries : List Entry) : Type 0 where
  pub nodes : All (Contains t.paths) (map (λ node. path ++ node) (nodes_on entries))
  pub attributes : All (Contains t.attributes) (map (λ e. e.attr) entries)

-- From a node one comes along entries to another one. The nodes on the way are added where they are
-- new, and so are the attributes.
pub record Walks (old new : Tree) (from : NodeNumber) (entries : List Entry) (to : NodeNumber)
    : Type 0 where
  pub grows : Grows old new
  pub within : to.0 < length new.paths
  pub path : path_at new to ≡ path_at old from ++ entries
  pub nodes : (seen : List (List Entry)) → old.paths ≡ [] ∷ firsts is_node seen
      → new.paths ≡ [] ∷ firsts is_node
      (seen ++ map (λ node. path_at old from ++ node) (nodes_on entries))
  pub attributes : (seen : List Entry) → old.attributes ≡ attributes_of seen
      → new.attributes ≡ attributes_of (seen ++ entries)
  pub has : HasOnWay new (path_at old from) entries
