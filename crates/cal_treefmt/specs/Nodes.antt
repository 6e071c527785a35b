-- The nodes of a tree of rows. A node is the entries by which one comes to it from the root.
use Rattle.std.specs.Prelude.{Bool, List, [], ◌∷◌, ◌++◌, filter, map, not, if◌then◌else◌}
use Rattle.std.specs.List.{flat_map}
use Rattle.std.specs.Ordering.{eq_by_cmp}
use Rattle.cal_value.specs.Order.{path_cmp}
use Rattle.cal_value.specs.declared.attribute.Entry.{Entry}
use Rattle.cal_value.specs.declared.record.Rec.{Rec}
use Rattle.cal_rowset.specs.Hierarchy.{hierarchy}

-- whether two nodes are one
abbrev pub is_node : List Entry → List Entry → Bool
is_node = eq_by_cmp path_cmp

-- each item once, where it is first seen
abbrev pub firsts : {A : Type 0} → (A → A → Bool) → List A → List A
firsts same [] = []
firsts same (x ∷ xs) = x ∷ filter (λ other. not (same other x)) (firsts same xs)

-- the nodes on the way down a hierarchy
abbrev pub nodes_on : List Entry → List (List Entry)
nodes_on [] = []
nodes_on (e ∷ path) = (e ∷ []) ∷ map (λ node. e ∷ node) (nodes_on path)

-- The nodes of rows: those on the way down their hierarchies, each where it is first seen.
abbrev pub nodes_of : List Rec → List (List Entry)
nodes_of rows = firsts is_node (flat_map (λ row. nodes_on (hierarchy row)) rows)

-- the node above a node
abbrev pub parent : List Entry → List Entry
parent [] = []
parent (e ∷ []) = []
parent (e ∷ f ∷ path) = e ∷ parent (f ∷ path)

-- The nodes below a node, among nodes of which each comes before those below it: each child,
-- followed by the nodes below it.
abbrev pub below : List (List Entry) → List Entry → List (List Entry)
below [] node = []
below (other ∷ later) node =
    if is_node (parent other) node then other ∷ (below later other ++ below later node)
    else below later node

-- The nodes of rows from the root down, children in the order in which they are first seen
-- (Giltmoth's layout).
abbrev pub ordered_nodes : List Rec → List (List Entry)
ordered_nodes rows = below (nodes_of rows) []
