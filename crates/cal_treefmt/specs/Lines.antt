-- The lines of a tree of rows.
use Rattle.std.specs.Prelude.{ℕ, List, [], ◌∷◌, ◌++◌, Option, None, Some, filter, map}
use Rattle.std.specs.List.{flat_map}
use Rattle.cal_value.specs.Values.{value_text}
use Rattle.cal_value.specs.declared.attribute.Entry.{Entry}
use Rattle.cal_value.specs.declared.record.Rec.{Rec}
use Rattle.cal_rowset.specs.Hierarchy.{hierarchy}
use Rattle.cal_treefmt.specs.Nodes.{is_node, ordered_nodes}

-- a line: its label, and the row that it shows, if there is one
pub record Line : Type 0 where
  pub label : List ℕ
  pub row : Option Rec

-- two spaces for each entry
abbrev pub indent : List Entry → List ℕ
indent [] = []
indent (e ∷ path) = 32 ∷ 32 ∷ indent path

-- The label of a node: the text of its last value, two spaces further in than its parent's. The
-- root's is empty.
abbrev pub label : List Entry → List ℕ
label [] = []
label (e ∷ []) = value_text e.value
label (e ∷ f ∷ node) = 32 ∷ 32 ∷ label (f ∷ node)

-- the rows whose hierarchy leads to a node
abbrev pub rows_at : List Rec → List Entry → List Rec
rows_at rows node = filter (λ row. is_node (hierarchy row) node) rows

-- a line for each row
abbrev pub row_lines : List ℕ → List Rec → List Line
row_lines label rows = map (λ row. record { label = label; row = Some row }) rows

-- a line for each row, and one without a row where there is none
abbrev pub lines_of : List ℕ → List Rec → List Line
lines_of label [] = record { label = label; row = None } ∷ []
lines_of label (row ∷ rows) = row_lines label (row ∷ rows)

abbrev pub node_lines : List Rec → List Entry → List Line
node_lines rows node = lines_of (label node) (rows_at rows node)

-- the lines of rows without a hierarchy, and then those of the nodes
abbrev pub tree_lines : List Rec → List Line
tree_lines rows =
    row_lines (label []) (rows_at rows []) ++ flat_map (node_lines rows) (ordered_nodes rows)
