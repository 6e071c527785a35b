-- What is laid out, and the lines that are made of it.
use Rattle.std.specs.Prelude.{◌≡◌, ℕ, ◌<◌, List, [], Option, None, Some, ⊤}
use Rattle.std.specs.Prelude.{drop, length, map, slice_get, slice_index_or, MatchOption}
use Rattle.std.specs.Option.{option_and_then}
use Rattle.std.specs.List.{All}
use Rattle.cal_value.specs.declared.record.Rec.{Rec}
use Rattle.cal_context.specs.Tree.{Tree, IsContext, path_at}
use Rattle.cal_rowset.specs.Hierarchy.{hierarchy}
use Rattle.cal_treefmt.specs.Lines as lines
use Rattle.cal_treefmt.specs.Lines.{label, rows_at}
use Rattle.cal_treefmt.specs.Nodes.{ordered_nodes}
use Rattle.cal_treefmt.specs.Orders.{AreRows, nodes_in}
use Rattle.cal_treefmt.specs.Walks.{HasNodes}
use Rattle.cal_treefmt.specs.declared.lines.Line.{Line}
use Rattle.cal_treefmt.specs.declared.plan.Plan.{Plan}

-- the nodes of rows, their places in order, and the rows at each
pub record IsPlan (p : Plan) (rows : List Rec) : Type 0 where
  pub context : IsContext p.context
  pub has : HasNodes p.context rows
  pub within : All (λ k. k < length (nodes_in p.context)) p.order.items
  pub order : map (λ k. slice_index_or (nodes_in p.context) k []) p.order.items
      ≡ ordered_nodes rows
  pub at : AreRows p.context rows p.rows

abbrev pub IsPlanOf : Plan → Type 0
IsPlanOf p = (rows : List Rec) × IsPlan p rows

-- the place of a row, where there is one
abbrev pub IsPlaceOf : Plan → Option ℕ → Type 0
IsPlaceOf p place = MatchOption place ⊤ (λ k. k < length p.rows.next.items)

-- the row at a place, and the later ones at its node
abbrev pub left_rows : List Rec → Option ℕ → List Rec
left_rows rows None = []
left_rows rows (Some k) =
    rows_at (drop k rows)
    (hierarchy (slice_index_or rows k (record { paths = []; imms = [] })))

-- the line of a node of the tree
abbrev pub IsWithin : Tree → Line → Type 0
IsWithin t line = line.node.0 < length t.paths

-- the line that is meant
abbrev pub shown : Tree → List Rec → Line → lines.Line
shown t rows line = record {
  label = label (path_at t line.node);
  row = option_and_then (slice_get rows) line.row;
}
