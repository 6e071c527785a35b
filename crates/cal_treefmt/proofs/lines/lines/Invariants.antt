use Rattle.std.proofs.Common.{◌≡◌, ◌++◌, [], List, map, take, All}
use Rattle.std.specs.List.{flat_map}
use Rattle.cal_value.specs.declared.record.Rec.{Rec}
use Rattle.cal_treefmt.specs.Lines.{label, node_lines, row_lines, rows_at}
use Rattle.cal_treefmt.specs.Plans.{IsPlan, IsWithin, shown}
use Rattle.cal_treefmt.proofs.Ordering.{nth_node}
use Rattle.cal_treefmt.proofs.lines.lines.Given as goal

-- the lines of the nodes so far
abbrev pub invariant-loop-place : goal.invariant-loop-place
invariant-loop-place l = record {
  within : All (IsWithin l.plan.context) l.lines.items;
  lines : (rows : List Rec) → IsPlan l.plan rows
      → map (shown l.plan.context rows) l.lines.items
      ≡ row_lines (label []) (rows_at rows []) ++ flat_map (node_lines rows) (map (nth_node l.plan.context) (take l.place-index l.plan.order.items));
}
