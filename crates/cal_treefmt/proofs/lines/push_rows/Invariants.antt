use Rattle.std.proofs.Common.{◌≡◌, ◌++◌, List, length, map, All}
use Rattle.cal_value.specs.declared.record.Rec.{Rec}
use Rattle.cal_context.specs.Tree.{path_at}
use Rattle.cal_treefmt.specs.Lines.{label, row_lines}
use Rattle.cal_treefmt.specs.Plans.{IsPlaceOf, IsPlan, IsWithin, left_rows, shown}
use Rattle.cal_treefmt.proofs.Lining.{places_from}
use Rattle.cal_treefmt.proofs.lines.push_rows.Given as goal

-- the lines so far, and those that are left
abbrev pub invariant-loop-from : goal.invariant-loop-from
invariant-loop-from l = record {
  from : IsPlaceOf l.plan l.from;
  within : All (IsWithin l.plan.context) l.initial.lines.items → All (IsWithin l.plan.context) l.lines.items;
  lines : (rows : List Rec) → IsPlan l.plan rows
      → map (shown l.plan.context rows) l.lines.items ++ row_lines (label (path_at l.plan.context l.node)) (left_rows rows l.from)
      ≡ map (shown l.plan.context rows) l.initial.lines.items ++ row_lines (label (path_at l.plan.context l.node)) (left_rows rows l.fn.from);
}

abbrev pub decreases-loop-from : goal.decreases-loop-from
decreases-loop-from l = places_from (length l.plan.rows.next.items) l.from
