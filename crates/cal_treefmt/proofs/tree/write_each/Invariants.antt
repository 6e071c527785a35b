use Rattle.std.proofs.Common.{◌≡◌, ◌++◌, List, length, suc, take}
use Rattle.std.specs.List.{flat_map}
use Rattle.cal_rowset.specs.declared.rowset.Column.{Column}
use Rattle.cal_tabfmt.specs.Grid.{grid_line}
use Rattle.cal_treefmt.specs.Plans.{shown}
use Rattle.cal_treefmt.specs.Shown.{IsForLines}
use Rattle.cal_treefmt.specs.Tree.{line_texts}
use Rattle.cal_treefmt.proofs.tree.write_each.Given as goal

-- the lines so far
abbrev pub invariant-loop-place : goal.invariant-loop-place
invariant-loop-place g l = record {
  out : (columns : List Column) → IsForLines columns l.initial.at → length l.shapes ≡ suc (length columns) → l.out ≡ l.initial.out
      ++ flat_map (λ line. grid_line l.shapes (line_texts columns (shown l.context (g.A.Answer.answer l.answer).rows.rows line))) (take l.place l.lines);
  stays : (columns : List Column) → IsForLines columns l.initial.at → IsForLines columns l.at;
  ready : g.A.Answer.is_ready l.answer l.at.cells;
}
