use Rattle.std.proofs.Common.{◌≡◌, ℕ, List, [], ◌∷◌, map, take}
use Rattle.cal_rowset.specs.declared.rowset.Column.{Column}
use Rattle.cal_tabfmt.specs.Grid.{shapes}
use Rattle.cal_treefmt.specs.Plans.{shown}
use Rattle.cal_treefmt.specs.Shown.{IsForLines}
use Rattle.cal_treefmt.specs.Tree.{line_texts, rights}
use Rattle.cal_treefmt.proofs.measured.widen_each.Given as goal

-- the headers and the lines so far are measured
abbrev pub invariant-loop-place : goal.invariant-loop-place
invariant-loop-place g l = record {
  made : (columns : List Column) (head : List (List ℕ)) → IsForLines columns l.initial.at → l.initial.all.items ≡ shapes (head ∷ []) 0 (rights columns)
      → l.all.items ≡ shapes (head ∷ map (λ line. line_texts columns (shown l.context (g.A.Answer.answer l.answer).rows.rows line)) (take l.place l.lines)) 0 (rights columns);
  stays : (columns : List Column) → IsForLines columns l.initial.at → IsForLines columns l.at;
  ready : g.A.Answer.is_ready l.answer l.at.cells;
}
