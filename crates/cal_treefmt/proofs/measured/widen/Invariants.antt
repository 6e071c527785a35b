use Rattle.std.proofs.Common.{◌≡◌, ℕ, List, length}
use Rattle.cal_rowset.specs.declared.rowset.Column.{Column}
use Rattle.cal_tabfmt.specs.Grid.{shapes}
use Rattle.cal_treefmt.specs.Lines as lines
use Rattle.cal_treefmt.specs.Shown.{ShowsLine}
use Rattle.cal_treefmt.specs.Tree.{line_texts, rights}
use Rattle.cal_treefmt.proofs.Writing.{widened}
use Rattle.cal_treefmt.proofs.measured.widen.Given as goal

-- the columns so far are wide enough
abbrev pub invariant-loop-place : goal.invariant-loop-place
invariant-loop-place l = record {
  counted : length l.all.items ≡ length l.initial.all.items;
  wide : (columns : List Column) (line : lines.Line) (before : List (List (List ℕ))) → ShowsLine columns l.shown line → l.initial.all.items ≡ shapes before 0 (rights columns)
      → l.all.items ≡ widened before (line_texts columns line) (rights columns) l.place;
}
