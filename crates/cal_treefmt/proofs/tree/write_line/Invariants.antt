use Rattle.std.proofs.Common.{◌≡◌, List, length, suc}
use Rattle.cal_rowset.specs.declared.rowset.Column.{Column}
use Rattle.cal_tabfmt.specs.Ends.{HasLine, front_of_line}
use Rattle.cal_treefmt.specs.Lines as lines
use Rattle.cal_treefmt.specs.Shown.{ShowsLine}
use Rattle.cal_treefmt.specs.Tree.{line_texts}
use Rattle.cal_treefmt.proofs.tree.write_line.Given as goal

-- the texts so far
abbrev pub invariant-loop-place : goal.invariant-loop-place
invariant-loop-place l = (columns : List Column) (line : lines.Line) → ShowsLine columns l.shown line → length l.shapes ≡ suc (length columns)
    → HasLine l.fn.out l.out l.pending (front_of_line l.shapes (line_texts columns line) l.place)
