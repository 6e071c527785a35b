-- The answer with rows by number.
use Rattle.std.proofs.Common.{◌≡◌, Bool, true, false, not, List, [], map, sym, ap, ◌∙◌}
use Rattle.std.specs.Prelude.{is_some}
use Rattle.cal_context.specs.Tree.{Tree}
use Rattle.cal_ql.specs.declared.query.Query.{Query}
use Rattle.cal_rowset.specs.NumberedRows.{NumberedRow, meant}
use Rattle.cal_rowset.specs.Numbers as numbers
use Rattle.cal_rowset.specs.declared.rowset.Column.{Column}
use Rattle.cal_value.specs.declared.record.Rec.{Rec}
use Rattle.cal_engine.specs.Answers.{answer_over, columns_of}
use Rattle.cal_engine.specs.Rows.{rows_of}
use Rattle.cal_engine.specs.Sorting.{sorted_rows}

pub answer_is : (t : Tree) (q : Query) (ks : List Rec) (rows : List NumberedRow) (columns : List Column) (all : Bool)
    → map (meant t) rows ≡ sorted_rows q.order (rows_of q ks) → columns ≡ columns_of q q.select (map (meant t) rows) → all ≡ not (is_some q.select)
    → numbers.answer_over t rows columns all ≡ answer_over q ks
answer_is t q ks rows columns all is shown so = λ i. record {
  rows = record { rows = is i; globals = record { paths = []; imms = [] } };
  columns = (shown ∙ ap (columns_of q q.select) is) i;
  all = so i;
}

pub turned : (b s : Bool) → s ≡ not b → b ≡ not s
turned true s e = ap not (sym e)
turned false s e = ap not (sym e)
