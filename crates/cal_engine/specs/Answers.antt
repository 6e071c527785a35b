-- The answer of a query on records (CalQL).
use Rattle.std.specs.Prelude.{ℕ, not, List, [], ◌∷◌, ◌++◌, codes}
use Rattle.std.specs.Prelude.{Option, None, Some, is_some, map, if◌then◌else◌}
use Rattle.std.specs.List.{filter_map, flat_map, list_any}
use Rattle.cal_filter.specs.Kept.{kept}
use Rattle.cal_ql.specs.declared.query.Item.{Item}
use Rattle.cal_ql.specs.declared.query.Query.{Query}
use Rattle.cal_rowset.specs.Hierarchy.{hierarchy, other_entries}
use Rattle.cal_rowset.specs.Texts.{first_seen}
use Rattle.cal_rowset.specs.declared.rowset.Column.{Column}
use Rattle.cal_rowset.specs.declared.rowset.Rowset.{Rowset}
use Rattle.cal_value.specs.declared.record.Rec.{Rec}
use Rattle.cal_keys.specs.Groups.{has_entries}
use Rattle.cal_engine.specs.Rows.{rows_of}
use Rattle.cal_engine.specs.Sorting.{sorted_rows}

-- the column under its own name
abbrev pub plain_column : List ℕ → Column
plain_column name = record { header = name; name = name }

-- `path`, where some row has a hierarchy
abbrev pub path_first : List Rec → List (List ℕ)
path_first rows =
    if list_any (λ row. has_entries (hierarchy row)) rows then codes "path" ∷ [] else []

-- the names that rows show: first `path`, and then those of all other entries, each where it is
-- first seen
abbrev pub shown_names : List Rec → List (List ℕ)
shown_names rows = first_seen
    (path_first rows ++ flat_map (λ row. map (λ e. e.attr.name) (other_entries row)) rows)

-- the columns without a SELECT list: with GROUP BY its names, and then those of the results
abbrev pub columns_without_list : Query → Option (List (List ℕ)) → List Rec → List Column
columns_without_list q (Some names) rows =
    map plain_column (names ++ map (λ agg. agg.name) q.aggs)
columns_without_list q None rows = map plain_column (shown_names rows)

-- the columns of an answer: the items of a SELECT list, where there is one
abbrev pub columns_of : Query → Option (List Item) → List Rec → List Column
columns_of q (Some items) rows = map (λ i. record { header = i.header; name = i.name }) items
columns_of q None rows = columns_without_list q q.group rows

-- The answer with these rows, which are ordered. Its globals are empty.
abbrev pub answer_with : Query → List Rec → Rowset
answer_with q unordered =
    let rows = sorted_rows q.order unordered in record {
      rows = record { rows = rows; globals = record { paths = []; imms = [] } };
      columns = columns_of q q.select rows;
      all = not (is_some q.select);
    }

-- the answer over the kept records
abbrev pub answer_over : Query → List Rec → Rowset
answer_over q rs = answer_with q (rows_of q rs)

-- The answer of a query on records: LET and WHERE first.
abbrev pub answer_of : Query → List Rec → Rowset
answer_of q rs = answer_over q (filter_map (kept q) rs)
