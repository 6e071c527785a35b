-- The rows of a query.
use Rattle.std.specs.Prelude.{◌≡◌, ℕ, Bool, true, ◌||◌, ◌&&◌, not, List, [], ◌++◌, ◌==◌, length}
use Rattle.std.specs.Prelude.{Option, filter, is_some, map, option_map, if◌then◌else◌}
use Rattle.std.specs.List.{filter_map, starts_with}
use Rattle.std.specs.Ordering.{eq_by_cmp}
use Rattle.cal_agg.specs.declared.num.Num.{Num}
use Rattle.cal_filter.specs.Kept.{result_entry}
use Rattle.cal_filter.specs.Numbers.{value_of_number}
use Rattle.cal_ql.specs.declared.query.Agg.{Agg}
use Rattle.cal_ql.specs.declared.query.Query.{Query}
use Rattle.cal_rowset.specs.Hierarchy.{hierarchy}
use Rattle.cal_value.specs.Order.{entry_cmp, path_cmp}
use Rattle.cal_value.specs.declared.attribute.Entry.{Entry}
use Rattle.cal_value.specs.declared.record.Rec.{Rec}
use Rattle.cal_keys.specs.Groups.{group_of, groups_of, records_of}
use Rattle.cal_parts.specs.Kernels.{contributed, result_of}
use Rattle.cal_keys.specs.Trails.{beside}

-- Whether a group lies at or below another: its hierarchy begins with the other's, and its other
-- entries, those in paths and those in immediates, are the other's (Giltmoth's rule).
abbrev pub is_below : Rec → Rec → Bool
is_below other group =
    starts_with (eq_by_cmp entry_cmp) (hierarchy group) (hierarchy other)
    && eq_by_cmp path_cmp (beside group) (beside other)
    && eq_by_cmp path_cmp group.imms other.imms

-- the records of the groups that lie at or below a group
abbrev pub records_below : Option (List (List ℕ)) → Rec → List Rec → List Rec
records_below names group rs = filter (λ r. is_below group (group_of names r)) rs

-- what a kernel comes to in a group
abbrev pub kernel_result : Option (List (List ℕ)) → List Rec → Rec → Agg → Option Num
kernel_result names rs group agg = result_of agg.kernel
    (contributed agg (records_of names group rs))
    (contributed agg rs)
    (contributed agg (records_below names group rs))

-- the entries of a group's results, those that are there
abbrev pub results : Query → List Rec → Rec → List Entry
results q rs group = filter_map
    (λ agg. option_map (λ n. result_entry agg.name (value_of_number n))
    (kernel_result q.group rs group agg))
    q.aggs

-- the row of a group: its paths, its immediates, and its results
abbrev pub row_of : Query → List Rec → Rec → Rec
row_of q rs group = record { paths = group.paths; imms = group.imms ++ results q rs group }

-- a query is aggregated where it has GROUP BY or a kernel
abbrev pub is_aggregated : Query → Bool
is_aggregated q = is_some q.group || not (length q.aggs == 0)

-- a query whose rows are its groups', in first-seen order
pub record IsOfGroups (q : Query) : Type 0 where
  pub aggregated : is_aggregated q ≡ true
  pub unordered : q.order ≡ []

-- The rows of a query over the kept records: one for each group, or the records themselves.
abbrev pub rows_of : Query → List Rec → List Rec
rows_of q rs = if is_aggregated q then map (row_of q rs) (groups_of q.group rs) else rs
