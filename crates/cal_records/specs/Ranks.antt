-- The groups of rows by their numbers, and the order of such groups (private).
use Rattle.std.specs.Prelude.{ℕ, List, filter, map, not, slice_index_or}
use Rattle.std.specs.List.{range_with_len}
use Rattle.std.specs.Ordering.{on}
use Rattle.std.specs.declared.cmp.Ordering.{Ordering}
use Rattle.cal_context.specs.Tree.{Tree, path_at}
use Rattle.cal_engine.specs.Making.{group_count, key_at}
use Rattle.cal_engine.specs.Sorting.{sorted}
use Rattle.cal_engine.specs.declared.grouped_rows.GroupedRows.{GroupedRows}
use Rattle.cal_keys.specs.declared.key.GroupKey.{GroupKey}
use Rattle.cal_profile.specs.Groups.{is_result}
use Rattle.cal_ql.specs.declared.query.Agg.{Agg}
use Rattle.cal_records.specs.declared.group_keys.AllKeys.{AllKeys}
use Rattle.cal_records.specs.declared.group_keys.GroupKeys.{GroupKeys}
use Rattle.cal_records.specs.declared.sorting.Key.{Key}
use Rattle.cal_value.specs.Order.{group_cmp}
use Rattle.cal_value.specs.declared.attribute.Entry.{Entry}
use Rattle.cal_value.specs.declared.record.Rec.{Rec}

-- the entry that is lent
abbrev pub key_entry : Key → Entry
key_entry key = record { attr = key.attr.now; value = key.value.now }

-- the immediates of a group's key that aren't results
abbrev pub key_entries : Tree → List Agg → GroupKey → List Entry
key_entries room aggs key = filter (λ e. not (is_result aggs e)) (path_at room key.imms)

abbrev pub lent_entries : GroupKeys → List Entry
lent_entries keys = map key_entry keys.entries.items

-- those of a number
abbrev pub entries_at : AllKeys → ℕ → List Entry
entries_at keys n =
    slice_index_or (map lent_entries keys.each.items) n (map key_entry keys.none.items)

-- the group of a number, and the order of such groups
abbrev pub group_at : Tree → GroupedRows → AllKeys → ℕ → Rec
group_at room rows keys n =
    record { paths = map (path_at room) (key_at rows n).paths; imms = entries_at keys n }

abbrev pub numbers_cmp : Tree → GroupedRows → AllKeys → ℕ → ℕ → Ordering
numbers_cmp room rows keys = on (group_at room rows keys) group_cmp

-- the numbers of all rows in the order of their groups
abbrev pub order_of : Tree → GroupedRows → AllKeys → List ℕ
order_of room rows keys = sorted (numbers_cmp room rows keys) (range_with_len 0 (group_count rows))
