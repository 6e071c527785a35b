-- The groups of an aggregating channel. (Giltmoth's rule, after Caliper's aggregate service.)
use Rattle.std.specs.Prelude.{◌≡◌, ℕ, Bool, false, not, List, [], ◌∷◌, Option, Some, None}
use Rattle.std.specs.Prelude.{filter, flat_map, if◌then◌else◌}
use Rattle.std.specs.List.{AllByRecursion, list_any}
use Rattle.std.specs.Ordering.{on}
use Rattle.std.specs.declared.cmp.Ordering.{Ordering}
use Rattle.cal_engine.specs.Answers.{answer_of}
use Rattle.cal_keys.specs.Groups.{groups_of}
use Rattle.cal_engine.specs.Sorting.{sorted}
use Rattle.cal_ql.specs.Kernels.{first_of_each, result_name}
use Rattle.cal_ql.specs.declared.names.Format.TheVariants as format
use Rattle.cal_ql.specs.declared.names.KernelName as kernels
use Rattle.cal_ql.specs.declared.names.KernelName.TheVariants as kernel
use Rattle.cal_ql.specs.declared.query.Agg.{Agg}
use Rattle.cal_ql.specs.declared.query.Query.{Query}
use Rattle.cal_rowset.specs.Texts.{is_same}
use Rattle.cal_script.specs.declared.script.ChannelQuery.{ChannelQuery}
use Rattle.cal_value.specs.Order.{group_cmp}
use Rattle.cal_value.specs.declared.attribute.Entry.{Entry}
use Rattle.cal_value.specs.declared.record.Rec.{Rec}

-- a kernel over the numbers of an attribute, under its own name
abbrev pub agg_of : kernels.KernelName → List ℕ → Agg
agg_of k attr = record { kernel = k; attr = attr; name = result_name k attr }

-- what is kept of a value attribute A: `sum#A`, `min#A` and `max#A`
abbrev pub value_aggs : List ℕ → List Agg
value_aggs attr = agg_of kernel.Sum attr ∷ agg_of kernel.Min attr ∷ agg_of kernel.Max attr ∷ []

-- what is kept of a group: `count`, and the results of each value attribute
abbrev pub aggs_of : List (List ℕ) → List Agg
aggs_of values = agg_of kernel.Count [] ∷ flat_map value_aggs values

-- a query that only groups and counts
abbrev pub grouping : List Agg → Option (List (List ℕ)) → Query
grouping aggs group = record {
  lets = [];
  select = None;
  aggs = aggs;
  conds = [];
  group = group;
  order = [];
  format = format.Expand;
}

-- the keys of a channel, if it has a `key` line
abbrev pub keys_of : ChannelQuery → Option (List (List ℕ))
keys_of channel = if channel.by_default then None else Some channel.keys

-- The query of a channel. It groups by the channel's keys, or, where it has no `key` line, by the
-- list of the paths. As in every query, each result name is kept once.
abbrev pub channel_query : ChannelQuery → Query
channel_query channel = grouping (first_of_each (aggs_of channel.values)) (keys_of channel)

-- an entry has the name of a result
abbrev pub is_result : List Agg → Entry → Bool
is_result aggs e = list_any (λ agg. is_same agg.name e.attr.name) aggs

-- the group of a row: the row without its results
abbrev pub group_in : List Agg → Rec → Rec
group_in aggs row =
    record { paths = row.paths; imms = filter (λ e. not (is_result aggs e)) row.imms }

-- the order of rows by their groups
abbrev pub rows_cmp : List Agg → Rec → Rec → Ordering
rows_cmp aggs = on (group_in aggs) group_cmp

-- The records of the groups: the rows of the answer to a channel's query over its snapshots, in
-- the order of their groups.
abbrev pub group_records : Query → List Rec → List Rec
group_records q taken = sorted (rows_cmp q.aggs) (answer_of q taken).rows.rows

-- no immediate of a group has the name of a result, so that a row tells its group
abbrev pub HasPlainGroups : Query → List Rec → Type 0
HasPlainGroups q rs = AllByRecursion
    (λ group. AllByRecursion (λ e. is_result q.aggs e ≡ false) group.imms) (groups_of q.group rs)
