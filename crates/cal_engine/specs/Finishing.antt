-- What the parts of a fold come to.
use Rattle.std.specs.Prelude.{◌≡◌, Bool, true, false, List, [], ◌∷◌, ◌++◌, Option}
use Rattle.std.specs.Prelude.{map, option_map, if◌then◌else◌}
use Rattle.std.specs.List.{filter_map}
use Rattle.cal_filter.specs.Kept.{result_entry}
use Rattle.cal_filter.specs.Numbers.{value_of_number}
use Rattle.cal_ql.specs.declared.names.KernelName as kernels
use Rattle.cal_ql.specs.declared.names.KernelName.TheVariants as kernel
use Rattle.cal_ql.specs.declared.query.Agg.{Agg}
use Rattle.cal_value.specs.declared.attribute.Entry.{Entry}
use Rattle.cal_value.specs.declared.record.Rec.{Rec}
use Rattle.cal_parts.specs.Kernels.{contributed, result_of}
use Rattle.cal_parts.specs.Parts.{Gathered, parts_over}

-- `inclusive_sum` alone looks at the groups below a group
abbrev pub is_inclusive : kernels.KernelName → Bool
is_inclusive kernel.Inclusive = true
is_inclusive _ = false

-- `inclusive_sum` and `percent_total` look at more than a group's own records
abbrev pub looks_beyond : kernels.KernelName → Bool
looks_beyond kernel.Inclusive = true
looks_beyond kernel.Percent = true
looks_beyond _ = false

-- the records of a group, all records, and those below the group
pub record Lists : Type 0 where
  pub own : List Rec
  pub all : List Rec
  pub below : List Rec

-- the parts of each kernel over these lists of records
pub record AreKept (aggs : List Agg) (lists : Lists) (one other third : List Gathered) : Type 0
  where
    pub own : one ≡ parts_over aggs lists.own
    pub all : other ≡ parts_over aggs lists.all
    pub below : third ≡ parts_over aggs lists.below

-- the entry of a kernel's result, if that is there
abbrev pub entry_of_result : Lists → Agg → Option Entry
entry_of_result lists agg = option_map (λ n. result_entry agg.name (value_of_number n))
    (result_of agg.kernel
    (contributed agg lists.own) (contributed agg lists.all) (contributed agg lists.below))

abbrev pub entries_of_results : List Agg → Lists → List Entry
entries_of_results aggs lists = filter_map (entry_of_result lists) aggs

-- a group's record with its results
abbrev pub row_with : Rec → List Entry → Rec
row_with key results = record { paths = key.paths; imms = key.imms ++ results }

-- what is kept of those groups that pass a test
abbrev pub parts_where :
    {A : Type 0} → (A → Bool) → List A → List (List Gathered) → List (List Gathered)
parts_where test [] parts = []
parts_where test (key ∷ keys) [] = []
parts_where test (key ∷ keys) (first ∷ rest) =
    if test key then first ∷ parts_where test keys rest else parts_where test keys rest

-- the lists of records of each group
pub record GroupLists : Type 0 where
  pub own : Rec → List Rec
  pub all : List Rec
  pub below : Rec → List Rec

abbrev pub lists_at : GroupLists → Rec → Lists
lists_at g key = record { own = g.own key; all = g.all; below = g.below key }

-- what is kept of these lists, for each group
pub record AreGroupParts (aggs : List Agg) (g : GroupLists) (keys : List Rec)
    (one : List (List Gathered)) (other : List Gathered) (third : List (List Gathered))
    : Type 0 where
  pub own : one ≡ map (λ key. parts_over aggs (g.own key)) keys
  pub all : other ≡ parts_over aggs g.all
  pub below : third ≡ map (λ key. parts_over aggs (g.below key)) keys

-- the rows of groups by these lists
abbrev pub rows_by : List Agg → GroupLists → List Rec → List Rec
rows_by aggs g keys = map (λ key. row_with key (entries_of_results aggs (lists_at g key))) keys
