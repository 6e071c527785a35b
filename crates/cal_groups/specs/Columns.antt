-- The results of a channel's value attributes, by numbers of a context (private).
use Rattle.std.specs.Prelude.{◌≡◌, ℕ, ℤ, List, codes, Option}
use Rattle.std.specs.List.{AllZip, filter_map}
use Rattle.cal_agg.specs.declared.cell.Cell.{Cell}
use Rattle.cal_agg.specs.declared.num.Num.{Num}
use Rattle.cal_context.specs.Tree.{Tree}
use Rattle.cal_filter.specs.Kept.{result_attribute}
use Rattle.cal_filter.specs.Known.{KnowsAll, sought}
use Rattle.cal_filter.specs.Results.{IsNumbered}
use Rattle.cal_filter.specs.Sought.{number_of}
use Rattle.cal_filter.specs.declared.seeker.Seeker.{Seeker}
use Rattle.cal_groups.specs.declared.column.ResultColumn.{ResultColumn}
use Rattle.cal_groups.specs.declared.columns.ResultColumns.{ResultColumns}
use Rattle.cal_groups.specs.declared.results.ResultNumbers.{ResultNumbers}
use Rattle.cal_profile.specs.Groups.{value_aggs}
use Rattle.cal_profile.specs.TableRows.{entry_for, row_result}
use Rattle.cal_ql.specs.Kernels.{result_name}
use Rattle.cal_ql.specs.declared.names.KernelName.TheVariants as kernel
use Rattle.cal_value.specs.declared.attribute.Entry.{Entry}
use Rattle.cal_value.specs.declared.kind.Kind.TheVariants as kind

-- the attributes of a result: that of a whole number, and that of a fixed one
pub record AreOfResult (t : Tree) (name : List ℕ) (numbers : ResultNumbers) : Type 0 where
  pub whole : IsNumbered t (result_attribute name kind.Int) numbers.whole
  pub fixed : IsNumbered t (result_attribute name kind.Double) numbers.fixed

-- those of the results of a value attribute
pub record IsColumn (t : Tree) (attr : List ℕ) (column : ResultColumn) : Type 0 where
  pub sum : AreOfResult t (result_name kernel.Sum attr) column.sum
  pub least : AreOfResult t (result_name kernel.Min attr) column.least
  pub greatest : AreOfResult t (result_name kernel.Max attr) column.greatest

-- a seeker finds the last number of a value attribute, and knows the whole context
pub record Finds (t : Tree) (attr : List ℕ) (seeker : Seeker) : Type 0 where
  pub seeks : sought seeker ≡ number_of attr
  pub knows : KnowsAll t seeker

-- the results of all value attributes
pub record AreColumns (t : Tree) (values : List (List ℕ)) (all : ResultColumns) : Type 0 where
  pub count : IsNumbered t (result_attribute (codes "count") kind.Int) all.count
  pub columns : AllZip (IsColumn t) values all.columns.items
  pub seekers : AllZip (Finds t) values all.seekers.items

-- the entries of a cell's results, where this is the number that the key has of the attribute
abbrev pub cell_results : ℤ → Option Num → List ℕ → Cell → List Entry
cell_results count known attr cell = filter_map
    (λ agg. entry_for agg (row_result count known cell agg.kernel)) (value_aggs attr)
