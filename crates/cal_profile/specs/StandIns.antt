-- One record in place of several.
use Rattle.std.specs.Prelude.{◌≡◌, ◌<◌, ◌+ℤ◌, List, [], Contains, Option, Some, length}
use Rattle.std.specs.List.{AllByRecursion, flat_map}
use Rattle.cal_agg.specs.Results.{count_of, found, greatest_of, least_of, together}
use Rattle.cal_agg.specs.declared.num.Num.{Num}
use Rattle.cal_agg.specs.declared.num.Num.TheVariants.{Whole}
use Rattle.cal_keys.specs.Groups.{group_of}
use Rattle.cal_parts.specs.Kernels.{contributed, contributions}
use Rattle.cal_filter.specs.Conditions.{where_holds}
use Rattle.cal_ql.specs.declared.names.KernelName as kernels
use Rattle.cal_ql.specs.declared.names.KernelName.TheVariants as kernel
use Rattle.cal_ql.specs.declared.query.Agg.{Agg}
use Rattle.cal_ql.specs.declared.query.Query.{Query}
use Rattle.cal_value.specs.declared.record.Rec.{Rec}

-- What numbers bring to a kernel, so that it can be added up: their count, the least, the greatest,
-- or else their sum, without its limit.
abbrev pub brought : kernels.KernelName → List Num → Option Num
brought kernel.Count ns = Some (Whole (count_of ns))
brought kernel.Min ns = least_of ns
brought kernel.Max ns = greatest_of ns
brought _ ns = found (together ◌+ℤ◌) ns

-- a query whose kernels can be added up: it has no LET and no `avg`
pub record IsAddable (q : Query) : Type 0 where
  pub plain : q.lets ≡ []
  pub added : (agg : Agg) → Contains q.aggs agg → agg.kernel ≡ kernel.Avg → ⊥

-- a query keeps a record where it keeps another, and puts both into one group
pub record IsAlike (q : Query) (r m : Rec) : Type 0 where
  pub kept : where_holds q.conds m ≡ where_holds q.conds r
  pub group : group_of q.group m ≡ group_of q.group r

-- a record brings to a kernel what others bring together
pub record Brings (r : Rec) (members : List Rec) (agg : Agg) : Type 0 where
  pub same : brought agg.kernel (contributions agg.kernel agg.attr r)
      ≡ brought agg.kernel (contributed agg members)

-- A record stands for others, of which there are some, in a query.
pub record StandsFor (q : Query) (r : Rec) (members : List Rec) : Type 0 where
  pub some : 0 < length members
  pub alike : AllByRecursion (IsAlike q r) members
  pub brings : (agg : Agg) → Contains q.aggs agg → Brings r members agg

-- the records of all parts of a list
abbrev pub all_of : List (List Rec) → List Rec
all_of parts = flat_map (λ members. members) parts
