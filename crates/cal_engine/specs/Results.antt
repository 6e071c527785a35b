-- The results of kernels as immediates of a context.
use Rattle.std.specs.Prelude.{◌≡◌, ℕ, List, ◌++◌, map, Some}
use Rattle.std.specs.Prelude.{slice_get}
use Rattle.cal_context.specs.Snapshots.{entry_of}
use Rattle.cal_context.specs.Tree.{Tree}
use Rattle.cal_context.specs.declared.snapshot.Immediate.{Immediate}
use Rattle.cal_filter.specs.Kept.{result_attribute}
use Rattle.cal_filter.specs.Results.{IsNumbered}
use Rattle.cal_ql.specs.declared.query.Agg.{Agg}
use Rattle.cal_value.specs.declared.attribute.Entry.{Entry}
use Rattle.cal_value.specs.declared.kind.Kind.TheVariants as kind
use Rattle.cal_engine.specs.Finishing.{Lists}
use Rattle.cal_parts.specs.Kernels.{contributed}
use Rattle.cal_parts.specs.Parts.{Gathered, part_over}
use Rattle.cal_engine.specs.declared.kernel_results.ResultAttributes.{ResultAttributes}

-- the attributes that a kernel's results have, by the kinds of numbers
pub record IsResultOf (t : Tree) (agg : Agg) (a : ResultAttributes) : Type 0 where
  pub kernel : a.kernel ≡ agg.kernel
  pub whole : IsNumbered t (result_attribute agg.name kind.Int) a.whole
  pub fixed : IsNumbered t (result_attribute agg.name kind.Double) a.fixed

-- immediates that mean these entries were added
abbrev pub AddsResults : Tree → List Entry → List Immediate → List Immediate → Type 0
AddsResults t entries old new = map (entry_of t) new ≡ map (entry_of t) old ++ entries

-- the parts of the kernel at a place
pub record AreKeptAt (agg : Agg) (lists : Lists) (place : ℕ) (one other third : List Gathered)
    : Type 0 where
  pub own : slice_get one place ≡ Some (part_over agg.kernel (contributed agg lists.own))
  pub all : slice_get other place ≡ Some (part_over agg.kernel (contributed agg lists.all))
  pub below : slice_get third place ≡ Some (part_over agg.kernel (contributed agg lists.below))
