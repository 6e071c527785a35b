-- The results of a channel's kernels over snapshots of a run can be read again.
use Rattle.std.proofs.Common.{◌≡◌, ℕ, ◌*◌, ◌≤◌, ◌^◌, ℤ, ◌+ℤ◌, List, [], ◌∷◌}
use Rattle.std.proofs.Common.{length, map, refl, subst, arith}
use Rattle.std.specs.Prelude.{Option, None, Some, flat_map, nat_eq, not, option_map}
use Rattle.std.specs.Prelude.{unsigned_abs}
use Rattle.std.specs.Cmp.Lexicographic.{pointwise}
use Rattle.std.specs.Int.{int_max, int_min}
use Rattle.std.specs.List.{AllByRecursion}
use Rattle.cal_agg.specs.Limits.{magnitude}
use Rattle.cal_agg.specs.Numbers.{number}
use Rattle.cal_agg.specs.Results.{count_of, found, together}
use Rattle.cal_agg.specs.declared.num.Num.{Num}
use Rattle.cal_agg.specs.declared.num.Num.TheVariants.{Whole, Fixed}
use Rattle.cal_keys.specs.Groups.{group_of, is_group, records_of}
use Rattle.cal_parts.specs.Kernels.{contributed, contributions}
use Rattle.cal_engine.specs.Rows.{kernel_result, results}
use Rattle.cal_filter.specs.Kept.{result_entry}
use Rattle.cal_filter.specs.Numbers.{value_of_number}
use Rattle.cal_profile.specs.Groups.{agg_of, aggs_of, channel_query, value_aggs}
use Rattle.cal_profile.proofs.Lists.{all-filter, all_weaker}
use Rattle.cal_ql.specs.Kernels.{first_of_each}
use Rattle.cal_ql.specs.declared.names.KernelName.TheVariants as kernel
use Rattle.cal_ql.specs.declared.query.Agg.{Agg}
use Rattle.cal_run.proofs.EntryLemmas.{filter-few}
use Rattle.cal_readable.proofs.Lists.{all-filter_map}
use Rattle.cal_readable.proofs.Numbers.{Brought, IsNumberOf, IsSeen, brought-all, greatest-brings}
use Rattle.cal_readable.proofs.Numbers.{least-brings, number-short, numbers-alike, sum-brings}
use Rattle.cal_readable.proofs.Numbers.{weight-brings}
use Rattle.cal_readable.proofs.Sums.{IsShort, IsSmallResult, count-bound, found-small}
use Rattle.cal_readable.proofs.Sums.{greatest-bound, kept-small, least-bound, sum-bound}
use Rattle.cal_script.specs.Valid.{IsRunnable}
use Rattle.cal_script.specs.declared.script.ChannelQuery.{ChannelQuery}
use Rattle.cal_script.specs.declared.script.Script.{Script}
use Rattle.cal_stream.specs.Readable.{IsReadableEntry}
use Rattle.cal_value.specs.declared.attribute.Entry.{Entry}
use Rattle.cal_value.specs.declared.record.Rec.{Rec}

-- the entry of a result, which is an Int or a Fixed
result-readable : (name : List ℕ) (n : Num) → IsSmallResult (Some n)
    → IsReadableEntry (result_entry name (value_of_number n))
result-readable name (Whole z) small =
    record { entry = record { kind = refl; proper = tt }; small = small }
result-readable name (Fixed z) small =
    record { entry = record { kind = refl; proper = tt }; small = small }

-- what holds of all kernels holds of the first of each name
all-first_of_each : (P : Agg → Type 0) (aggs : List Agg) → AllByRecursion P aggs
    → AllByRecursion P (first_of_each aggs)
all-first_of_each P [] all = tt
all-first_of_each P (agg ∷ aggs) all = (
  all.0,
  all-filter P (λ other. not (pointwise nat_eq other.name agg.name)) (first_of_each aggs)
      (all-first_of_each P aggs all.1),
)

module _ (script : Script) (runnable : IsRunnable script) (names : Option (List (List ℕ)))
    (rs : List Rec) (seen : AllByRecursion (IsSeen script runnable) rs)
    (few : length rs ≤ 1048576) (group : Rec) where
  -- what a kernel comes to in the group is small
  abbrev IsSmallKernel : Agg → Type 0
  IsSmallKernel agg = IsSmallResult (kernel_result names rs group agg)

  abbrev own : List Rec
  own = records_of names group rs

  own-seen : AllByRecursion (IsSeen script runnable) own
  own-seen = all-filter (IsSeen script runnable) (λ r. is_group (group_of names r) group) rs seen

  own-few : length own ≤ 1048576
  own-few = omega (arith, few, filter-few (λ r. is_group (group_of names r) group) rs)

  count-small : IsSmallKernel (agg_of kernel.Count [])
  count-small =
      let all = brought-all IsShort (IsSeen script runnable) (contributions kernel.Count [])
      (weight-brings script runnable []) own own-seen in
      let ns = contributed (agg_of kernel.Count []) own in
      let most : length ns ≤ length own = all.few in
      let bound : unsigned_abs (count_of ns) ≤ length ns * 2 ^ 64 = count-bound ns all.all in
      omega (arith, own-few, most, bound)

  -- numbers of one name
  module _ (attr : List ℕ) (ns : List Num)
      (brought : Brought (IsNumberOf script runnable attr) (length own) ns) where
    all-short : AllByRecursion IsShort ns
    all-short = all_weaker (IsNumberOf script runnable attr) IsShort
        (number-short script runnable attr) ns brought.all

    found-of : (find : List ℤ → Option ℤ) → magnitude (find (map number ns)) ≤ 2 ^ 86
        → IsSmallResult (found find ns)
    found-of find small =
        found-small find ns (numbers-alike script runnable attr ns brought.all) small

    summed : IsSmallResult (found (together ◌+ℤ◌) ns)
    summed = found-of (together ◌+ℤ◌)
        (omega (arith, own-few, brought.few, sum-bound ns all-short))

    least : IsSmallResult (found (together int_min) ns)
    least = found-of (together int_min) (omega (arith, least-bound ns all-short))

    greatest : IsSmallResult (found (together int_max) ns)
    greatest = found-of (together int_max) (omega (arith, greatest-bound ns all-short))

  module _ (attr : List ℕ) where
    sum-small : IsSmallKernel (agg_of kernel.Sum attr)
    sum-small =
        let ns = contributed (agg_of kernel.Sum attr) own in
        kept-small (found (together ◌+ℤ◌) ns) (summed attr ns
        (brought-all (IsNumberOf script runnable attr) (IsSeen script runnable)
        (contributions kernel.Sum attr) (sum-brings script runnable attr) own own-seen))

    least-small : IsSmallKernel (agg_of kernel.Min attr)
    least-small = least attr (contributed (agg_of kernel.Min attr) own)
        (brought-all (IsNumberOf script runnable attr) (IsSeen script runnable)
        (contributions kernel.Min attr) (least-brings script runnable attr) own own-seen)

    greatest-small : IsSmallKernel (agg_of kernel.Max attr)
    greatest-small = greatest attr (contributed (agg_of kernel.Max attr) own)
        (brought-all (IsNumberOf script runnable attr) (IsSeen script runnable)
        (contributions kernel.Max attr) (greatest-brings script runnable attr) own own-seen)

  values-small : (values : List (List ℕ)) → AllByRecursion IsSmallKernel (flat_map value_aggs values)
  values-small [] = tt
  values-small (v ∷ vs) =
      (sum-small v, (least-small v, (greatest-small v, values-small vs)))

  aggs-small : (channel : ChannelQuery) → AllByRecursion IsSmallKernel (channel_query channel).aggs
  aggs-small channel = all-first_of_each IsSmallKernel (aggs_of channel.values)
      (count-small, values-small channel.values)

-- the entries of a group's results
pub results-readable : (script : Script) (runnable : IsRunnable script) (channel : ChannelQuery)
    (rs : List Rec) → AllByRecursion (IsSeen script runnable) rs → length rs ≤ 1048576
    → (group : Rec) → AllByRecursion IsReadableEntry (results (channel_query channel) rs group)
results-readable script runnable channel rs seen few group =
    all-filter_map
    (λ (agg : Agg). IsSmallResult (kernel_result (channel_query channel).group rs group agg))
    IsReadableEntry
    (λ (agg : Agg). option_map (λ n. result_entry agg.name (value_of_number n))
    (kernel_result (channel_query channel).group rs group agg))
    (λ agg. entries agg.name (kernel_result (channel_query channel).group rs group agg))
    (channel_query channel).aggs
    (aggs-small script runnable (channel_query channel).group rs seen few group channel)
  where
    entries : (name : List ℕ) (o : Option Num) → IsSmallResult o → (e : Entry)
        → option_map (λ n. result_entry name (value_of_number n)) o ≡ Some e → IsReadableEntry e
    entries name None small e is = absurd cc
    entries name (Some n) small e is =
        let same : result_entry name (value_of_number n) ≡ e = cc in
        subst IsReadableEntry same (result-readable name n small)
