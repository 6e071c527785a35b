-- What the results of a group are made of.
use Rattle.std.proofs.Common.{◌≡◌, ℕ, zero, suc, ◌+◌, ◌<◌, Bool, true, false, List, [], ◌∷◌, ◌++◌, Option, None, Some, if◌then◌else◌, length, map, take, filter, get_or, refl, sym, ap, ◌∙◌, arith, slice_get, append_assoc}
use Rattle.std.specs.Prelude.{codes, option_and_then, unwrap_or, pos}
use Rattle.std.specs.List.{cons_option, filter_map, flat_map, last_or}
use Rattle.std.specs.Option.{option_to_list}
use Rattle.cal_agg.specs.Numbers.{is_fixed, some_fixed}
use Rattle.cal_agg.specs.declared.num.Num.{Num}
use Rattle.cal_agg.specs.declared.num.Num.TheVariants.{Whole, Fixed}
use Rattle.cal_filter.specs.Named.{is_named}
use Rattle.cal_filter.specs.Numbers.{number_in}
use Rattle.cal_ql.specs.declared.names.KernelName as kernels
use Rattle.cal_ql.specs.declared.names.KernelName.TheVariants as kernel
use Rattle.cal_ql.specs.declared.query.Agg.{Agg}
use Rattle.cal_value.specs.Flat.{flat}
use Rattle.cal_value.specs.declared.attribute.Entry.{Entry}
use Rattle.cal_value.specs.declared.record.Rec.{Rec}
use Rattle.cal_engine.specs.Finishing.{Lists, entries_of_results, entry_of_result, parts_where}
use Rattle.cal_parts.specs.Shown.{TakesWhole}
use Rattle.cal_parts.specs.Kernels.{contributed, contributions, last_whole, number_sought, weight}
use Rattle.cal_parts.specs.Parts.{Gathered, part_over, parts_over}
use Rattle.cal_parts.proofs.Drops.{filter_map_more}

-- ---- only whole numbers contribute to `count`

abbrev fixed_in : Option Num → Bool
fixed_in None = false
fixed_in (Some n) = is_fixed n

sought_whole : (o : Option Num) → fixed_in (option_and_then (λ n. if is_fixed n then None else Some n) o) ≡ false
sought_whole None = refl
sought_whole (Some (Whole n)) = refl
sought_whole (Some (Fixed n)) = refl

whole_last : (o : Option Num) (es : List Entry) → fixed_in o ≡ false
    → fixed_in (last_or o (filter_map (λ e. number_sought true e.value) es)) ≡ false
whole_last o [] h = h
whole_last o (e ∷ es) h = by (number_sought true e.value) (sought_whole (number_in e.value)) (whole_last o es h) (λ n k. whole_last (Some n) es k)
  where
    by : (p : Option Num) → fixed_in p ≡ false
        → fixed_in (last_or o (filter_map (λ e. number_sought true e.value) es)) ≡ false
        → ((n : Num) → is_fixed n ≡ false → fixed_in (last_or (Some n) (filter_map (λ e. number_sought true e.value) es)) ≡ false)
        → fixed_in (last_or o (cons_option p (filter_map (λ e. number_sought true e.value) es))) ≡ false
    by None k none some = none
    by (Some n) k none some = some n k

weight_whole : (r : Rec) → is_fixed (weight r) ≡ false
weight_whole r = by (last_whole (codes "count") r) (whole_last None (filter (is_named (codes "count")) (flat r)) refl)
  where
    by : (o : Option Num) → fixed_in o ≡ false → is_fixed (unwrap_or o (Whole (pos 1))) ≡ false
    by None h = refl
    by (Some n) h = h

weights_whole : (rs : List Rec) → some_fixed (flat_map (λ r. weight r ∷ []) rs) ≡ false
weights_whole [] = refl
weights_whole (r ∷ rs) = rw (weight_whole r) (weights_whole rs)

pub takes_whole : (agg : Agg) (rs : List Rec) → TakesWhole agg.kernel (contributed agg rs)
takes_whole agg rs = by agg.kernel
  where
    by : (k : kernels.KernelName) → TakesWhole k (flat_map (contributions k agg.attr) rs)
    by kernel.Count = weights_whole rs
    by kernel.Sum = tt
    by kernel.Min = tt
    by kernel.Max = tt
    by kernel.Avg = tt
    by kernel.Percent = tt
    by kernel.Inclusive = tt

-- ---- one result more

parts_found : (aggs : List Agg) (rs : List Rec) (n : ℕ) (agg : Agg) → n < length aggs → agg ≡ get_or aggs n agg
    → slice_get (parts_over aggs rs) n ≡ Some (part_over agg.kernel (contributed agg rs))
parts_found [] rs n agg l e = absurd (omega arith)
parts_found (a ∷ aggs) rs zero agg l e = ap (λ b. Some (part_over b.kernel (contributed b rs))) (sym e)
parts_found (a ∷ aggs) rs (suc n) agg l e = parts_found aggs rs n agg (omega arith) e

pub part_at : (aggs : List Agg) (rs : List Rec) (parts : List Gathered) (n : ℕ) (agg : Agg) (got : Option Gathered)
    → parts ≡ parts_over aggs rs → n < length aggs → agg ≡ get_or aggs n agg → got ≡ slice_get parts n
    → got ≡ Some (part_over agg.kernel (contributed agg rs))
part_at aggs rs parts n agg got is l e g = g ∙ ap (λ ps. slice_get ps n) is ∙ parts_found aggs rs n agg l e

pub results_more : (aggs : List Agg) (lists : Lists) (n : ℕ) (agg : Agg) (before now after : List Entry) (entry : Option Entry)
    → n < length aggs → agg ≡ get_or aggs n agg
    → now ≡ before ++ entries_of_results (take n aggs) lists
    → after ≡ now ++ option_to_list entry → entry ≡ entry_of_result lists agg
    → after ≡ before ++ entries_of_results (take (n + 1) aggs) lists
results_more aggs lists n agg before now after entry l e is step result =
    step
    ∙ (λ i. is i ++ option_to_list (result i))
    ∙ append_assoc before (entries_of_results (take n aggs) lists) (option_to_list (entry_of_result lists agg))
    ∙ ap (λ es. before ++ es) (sym (filter_map_more (entry_of_result lists) aggs n agg l e))

-- ---- the groups that pass a test

pub parts_where-map : (test : Rec → Bool) (f : Rec → List Gathered) (keys : List Rec)
    → parts_where test keys (map f keys) ≡ map f (filter test keys)
parts_where-map test f [] = refl
parts_where-map test f (key ∷ keys) = by (test key) refl (parts_where-map test f keys)
  where
    by : (b : Bool) → test key ≡ b → parts_where test keys (map f keys) ≡ map f (filter test keys)
        → parts_where test (key ∷ keys) (map f (key ∷ keys)) ≡ map f (filter test (key ∷ keys))
    by true e rest = rw e (ap (λ ps. f key ∷ ps) rest)
    by false e rest = rw e rest
