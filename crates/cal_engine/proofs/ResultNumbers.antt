-- Kernels' results as immediates of a context.
use Rattle.std.proofs.Common.{◌≡◌, ℕ, zero, suc, ◌+◌, ◌<◌, List, [], ◌∷◌, ◌++◌, length, take, map, get_or, slice_get, refl, sym, ap, subst, ◌∙◌, arith}
use Rattle.std.specs.Prelude.{Option, None, Some, option_map}
use Rattle.std.specs.List.{AllZip}
use Rattle.std.specs.Option.{option_to_list}
use Rattle.std.proofs.lemmas.List.{map-append}
use Rattle.cal_agg.specs.declared.num.Num.{Num}
use Rattle.cal_context.specs.Snapshots.{entry_of}
use Rattle.cal_context.specs.Tree.{Tree, Grows}
use Rattle.cal_context.specs.declared.snapshot.Immediate.{Immediate}
use Rattle.cal_filter.specs.Kept.{result_attribute, result_entry}
use Rattle.cal_filter.specs.Numbers.{value_of_number}
use Rattle.cal_filter.proofs.Zips.{zip_weaker}
use Rattle.cal_ql.specs.declared.names.KernelName as kernels
use Rattle.cal_ql.specs.declared.query.Agg.{Agg}
use Rattle.cal_value.specs.Values.{kind_of}
use Rattle.cal_value.specs.declared.attribute.Attribute.{Attribute}
use Rattle.cal_value.specs.declared.variant.Variant.{Variant}
use Rattle.cal_engine.specs.Finishing.{AreKept, Lists, entries_of_results, entry_of_result}
use Rattle.cal_parts.specs.Shown.{TakesWhole}
use Rattle.cal_parts.specs.Kernels.{contributed, result_of}
use Rattle.cal_parts.specs.Parts.{Gathered, part_over}
use Rattle.cal_engine.specs.Results.{AddsResults, IsResultOf}
use Rattle.cal_engine.specs.declared.kernel_results.ResultAttributes.{ResultAttributes}
use Rattle.cal_engine.proofs.Results.{part_at, results_more, takes_whole}
use Rattle.cal_keys.proofs.Reaching.{numbered-Grows}

-- ---- they stay while the context grows

result-Grows : {t u : Tree} → Grows t u → (agg : Agg) (a : ResultAttributes) → IsResultOf t agg a → IsResultOf u agg a
result-Grows grows agg a h = record {
  kernel = h.kernel;
  whole = numbered-Grows grows _ a.whole h.whole;
  fixed = numbered-Grows grows _ a.fixed h.fixed;
}

pub results-Grows : {t u : Tree} → Grows t u → (aggs : List Agg) (rs : List ResultAttributes) → AllZip (IsResultOf t) aggs rs → AllZip (IsResultOf u) aggs rs
results-Grows {t} {u} grows aggs rs h = zip_weaker (IsResultOf t) (IsResultOf u) (result-Grows grows) aggs rs h

-- ---- the kernel at a place

pub record Found {A B : Type 0} (R : A → B → Type 0) (xs : List A) (i : ℕ) (y : B) : Type 0 where
  pub item : A
  pub together : R item y
  pub within : i < length xs
  pub is : item ≡ get_or xs i item

pub found : {A B : Type 0} (R : A → B → Type 0) (xs : List A) (ys : List B) (i : ℕ) (y : B) → AllZip R xs ys → i < length ys → y ≡ get_or ys i y → Found R xs i y
found R [] [] i y h l e = absurd (omega arith)
found R [] (w ∷ ys) i y h l e = elim h [ ]
found R (x ∷ xs) [] i y h l e = elim h [ ]
found R (x ∷ xs) (w ∷ ys) zero y h l e = record { item = x; together = subst (R x) (sym e) h.0; within = omega arith; is = refl }
found R (x ∷ xs) (w ∷ ys) (suc i) y h l e =
    let rest = found R xs ys i y h.1 (omega arith) e in
    record { item = rest.item; together = rest.together; within = omega (arith, rest.within); is = rest.is }

-- ---- one result more

pub mapped_more : {A B : Type 0} (f : A → B) (now after : List A) (more : Option A) → after ≡ now ++ option_to_list more
    → map f after ≡ map f now ++ option_to_list (option_map f more)
mapped_more {A = A} f now after more e = ap (map f) e ∙ map-append f now (option_to_list more) ∙ ap (λ ys. map f now ++ ys) (by more)
  where
    by : (o : Option A) → map f (option_to_list o) ≡ option_to_list (option_map f o)
    by None = refl
    by (Some x) = refl

pub result_found : (agg : Agg) (lists : Lists) (k : kernels.KernelName) (own all below : Option Gathered) (value : Option Num) → k ≡ agg.kernel
    → own ≡ Some (part_over agg.kernel (contributed agg lists.own))
    → all ≡ Some (part_over agg.kernel (contributed agg lists.all))
    → below ≡ Some (part_over agg.kernel (contributed agg lists.below))
    → ((ns ms bs : List Num) → own ≡ Some (part_over k ns) → all ≡ Some (part_over k ms) → below ≡ Some (part_over k bs) → TakesWhole k ns → value ≡ result_of k ns ms bs)
    → value ≡ result_of agg.kernel (contributed agg lists.own) (contributed agg lists.all) (contributed agg lists.below)
result_found agg lists k own all below value is o a b h =
    subst (λ (k : kernels.KernelName). (ns ms bs : List Num) → own ≡ Some (part_over k ns) → all ≡ Some (part_over k ms) → below ≡ Some (part_over k bs)
    → TakesWhole k ns → value ≡ result_of k ns ms bs) is h
    (contributed agg lists.own) (contributed agg lists.all) (contributed agg lists.below) o a b (takes_whole agg lists.own)

pub entry_by : (name : List ℕ) (a : Attribute) (number : Num) (v : Variant) → a ≡ result_attribute name (kind_of (value_of_number number)) → v ≡ value_of_number number
    → record { attr = a; value = v } ≡ result_entry name (value_of_number number)
entry_by name a number v is w = λ i. record { attr = is i; value = w i }

pub results_next : (t : Tree) (aggs : List Agg) (results : List ResultAttributes) (lists : Lists) (n : ℕ) (a : ResultAttributes)
    (one other third : List Gathered) (own all below : Option Gathered) (before now after : List Immediate) (result : Option Immediate)
    → AllZip (IsResultOf t) aggs results → AreKept aggs lists one other third → n < length results → a ≡ get_or results n a
    → own ≡ slice_get one n → all ≡ slice_get other n → below ≡ slice_get third n
    → AddsResults t (entries_of_results (take n aggs) lists) before now → after ≡ now ++ option_to_list result
    → ((agg : Agg) → IsResultOf t agg a
    → own ≡ Some (part_over agg.kernel (contributed agg lists.own))
    → all ≡ Some (part_over agg.kernel (contributed agg lists.all))
    → below ≡ Some (part_over agg.kernel (contributed agg lists.below))
    → option_map (entry_of t) result ≡ entry_of_result lists agg)
    → AddsResults t (entries_of_results (take (n + 1) aggs) lists) before after
results_next t aggs results lists n a one other third own all below before now after result zip kept short is o p b adds more found_is =
    let f = found (IsResultOf t) aggs results n a zip short is in
    results_more aggs lists n f.item (map (entry_of t) before) (map (entry_of t) now) (map (entry_of t) after) (option_map (entry_of t) result)
    f.within f.is adds (mapped_more (entry_of t) now after result more)
    (found_is f.item f.together
    (part_at aggs lists.own one n f.item own kept.own f.within f.is o)
    (part_at aggs lists.all other n f.item all kept.all f.within f.is p)
    (part_at aggs lists.below third n f.item below kept.below f.within f.is b))
