-- Adding those numbers of a list that are there.
use Rattle.std.proofs.Common.{◌≡◌, ℕ, ◌+◌, ◌<◌, ◌≤◌, Option, Some, None, List, [], ◌∷◌, ◌++◌}
use Rattle.std.proofs.Common.{length, take, slice_index_or, refl, sym, ◌∙◌, ap, subst, arith}
use Rattle.std.specs.List.{All, AllByRecursion, filter_map}
use Rattle.std.specs.Option.{ForSome}
use Rattle.std.specs.Prelude.{ℤ, ◌+ℤ◌}
use Rattle.std.proofs.lemmas.List.{take_more, length-take}
use Rattle.std.proofs.lemmas.List.Elements.{All-take, All-from_recursion, filter_map-append}
use Rattle.std.proofs.lemmas.List.Elements.{recursion_from_All}
use Rattle.cal_agg.specs.declared.num.Num.{Num}
use Rattle.cal_agg.specs.Numbers.{IsSmall}
use Rattle.cal_agg.specs.Results.{both}
use Rattle.cal_agg.specs.Parts.{AreWithin, Parts, merged_by, sum_over}
use Rattle.cal_agg.specs.Joins.{parts_by-append, sum_joins}
use Rattle.cal_agg.specs.Limits.{sum_over-within}

-- the numbers that are there
abbrev pub there : List (Option Num) → List Num
there numbers = filter_map (λ n. n) numbers

there_small : (xs : List (Option Num)) → AllByRecursion (λ x. ForSome x IsSmall) xs
    → AllByRecursion IsSmall (there xs)
there_small [] h = tt
there_small (None ∷ xs) h = there_small xs h.1
there_small (Some x ∷ xs) h = (h.0 x refl, there_small xs h.1)

length-there : (xs : List (Option Num)) → length (there xs) ≤ length xs
length-there [] = omega arith
length-there (None ∷ xs) = let rest = length-there xs in omega arith
length-there (Some x ∷ xs) = let rest = length-there xs in omega arith

both_none : (x : Option ℤ) → both ◌+ℤ◌ x None ≡ x
both_none None = refl
both_none (Some x) = refl

-- nothing more is added
pub sum_same : (k : Parts) → merged_by ◌+ℤ◌ k (sum_over []) ≡ k
sum_same k = λ i. record { whole = both_none k.whole i; fixed = both_none k.fixed i }

module _ (xs : List (Option Num)) (i : ℕ) (x : Option Num) (sum : Parts)
    (added : sum ≡ sum_over (there (take i xs))) (short : i < length xs)
    (read : x ≡ slice_index_or xs i x) where
  there_more : there (take (i + 1) xs) ≡ there (take i xs) ++ there (x ∷ [])
  there_more =
      ap there (take_more xs i x short) ∙ filter_map-append (λ n. n) (take i xs) _
      ∙ ap (λ y. there (take i xs) ++ there (y ∷ [])) (sym read)

  -- one place more
  pub total_next :
      merged_by ◌+ℤ◌ sum (sum_over (there (x ∷ []))) ≡ sum_over (there (take (i + 1) xs))
  total_next =
      ap (λ s. merged_by ◌+ℤ◌ s (sum_over (there (x ∷ [])))) added
      ∙ sym (parts_by-append sum_joins (there (take i xs)) (there (x ∷ [])))
      ∙ ap sum_over (sym there_more)

  -- there is room for it
  pub total_room : All (λ n. ForSome n IsSmall) xs → length xs ≤ 16
      → AreWithin 126 (merged_by ◌+ℤ◌ sum (sum_over (there (x ∷ []))))
  total_room small few =
      let front = take (i + 1) xs in
      let smalls : All IsSmall (there front) =
      All-from_recursion IsSmall (there front)
      (there_small front
      (recursion_from_All (λ n. ForSome n IsSmall) front
      (All-take (λ n. ForSome n IsSmall) (i + 1) xs small))) in
      let short_front : length front ≤ length xs = simp length-take (omega arith) in
      let bound = length-there front in
      subst (AreWithin 126) (sym total_next) (sum_over-within (there front) smalls (omega arith))
