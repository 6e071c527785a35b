-- No two kernels that are kept have one name.
use Rattle.std.proofs.Common.{◌≡◌, ℕ, Bool, true, false, not, List, [], ◌∷◌, refl, sym, ◌∙◌, inl, inr}
use Rattle.std.specs.Prelude.{map, filter, nat_eq}
use Rattle.std.specs.List.{AllByRecursion, IsDistinct}
use Rattle.std.specs.Cmp.Lexicographic.{pointwise, bytes_decides}
use Rattle.cal_ql.specs.declared.query.Agg.{Agg}
use Rattle.cal_ql.specs.Kernels.{first_of_each}
use Rattle.cal_ql.proofs.Choices.{either_way}

abbrev names_of : List Agg → List (List ℕ)
names_of aggs = map (λ agg. agg.name) aggs

abbrev pub IsApart : List ℕ → List ℕ → Type 0
IsApart name other = pointwise nat_eq name other ≡ false

pub turned : (name other : List ℕ) → pointwise nat_eq other name ≡ false → IsApart name other
turned name other apart =
    elim (either_way (pointwise nat_eq name other)) [
      | inl same ↦ absurd (let back : pointwise nat_eq other name ≡ true = (bytes_decides other name).1 (sym ((bytes_decides name other).0 same)) in let contradiction : true ≡ false = sym back ∙ apart in cc)
      | inr fine ↦ fine
    ]

not_true : (b : Bool) → not b ≡ true → b ≡ false
not_true true e = absurd cc
not_true false e = refl

-- what a filter leaves
apart_filtered : (name : List ℕ) (aggs : List Agg) → AllByRecursion (IsApart name) (names_of (filter (λ other. not (pointwise nat_eq other.name name)) aggs))
apart_filtered name [] = tt
apart_filtered name (agg ∷ aggs) =
    elim (either_way (not (pointwise nat_eq agg.name name))) [
      | inl kept ↦ rw kept (turned name agg.name (not_true (pointwise nat_eq agg.name name) kept), apart_filtered name aggs)
      | inr left ↦ rw left (apart_filtered name aggs)
    ]

all_filtered : (P : List ℕ → Type 0) (p : Agg → Bool) (aggs : List Agg) → AllByRecursion P (names_of aggs) → AllByRecursion P (names_of (filter p aggs))
all_filtered P p [] all = tt
all_filtered P p (agg ∷ aggs) all =
    elim (either_way (p agg)) [
      | inl kept ↦ rw kept (all.0, all_filtered P p aggs all.1)
      | inr left ↦ rw left (all_filtered P p aggs all.1)
    ]

distinct_filtered : (p : Agg → Bool) (aggs : List Agg) → IsDistinct (pointwise nat_eq) (names_of aggs) → IsDistinct (pointwise nat_eq) (names_of (filter p aggs))
unfolding IsDistinct
distinct_filtered p [] apart = tt
distinct_filtered p (agg ∷ aggs) apart =
    elim (either_way (p agg)) [
      | inl kept ↦ rw kept (all_filtered (IsApart agg.name) p aggs apart.0, distinct_filtered p aggs apart.1)
      | inr left ↦ rw left (distinct_filtered p aggs apart.1)
    ]

pub first_of_each_distinct : (aggs : List Agg) → IsDistinct (pointwise nat_eq) (names_of (first_of_each aggs))
unfolding IsDistinct
first_of_each_distinct [] = tt
first_of_each_distinct (agg ∷ aggs) = (apart_filtered agg.name (first_of_each aggs), distinct_filtered _ (first_of_each aggs) (first_of_each_distinct aggs))
