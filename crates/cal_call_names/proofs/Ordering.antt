-- Declarations of different names that are sorted stand in byte order of their names.
use Rattle.std.proofs.Common.{◌≡◌, true, false, List, [], ◌∷◌, map}
use Rattle.std.proofs.Common.{All, AllPairs, IsPermutation, IsSorted, zero, suc, refl, sym, ◌∙◌}
use Rattle.std.proofs.Common.{arith}
use Rattle.std.specs.declared.cmp.Ordering.{Ordering}
use Rattle.std.specs.declared.cmp.Ordering.TheVariants.{Less, Equal, Greater}
use Rattle.std.specs.Ordering.{is_lt, ordering_reverse, ordering_then}
use Rattle.std.specs.List.{AllByRecursion, IsDistinct}
use Rattle.std.specs.List.Sorted.{IsStrictlySortedBy}
use Rattle.std.proofs.lemmas.List.Elements.{recursion_from_All}
use Rattle.std.proofs.lemmas.List.Sorted.{ranks_by, sorted_far}
use Rattle.cal_value.specs.ExactOrder.{text_exact}
use Rattle.cal_value.specs.Order.{attribute_cmp}
use Rattle.cal_value.specs.OrderLaws.{attribute_exact}
use Rattle.cal_value.specs.Texts.{text_cmp}
use Rattle.cal_value.specs.declared.attribute.Attribute.{Attribute}
use Rattle.cal_naming.proofs.Names.{distinct-in-any-order, same-name}
use Rattle.cal_naming.specs.Naming.{same_name}
use Rattle.cal_call_names.specs.Listing.{AreInOrder}

-- of two answers in a row that aren't less together, the first is less the other way round, unless
-- it is equal
below_by : (r s : Ordering) → is_lt (ordering_then r s) ≡ false → (r ≡ Equal → ⊥)
    → ordering_reverse r ≡ Less
below_by Less s above apart = absurd cc
below_by Equal s above apart = absurd (apart refl)
below_by Greater s above apart = refl

-- of declarations of two names the one that isn't above has the lower name
name_below : (a b : Attribute) → is_lt (attribute_cmp b a) ≡ false → same_name a b ≡ false
    → text_cmp a.name b.name ≡ Less
name_below a b above apart =
    text_exact.total.antisymm a.name b.name
    ∙ below_by (text_cmp b.name a.name) _ above (λ equal.
    let one : b.name ≡ a.name = text_exact.exact b.name a.name equal in
    let same : same_name a b ≡ true = same-name a b (sym one) in absurd cc)

below_all : (x : Attribute) (xs : List Attribute)
    → AllByRecursion (λ y. is_lt (attribute_cmp y x) ≡ false) xs
    → AllByRecursion (λ y. same_name x y ≡ false) xs
    → AllByRecursion (λ n. text_cmp x.name n ≡ Less) (map (λ (k : Attribute). k.name) xs)
below_all x [] above apart = tt
below_all x (y ∷ ys) above apart = (name_below x y above.0 apart.0, below_all x ys above.1 apart.1)

in_order : (xs : List Attribute) → AllPairs (λ a b. is_lt (attribute_cmp b a) ≡ false) xs
    → IsDistinct same_name xs → AreInOrder xs
unfolding IsStrictlySortedBy IsDistinct
in_order [] up apart = tt
in_order (x ∷ xs) up apart =
    let first : All (λ y. is_lt (attribute_cmp y x) ≡ false) xs =
    λ j d inside. up zero (suc j) d (omega arith) (omega arith) in
    let rest : AllPairs (λ a b. is_lt (attribute_cmp b a) ≡ false) xs =
    λ i j d below inside. up (suc i) (suc j) d (omega arith) (omega arith) in (
      below_all x xs (recursion_from_All (λ y. is_lt (attribute_cmp y x) ≡ false) xs first) apart.0,
      in_order xs rest apart.1,
    )

-- declarations of different names, sorted, are in order
pub sorted_in_order : (xs ys : List Attribute) → IsDistinct same_name xs → IsPermutation xs ys
    → IsSorted attribute_cmp ys → AreInOrder ys
sorted_in_order xs ys apart moved sorted =
    in_order ys
    (λ i j d below inside. sorted_far _ (ranks_by attribute_exact.total (λ a. a)) ys sorted i j d
    (omega arith) inside)
    (distinct-in-any-order xs ys moved apart)
