-- Declarations of one name.
use Rattle.std.proofs.Common.{◌≡◌, ◌≢◌, true, false, List, [], ◌∷◌, ◌++◌}
use Rattle.std.specs.Prelude.{All, Contains, IsPermutation, slice_index_or}
use Rattle.std.specs.Cmp.{IsEquivalence, on_equiv}
use Rattle.std.specs.Cmp.Lexicographic.{nat_list_eq_equiv}
use Rattle.std.specs.List.{IsDistinct}
use Rattle.std.proofs.lemmas.Bool.{false_from_ne_true}
use Rattle.std.proofs.lemmas.List.Elements.{All-contains, All-contains_itself}
use Rattle.std.proofs.lemmas.List.Folds.{list_any_none}
use Rattle.std.proofs.lemmas.List.Sorted.{Contains-permutation, IsPermutation-sym}
use Rattle.std.proofs.lemmas.Map.Keys.{IsDistinct-IsPermutation, IsDistinct-push}
use Rattle.std.proofs.lemmas.Slice.Eq.{bytes_eq-Decides}
use Rattle.cal_naming.specs.Naming.{same_name}
use Rattle.cal_naming.specs.Told.{declaration_of}
use Rattle.cal_value.specs.declared.attribute.Attribute.{Attribute}

-- lines that the table sees as one are one
pub one-line : (a b : Attribute) → declaration_of a ≡ declaration_of b → a ≡ b
one-line a b same =
    let props : a.props ≡ b.props = (λ i. record { 0 = (same i).props }) in
    (λ i. record { name = (same i).name; kind = (same i).kind; props = props i })

pub same-name : (a b : Attribute) → a.name ≡ b.name → same_name a b ≡ true
same-name a b same = (bytes_eq-Decides a.name b.name).1 same

pub other-name : (a b : Attribute) → a.name ≢ b.name → same_name a b ≡ false
other-name a b other = false_from_ne_true (same_name a b)
    (λ e. other ((bytes_eq-Decides a.name b.name).0 e))

equivalence : IsEquivalence same_name
equivalence = on_equiv (λ (a : Attribute). a.name) nat_list_eq_equiv

-- one declaration of a further name
pub distinct-push : (kept : List Attribute) (line : Attribute) → IsDistinct same_name kept
    → ((k : Attribute) → Contains kept k → line.name ≢ k.name)
    → IsDistinct same_name (kept ++ line ∷ [])
distinct-push kept line once other = IsDistinct-push equivalence kept line once
    (list_any_none (same_name line) kept (λ k d less. other-name line (slice_index_or kept k d)
    (other (slice_index_or kept k d) (All-contains_itself kept k d less))))

-- declarations of different names are so in any order
pub distinct-in-any-order : (kept other : List Attribute) → IsPermutation kept other
    → IsDistinct same_name kept → IsDistinct same_name other
distinct-in-any-order kept other order once =
    IsDistinct-IsPermutation same_name equivalence.symm kept other order once

-- what holds of each holds of each in any order
pub all-in-any-order : (P : Attribute → Type 0) (kept other : List Attribute)
    → IsPermutation kept other → All P kept → All P other
all-in-any-order P kept other order all k d less =
    All-contains P kept (slice_index_or other k d) all
    (Contains-permutation other kept (slice_index_or other k d) (IsPermutation-sym kept other order)
    (All-contains_itself other k d less))
