-- What a look-up of a name tells.
use Rattle.std.proofs.Common.{◌≡◌, ℕ, zero, suc, Bool, true, false, ◌||◌, refl, sym, arith, List, [], ◌∷◌, Option, None, Some, IfSome, IfNone, is_some, position, slice_get, ◌∙◌, subst, Contains}
use Rattle.std.specs.List.{list_any}
use Rattle.std.specs.Ordering.{eq_by_cmp}
use Rattle.std.proofs.lemmas.Map.Views.{list_any-from_Contains}
use Rattle.cal_context.proofs.ListLemmas.{Adds-insert_key, number_of_equal, number_of_position}
use Rattle.cal_context.specs.Lists.{Interns}
use Rattle.indexmap.specs.IndexSet.{insert_key}
use Rattle.cal_value.specs.Texts.{text_cmp}
use Rattle.cal_rowset.specs.Known.{is_known}
use Rattle.cal_rowset.specs.Texts.{is_same}
use Rattle.cal_rowset.proofs.Seen.{is_same-refl, is_same-other}
use Rattle.cal_value.specs.ExactOrder.{exact_equiv, exact_tells, text_exact}

-- the place that is found is the name's
pub place_found : (names : List (List ℕ)) (name : List ℕ) (place : Option ℕ) → place ≡ position (eq_by_cmp text_cmp name) names
    → IfSome place (λ p. slice_get names p ≡ Some name)
place_found names name None found = tt
place_found names name (Some p) found = number_of_position (exact_equiv text_exact) (exact_tells text_exact) names p name found

-- and where none is found the name isn't there
pub place_unknown : (names : List (List ℕ)) (name : List ℕ) (place : Option ℕ) → is_some place ≡ list_any (eq_by_cmp text_cmp name) names
    → IfNone place (¬ Contains names name)
place_unknown names name None found =
    λ there. (let told : false ≡ true = found ∙ list_any-from_Contains (exact_equiv text_exact) name names there in cc)
place_unknown names name (Some p) found = tt

-- a copy of a name, inserted
pub name_learned : (names new : List (List ℕ)) (name copied : List ℕ) (place : ℕ) → copied ≡ name → new ≡ insert_key (eq_by_cmp text_cmp) names copied
    → ((k : List ℕ) × (slice_get new place ≡ Some k) × (eq_by_cmp text_cmp copied k ≡ true)) → Interns names name new place
name_learned names new name copied place is keys stored =
    subst (λ n. Interns names n new place) is (record {
      number = number_of_equal (exact_equiv text_exact) (exact_tells text_exact) new place copied stored.0 stored.1 stored.2;
      adds = Adds-insert_key (exact_equiv text_exact) (exact_tells text_exact) names copied new keys;
    })

-- a name that has a place is known, and one that none has isn't
pub known_at : (names : List (List ℕ)) (name : List ℕ) (place : ℕ) → slice_get names place ≡ Some name → is_known names name ≡ true
known_at [] name place at = cc
known_at (n ∷ names) name zero at =
    let same : n ≡ name = cc in
    rw (same, is_same-refl name) refl
known_at (n ∷ names) name (suc place) at = rw (known_at names name place at) (either_true (is_same name n))
  where
    either_true : (b : Bool) → (b || true) ≡ true
    either_true true = refl
    either_true false = refl

pub unknown_none : (names : List (List ℕ)) (name : List ℕ) → ¬ Contains names name → is_known names name ≡ false
unknown_none [] name new = refl
unknown_none (n ∷ names) name new =
    rw (is_same-other name n (λ same. new (zero, omega arith, sym same)), unknown_none names name (λ there. new (suc there.0, omega (arith, there.1), there.2))) refl
