-- The newest path of a board is added to paths, unless it is there.
use Rattle.std.proofs.Common.{◌≡◌, ℕ, ◌-◌, ◌<◌, ◌≤◌, Bool, true, false, List, [], ◌∷◌, ◌++◌, length}
use Rattle.std.proofs.Common.{get_or, ap, subst, sym, refl, ◌∙◌, arith, if◌then◌else◌, ⊎_elim}
use Rattle.std.proofs.Common.{Contains}
use Rattle.std.specs.Prelude.{Some}
use Rattle.std.specs.Ordering.{eq_by_cmp}
use Rattle.std.specs.Set.{is_member}
use Rattle.std.proofs.lemmas.Bool.{cases_lt}
use Rattle.std.proofs.lemmas.List.{get_or_append_left, get_or-append_right, length_push}
use Rattle.std.proofs.lemmas.List.Elements.{All-contains}
use Rattle.std.proofs.lemmas.Map.Views.{Contains-from_any, list_any-from_Contains}
use Rattle.cal_events.proofs.BoardLemmas.{Path}
use Rattle.cal_events.specs.Keeping.{HasPaths}
use Rattle.cal_events.specs.Nodes.{with_path}
use Rattle.cal_steps.specs.Newest.{IsNewest}
use Rattle.cal_value.specs.ExactOrder.{exact_decides, exact_equiv}
use Rattle.cal_value.specs.Order.{path_cmp}
use Rattle.cal_value.specs.OrderLaws.{path_exact}

there-already : (paths : List Path) (q : Path) → Contains paths q
    → paths ≡ with_path paths (Some q)
there-already paths q there =
    sym (ap (λ (b : Bool). if b then paths else paths ++ q ∷ [])
    (list_any-from_Contains (exact_equiv path_exact) q paths there))

added-last : (paths : List Path) (q : Path) → (Contains paths q → ⊥)
    → paths ++ q ∷ [] ≡ with_path paths (Some q)
added-last paths q new = by (is_member (eq_by_cmp path_cmp) paths q) refl
  where
    by : (b : Bool) → is_member (eq_by_cmp path_cmp) paths q ≡ b
        → paths ++ q ∷ [] ≡ (if b then paths else paths ++ q ∷ [])
    by true e = absurd (new (Contains-from_any (λ x y. (exact_decides path_exact x y).0) q paths e))
    by false e = refl

-- what is among paths with one at the end is that one, or among those before
last-of : (paths : List Path) (p q : Path) → Contains (paths ++ q ∷ []) p
    → (Contains paths p → ⊥) → p ≡ q
last-of paths p q there new =
    let k : ℕ = there.0 in
    let below = there.1 in
    let long = length_push paths q in
    ⊎_elim
    (λ early. absurd (new (k, early, sym (get_or_append_left paths (q ∷ []) p k early) ∙ there.2)))
    (λ late. let here : k ≡ length paths = omega (arith, late, below, long) in
    sym there.2 ∙ get_or-append_right paths (q ∷ []) (length paths) k p refl late
    ∙ ap (λ i. get_or (q ∷ []) i p)
    (let none : k - length paths ≡ 0 = omega (arith, here) in none))
    (cases_lt k (length paths))

module _ (paths held : List Path) (newest : Path) (is : IsNewest paths held newest) where
  pub nothing-new : HasPaths paths held → paths ≡ with_path paths (Some newest)
  nothing-new all =
      there-already paths newest (All-contains (Contains paths) held newest all is.among)

  pub one-new : (p : Path) → Contains held p → (Contains paths p → ⊥)
      → paths ++ p ∷ [] ≡ with_path paths (Some newest)
  one-new p one new =
      let same : p ≡ newest = last-of paths p newest
      (All-contains (Contains (paths ++ newest ∷ [])) held p is.others one) new in
      ap (λ (q : Path). paths ++ q ∷ []) same
      ∙ added-last paths newest (subst (λ (q : Path). Contains paths q → ⊥) same new)
