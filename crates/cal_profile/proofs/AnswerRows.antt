-- The rows of answers that say the same of the same groups are the same rows.
use Rattle.std.proofs.Common.{◌≡◌, Bool, true, false, List, [], ◌∷◌, ◌++◌, map, inl, inr, refl}
use Rattle.std.proofs.Common.{sym, ap, subst, ◌∙◌, Contains}
use Rattle.std.specs.Prelude.{◌⊎◌, if◌then◌else◌}
use Rattle.std.specs.List.{filter_map}
use Rattle.std.specs.Ordering.{is_lt}
use Rattle.std.specs.declared.cmp.Ordering.{Ordering}
use Rattle.cal_engine.specs.Answers.{answer_of}
use Rattle.cal_keys.specs.Groups.{groups_of}
use Rattle.cal_engine.specs.Rows.{is_aggregated, row_of, rows_of}
use Rattle.cal_engine.specs.Sorting.{put_in, row_cmp, sorted}
use Rattle.cal_filter.specs.Kept.{kept}
use Rattle.cal_profile.specs.Answers.{AnswerAlike, SameGroups, SameRows}
use Rattle.cal_profile.proofs.Lists.{Contains-cases, Contains-cons, Contains-first, Contains-map}
use Rattle.cal_profile.proofs.Lists.{Contains-nil}
use Rattle.cal_ql.specs.declared.query.Query.{Query}
use Rattle.cal_value.specs.declared.record.Rec.{Rec}

-- ---- rows

mapped_from : (f : Rec → Rec) (xs : List Rec) (row : Rec) → Contains (map f xs) row
    → (x : Rec) × (Contains xs x) × (f x ≡ row)
mapped_from f [] row there = absurd (Contains-nil row there)
mapped_from f (y ∷ ys) row there =
    by (Contains-cases row (f y) (map f ys) there) (mapped_from f ys row)
  where
    by : (f y ≡ row) ⊎ Contains (map f ys) row
        → (Contains (map f ys) row → (x : Rec) × (Contains ys x) × (f x ≡ row))
        → (x : Rec) × (Contains (y ∷ ys) x) × (f x ≡ row)
    by (inl is) more = (y, Contains-first y y ys refl, is)
    by (inr behind) more =
        let found = more behind in (found.0, Contains-cons found.0 y ys found.1, found.2)

-- ---- sorting

module _ (cmp : Rec → Rec → Ordering) (row : Rec) where
  put_in_to : (x : Rec) (xs : List Rec) → Contains (put_in cmp x xs) row → Contains (x ∷ xs) row
  put_in_to x [] there = there
  put_in_to x (y ∷ ys) there = by (is_lt (cmp y x)) there (put_in_to x ys)
    where
      by : (b : Bool) → Contains (if b then y ∷ put_in cmp x ys else x ∷ y ∷ ys) row
          → (Contains (put_in cmp x ys) row → Contains (x ∷ ys) row)
          → Contains (x ∷ y ∷ ys) row
      by false there more = there
      by true there more = at (Contains-cases row y (put_in cmp x ys) there)
        where
          behind : (x ≡ row) ⊎ Contains ys row → Contains (x ∷ y ∷ ys) row
          behind (inl is) = Contains-first row x (y ∷ ys) is
          behind (inr there) = Contains-cons row x (y ∷ ys) (Contains-cons row y ys there)

          at : (y ≡ row) ⊎ Contains (put_in cmp x ys) row → Contains (x ∷ y ∷ ys) row
          at (inl is) = Contains-cons row x (y ∷ ys) (Contains-first row y ys is)
          at (inr there) = behind (Contains-cases row x ys (more there))

  put_in_from : (x : Rec) (xs : List Rec) → Contains (x ∷ xs) row → Contains (put_in cmp x xs) row
  put_in_from x [] there = there
  put_in_from x (y ∷ ys) there = by (is_lt (cmp y x)) (put_in_from x ys)
    where
      by : (b : Bool) → (Contains (x ∷ ys) row → Contains (put_in cmp x ys) row)
          → Contains (if b then y ∷ put_in cmp x ys else x ∷ y ∷ ys) row
      by false more = there
      by true more = at (Contains-cases row x (y ∷ ys) there)
        where
          behind : (y ≡ row) ⊎ Contains ys row → Contains (y ∷ put_in cmp x ys) row
          behind (inl is) = Contains-first row y (put_in cmp x ys) is
          behind (inr there) =
              Contains-cons row y (put_in cmp x ys) (more (Contains-cons row x ys there))

          at : (x ≡ row) ⊎ Contains (y ∷ ys) row → Contains (y ∷ put_in cmp x ys) row
          at (inl is) =
              Contains-cons row y (put_in cmp x ys) (more (Contains-first row x ys is))
          at (inr there) = behind (Contains-cases row y ys there)

  sorted_to : (xs : List Rec) → Contains (sorted cmp xs) row → Contains xs row
  sorted_to [] there = there
  sorted_to (x ∷ xs) there =
      by (Contains-cases row x (sorted cmp xs) (put_in_to x (sorted cmp xs) there)) (sorted_to xs)
    where
      by : (x ≡ row) ⊎ Contains (sorted cmp xs) row
          → (Contains (sorted cmp xs) row → Contains xs row) → Contains (x ∷ xs) row
      by (inl is) more = Contains-first row x xs is
      by (inr there) more = Contains-cons row x xs (more there)

  sorted_from : (xs : List Rec) → Contains xs row → Contains (sorted cmp xs) row
  sorted_from [] there = there
  sorted_from (x ∷ xs) there =
      put_in_from x (sorted cmp xs) (by (Contains-cases row x xs there) (sorted_from xs))
    where
      by : (x ≡ row) ⊎ Contains xs row → (Contains xs row → Contains (sorted cmp xs) row)
          → Contains (x ∷ sorted cmp xs) row
      by (inl is) more = Contains-first row x (sorted cmp xs) is
      by (inr there) more = Contains-cons row x (sorted cmp xs) (more there)

-- ---- answers

module _ (q : Query) (aggregated : is_aggregated q ≡ true) where
  pub rows_are : (rs : List Rec) → rows_of q rs ≡ map (row_of q rs) (groups_of q.group rs)
  rows_are rs = ap (λ b. if b then map (row_of q rs) (groups_of q.group rs) else rs) aggregated

  pub same_row : (rs ss : List Rec) → SameGroups q rs ss → (group : Rec)
      → row_of q rs group ≡ row_of q ss group
  same_row rs ss h group =
      λ i. record { paths = group.paths; imms = group.imms ++ h.results group i }

  rows_to : (rs ss : List Rec)
      → ((group : Rec) → Contains (groups_of q.group rs) group
      → Contains (groups_of q.group ss) group)
      → ((group : Rec) → row_of q rs group ≡ row_of q ss group) → (row : Rec)
      → Contains (rows_of q rs) row → Contains (rows_of q ss) row
  rows_to rs ss groups same row there =
      let found = mapped_from (row_of q rs) (groups_of q.group rs) row
      (subst (λ xs. Contains xs row) (rows_are rs) there) in
      subst (λ xs. Contains xs row) (sym (rows_are ss))
      (subst (Contains (map (row_of q ss) (groups_of q.group ss)))
      (sym (same found.0) ∙ found.2)
      (Contains-map (row_of q ss) (groups_of q.group ss) found.0 (groups found.0 found.1)))

  pub same_answers : (rs ss : List Rec) → AnswerAlike q rs ss
      → SameRows (answer_of q rs).rows.rows (answer_of q ss).rows.rows
  same_answers rs ss h row = (
    λ there. sorted_from cmp row (rows_of q ls) (rows_to ks ls (λ g. (h.groups g).0)
        (same_row ks ls h) row (sorted_to cmp row (rows_of q ks) there)),
    λ there. sorted_from cmp row (rows_of q ks) (rows_to ls ks (λ g. (h.groups g).1)
        (λ g. sym (same_row ks ls h g)) row (sorted_to cmp row (rows_of q ls) there)),
  )
    where
      cmp : Rec → Rec → Ordering
      cmp = row_cmp q.order

      ks : List Rec
      ks = filter_map (kept q) rs

      ls : List Rec
      ls = filter_map (kept q) ss
