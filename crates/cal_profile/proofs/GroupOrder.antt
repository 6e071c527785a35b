-- Lists that answer alike have the same rows in the order of groups.
use Rattle.std.proofs.Common.{◌≡◌, Bool, true, false, not, ◌&&◌, ◌||◌, List, [], ◌∷◌, ◌++◌}
use Rattle.std.proofs.Common.{filter, map, refl, sym, ap, ◌∙◌, Contains, append-nil, Option}
use Rattle.std.proofs.Common.{None, Some}
use Rattle.std.specs.Prelude.{if◌then◌else◌}
use Rattle.std.specs.Cmp.{IsStrictWeakOrder, both_ways}
use Rattle.std.specs.List.{AllByRecursion, cons_option, filter_map, list_any}
use Rattle.std.specs.List.Sorted.{ties}
use Rattle.std.specs.Ordering.{is_eq, is_lt, ordering_reverse}
use Rattle.std.specs.declared.cmp.Ordering.{Ordering}
use Rattle.std.specs.declared.cmp.Ordering.TheVariants.{Less, Equal, Greater}
use Rattle.std.proofs.lemmas.List.Elements.{filter-append}
use Rattle.std.proofs.lemmas.List.Sorted.{ranks_by}
use Rattle.std.proofs.lemmas.Map.Views.{Contains-from_any, list_any-from_Contains}
use Rattle.cal_agg.specs.declared.num.Num.{Num}
use Rattle.cal_engine.specs.Answers.{answer_of}
use Rattle.cal_keys.specs.Groups.{group_of, groups_of, is_group}
use Rattle.cal_engine.specs.Rows.{is_aggregated, kernel_result, results, row_of, rows_of}
use Rattle.cal_engine.specs.Sorting.{put_in, row_cmp, sorted}
use Rattle.cal_engine.proofs.Gathering.{group_laws, group_same}
use Rattle.cal_engine.proofs.Partitions.{AreOnce, AreOnce-firsts}
use Rattle.cal_engine.proofs.Sorts.{same_rising, sorted-rises, sorted-ties}
use Rattle.cal_filter.specs.Kept.{kept}
use Rattle.cal_profile.specs.Answers.{AnswerAlike, SameGroups}
use Rattle.cal_profile.specs.Groups.{HasPlainGroups, group_in, group_records, is_result, rows_cmp}
use Rattle.cal_profile.proofs.AnswerRows.{rows_are, same_row}
use Rattle.cal_profile.specs.TableRows.{entry_for}
use Rattle.cal_profile.proofs.Kernels.{known_among}
use Rattle.cal_profile.proofs.Lists.{all_weaker, filter_all, holds_of, holds_of_all}
use Rattle.cal_ql.specs.declared.query.Agg.{Agg}
use Rattle.cal_ql.specs.declared.query.Query.{Query}
use Rattle.cal_rowset.specs.Texts.{is_same}
use Rattle.cal_value.specs.Order.{group_cmp}
use Rattle.cal_value.specs.OrderLaws.{group_exact}
use Rattle.cal_value.specs.declared.attribute.Entry.{Entry}
use Rattle.cal_value.specs.declared.record.Rec.{Rec}

-- neither of two groups is below the other where they are one
tie_at : (b : Ordering)
    → (not (is_lt (ordering_reverse b)) && not (is_lt b)) ≡ is_eq (ordering_reverse b)
tie_at Less = refl
tie_at Equal = refl
tie_at Greater = refl

tie_is : (g h : Rec) → ties (λ x y. is_lt (group_cmp x y)) g h ≡ is_group g h
tie_is g h =
    let e = group_exact.total.antisymm g h in
    ap (λ a. not (is_lt a) && not (is_lt (group_cmp h g))) e ∙ tie_at (group_cmp h g)
    ∙ sym (ap is_eq e)

-- two lists with the same items at each tie are the same when sorted
sorted_same : (cmp : Rec → Rec → Ordering) → IsStrictWeakOrder (λ x y. is_lt (cmp x y))
    → (xs ys : List Rec)
    → ((w : Rec) → filter (ties (λ x y. is_lt (cmp x y)) w) xs
    ≡ filter (ties (λ x y. is_lt (cmp x y)) w) ys)
    → sorted cmp xs ≡ sorted cmp ys
sorted_same cmp weak xs ys h =
    same_rising (λ x y. is_lt (cmp x y)) weak (sorted cmp xs) (sorted cmp ys)
    (sorted-rises cmp weak xs) (sorted-rises cmp weak ys)
    (λ w. sorted-ties cmp weak w xs ∙ h w ∙ sym (sorted-ties cmp weak w ys))

module _ (key f : Rec → Rec) where
  abbrev below : Rec → Rec → Bool
  below x y = is_lt (group_cmp (key x) (key y))

  -- the rows of groups that tie with a row: that of its group
  tied_rows : (w : Rec) (groups : List Rec) → AreOnce is_group groups
      → AllByRecursion (λ group. key (f group) ≡ group) groups
      → filter (ties below w) (map f groups)
      ≡ (if list_any (is_group (key w)) groups then f (key w) ∷ [] else [])
  tied_rows w [] once all = refl
  tied_rows w (g ∷ gs) once all = by (is_group (key w) g) refl (tied_rows w gs once.1 all.1)
    where
      test : ties below w (f g) ≡ is_group (key w) g
      test = tie_is (key w) (key (f g)) ∙ ap (is_group (key w)) all.0

      -- what stands before the others, by whether the first ties
      front : Bool → List Rec
      front b = if b then f g ∷ filter (ties below w) (map f gs)
          else filter (ties below w) (map f gs)

      one : Bool → List Rec
      one b = if b then f (key w) ∷ [] else []

      by : (b : Bool) → is_group (key w) g ≡ b
          → filter (ties below w) (map f gs) ≡ one (list_any (is_group (key w)) gs)
          → front (ties below w (f g)) ≡ one (is_group (key w) g || list_any (is_group (key w)) gs)
      by true e rest =
          let same = group_same (key w) g e in
          let none : list_any (is_group (key w)) gs ≡ false =
          ap (λ k. list_any (is_group k) gs) same ∙ once.0 in
          let empty : filter (ties below w) (map f gs) ≡ [] = rest ∙ ap one none in
          ap front (test ∙ e)
          ∙ (λ i. f (sym same i) ∷ empty i)
          ∙ sym (ap (λ b. one (b || list_any (is_group (key w)) gs)) e)
      by false e rest =
          ap front (test ∙ e) ∙ rest
          ∙ sym (ap (λ b. one (b || list_any (is_group (key w)) gs)) e)

-- without ORDER BY rows stay as they are
pub unsorted : (rows : List Rec) → sorted (row_cmp []) rows ≡ rows
unsorted [] = refl
unsorted (row ∷ rows) = ap (put_in (row_cmp []) row) (unsorted rows) ∙ first rows
  where
    first : (rows : List Rec) → put_in (row_cmp []) row rows ≡ row ∷ rows
    first [] = refl
    first (other ∷ rows) = refl

module _ (q : Query) where
  -- ---- a row tells its group

  abbrev IsPlain : Rec → Type 0
  IsPlain group = AllByRecursion (λ e. is_result q.aggs e ≡ false) group.imms

  abbrev is_other : Entry → Bool
  is_other e = not (is_result q.aggs e)

  -- all that is added to a group are results
  none_other : (rs : List Rec) (group : Rec) (aggs : List Agg)
      → AllByRecursion (λ agg. list_any (λ other. is_same other.name agg.name) q.aggs ≡ true) aggs
      → filter is_other (filter_map
      (λ agg. entry_for agg (kernel_result q.group rs group agg)) aggs) ≡ []
  none_other rs group [] all = refl
  none_other rs group (agg ∷ aggs) all =
      by (kernel_result q.group rs group agg) ∙ none_other rs group aggs all.1
    where
      rest : List Entry
      rest = filter_map (λ agg. entry_for agg (kernel_result q.group rs group agg)) aggs

      by : (n : Option Num)
          → filter is_other (cons_option (entry_for agg n) rest) ≡ filter is_other rest
      by None = refl
      by (Some n) = let known = all.0 in rw known refl

  group_of_row : (rs : List Rec) (group : Rec) → IsPlain group
      → group_in q.aggs (row_of q rs group) ≡ group
  group_of_row rs group plain = λ i. record { paths = group.paths; imms = imms i }
    where
      imms : filter is_other (group.imms ++ results q rs group) ≡ group.imms
      imms =
          filter-append is_other group.imms (results q rs group)
          ∙ (λ i. filter_all is_other group.imms (all_weaker (λ e. is_result q.aggs e ≡ false)
          (λ e. is_other e ≡ true) (λ e h. ap not h) group.imms plain) i
          ++ none_other rs group q.aggs
          (holds_of_all _ q.aggs (known_among q.aggs)) i)
          ∙ append-nil group.imms

  rows_tell : (rs : List Rec) → HasPlainGroups q rs
      → AllByRecursion (λ group. group_in q.aggs (row_of q rs group) ≡ group) (groups_of q.group rs)
  rows_tell rs plain = all_weaker IsPlain
      (λ group. group_in q.aggs (row_of q rs group) ≡ group)
      (group_of_row rs) (groups_of q.group rs) plain

  -- where the groups of one list are plain, so are those of the other
  plain_too : (rs ss : List Rec) → SameGroups q rs ss → HasPlainGroups q ss → HasPlainGroups q rs
  plain_too rs ss h plain = holds_of_all IsPlain (groups_of q.group rs)
      (λ group there. holds_of IsPlain (groups_of q.group ss) group plain
      ((h.groups group).0 there))

  -- ---- one order

  there_too : (rs ss : List Rec)
      → ((g : Rec) → Contains (groups_of q.group rs) g → Contains (groups_of q.group ss) g)
      → (g : Rec) → list_any (is_group g) (groups_of q.group rs) ≡ true
      → list_any (is_group g) (groups_of q.group ss) ≡ true
  there_too rs ss h g there =
      list_any-from_Contains group_laws g (groups_of q.group ss)
      (h g (Contains-from_any group_same g (groups_of q.group rs) there))

  once : (rs : List Rec) → AreOnce is_group (groups_of q.group rs)
  once rs = AreOnce-firsts group_laws group_same (map (group_of q.group) rs)

  module _ (aggregated : is_aggregated q ≡ true) where
    one_order : (rs ss : List Rec) → SameGroups q rs ss → HasPlainGroups q ss
        → sorted (rows_cmp q.aggs) (rows_of q rs) ≡ sorted (rows_cmp q.aggs) (rows_of q ss)
    one_order rs ss h plain =
        ap (sorted (rows_cmp q.aggs)) (rows_are q aggregated rs)
        ∙ sorted_same (rows_cmp q.aggs) (ranks_by group_exact.total (group_in q.aggs))
        (map (row_of q rs) (groups_of q.group rs)) (map (row_of q ss) (groups_of q.group ss)) same
        ∙ sym (ap (sorted (rows_cmp q.aggs)) (rows_are q aggregated ss))
      where
        seen : (g : Rec) → list_any (is_group g) (groups_of q.group rs)
            ≡ list_any (is_group g) (groups_of q.group ss)
        seen g = both_ways _ _ (there_too rs ss (λ k. (h.groups k).0) g)
            (there_too ss rs (λ k. (h.groups k).1) g)

        same : (w : Rec) → filter (ties (λ x y. is_lt (rows_cmp q.aggs x y)) w)
            (map (row_of q rs) (groups_of q.group rs))
            ≡ filter (ties (λ x y. is_lt (rows_cmp q.aggs x y)) w)
            (map (row_of q ss) (groups_of q.group ss))
        same w =
            let g = group_in q.aggs w in
            tied_rows (group_in q.aggs) (row_of q rs) w (groups_of q.group rs) (once rs)
            (rows_tell rs (plain_too rs ss h plain))
            ∙ (λ i. if seen g i then same_row q aggregated rs ss h g i ∷ [] else [])
            ∙ sym (tied_rows (group_in q.aggs) (row_of q ss) w (groups_of q.group ss) (once ss)
            (rows_tell ss plain))

    pub one_profile : q.order ≡ [] → (rs ss : List Rec) → AnswerAlike q rs ss
        → HasPlainGroups q (filter_map (kept q) ss) → group_records q rs ≡ group_records q ss
    one_profile order rs ss h plain =
        ap (sorted (rows_cmp q.aggs)) (as_is rs)
        ∙ one_order (filter_map (kept q) rs) (filter_map (kept q) ss) h plain
        ∙ sym (ap (sorted (rows_cmp q.aggs)) (as_is ss))
      where
        as_is : (xs : List Rec) → (answer_of q xs).rows.rows ≡ rows_of q (filter_map (kept q) xs)
        as_is xs = ap (λ keys. sorted (row_cmp keys) (rows_of q (filter_map (kept q) xs))) order
            ∙ unsorted (rows_of q (filter_map (kept q) xs))
