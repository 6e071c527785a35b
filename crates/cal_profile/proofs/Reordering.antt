-- A query without `avg` and LET answers a list as it does the same records in another order.
use Rattle.std.proofs.Common.{◌≡◌, ℕ, Bool, true, false, ◌||◌, List, [], ◌∷◌, ◌++◌, filter, map}
use Rattle.std.proofs.Common.{refl, sym, ap, ◌∙◌, Contains, Option}
use Rattle.std.specs.List.{AllByRecursion, flat_map, list_any}
use Rattle.std.specs.Ordering.{is_lt}
use Rattle.std.specs.Prelude.{if◌then◌else◌}
use Rattle.std.specs.declared.cmp.Ordering.{Ordering}
use Rattle.std.proofs.lemmas.List.Elements.{filter-append}
use Rattle.std.proofs.lemmas.Map.Views.{list_any-from_Contains}
use Rattle.cal_keys.specs.Groups.{group_of, groups_of, is_group, records_of}
use Rattle.cal_parts.specs.Kernels.{contributed}
use Rattle.cal_engine.specs.Rows.{is_below}
use Rattle.cal_engine.specs.Sorting.{put_in, sorted}
use Rattle.cal_engine.proofs.Firsts.{list_any-firsts}
use Rattle.cal_engine.proofs.Gathering.{group_laws, group_same}
use Rattle.cal_parts.proofs.Merging.{contributed-append}
use Rattle.cal_engine.proofs.Partitions.{AreOnce, AreOnce-firsts, IsKept, by_group}
use Rattle.cal_filter.specs.Conditions.{where_holds}
use Rattle.cal_profile.specs.Answers.{AnswerAlike}
use Rattle.cal_profile.specs.StandIns.{IsAddable, brought}
use Rattle.cal_profile.proofs.Bringing.{bringing, brought-append, brought-swap}
use Rattle.cal_profile.proofs.Lists.{Contains-map, filter_all, holds_of_all}
use Rattle.cal_profile.proofs.Seeing.{alike-from_kept, results_same, same_groups, seen, seen-append}
use Rattle.cal_ql.specs.declared.query.Agg.{Agg}
use Rattle.cal_ql.specs.declared.query.Query.{Query}
use Rattle.cal_value.specs.declared.record.Rec.{Rec}

-- ---- what is kept of records in whatever order

module _ (q : Query) where
  -- what is left of a list brings to a kernel, where what is left of a concatenation is one
  brings_kept : (agg : Agg) (f : List Rec → List Rec)
      → ((rs ss : List Rec) → f (rs ++ ss) ≡ f rs ++ f ss)
      → IsKept (λ rs. brought agg.kernel (contributed agg (f rs))) (bringing agg.kernel)
  brings_kept agg f parts = record {
    merges = λ rs ss.
        ap (λ xs. brought agg.kernel (contributed agg xs)) (parts rs ss)
        ∙ ap (brought agg.kernel) (contributed-append agg (f rs) (f ss))
        ∙ brought-append agg.kernel (contributed agg (f rs)) (contributed agg (f ss));
    commutes = λ rs ss.
        ap (λ xs. brought agg.kernel (contributed agg xs)) (parts rs ss)
        ∙ ap (brought agg.kernel) (contributed-append agg (f rs) (f ss))
        ∙ brought-swap agg.kernel (contributed agg (f rs)) (contributed agg (f ss))
        ∙ ap (brought agg.kernel) (sym (contributed-append agg (f ss) (f rs)))
        ∙ ap (λ xs. brought agg.kernel (contributed agg xs)) (sym (parts ss rs));
  }

  or_swap : (a b : Bool) → (a || b) ≡ (b || a)
  or_swap true true = refl
  or_swap true false = refl
  or_swap false true = refl
  or_swap false false = refl

  -- whether a group is seen among those that pass a test
  seen_kept : (group : Rec) (p : Rec → Bool) → IsKept (λ rs. seen q group (filter p rs)) ◌||◌
  seen_kept group p = record {
    merges = λ rs ss.
        ap (seen q group) (filter-append p rs ss) ∙ seen-append q group (filter p rs) (filter p ss);
    commutes = λ rs ss.
        ap (seen q group) (filter-append p rs ss)
        ∙ seen-append q group (filter p rs) (filter p ss)
        ∙ or_swap (seen q group (filter p rs)) (seen q group (filter p ss))
        ∙ sym (seen-append q group (filter p ss) (filter p rs))
        ∙ ap (seen q group) (sym (filter-append p ss rs));
  }

  -- So lists of which alike is kept, whatever it is, answer alike.
  pub reordered_alike : IsAddable q → (rs ss : List Rec)
      → ((M : Type 0) (v : List Rec → M) (merge : M → M → M) → IsKept v merge → v rs ≡ v ss)
      → AnswerAlike q rs ss
  reordered_alike addable rs ss same = alike-from_kept q addable.plain rs ss
      (same_groups q (left rs) (left ss)
      (λ group. same _ _ _ (seen_kept group (where_holds q.conds)))
      (λ group. results_same q group (left rs) (left ss) (λ agg there. record {
        own = tested agg (λ r. is_group (group_of q.group r) group);
        all = same _ _ _ (brings_kept agg left (filter-append (where_holds q.conds)));
        below = tested agg (λ r. is_below group (group_of q.group r));
      }) addable.added))
    where
      left : List Rec → List Rec
      left xs = filter (where_holds q.conds) xs

      tested : (agg : Agg) (p : Rec → Bool)
          → brought agg.kernel (contributed agg (filter p (left rs)))
          ≡ brought agg.kernel (contributed agg (filter p (left ss)))
      tested agg p = same _ _ _ (brings_kept agg (λ xs. filter p (left xs)) (λ xs ys.
          ap (filter p) (filter-append (where_holds q.conds) xs ys)
          ∙ filter-append p (left xs) (left ys)))

-- ---- orders

module _ {M : Type 0} {v : List Rec → M} {merge : M → M → M} (kept : IsKept v merge) where
  -- part by part, by any key, and the keys in any order
  pub by_parts : (key : Rec → Rec) (keys : List Rec) → AreOnce is_group keys → (rs : List Rec)
      → AllByRecursion (λ r. list_any (is_group (key r)) keys ≡ true) rs
      → v (flat_map (λ k. filter (λ r. is_group (key r) k) rs) keys) ≡ v rs
  by_parts key keys once rs all =
      by_group kept group_laws group_same key keys once rs
      ∙ ap v (filter_all (λ r. list_any (is_group (key r)) keys) rs all)

  -- and so group by group
  pub by_groups : (names : Option (List (List ℕ))) (rs : List Rec)
      → v (flat_map (λ group. records_of names group rs) (groups_of names rs)) ≡ v rs
  by_groups names rs =
      by_parts (group_of names) (groups_of names rs)
      (AreOnce-firsts group_laws group_same (map (group_of names) rs)) rs
      (holds_of_all _ rs (λ r there.
      list_any-firsts group_laws group_same (group_of names r) (map (group_of names) rs)
      ∙ list_any-from_Contains group_laws (group_of names r) (map (group_of names) rs)
      (Contains-map (group_of names) rs r there)))

  under : (r : Rec) (rs ss : List Rec) → v rs ≡ v ss → v (r ∷ rs) ≡ v (r ∷ ss)
  under r rs ss e =
      kept.merges (r ∷ []) rs ∙ ap (merge (v (r ∷ []))) e ∙ sym (kept.merges (r ∷ []) ss)

  exchanged : (r s : Rec) (rs : List Rec) → v (r ∷ s ∷ rs) ≡ v (s ∷ r ∷ rs)
  exchanged r s rs =
      kept.merges (r ∷ s ∷ []) rs
      ∙ ap (λ m. merge m (v rs)) (kept.commutes (r ∷ []) (s ∷ []))
      ∙ sym (kept.merges (s ∷ r ∷ []) rs)

  put_in_kept : (cmp : Rec → Rec → Ordering) (r : Rec) (rs : List Rec)
      → v (put_in cmp r rs) ≡ v (r ∷ rs)
  put_in_kept cmp r [] = refl
  put_in_kept cmp r (s ∷ rs) = by (is_lt (cmp s r)) (put_in_kept cmp r rs)
    where
      by : (b : Bool) → v (put_in cmp r rs) ≡ v (r ∷ rs)
          → v (if b then s ∷ put_in cmp r rs else r ∷ s ∷ rs) ≡ v (r ∷ s ∷ rs)
      by true rest = under s (put_in cmp r rs) (r ∷ rs) rest ∙ exchanged s r rs
      by false rest = refl

  -- and sorted
  pub sorted_kept : (cmp : Rec → Rec → Ordering) (rs : List Rec) → v (sorted cmp rs) ≡ v rs
  sorted_kept cmp [] = refl
  sorted_kept cmp (r ∷ rs) =
      put_in_kept cmp r (sorted cmp rs) ∙ under r (sorted cmp rs) rs (sorted_kept cmp rs)
