-- Lists of records with the same groups and the same results answer alike.
use Rattle.std.proofs.Common.{◌≡◌, Bool, true, false, ◌||◌, List, [], ◌∷◌, ◌++◌, filter, map}
use Rattle.std.proofs.Common.{refl, sym, ap, subst, ◌∙◌, Contains, Option, None, Some}
use Rattle.std.specs.Prelude.{if◌then◌else◌, option_map}
use Rattle.std.specs.List.{cons_option, filter_map, list_any}
use Rattle.std.proofs.lemmas.List.{map-append}
use Rattle.std.proofs.lemmas.List.Folds.{list_any-append}
use Rattle.std.proofs.lemmas.Map.Views.{Contains-from_any, list_any-from_Contains}
use Rattle.cal_keys.specs.Groups.{group_of, groups_of, is_group, records_of}
use Rattle.cal_parts.specs.Kernels.{contributed}
use Rattle.cal_engine.specs.Rows.{kernel_result, records_below, results}
use Rattle.cal_engine.proofs.Firsts.{list_any-firsts}
use Rattle.cal_engine.proofs.Gathering.{group_laws, group_same}
use Rattle.cal_filter.specs.Conditions.{where_holds}
use Rattle.cal_filter.specs.Kept as filters
use Rattle.cal_filter.specs.Numbers.{value_of_number}
use Rattle.cal_profile.specs.Answers.{AnswerAlike, SameGroups}
use Rattle.cal_profile.proofs.Bringing.{BringSame, result_of-same}
use Rattle.cal_profile.proofs.Lists.{filter_map-same}
use Rattle.cal_ql.specs.declared.names.KernelName.TheVariants as kernel
use Rattle.cal_ql.specs.declared.query.Agg.{Agg}
use Rattle.cal_ql.specs.declared.query.Query.{Query}
use Rattle.cal_value.specs.declared.attribute.Entry.{Entry}
use Rattle.cal_value.specs.declared.record.Rec.{Rec}

module _ (q : Query) where
  -- ---- the results of a group

  -- a group's records, all records and those below it bring the same to a kernel
  abbrev pub BringAlike : Rec → List Rec → List Rec → Agg → Type 0
  BringAlike group rs ss agg = BringSame agg.kernel
      (contributed agg (records_of q.group group rs))
      (contributed agg rs)
      (contributed agg (records_below q.group group rs))
      (contributed agg (records_of q.group group ss))
      (contributed agg ss)
      (contributed agg (records_below q.group group ss))

  abbrev result_in : List Rec → Rec → Agg → Option Entry
  result_in rs group agg = option_map
      (λ n. filters.result_entry agg.name (value_of_number n))
      (kernel_result q.group rs group agg)

  -- so the results are the same
  pub results_same : (group : Rec) (rs ss : List Rec)
      → ((agg : Agg) → Contains q.aggs agg → BringAlike group rs ss agg)
      → ((agg : Agg) → Contains q.aggs agg → agg.kernel ≡ kernel.Avg → ⊥)
      → results q rs group ≡ results q ss group
  results_same group rs ss same added =
      filter_map-same (result_in rs group) (result_in ss group) q.aggs
      (λ agg there. ap (option_map (λ n. filters.result_entry agg.name (value_of_number n)))
      (result_of-same agg.kernel
      (contributed agg (records_of q.group group rs)) (contributed agg rs)
      (contributed agg (records_below q.group group rs))
      (contributed agg (records_of q.group group ss)) (contributed agg ss)
      (contributed agg (records_below q.group group ss))
      (added agg there) (same agg there)))

  -- ---- the groups

  -- a group is that of some record
  abbrev pub seen : Rec → List Rec → Bool
  seen group rs = list_any (is_group group) (map (group_of q.group) rs)

  pub seen-append : (group : Rec) (rs ss : List Rec)
      → seen group (rs ++ ss) ≡ (seen group rs || seen group ss)
  seen-append group rs ss =
      ap (list_any (is_group group)) (map-append (group_of q.group) rs ss)
      ∙ list_any-append (is_group group) (map (group_of q.group) rs) (map (group_of q.group) ss)

  there_from : (group : Rec) (rs ss : List Rec) → seen group rs ≡ seen group ss
      → Contains (groups_of q.group rs) group → Contains (groups_of q.group ss) group
  there_from group rs ss same there =
      Contains-from_any group_same group (groups_of q.group ss)
      (list_any-firsts group_laws group_same group (map (group_of q.group) ss)
      ∙ sym same
      ∙ sym (list_any-firsts group_laws group_same group (map (group_of q.group) rs))
      ∙ list_any-from_Contains group_laws group (groups_of q.group rs) there)

  pub same_groups : (rs ss : List Rec) → ((group : Rec) → seen group rs ≡ seen group ss)
      → ((group : Rec) → results q rs group ≡ results q ss group) → SameGroups q rs ss
  same_groups rs ss same alike = record {
    groups = λ group.
        (there_from group rs ss (same group), there_from group ss rs (sym (same group)));
    results = alike;
  }

  -- ---- what WHERE keeps, where there is no LET

  kept_plain : q.lets ≡ [] → (r : Rec)
      → filters.kept q r ≡ (if where_holds q.conds r then Some r else None)
  kept_plain none r = ap
      (λ lets. let full = filters.with_lets lets r in
      if where_holds q.conds full then Some full else None) none

  kept_list : q.lets ≡ [] → (rs : List Rec)
      → filter_map (filters.kept q) rs ≡ filter (where_holds q.conds) rs
  kept_list none [] = refl
  kept_list none (r ∷ rs) =
      (λ i. cons_option (kept_plain none r i) (kept_list none rs i)) ∙ by (where_holds q.conds r)
    where
      by : (b : Bool)
          → cons_option (if b then Some r else None) (filter (where_holds q.conds) rs)
          ≡ (if b then r ∷ filter (where_holds q.conds) rs else filter (where_holds q.conds) rs)
      by true = refl
      by false = refl

  pub alike-from_kept : q.lets ≡ [] → (rs ss : List Rec)
      → SameGroups q (filter (where_holds q.conds) rs) (filter (where_holds q.conds) ss)
      → AnswerAlike q rs ss
  alike-from_kept none rs ss h =
      subst (λ xs. SameGroups q xs (filter_map (filters.kept q) ss)) (sym (kept_list none rs))
      (subst (SameGroups q (filter (where_holds q.conds) rs)) (sym (kept_list none ss)) h)

  -- one after another
  pub after : (rs ss ts : List Rec) → AnswerAlike q rs ss → AnswerAlike q ss ts
      → AnswerAlike q rs ts
  after rs ss ts first second = record {
    groups = λ group. (
      λ h. (second.groups group).0 ((first.groups group).0 h),
      λ h. (first.groups group).1 ((second.groups group).1 h),
    );
    results = λ group. first.results group ∙ second.results group;
  }
