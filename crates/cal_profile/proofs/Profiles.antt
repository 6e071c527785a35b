-- The rows of a profile stand for the records of their groups, and so answer for the trace.
use Rattle.std.proofs.Common.{◌≡◌, ℕ, ◌<◌, pos, Bool, true, false, not, ◌||◌, List, [], ◌∷◌}
use Rattle.std.proofs.Common.{◌++◌, drop, filter, length, map, refl, sym, ap, subst, ◌∙◌, arith}
use Rattle.std.proofs.Common.{Option, None, Some, option_and_then, Contains}
use Rattle.std.specs.Prelude.{if◌then◌else◌, is_some, unwrap_or, ◌==◌}
use Rattle.std.specs.List.{AllByRecursion, AllZip, cons_option, filter_map, flat_map, last_or}
use Rattle.std.specs.List.{list_any}
use Rattle.std.specs.Option.{option_to_list}
use Rattle.std.specs.declared.cmp.Ordering.{Ordering}
use Rattle.std.proofs.lemmas.Bool.Decides.{nat_tests}
use Rattle.cal_agg.specs.Results.{is_kept, kept, sum_of}
use Rattle.cal_agg.specs.declared.num.Num.{Num}
use Rattle.cal_agg.specs.declared.num.Num.TheVariants.{Whole, Fixed}
use Rattle.cal_keys.specs.Groups.{group_of, groups_of, is_group, records_of}
use Rattle.cal_parts.specs.Kernels.{contributed, contributions, number_sought}
use Rattle.cal_engine.specs.Rows.{kernel_result, rows_of}
use Rattle.cal_engine.specs.Sorting.{sorted}
use Rattle.cal_engine.proofs.Gathering.{group_same}
use Rattle.cal_engine.proofs.Regroups.{has_records, keys_seen}
use Rattle.cal_filter.specs.Named.{last_number}
use Rattle.cal_profile.specs.Answers.{AnswerAlike}
use Rattle.cal_profile.specs.Coarser.{AsksKept, IsCoarser, IsValue}
use Rattle.cal_profile.specs.Declared.{IsDeclared, IsNamed, IsSnapshot, IsTrace}
use Rattle.cal_profile.specs.Groups.{agg_of, channel_query, keys_of}
use Rattle.cal_profile.specs.StandIns.{Brings, IsAddable, IsAlike, StandsFor, all_of, brought}
use Rattle.cal_profile.proofs.Agreeing.{Agree, alike_from_agree}
use Rattle.cal_profile.proofs.Bringing.{brought_again}
use Rattle.cal_profile.proofs.Kernels.{count_kept, least_kept, most_kept, sum_kept}
use Rattle.cal_profile.proofs.Lists.{all_weaker, holds_of}
use Rattle.cal_profile.proofs.Reordering.{by_groups, reordered_alike, sorted_kept}
use Rattle.cal_profile.proofs.RowAgrees.{row_agrees, with_entries}
use Rattle.cal_profile.proofs.RowNumbers.{number_there, result_there, value_gone}
use Rattle.cal_profile.proofs.Seeing.{after}
use Rattle.cal_profile.proofs.StandingIn.{stand_ins_answer}
use Rattle.cal_ql.specs.Kernels.{result_name}
use Rattle.cal_ql.specs.declared.names.KernelName as kernels
use Rattle.cal_ql.specs.declared.names.KernelName.TheVariants as kernel
use Rattle.cal_ql.specs.declared.query.Agg.{Agg}
use Rattle.cal_ql.specs.declared.query.Query.{Query}
use Rattle.cal_script.specs.declared.script.ChannelQuery.{ChannelQuery}
use Rattle.cal_value.specs.declared.attribute.Attribute.{Attribute}
use Rattle.cal_value.specs.declared.record.Rec.{Rec}

-- a sum that isn't absent for its size is what was brought
pub sum_brought : (ns : List Num) → (sum_of ns ≡ None → ns ≡ []) → sum_of ns ≡ brought kernel.Sum ns
sum_brought ns there = by (brought kernel.Sum ns) refl
  where
    by : (r : Option Num) → brought kernel.Sum ns ≡ r
        → option_and_then kept (brought kernel.Sum ns) ≡ brought kernel.Sum ns
    by None e = rw e refl
    by (Some (Whole z)) e = rw e refl
    by (Some (Fixed z)) e = at (is_kept z) refl
      where
        at : (b : Bool) → is_kept z ≡ b
            → option_and_then kept (brought kernel.Sum ns) ≡ brought kernel.Sum ns
        at true is = ap (option_and_then kept) e
            ∙ ap (λ b. if b then Some (Fixed z) else None) is ∙ sym e
        at false is =
            let absent : sum_of ns ≡ None = ap (option_and_then kept) e
            ∙ ap (λ b. if b then Some (Fixed z) else None) is in
            let none : Some (Fixed z) ≡ None = sym e ∙ ap (brought kernel.Sum) (there absent) in
            cc

-- of two numbers the first is missing
pub second_alone : (m n o : Option Num) → m ≡ None → n ≡ o
    → cons_option m (cons_option n []) ≡ option_to_list o
second_alone m n o first second =
    (λ i. cons_option (first i) (cons_option (second i) [])) ∙ one o
  where
    one : (o : Option Num) → cons_option None (cons_option o []) ≡ option_to_list o
    one None = refl
    one (Some n) = refl

module _ (attributes : List Attribute) (channel : ChannelQuery) (trace : List Rec)
    (is : IsTrace attributes channel trace) where
  abbrev keys : Option (List (List ℕ))
  keys = keys_of channel

  abbrev result : Rec → Agg → Option Num
  result group agg = kernel_result keys trace group agg

  abbrev own_row : Rec → Rec
  own_row group = with_entries attributes channel is.named (result group) group

  abbrev members : Rec → List Rec
  members group = records_of keys group trace

  -- ---- what a row brings

  module _ (m : Rec) (snap : IsSnapshot attributes m) where
    abbrev own_group : Rec
    own_group = group_of keys m

    -- the numbers of a value attribute are those of its result
    again : (k : kernels.KernelName) (attr : List ℕ) → IsValue attributes channel attr
        → Contains (channel_query channel).aggs (agg_of k attr)
        → cons_option (last_number attr (own_row own_group))
        (cons_option (last_number (result_name k attr) (own_row own_group)) [])
        ≡ option_to_list (result own_group (agg_of k attr))
    again k attr value there = second_alone _ _ _
        (value_gone attributes channel is.named (result own_group) m snap attr
        (holds_of (IsDeclared attributes) channel.values attr is.named.values value.value)
        value.apart)
        (number_there attributes channel is.named (result own_group) m snap (agg_of k attr) there)

    brings_sum : (attr : List ℕ) → IsValue attributes channel attr
        → brought kernel.Sum (contributions kernel.Sum attr (own_row own_group))
        ≡ brought kernel.Sum (flat_map (contributions kernel.Sum attr) (members own_group))
    brings_sum attr value =
        let numbers = flat_map (contributions kernel.Sum attr) (members own_group) in
        ap (brought kernel.Sum)
        (again kernel.Sum attr value (sum_kept channel is.named.once attr value.value))
        ∙ ap (λ n. brought kernel.Sum (option_to_list n))
        (sum_brought numbers
        (is.sums attr value.value (λ r. is_group (group_of keys r) own_group)))
        ∙ brought_again kernel.Sum numbers

    brings_at : (k : kernels.KernelName) (attr : List ℕ) → AsksKept attributes channel k attr
        → brought k (contributions k attr (own_row own_group))
        ≡ brought k (flat_map (contributions k attr) (members own_group))
    brings_at kernel.Count attr asks =
        ap (λ w. brought kernel.Count (w ∷ []))
        (ap (λ es. unwrap_or (last_or None (filter_map (λ e. number_sought true e.value) es))
        (Whole (pos 1)))
        (result_there attributes channel is.named (result own_group) m snap
        (agg_of kernel.Count []) (count_kept channel is.named.once)))
        ∙ brought_again kernel.Count
        (flat_map (contributions kernel.Count attr) (members own_group))
    brings_at kernel.Avg attr asks = absurd asks
    brings_at kernel.Min attr value =
        ap (brought kernel.Min)
        (again kernel.Min attr value (least_kept channel is.named.once attr value.value))
        ∙ brought_again kernel.Min
        (flat_map (contributions kernel.Min attr) (members own_group))
    brings_at kernel.Max attr value =
        ap (brought kernel.Max)
        (again kernel.Max attr value (most_kept channel is.named.once attr value.value))
        ∙ brought_again kernel.Max
        (flat_map (contributions kernel.Max attr) (members own_group))
    brings_at kernel.Sum attr value = brings_sum attr value
    brings_at kernel.Percent attr value = brings_sum attr value
    brings_at kernel.Inclusive attr value = brings_sum attr value

  -- ---- rows stand for their groups

  pub record IsMember (group m : Rec) : Type 0 where
    pub of : group_of keys m ≡ group
    pub snap : IsSnapshot attributes m

  members_are : (group : Rec) (rs : List Rec) → AllByRecursion (IsSnapshot attributes) rs
      → AllByRecursion (IsMember group) (records_of keys group rs)
  members_are group [] all = tt
  members_are group (r ∷ rs) all =
      by (is_group (group_of keys r) group) refl (members_are group rs all.1)
    where
      by : (b : Bool) → is_group (group_of keys r) group ≡ b
          → AllByRecursion (IsMember group) (records_of keys group rs)
          → AllByRecursion (IsMember group) (records_of keys group (r ∷ rs))
      by true e rest = rw e (
        record { of = group_same (group_of keys r) group e; snap = all.0 },
        rest,
      )
      by false e rest = rw e rest

  module _ (q : Query) (coarser : IsCoarser attributes channel q) where
    alike_member : (group m : Rec) → IsMember group m → IsAlike q (own_row group) m
    alike_member group m h = alike_from_agree attributes channel (own_row group) m
        (subst (λ g. Agree attributes keys (own_row g) m) h.of
        (row_agrees attributes channel is.named (result (group_of keys m)) m h.snap))
        q coarser

    asks : (agg : Agg) → Contains q.aggs agg → AsksKept attributes channel agg.kernel agg.attr
    asks agg there =
        holds_of (λ agg. AsksKept attributes channel agg.kernel agg.attr) q.aggs agg coarser.aggs
        there

    brings_member : (group m : Rec) → IsMember group m → (agg : Agg) → Contains q.aggs agg
        → Brings (own_row group) (members group) agg
    brings_member group m h agg there = record {
      same = subst
          (λ g. brought agg.kernel (contributions agg.kernel agg.attr (own_row g))
          ≡ brought agg.kernel (flat_map (contributions agg.kernel agg.attr) (members g)))
          h.of (brings_at m h.snap agg.kernel agg.attr (asks agg there));
    }

    row_stands : (group : Rec) → list_any (is_group group) (map (group_of keys) trace) ≡ true
        → StandsFor q (own_row group) (members group)
    row_stands group seen =
        let has = has_records (channel_query channel) trace group seen in
        let all = members_are group trace is.snapshots in
        let first : IsMember group has.first =
        (subst (AllByRecursion (IsMember group)) has.are all).0 in
        record {
          some = subst (λ rs. 0 < length rs) (sym has.are) (omega arith);
          alike = all_weaker (IsMember group) (IsAlike q (own_row group)) (alike_member group)
              (members group) all;
          brings = brings_member group has.first first;
        }

    rows_stand : (groups : List Rec)
        → AllByRecursion (λ group. list_any (is_group group) (map (group_of keys) trace) ≡ true)
        groups
        → AllZip (StandsFor q) (map own_row groups) (map members groups)
    rows_stand [] all = tt
    rows_stand (group ∷ groups) all = (row_stands group all.0, rows_stand groups all.1)

    pub addable : IsAddable q
    addable = record {
      plain = coarser.plain;
      added = λ agg there e.
          subst (λ k. AsksKept attributes channel k agg.attr) e (asks agg there);
    }

    -- ---- the trace group by group, and in its order

    abbrev by_group : List Rec
    by_group = flat_map members (groups_of keys trace)

    all_members : (groups : List Rec) → all_of (map members groups) ≡ flat_map members groups
    all_members [] = refl
    all_members (group ∷ groups) = ap (λ rs. members group ++ rs) (all_members groups)

    profile_is : rows_of (channel_query channel) trace ≡ map own_row (groups_of keys trace)
    profile_is = aggregated (is_some keys) (length (channel_query channel).aggs == 0)
        (some (agg_of kernel.Count []) (drop 1 (channel_query channel).aggs))
      where
        some : (agg : Agg) (aggs : List Agg) → (length (agg ∷ aggs) == 0) ≡ false
        some agg aggs = grind (arith, nat_tests)

        aggregated : (b none : Bool) → none ≡ false
            → (if b || not none then map own_row (groups_of keys trace) else trace)
            ≡ map own_row (groups_of keys trace)
        aggregated true none e = refl
        aggregated false none e =
            ap (λ n. if not n then map own_row (groups_of keys trace) else trace) e

    -- So the profile answers for the trace.
    profile_answers : AnswerAlike q (rows_of (channel_query channel) trace) trace
    profile_answers =
        let stand = stand_ins_answer q addable (map own_row (groups_of keys trace))
        (map members (groups_of keys trace))
        (rows_stand (groups_of keys trace)
        (keys_seen (channel_query channel) trace (map (group_of keys) trace))) in
        subst (λ rs. AnswerAlike q rs trace) (sym profile_is)
        (after q (map own_row (groups_of keys trace)) by_group trace
        (subst (λ rs. AnswerAlike q (map own_row (groups_of keys trace)) rs)
        (all_members (groups_of keys trace)) stand)
        (reordered_alike q addable by_group trace (λ M v merge kept. by_groups kept keys trace)))

    -- in whatever order its rows are
    pub sorted_profile_answers : (cmp : Rec → Rec → Ordering)
        → AnswerAlike q (sorted cmp (rows_of (channel_query channel) trace)) trace
    sorted_profile_answers cmp =
        let rows = rows_of (channel_query channel) trace in
        after q (sorted cmp rows) rows trace
        (reordered_alike q addable (sorted cmp rows) rows
        (λ M v merge kept. sorted_kept kept cmp rows))
        profile_answers
