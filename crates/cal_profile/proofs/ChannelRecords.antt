-- The records of a channel's groups are the rows of its query, in the order of groups.
use Rattle.std.proofs.Common.{◌≡◌, List, [], ◌∷◌, refl, sym, ap, subst, ◌∙◌}
use Rattle.std.specs.List.{filter_map}
use Rattle.cal_engine.specs.Rows.{rows_of}
use Rattle.cal_engine.specs.Sorting.{sorted}
use Rattle.cal_filter.specs.Kept.{kept}
use Rattle.cal_profile.specs.Answers.{AnswerAlike, AnswersFor}
use Rattle.cal_profile.specs.Coarser.{IsCoarser}
use Rattle.cal_profile.specs.Declared.{IsTrace}
use Rattle.cal_profile.specs.Groups.{channel_query, group_records, rows_cmp}
use Rattle.cal_profile.proofs.AnswerRows.{same_answers}
use Rattle.cal_profile.proofs.GroupOrder.{unsorted}
use Rattle.cal_profile.proofs.Profiles.{sorted_profile_answers}
use Rattle.cal_ql.specs.declared.query.Query.{Query}
use Rattle.cal_script.specs.declared.script.ChannelQuery.{ChannelQuery}
use Rattle.cal_value.specs.declared.attribute.Attribute.{Attribute}
use Rattle.cal_value.specs.declared.record.Rec.{Rec}

module _ (channel : ChannelQuery) where
  -- a channel's query keeps every record
  pub all_kept : (rs : List Rec) → filter_map (kept (channel_query channel)) rs ≡ rs
  all_kept [] = refl
  all_kept (r ∷ rs) = ap (λ xs. r ∷ xs) (all_kept rs)

  group_records_are : (trace : List Rec) → group_records (channel_query channel) trace
      ≡ sorted (rows_cmp (channel_query channel).aggs) (rows_of (channel_query channel) trace)
  group_records_are trace = ap (sorted (rows_cmp (channel_query channel).aggs))
      (unsorted (rows_of (channel_query channel) (filter_map (kept (channel_query channel)) trace))
      ∙ ap (rows_of (channel_query channel)) (all_kept trace))

-- So they answer a coarser query for the trace.
pub records_answer : (attributes : List Attribute) (channel : ChannelQuery) (trace : List Rec)
    (q : Query) → IsTrace attributes channel trace → IsCoarser attributes channel q
    → AnswersFor q (group_records (channel_query channel) trace) trace
records_answer attributes channel trace q is coarser =
    let records = group_records (channel_query channel) trace in
    let alike : AnswerAlike q records trace =
    subst (λ rs. AnswerAlike q rs trace) (sym (group_records_are channel trace))
    (sorted_profile_answers attributes channel trace is q coarser
    (rows_cmp (channel_query channel).aggs)) in
    record {
      alike = alike;
      rows = same_answers q coarser.aggregated records trace alike;
    }
