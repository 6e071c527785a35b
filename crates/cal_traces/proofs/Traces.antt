-- What each channel takes in a run of a valid script is a trace, for which its profile answers.
use Rattle.std.proofs.Common.{◌≡◌, ℕ, Bool, true, false, ◌||◌, ◌&&◌, List, [], ◌∷◌, ◌++◌, refl}
use Rattle.std.proofs.Common.{sym, ap, subst, ◌∙◌, true≢false, Option, None, Some, Contains}
use Rattle.std.specs.Prelude.{flat_map, if◌then◌else◌, option_map}
use Rattle.std.specs.Option.{option_or}
use Rattle.std.specs.List.{AllByRecursion, find, list_any}
use Rattle.std.specs.Option.{option_map_or}
use Rattle.std.proofs.lemmas.List.Folds.{find-append}
use Rattle.cal_profile.specs.Answers.{AnswersFor}
use Rattle.cal_profile.specs.Coarser.{AsksKept, GroupsByKept, IsCoarser, IsValue, is_kept, is_of}
use Rattle.cal_profile.specs.Coarser.{keeps_group, keeps_path}
use Rattle.cal_profile.specs.Declared.{IsSnapshot, IsTrace, props_of}
use Rattle.cal_profile.specs.Groups.{channel_query, group_records, keys_of}
use Rattle.cal_profile.proofs.ChannelRecords.{records_answer}
use Rattle.cal_profile.proofs.Lists.{all_weaker}
use Rattle.cal_ql.specs.declared.names.KernelName as kernels
use Rattle.cal_ql.specs.declared.names.KernelName.TheVariants as kernel
use Rattle.cal_ql.specs.declared.query.Agg.{Agg}
use Rattle.cal_ql.specs.declared.query.Cond.{Cond}
use Rattle.cal_ql.specs.declared.query.Query.{Query}
use Rattle.cal_rowset.specs.Cells.{is_path}
use Rattle.cal_rowset.specs.Texts.{is_same}
use Rattle.cal_run.specs.Runs.{snapshots}
use Rattle.cal_run.specs.Snapshots.{duration, event_of, inclusive_duration, probe_of}
use Rattle.cal_script.specs.Reading.{IsValidScript}
use Rattle.cal_script.specs.declared.journal.Journal.{Journal}
use Rattle.cal_script.specs.declared.script.Channel.{Channel}
use Rattle.cal_script.specs.declared.script.ChannelQuery.{ChannelQuery}
use Rattle.cal_script.specs.declared.script.ProbeKind.TheVariants as probe
use Rattle.cal_script.specs.declared.script.Script.{Script}
use Rattle.cal_spelling.proofs.ReaderLines.{valid_writable}
use Rattle.cal_run.specs.RunAttributes.{added_attributes, events_of, run_attributes}
use Rattle.cal_traces.proofs.ChannelNames.{script_named}
use Rattle.cal_traces.proofs.Names.{all_apart}
use Rattle.cal_traces.proofs.RunSums.{run_sums, shot_snapshot}
use Rattle.cal_traces.proofs.Shots.{IsShot}
use Rattle.cal_traces.proofs.Walks.{snapshots_shots}
use Rattle.cal_valid.proofs.Runnable.{valid_runnable}
use Rattle.cal_value.specs.Props.{is_nested, is_reference}
use Rattle.cal_value.specs.declared.attribute.Attribute.{Attribute}
use Rattle.cal_value.specs.declared.props.Props.{Props}
use Rattle.cal_value.specs.declared.record.Rec.{Rec}
use Rattle.cal_words.specs.declared.op.OpCode.TheVariants as code

pub run_trace : (script : Script) → IsValidScript script → (journal : Journal) (channel : Channel)
    → Contains script.channels channel
    → IsTrace (run_attributes script) channel.query (snapshots script journal channel)
run_trace script valid journal channel there =
    let apart = all_apart script.attributes (valid_writable script valid).header.each_attribute in
    let named = script_named script valid channel there in
    let taken = snapshots_shots script (valid_runnable script valid) journal channel in
    let trace = snapshots script journal channel in
    record {
      named = named;
      snapshots = all_weaker (IsShot script) (IsSnapshot (run_attributes script))
          (shot_snapshot script apart) trace taken.shots;
      sums = run_sums script apart channel.query named trace taken.shots taken.few;
    }

-- ---- what a channel keeps by the script's own attributes

-- a property that no attribute of a service has
abbrev IsOwn : (Props → Bool) → Type 0
IsOwn test = test (record { 0 = 65 }) ≡ false

module _ (test : Props → Bool) (own : IsOwn test) (name : List ℕ) where
  abbrev tested : List Attribute → Bool
  tested attributes = is_of attributes test name

  one_added : (a : Attribute) (attributes : List Attribute) → a.props ≡ record { 0 = 65 }
      → tested attributes ≡ false → tested (a ∷ attributes) ≡ false
  one_added a attributes props rest = by (is_same a.name name) refl
    where
      by : (b : Bool) → is_same a.name name ≡ b → tested (a ∷ attributes) ≡ false
      by true e = rw e (ap test props ∙ own)
      by false e = rw e rest

  events_tested : (attributes : List Attribute) → tested (flat_map events_of attributes) ≡ false
  events_tested [] = refl
  events_tested (a ∷ attributes) =
      let others = flat_map events_of attributes in
      one_added (event_of code.Begin a) (event_of code.End a ∷ event_of code.Set a ∷ others) refl
      (one_added (event_of code.End a) (event_of code.Set a ∷ others) refl
      (one_added (event_of code.Set a) others refl (events_tested attributes)))

  added_tested : (attributes : List Attribute) → tested (added_attributes attributes) ≡ false
  added_tested attributes =
      let others = flat_map events_of attributes in
      let probes = probe_of probe.Depth ∷ probe_of probe.Count ∷ others in
      one_added duration (inclusive_duration ∷ probes) refl
      (one_added inclusive_duration probes refl
      (one_added (probe_of probe.Depth) (probe_of probe.Count ∷ others) refl
      (one_added (probe_of probe.Count) others refl (events_tested attributes))))

  -- a name is that of such an attribute of the run where it is that of one of the script
  run_tested : (script : Script) → is_of (run_attributes script) test name
      ≡ is_of script.attributes test name
  run_tested script =
      ap (λ found. option_map_or test (option_map (λ (a : Attribute). a.props) found) false)
      (find-append (λ (a : Attribute). is_same a.name name) script.attributes
      (added_attributes script.attributes))
      ∙ by (find (λ (a : Attribute). is_same a.name name) script.attributes)
    where
      by : (found : Option Attribute)
          → option_map_or test (option_map (λ (a : Attribute). a.props) (option_or found
          (find (λ (a : Attribute). is_same a.name name) (added_attributes script.attributes))))
          false
          ≡ option_map_or test (option_map (λ (a : Attribute). a.props) found) false
      by None = added_tested script.attributes
      by (Some a) = refl

module _ (script : Script) where
  kept_same : (keys : Option (List (List ℕ))) (name : List ℕ)
      → is_kept (run_attributes script) keys name ≡ is_kept script.attributes keys name
  kept_same None name = run_tested is_reference refl name script
  kept_same (Some keys) name =
      ap (λ b. list_any (is_same name) keys || (list_any is_path keys && b))
      (run_tested is_nested refl name script)

  group_same : (keys : Option (List (List ℕ))) (name : List ℕ)
      → keeps_group (run_attributes script) keys name ≡ keeps_group script.attributes keys name
  group_same keys name =
      ap (λ b. if is_path name then keeps_path keys else b) (kept_same keys name)

  groups_kept : (keys names : Option (List (List ℕ))) → GroupsByKept script.attributes keys names
      → GroupsByKept (run_attributes script) keys names
  groups_kept keys None is = is
  groups_kept keys (Some names) is = all_weaker
      (λ name. keeps_group script.attributes keys name ≡ true)
      (λ name. keeps_group (run_attributes script) keys name ≡ true)
      (λ name e. group_same keys name ∙ e) names is

  module _ (channel : ChannelQuery) where
    value_kept : (name : List ℕ) → IsValue script.attributes channel name
        → IsValue (run_attributes script) channel name
    value_kept name is = record {
      value = is.value;
      apart = kept_same (keys_of channel) name ∙ is.apart;
    }

    asks_kept : (k : kernels.KernelName) (name : List ℕ) → AsksKept script.attributes channel k name
        → AsksKept (run_attributes script) channel k name
    asks_kept kernel.Count name is = is
    asks_kept kernel.Avg name is = is
    asks_kept kernel.Sum name is = value_kept name is
    asks_kept kernel.Min name is = value_kept name is
    asks_kept kernel.Max name is = value_kept name is
    asks_kept kernel.Inclusive name is = value_kept name is
    asks_kept kernel.Percent name is = value_kept name is

    coarser_in_run : (q : Query) → IsCoarser script.attributes channel q
        → IsCoarser (run_attributes script) channel q
    coarser_in_run q is = record {
      plain = is.plain;
      conds = all_weaker
          (λ (cond : Cond). is_kept script.attributes (keys_of channel) cond.name ≡ true)
          (λ (cond : Cond). is_kept (run_attributes script) (keys_of channel) cond.name ≡ true)
          (λ cond e. kept_same (keys_of channel) cond.name ∙ e) q.conds is.conds;
      group = groups_kept (keys_of channel) q.group is.group;
      aggregated = is.aggregated;
      aggs = all_weaker
          (λ (agg : Agg). AsksKept script.attributes channel agg.kernel agg.attr)
          (λ (agg : Agg). AsksKept (run_attributes script) channel agg.kernel agg.attr)
          (λ agg e. asks_kept agg.kernel agg.attr e) q.aggs is.aggs;
    }

-- So the records of its groups answer each coarser query for its snapshots.
pub profiles_answer : (script : Script) → IsValidScript script → (journal : Journal)
    (channel : Channel) (q : Query) → Contains script.channels channel
    → IsCoarser script.attributes channel.query q
    → AnswersFor q (group_records (channel_query channel.query) (snapshots script journal channel))
    (snapshots script journal channel)
profiles_answer script valid journal channel q there coarser =
    records_answer (run_attributes script) channel.query (snapshots script journal channel) q
    (run_trace script valid journal channel there)
    (coarser_in_run script channel.query q coarser)
