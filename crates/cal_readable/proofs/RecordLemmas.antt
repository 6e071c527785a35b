-- The records of a run can be read again.
use Rattle.std.proofs.Common.{◌≤◌, Bool, true, false, List, [], ◌∷◌, ◌++◌}
use Rattle.std.proofs.Common.{filter, length, map, sym, ap, subst, arith}
use Rattle.std.specs.Prelude.{flat_map, if◌then◌else◌}
use Rattle.std.specs.List.{AllByRecursion, filter_map}
use Rattle.std.proofs.lemmas.List.Elements.{All-from_recursion, recursion_from_All}
use Rattle.cal_engine.specs.Answers.{answer_of}
use Rattle.cal_keys.specs.Groups.{group_of, groups_of, is_group}
use Rattle.cal_engine.specs.Rows.{is_aggregated, results, row_of, rows_of}
use Rattle.cal_engine.specs.Sorting.{row_cmp}
use Rattle.cal_filter.specs.Kept.{kept}
use Rattle.cal_profile.specs.Groups.{channel_query, group_records, rows_cmp}
use Rattle.cal_profile.proofs.ChannelRecords.{all_kept}
use Rattle.cal_profile.proofs.Lists.{all-filter, all_weaker}
use Rattle.cal_records.specs.Records.{channel_rows, globals_of, grouped, records_of, run_rows, traced}
use Rattle.cal_run.specs.Entries.{HasReadings, IsSnapshot}
use Rattle.cal_run.specs.Runs.{snapshots}
use Rattle.cal_run.proofs.EntryLemmas.{snapshots-are, snapshots-few}
use Rattle.cal_readable.proofs.EntryLemmas.{global-plain, said-readable, snapshot-readable}
use Rattle.cal_readable.proofs.GroupLemmas.{group-readable}
use Rattle.cal_readable.proofs.Lists.{all-append, all-firsts, all-map, all-sorted}
use Rattle.cal_readable.proofs.Numbers.{IsSeen, snapshot-seen}
use Rattle.cal_readable.proofs.Results.{results-readable}
use Rattle.cal_script.specs.Valid.{IsGlobalOf, IsRunnable}
use Rattle.cal_script.specs.declared.journal.Journal.{Journal}
use Rattle.cal_script.specs.declared.script.Channel.{Channel}
use Rattle.cal_script.specs.declared.script.ChannelQuery.{ChannelQuery}
use Rattle.cal_script.specs.declared.script.Script.{Script}
use Rattle.cal_stream.specs.Readable.{AreReadable, IsPlain, IsReadableEntry, IsReadablePath}
use Rattle.cal_stream.specs.Readable.{IsReadableRecord}
use Rattle.cal_value.specs.Props.{is_as_value, is_reference}
use Rattle.cal_value.specs.declared.attribute.Entry.{Entry}
use Rattle.cal_value.specs.declared.record.Rec.{Rec}

module _ (script : Script) (runnable : IsRunnable script) where
  -- ---- the rows of a channel

  abbrev AreRead : List Rec → Type 0
  AreRead rs = AllByRecursion IsReadableRecord rs

  module _ (channel : ChannelQuery) (trace : List Rec)
      (taken : AllByRecursion (IsSnapshot script) trace) (few : length trace ≤ 1048576) where
    seen : AllByRecursion (IsSeen script runnable) trace
    seen = all_weaker (IsSnapshot script) (IsSeen script runnable)
        (snapshot-seen script runnable) trace taken

    trace-read : AreRead trace
    trace-read = all_weaker (IsSnapshot script) IsReadableRecord
        (snapshot-readable script runnable) trace taken

    groups-read : AreRead (groups_of (channel_query channel).group trace)
    groups-read = all-firsts IsReadableRecord is_group
        (map (group_of (channel_query channel).group) trace)
        (all-map (IsSnapshot script) IsReadableRecord (group_of (channel_query channel).group)
        (group-readable script runnable (channel_query channel).group) trace taken)

    row-read : (group : Rec) → IsReadableRecord group
        → IsReadableRecord (row_of (channel_query channel) trace group)
    row-read group is = record {
      paths = is.paths;
      imms = All-from_recursion IsReadableEntry
          (group.imms ++ results (channel_query channel) trace group)
          (all-append IsReadableEntry group.imms (results (channel_query channel) trace group)
          (recursion_from_All IsReadableEntry group.imms is.imms)
          (results-readable script runnable channel trace seen few group));
    }

    rows-read : AreRead (rows_of (channel_query channel) trace)
    rows-read = by (is_aggregated (channel_query channel))
      where
        by : (b : Bool) → AreRead (if b then map (row_of (channel_query channel) trace)
            (groups_of (channel_query channel).group trace) else trace)
        by true = all-map IsReadableRecord IsReadableRecord (row_of (channel_query channel) trace)
            row-read (groups_of (channel_query channel).group trace) groups-read
        by false = trace-read

    group_records-read : AreRead (group_records (channel_query channel) trace)
    group_records-read =
        let kept_all = subst (λ rs. AreRead (rows_of (channel_query channel) rs))
        (sym (all_kept channel trace)) rows-read in
        all-sorted IsReadableRecord (rows_cmp (channel_query channel).aggs)
        (answer_of (channel_query channel) trace).rows.rows
        (all-sorted IsReadableRecord (row_cmp [])
        (rows_of (channel_query channel) (filter_map (kept (channel_query channel)) trace))
        kept_all)

  -- ---- a run

  module _ (journal : Journal) (readings : HasReadings journal) where
    channel-read : (channel : Channel) → AreRead (channel_rows script journal channel)
    channel-read channel = all-append IsReadableRecord (traced script journal channel)
        (grouped script journal channel) (by channel.trace) (each channel.aggregate)
      where
        taken : AllByRecursion (IsSnapshot script) (snapshots script journal channel)
        taken = recursion_from_All (IsSnapshot script) (snapshots script journal channel)
            (snapshots-are script journal runnable readings channel)

        by : (b : Bool) → AreRead (if b then snapshots script journal channel else [])
        by true = trace-read channel.query (snapshots script journal channel) taken
            (snapshots-few script journal runnable channel)
        by false = tt

        each : (b : Bool) → AreRead (if b then group_records (channel_query channel.query)
            (snapshots script journal channel) else [])
        each true = group_records-read channel.query (snapshots script journal channel) taken
            (snapshots-few script journal runnable channel)
        each false = tt

    rows-all-read : (channels : List Channel)
        → AreRead (flat_map (channel_rows script journal) channels)
    rows-all-read [] = tt
    rows-all-read (channel ∷ channels) = all-append IsReadableRecord
        (channel_rows script journal channel) (flat_map (channel_rows script journal) channels)
        (channel-read channel) (rows-all-read channels)

  -- ---- globals

  global-path : (e : Entry) → IsGlobalOf script.attributes e → IsReadablePath (e ∷ [])
  global-path e is = record {
    some = λ none. absurd (omega (arith, ap length none));
    short = omega arith;
    entries = All-from_recursion IsReadableEntry (e ∷ []) (said-readable e is.said, tt);
    plain = All-from_recursion (λ (x : Entry). IsPlain x.attr) (e ∷ [])
        (global-plain script runnable e is, tt);
  }

  globals-read : IsReadableRecord (globals_of script.globals)
  globals-read = record {
    paths = All-from_recursion IsReadablePath
        (map (λ e. e ∷ []) (filter (λ e. is_reference e.attr.props) script.globals))
        (all-map (IsGlobalOf script.attributes) IsReadablePath (λ e. e ∷ []) global-path
        (filter (λ e. is_reference e.attr.props) script.globals)
        (all-filter (IsGlobalOf script.attributes) (λ e. is_reference e.attr.props) script.globals
        (recursion_from_All (IsGlobalOf script.attributes) script.globals runnable.globals)));
    imms = All-from_recursion IsReadableEntry
        (filter (λ e. is_as_value e.attr.props) script.globals)
        (all_weaker (IsGlobalOf script.attributes) IsReadableEntry
        (λ e is. said-readable e is.said)
        (filter (λ e. is_as_value e.attr.props) script.globals)
        (all-filter (IsGlobalOf script.attributes) (λ e. is_as_value e.attr.props) script.globals
        (recursion_from_All (IsGlobalOf script.attributes) script.globals runnable.globals)));
  }

-- So the records of a run, rows and globals, can be read again.
pub records-readable : (script : Script) (journal : Journal) → IsRunnable script
    → HasReadings journal → AreReadable (records_of script journal)
records-readable script journal runnable readings = record {
  rows = All-from_recursion IsReadableRecord (run_rows script journal)
      (rows-all-read script runnable journal readings script.channels);
  globals = globals-read script runnable;
}
