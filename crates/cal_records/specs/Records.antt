-- The records of a run, by its script and its journal. (Giltmoth's order.)
use Rattle.std.specs.Prelude.{List, [], ◌∷◌, ◌++◌, filter, flat_map, map, if◌then◌else◌}
use Rattle.cal_profile.specs.Groups.{channel_query, group_records}
use Rattle.cal_run.specs.Runs.{snapshots}
use Rattle.cal_script.specs.declared.journal.Journal.{Journal}
use Rattle.cal_script.specs.declared.script.Channel.{Channel}
use Rattle.cal_script.specs.declared.script.Script.{Script}
use Rattle.cal_value.specs.Props.{is_as_value, is_reference}
use Rattle.cal_value.specs.declared.attribute.Entry.{Entry}
use Rattle.cal_value.specs.declared.record.Rec.{Rec}
use Rattle.cal_value.specs.declared.record.Records.{Records}

module _ (script : Script) (journal : Journal) where
  -- with trace, the snapshots of a channel
  abbrev pub traced : Channel → List Rec
  traced channel = if channel.trace then snapshots script journal channel else []

  -- with aggregate, the records of its groups
  abbrev pub grouped : Channel → List Rec
  grouped channel = if channel.aggregate
      then group_records (channel_query channel.query) (snapshots script journal channel) else []

  -- the rows of a channel: the trace, and then the groups
  abbrev pub channel_rows : Channel → List Rec
  channel_rows channel = traced channel ++ grouped channel

  -- the rows of a run: those of each channel in order
  abbrev pub run_rows : List Rec
  run_rows = flat_map channel_rows script.channels

-- The globals of a script: an entry of a reference attribute is a path by itself, and one of
-- another attribute an immediate.
abbrev pub globals_of : List Entry → Rec
globals_of entries = record {
  paths = map (λ e. e ∷ []) (filter (λ e. is_reference e.attr.props) entries);
  imms = filter (λ e. is_as_value e.attr.props) entries;
}

-- The records of a run.
abbrev pub records_of : Script → Journal → Records
records_of script journal =
    record { rows = run_rows script journal; globals = globals_of script.globals }
