-- The records of a world. (Giltmoth's order.)
use Rattle.std.specs.Prelude.{ℕ, List, [], ◌++◌, flat_map, if◌then◌else◌}
use Rattle.std.specs.List.{enumerate_from}
use Rattle.cal_events.specs.Keeping.{booked_in, traced_in}
use Rattle.cal_events.specs.Worlds.{World}
use Rattle.cal_profile.specs.Groups.{channel_query, group_records}
use Rattle.cal_records.specs.Records.{globals_of}
use Rattle.cal_script.specs.declared.script.Channel.{Channel}
use Rattle.cal_script.specs.declared.script.Script.{Script}
use Rattle.cal_value.specs.declared.record.Rec.{Rec}
use Rattle.cal_value.specs.declared.record.Records.{Records}

module _ (w : World) (c : ℕ) (channel : Channel) where
  -- with trace, the snapshots that the traces have of a channel
  abbrev pub traced_rows : List Rec
  traced_rows = if channel.trace then traced_in w c else []

  -- with aggregate, the records of the groups of what its book has and the threads keep
  abbrev pub grouped_rows : List Rec
  grouped_rows = if channel.aggregate
      then group_records (channel_query channel.query) (booked_in w c) else []

-- the rows of a channel: the trace, and then the groups
abbrev pub rows_at : World → ℕ × Channel → List Rec
rows_at w c = traced_rows w c.0 c.1 ++ grouped_rows w c.0 c.1

-- the rows of the channels in order, and the globals
abbrev pub records_in : Script → World → Records
records_in script w = record {
  rows = flat_map (rows_at w) (enumerate_from 0 script.channels);
  globals = globals_of script.globals;
}
