use Rattle.std.proofs.Common.{◌≡◌, length, map, take}
use Rattle.cal_value.specs.declared.record.Rec.{Rec}
use Rattle.cal_rowset.specs.Showing.{ShowsRow}
use Rattle.cal_jsonfmt.specs.Choosing.{AreWithin, members_of, value_at}
use Rattle.cal_jsonfmt.specs.Json.{members}
use Rattle.cal_jsonfmt.proofs.objects.choose.Given as goal

-- the columns so far are chosen from
abbrev pub invariant-loop-column : goal.invariant-loop-column
invariant-loop-column l = record {
  counted : length l.chosen.items ≡ length l.keys.names.items;
  within : AreWithin l.columns l.chosen.items;
  members : (row : Rec) → ShowsRow l.shown l.columns row → members_of l.keys.names.items (map (value_at l.columns row) l.chosen.items) ≡ members (take l.column l.columns) row;
}
