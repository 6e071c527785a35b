use Rattle.std.proofs.Common.{◌≡◌, ◌≤◌, List, length, map, take, drop}
use Rattle.std.specs.List.{AllZip, flat_map}
use Rattle.cal_context.specs.Taking.{TakesMore}
use Rattle.cal_groups.specs.ContextRows.{RowMeans}
use Rattle.cal_groups.specs.Keys.{numbers_of}
use Rattle.cal_groups.proofs.rows.take_rows.Given as goal
use Rattle.cal_profile.specs.TableRows.{KeyedRow, row_record}
use Rattle.cal_table.specs.Rows.{rows_of}

-- the records in place of the rows so far were taken, and the numbers of the others' nodes are left
abbrev pub invariant-loop-place : goal.invariant-loop-place
invariant-loop-place g l = record {
  taken : (keyed : List KeyedRow)
      → AllZip (RowMeans l.nodes l.context) (rows_of l.keys l.held) keyed → TakesMore
      (g.T.Taker.has_taken l.fn.taker l.context)
      (g.T.Taker.has_taken l.taker l.context)
      (map (row_record l.channel) (take l.place keyed));
  within : l.from ≤ length l.numbers.items;
  left : drop l.from l.numbers.items ≡ flat_map (numbers_of l.nodes) (drop l.place l.keys);
  about : g.T.Taker.about l.taker ≡ g.T.Taker.about l.fn.taker;
}
