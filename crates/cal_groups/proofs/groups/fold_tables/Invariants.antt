use Rattle.std.proofs.Common.{◌≡◌, List, take}
use Rattle.std.specs.List.{AllZip}
use Rattle.cal_context.specs.Taking.{TakesMore}
use Rattle.cal_engine.specs.Standing.{HasFolded}
use Rattle.cal_groups.specs.ContextRows.{TableMeans, records_of}
use Rattle.cal_groups.proofs.groups.fold_tables.Given as goal
use Rattle.cal_profile.specs.TableRows.{KeyedRow}

-- the records in place of the rows of the tables so far were taken, for the same query
abbrev pub invariant-loop-table : goal.invariant-loop-table
invariant-loop-table l = record {
  taken : (keyed : List (List KeyedRow))
      → AllZip (TableMeans l.nodes l.context) l.tables keyed
      → TakesMore (HasFolded l.fn.fold l.context) (HasFolded l.fold l.context)
      (records_of l.channel (take l.table-index keyed));
  query : l.fold.query ≡ l.fn.fold.query;
}
