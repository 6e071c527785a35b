-- What a fold over snapshots holds of the groups of records.
use Rattle.std.specs.Prelude.{◌≡◌, true, false, List, map}
use Rattle.std.specs.List.{All}
use Rattle.cal_context.specs.Tree.{Tree}
use Rattle.cal_filter.specs.Known.{KnowsSoMany}
use Rattle.cal_filter.specs.declared.counts.Counts.{Counts}
use Rattle.cal_ql.specs.declared.query.Query.{Query}
use Rattle.cal_rowset.specs.NumberedRows.{NumberedRow}
use Rattle.cal_value.specs.declared.record.Rec.{Rec}
use Rattle.cal_parts.specs.Counters.{AreCounters, AreReadyCounters}
use Rattle.cal_engine.specs.Folding.{groups_over}
use Rattle.cal_keys.specs.Keys.{IsKeyIn, names_in, room_of}
use Rattle.cal_engine.specs.Numbered.{AreGroups, Numbered, grouped_in}
use Rattle.cal_parts.specs.Readings.{reading_of}
use Rattle.cal_engine.specs.Rows.{is_aggregated}
use Rattle.cal_keys.specs.Sieves.{IsReadySieve, IsSieve, SiftsSoMany}
use Rattle.cal_keys.specs.SnapshotRows.{AreRows}
use Rattle.cal_parts.specs.declared.counters.Counters.{Counters}
use Rattle.cal_keys.specs.declared.sieve.Sieve.{Sieve}
use Rattle.cal_engine.specs.declared.tally.Tally.{Tally}

-- all that counters seek by, and the sieve, know at least so many attributes and nodes
pub record AllKnowSoMany (n : Counts) (cs : Counters) (s : Sieve) : Type 0 where
  pub counters : All (KnowsSoMany n) cs.seekers.items
  pub sieve : SiftsSoMany n s

-- The groups by numbers are those of these records, and what is kept beside numbers is right.
pub record IsTally (t : Tree) (q : Query) (rs : List Rec) (y : Tally) : Type 0 where
  pub counters : AreCounters t (map reading_of q.aggs) y.counters
  pub sieve : IsSieve t y.own (names_in q.group) y.sieve
  pub keys : All (IsKeyIn (room_of q.group t y.own)) y.groups.keys
  pub groups : grouped_in (room_of q.group t y.own) y.groups ≡ groups_over q rs
  pub known : AllKnowSoMany y.known y.counters y.sieve

-- and its counters and the sieve know the whole context
pub record IsReadyTally (t : Tree) (q : Query) (rs : List Rec) (y : Tally) : Type 0 where
  pub is : IsTally t q rs y
  pub counters : AreReadyCounters t (map reading_of q.aggs) y.counters
  pub sieve : IsReadySieve t y.own (names_in q.group) y.sieve

-- A query's rows or groups are those of the kept records.
pub record Holds (t : Tree) (q : Query) (ks : List Rec) (y : Tally) (made : List NumberedRow)
    : Type 0 where
  pub groups : is_aggregated q ≡ true → IsTally t q ks y
  pub rows : is_aggregated q ≡ false → AreRows t made ks

-- The same in the tree in which the keys of groups lie.
pub record HoldsIn (t : Tree) (q : Query) (ks : List Rec) (g : Numbered) (made : List NumberedRow)
    : Type 0 where
  pub groups : is_aggregated q ≡ true → AreGroups t q ks g
  pub rows : is_aggregated q ≡ false → AreRows t made ks
