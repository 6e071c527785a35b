use Rattle.std.proofs.Common.{◌≡◌, [], length}
use Rattle.cal_rowset.specs.Filling.{names}
use Rattle.cal_tabfmt.specs.Snapshots.{KnowsPlaces}
use Rattle.cal_rowset.specs.Trails.{IsTrail}
use Rattle.cal_tabfmt.proofs.snapshot_cells.learn_attributes.Given as goal

abbrev pub invariant-loop-number : goal.invariant-loop-number
invariant-loop-number l = record {
  counted : length l.places.items ≡ l.number;
  holds : IsTrail l.fn.trail [] → IsTrail l.trail [];
  knows : KnowsPlaces l.context (names l.fn.trail) l.fn.places.items → KnowsPlaces l.context (names l.trail) l.places.items;
}
