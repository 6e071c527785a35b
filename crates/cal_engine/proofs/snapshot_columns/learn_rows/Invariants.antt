use Rattle.std.proofs.Common.{◌≡◌, map, take}
use Rattle.std.specs.List.{flat_map}
use Rattle.cal_rowset.specs.NumberedRows.{in_order, meant}
use Rattle.cal_rowset.specs.Hierarchy.{other_entries}
use Rattle.cal_engine.specs.Learning.{learned}
use Rattle.cal_engine.specs.Visiting.{IsLearned, KnowsNames, MetWith}
use Rattle.cal_engine.proofs.snapshot_columns.learn_rows.Given as goal

abbrev pub invariant-loop-place : goal.invariant-loop-place
invariant-loop-place l = record {
  knows : KnowsNames l.context l.shown;
  met : MetWith (IsLearned l.shown.names.keys) l.context l.visits;
  names : l.shown.names.keys ≡ learned l.initial.shown.names.keys
      (flat_map (λ row. map (λ e. e.attr.name) (other_entries row)) (map (meant l.context) (in_order l.rows (take l.place-index l.order))));
}
