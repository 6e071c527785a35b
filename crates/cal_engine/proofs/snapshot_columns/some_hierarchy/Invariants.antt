use Rattle.std.proofs.Common.{◌≡◌, false, map, take}
use Rattle.std.specs.List.{list_any}
use Rattle.cal_rowset.specs.NumberedRows.{in_order, meant}
use Rattle.cal_rowset.specs.Hierarchy.{hierarchy}
use Rattle.cal_keys.specs.Groups.{has_entries}
use Rattle.cal_engine.specs.Visiting.{IsPlain, MetWith}
use Rattle.cal_engine.proofs.snapshot_columns.some_hierarchy.Given as goal

-- no row so far has entries of the hierarchy
abbrev pub invariant-loop-place : goal.invariant-loop-place
invariant-loop-place l = record {
  met : MetWith IsPlain l.context l.visits;
  none : list_any (λ row. has_entries (hierarchy row)) (map (meant l.context) (in_order l.rows (take l.place-index l.order))) ≡ false;
}
