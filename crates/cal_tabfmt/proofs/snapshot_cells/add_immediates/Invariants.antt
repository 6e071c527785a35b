use Rattle.std.proofs.Common.{◌≡◌, List, ◌++◌, map, take}
use Rattle.cal_value.specs.declared.attribute.Entry.{Entry}
use Rattle.cal_context.specs.Snapshots.{entry_of}
use Rattle.cal_rowset.specs.Filling.{names}
use Rattle.cal_tabfmt.specs.Snapshots.{KnowsAll}
use Rattle.cal_rowset.specs.Trails.{IsTrail}
use Rattle.cal_tabfmt.proofs.snapshot_cells.add_immediates.Given as goal

abbrev pub invariant-loop-imm : goal.invariant-loop-imm
invariant-loop-imm l = record {
  same : names l.trail ≡ names l.fn.trail;
  added : (entries : List Entry) → KnowsAll l.context (names l.fn.trail) l.places → IsTrail l.fn.trail entries
      → IsTrail l.trail (entries ++ map (entry_of l.context) (take l.imm-index l.imms));
}
