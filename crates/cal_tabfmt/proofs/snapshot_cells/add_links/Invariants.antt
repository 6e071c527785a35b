use Rattle.std.proofs.Common.{◌≡◌, List, ◌++◌, map, take}
use Rattle.cal_value.specs.declared.attribute.Entry.{Entry}
use Rattle.cal_rowset.specs.Filling.{names}
use Rattle.cal_rowset.specs.Links.{link_entry}
use Rattle.cal_tabfmt.specs.Snapshots.{KnowsAll}
use Rattle.cal_rowset.specs.Trails.{IsTrail}
use Rattle.cal_tabfmt.proofs.snapshot_cells.add_links.Given as goal

abbrev pub invariant-loop-link : goal.invariant-loop-link
invariant-loop-link l = record {
  same : names l.trail ≡ names l.fn.trail;
  added : (entries : List Entry) → KnowsAll l.context (names l.fn.trail) l.places → IsTrail l.fn.trail entries
      → IsTrail l.trail (entries ++ map (link_entry l.context) (take l.link-index l.links));
}
