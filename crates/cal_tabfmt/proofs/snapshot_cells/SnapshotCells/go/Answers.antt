use Rattle.cal_context.specs.Tree.{path_at}
use Rattle.cal_rowset.specs.Trails.{IsTrail}
use Rattle.cal_tabfmt.proofs.snapshot_cells.SnapshotCells.go.Goals as goal

pub returns-clause-stand : goal.returns-clause-stand
returns-clause-stand c =
    λ knowing.
    let has : IsTrail c.add_links.new.trail (path_at c.args.context.now c.args.node) =
    rw c.in_ok-walk.ensures.down (rw c.deref-2.ensures.value at
    (c.in_ok-add_links.ensures.added _ (rw (c.deref.ensures.value, c.walk.ensures.names) knowing.places) (c.in_ok-walk.ensures.up knowing.stand.trail))) in
    record {
      stand = record { trail = has; depth = c.count-self.ensures _ has; places = rw (c.add_links.ensures.names, c.walk.ensures.names) knowing.stand.places };
      places = rw (c.add_links.ensures.names, c.walk.ensures.names) knowing.places;
    }
