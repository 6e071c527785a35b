use Rattle.cal_tabfmt.proofs.StandLemmas.{stand-root}
use Rattle.cal_tabfmt.proofs.snapshot_cells.SnapshotCells.learn.Goals as goal

pub returns-clause-stand : goal.returns-clause-stand
returns-clause-stand c =
    λ stand.
    let knows = c.in_ok-learn_attributes.ensures.knows (rw (c.leave.ensures.names, c.leave.ensures.places) stand.places) in
    let has = c.in_ok-learn_attributes.ensures.holds (c.leave.ensures.trail _ stand.trail) in
    record {
      stand = stand-root c.args.context.now
          (record { trail = c.learn_attributes.new.trail; places = c.learn_attributes.new.places; node = c.leave.new.self.node; depth = c.leave.new.self.depth; links = c.leave.new.self.links })
          c.has_each_once.ensures c.leave.ensures.node c.leave.ensures.depth has knows.each;
      places = knows;
    }
