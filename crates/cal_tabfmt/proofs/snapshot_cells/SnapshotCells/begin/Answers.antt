use Rattle.cal_tabfmt.proofs.StandLemmas.{stand-kept, stand-root}
use Rattle.cal_tabfmt.proofs.snapshot_cells.SnapshotCells.begin.Goals as goal

pub returns-then-self-node_count-clause-stand : goal.returns-then-self-node_count-clause-stand
returns-then-self-node_count-clause-stand c =
    λ ready. stand-root c.args.context.now c.leave.new.self c.has_each_once.ensures c.leave.ensures.node c.leave.ensures.depth (c.leave.ensures.trail _ ready.trail)
    (rw (c.leave.ensures.names, c.leave.ensures.places) ready.places)

pub returns-else-self-node_count-clause-stand : goal.returns-else-self-node_count-clause-stand
returns-else-self-node_count-clause-stand c =
    λ ready. stand-kept c.args.context.now c.args.self.now c.keep.new.self c.has_each_once.ensures ready c.keep.ensures.names c.keep.ensures.kept
