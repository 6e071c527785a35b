use Rattle.std.proofs.lemmas.Result.{on_ok_weaker}
use Rattle.cal_tabfmt.proofs.StandLemmas.{filled-more}
use Rattle.cal_tabfmt.proofs.snapshot_cells.SnapshotCells.fill.Goals as goal

pub returns : goal.returns
returns c =
    on_ok_weaker c.add_immediates.result
    (λ added ready.
    let filled = rw c.deref.ensures.value at (c.in_ok-add_paths.ensures (c.in_ok-learn.ensures.stand (c.begin.ensures.stand ready))) in
    filled-more c.args.context.now c.add_paths.new.self c.add_immediates.new.trail _ _ filled c.add_immediates.ensures.names
    (rw c.deref-3.ensures.value at (added _ (rw c.deref-2.ensures.value filled.places) filled.trail)))
    c.add_immediates.ensures.added
