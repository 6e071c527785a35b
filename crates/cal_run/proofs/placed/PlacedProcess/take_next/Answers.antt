use Rattle.std.proofs.Common.{◌+◌, refl}
use Rattle.cal_run.proofs.PlainLemmas.{process-more}
use Rattle.cal_run.proofs.placed.PlacedProcess.take_next.Goals as goal

pub returns-clause-process : goal.returns-clause-process
returns-clause-process c =
    let p = c.placed_at-placed.result in
    process-more c.args.script.now c.args.history.now c.args.self.now
    (record { board = c.outline_placed.new.board; count = c.args.self.now.count + 1 }) p
    c.requires.process (c.placed_at-placed.ensures p) c.requires.more
    c.in_ok-outline_placed.ensures refl
