use Rattle.std.proofs.Common.{sym}
use Rattle.cal_run.proofs.HeldLemmas.{history-HasPlaces}
use Rattle.cal_steps.proofs.boards.place_on.Goals as goal

pub operate-requires : goal.operate-requires
operate-requires c =
    history-HasPlaces c.args.script.now c.args.placed c.in-Some.op c.requires.runnable
    (sym c.in-Some.ensures)
