use Rattle.std.proofs.Common.{sym}
use Rattle.cal_run.proofs.HeldLemmas.{history-HasPlaces}
use Rattle.cal_run.proofs.placed.outline_placed.Goals as goal

pub operate_outline-requires-clause-places : goal.operate_outline-requires-clause-places
operate_outline-requires-clause-places c =
    history-HasPlaces c.args.script.now c.args.placed c.in-Some.op c.requires.runnable
    (sym c.in-Some.ensures)
