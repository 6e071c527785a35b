use Rattle.std.proofs.Common.{sym}
use Rattle.cal_run.proofs.HeldLemmas.{history-HasPlaces}
use Rattle.cal_run.proofs.process.place_on.Goals as goal

pub operate-requires-clause-places : goal.operate-requires-clause-places
operate-requires-clause-places c =
    history-HasPlaces c.args.script.now c.args.placed c.in-Some.op c.requires.runnable
    (sym c.in-Some.ensures)
