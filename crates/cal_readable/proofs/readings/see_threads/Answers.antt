use Rattle.std.proofs.Common.{sym, subst, take}
use Rattle.std.proofs.lemmas.List.{take_all}
use Rattle.std.proofs.lemmas.List.Elements.{All-more, All-same}
use Rattle.cal_readable.specs.Seen.{HasShortReadings}
use Rattle.cal_readable.proofs.readings.see_threads.Goals as goal

pub loop-thread-preserved : goal.loop-thread-preserved
loop-thread-preserved c =
    All-more HasShortReadings c.args.threads.now c.loop-thread.thread-index c.thread-item.result
    c.loop-thread-test.true c.loop-thread.invariant
    (subst HasShortReadings c.thread-item.is c.see_thread.ensures)

pub returns : goal.returns
returns c =
    All-same HasShortReadings c.args.threads.now (take c.loop-thread.thread-index c.args.threads.now)
    (sym (take_all c.loop-thread.thread-index c.args.threads.now c.loop-thread-test.false))
    c.loop-thread.invariant
