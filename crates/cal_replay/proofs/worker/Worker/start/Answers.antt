use Rattle.std.proofs.Common.{[], ap}
use Rattle.cal_replay.proofs.Starting.{starts-worker}
use Rattle.cal_script.specs.declared.journal.ThreadNote.{ThreadNote}
use Rattle.cal_replay.proofs.worker.Worker.start.Goals as goal

pub returns-clause-worker : goal.returns-clause-worker
returns-clause-worker g c =
    let h = c.requires.worker in
    starts-worker c.args.shared.now _ h.thread h.timed (ap (λ (n : ThreadNote). n.lines) h.noted)
    (c.read_start-self.ensures.read [])

pub returns-clause-noted : goal.returns-clause-noted
returns-clause-noted g c = ap (λ (n : ThreadNote). n.lines) c.requires.worker.noted
