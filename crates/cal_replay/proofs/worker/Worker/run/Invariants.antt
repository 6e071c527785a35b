use Rattle.std.proofs.Common.{◌≡◌, ◌-◌, ◌++◌, List, length}
use Rattle.cal_replay.specs.Steps.{HasRead}
use Rattle.cal_replay.specs.Workers.{IsWorker, lines_of, script_of}
use Rattle.cal_words.specs.declared.op.OpRec.{OpRec}
use Rattle.cal_replay.proofs.worker.Worker.run.Given as goal

-- whatever it had seen before, it has seen more now
abbrev pub invariant-loop-alloc : goal.invariant-loop-alloc
invariant-loop-alloc g l =
    let clock = g.K.Clock in
    record {
      some : (h : List OpRec) × IsWorker l.shared l.self h;
      more : (h : List OpRec) → IsWorker l.shared l.fn.self h
          → (ops : List OpRec) × IsWorker l.shared l.self (h ++ ops);
      number : l.self.thread.number ≡ l.fn.self.thread.number;
      start : l.self.note.start ≡ l.fn.self.note.start;
      keeper : g.F.Keeper.thread l.keeper ≡ g.F.Keeper.thread l.fn.keeper;
      ready : g.F.Keeper.ready (script_of l.shared) l.keeper l.shared.timers.some
          (length (lines_of (script_of l.shared) l.self.thread.number) - length l.self.note.lines);
      read : HasRead l.shared clock.given l.fn.clock l.clock l.fn.self l.self;
    }

abbrev pub decreases-loop-alloc : goal.decreases-loop-alloc
decreases-loop-alloc g l =
    length (lines_of (script_of l.shared) l.self.thread.number) - length l.self.note.lines
