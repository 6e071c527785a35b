use Rattle.std.proofs.Common.{◌≡◌, ◌++◌, List}
use Rattle.cal_keeping.specs.Runners.{IsRunner, IsSomeRunner, SameServices, lines_left}
use Rattle.cal_replay.specs.Steps.{HasRead}
use Rattle.cal_words.specs.declared.op.OpRec.{OpRec}
use Rattle.cal_keeping.proofs.runner.Runner.run.Given as goal

-- whatever it had seen before, it has seen more now
abbrev pub invariant-loop-alloc : goal.invariant-loop-alloc
invariant-loop-alloc g l =
    let clock = g.K.Clock in
    let hand = g.H.PartHand in
    record {
      some : IsSomeRunner hand.account hand.takes l.shared l.self;
      more : (h : List OpRec) → IsRunner hand.account hand.takes l.shared l.fn.self h
          → (ops : List OpRec) × IsRunner hand.account hand.takes l.shared l.self (h ++ ops);
      number : l.self.worker.thread.number ≡ l.fn.self.worker.thread.number;
      services : SameServices hand.stays l.fn.self.channels l.self.channels;
      start : l.self.worker.note.start ≡ l.fn.self.worker.note.start;
      read : HasRead l.shared clock.given l.fn.clock l.clock l.fn.self.worker l.self.worker;
    }

abbrev pub decreases-loop-alloc : goal.decreases-loop-alloc
decreases-loop-alloc g l = lines_left l.shared l.self.worker
