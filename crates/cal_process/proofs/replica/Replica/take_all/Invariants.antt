use Rattle.std.proofs.Common.{◌-◌, List}
use Rattle.cal_once.specs.Seats.{view}
use Rattle.cal_once.specs.Views.{IsLater}
use Rattle.cal_plog.specs.Seats.{slots_of}
use Rattle.cal_words.specs.declared.op.OpRec.{OpRec}
use Rattle.cal_process.specs.Takings.{KeepsLooks, MayTake, TakesMore}
use Rattle.cal_process.specs.Replicas.{HasTaken}
use Rattle.cal_process.proofs.replica.Replica.take_all.Given as goal

-- whatever was taken in before, more is now
abbrev pub invariant-loop : goal.invariant-loop
invariant-loop l = record {
  some : (h : List OpRec) × MayTake l.common l.seat l.self h;
  more : (h : List OpRec) → HasTaken l.common l.fn.seat l.fn.self h
      → TakesMore l.common l.fn.seat l.seat l.fn.self l.self h;
  looks : KeepsLooks l.fn.self l.self;
  later : IsLater (view l.fn.seat) (view l.seat);
}

abbrev pub decreases-loop : goal.decreases-loop
decreases-loop l = slots_of l.common.log - l.self.seen
