use Rattle.std.proofs.Common.{◌≡◌, List}
use Rattle.cal_once.specs.Seats.{view}
use Rattle.cal_once.specs.Views.{IsLater}
use Rattle.cal_process.specs.Replicas.{HasTaken}
use Rattle.cal_process.specs.Takings.{KeepsLooks, MayTake, TakesMore}
use Rattle.cal_words.specs.declared.op.OpRec.{OpRec}
use Rattle.cal_process.proofs.replica.Replica.take_to.Given as goal

-- whatever was taken in before, more is now
abbrev pub invariant-loop-next : goal.invariant-loop-next
invariant-loop-next l = record {
  some : (h : List OpRec) × MayTake l.common l.seat l.self h;
  more : (h : List OpRec) → HasTaken l.common l.fn.seat l.fn.self h
      → TakesMore l.common l.fn.seat l.seat l.fn.self l.self h;
  seen : l.self.seen ≡ l._next;
  looks : KeepsLooks l.fn.self l.self;
  later : IsLater (view l.fn.seat) (view l.seat);
}
