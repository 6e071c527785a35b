use Rattle.std.proofs.Common.{refl}
use Rattle.cal_thread.proofs.thread.Thread.moment.Goals as goal

pub returns : goal.returns
returns c = record {
  shows = λ common h state s. record {
    mine = s.mine;
    process = s.taken.held;
    readings = s.readings;
    reading = refl;
    previous = refl;
  };
}
