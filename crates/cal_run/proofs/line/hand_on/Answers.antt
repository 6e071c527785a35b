use Rattle.std.proofs.Common.{refl}
use Rattle.cal_run.proofs.line.hand_on.Goals as goal

pub fill-requires-clause-shown : goal.fill-requires-clause-shown
fill-requires-clause-shown g c = (
  record {
    mine = c.requires.shown.0;
    process = c.requires.process.0;
    readings = c.args.thread.now.readings;
    reading = c.unwrap_or-reading.result;
    previous = c.args.thread.now.previous;
  },
  record {
    mine = c.requires.shown.1;
    process = c.requires.process.1;
    readings = λ _. refl;
    reading = refl;
    previous = refl;
  },
)
