use Rattle.std.proofs.Common.{refl, rules}
use Rattle.cal_live.proofs.shift.run_and_end.Goals as goal

pub returns : goal.returns
returns g c = record {
  shifted = record {
    whole = λ yes.
        record {
          before = c.run-ran.new.self;
          ran = record {
            number = search rules;
            services = search rules;
            ran = search rules;
            told = record {
              started = c.start.new.clock;
              start = search rules;
              lines = search rules;
            };
          };
          ended = c.end.ensures.ended;
          same = refl;
        };
  };
}
