use Rattle.std.proofs.Common.{map, subst, ap, ◌∙◌, arith}
use Rattle.cal_parts.specs.Counters.{AreCounters}
use Rattle.cal_keys.specs.Keys.{room_of}
use Rattle.cal_parts.specs.Readings.{reading_of}
use Rattle.cal_engine.proofs.Tallying.{no_groups_in, no_keys}
use Rattle.cal_engine.proofs.tally.Tally.new.Goals as goal

pub returns : goal.returns
returns c = λ t. record {
  counters = subst (λ rs. AreCounters t rs c.in_ok-counters.counters)
      (c.deref.ensures.value ∙ c.in_ok-readings.ensures ∙ ap (map reading_of) c.as_slice.ensures) (c.in_ok-counters.ensures t);
  sieve = c.in_ok-sieve.ensures t c.seeded.result;
  keys = no_keys (room_of c.args.query.now.group t c.seeded.result) c.new.result c.new.ensures;
  groups = no_groups_in (room_of c.args.query.now.group t c.seeded.result) c.args.query.now c.new.result c.new.ensures;
  known = record {
    counters = λ i x within. record { attributes = omega arith; nodes = omega arith };
    sieve = record { attributes = omega arith; nodes = omega arith };
  };
}
