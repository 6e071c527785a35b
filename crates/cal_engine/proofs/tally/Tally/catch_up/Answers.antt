use Rattle.std.proofs.Common.{map, refl}
use Rattle.cal_keys.specs.Keys.{names_in}
use Rattle.cal_parts.specs.Readings.{reading_of}
use Rattle.cal_engine.specs.declared.tally.Tally.{Tally}
use Rattle.cal_engine.proofs.Tallying.{tally_caught_up, tally_covered}
use Rattle.cal_engine.proofs.tally.Tally.catch_up.Goals as goal

pub returns-then-covers : goal.returns-then-covers
returns-then-covers c = λ q rs h. tally_covered c.args.context.now q rs c.args.self.now (c.covers.ensures.covers c.if-covers.true) h

pub returns : goal.returns
returns c = λ q rs h.
    let t = c.args.context.now in
    let old = c.args.self.now in
    let new : Tally = record {
      counters = c.catch_up.new.self;
      sieve = c.catch_up-2.new.self;
      own = c.catch_up-2.new.own;
      known = c.of-self.result;
      groups = old.groups;
      nodes = old.nodes;
    } in
    tally_caught_up t q rs old new c.in_ok-catch_up-2.ensures.grows refl c.of-self.ensures.attributes c.of-self.ensures.nodes
    (c.in_ok-catch_up.ensures (map reading_of q.aggs) h.counters)
    (c.in_ok-catch_up-2.ensures.ready (names_in q.group) h.sieve) h
