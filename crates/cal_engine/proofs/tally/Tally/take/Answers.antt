use Rattle.std.proofs.Common.{map, refl}
use Rattle.cal_context.specs.Snapshots.{meaning}
use Rattle.cal_keys.specs.Keys.{names_in}
use Rattle.cal_parts.specs.Readings.{parts_of, reading_of}
use Rattle.cal_engine.specs.declared.tally.Tally.{Tally}
use Rattle.cal_keys.proofs.SieveLemmas.{sieve_own}
use Rattle.cal_engine.proofs.Tallying.{tallied}
use Rattle.cal_engine.proofs.tally.Tally.take.Goals as goal

pub returns : goal.returns
returns c = λ q rs by_name h.
    let t = c.args.context.now in
    let mid = c.catch_up.new.self in
    let ready = c.in_ok-catch_up.ensures q rs h in
    let new : Tally = record {
      counters = mid.counters;
      sieve = mid.sieve;
      own = c.key_of.new.own;
      known = mid.known;
      groups = c.gather.new.self;
      nodes = c.into_room.result;
    } in
    let rec = meaning t c.args.snapshot.now in
    let readings = map reading_of q.aggs in
    let names = names_in q.group in
    let gathers = c.in_ok-gather.ensures readings ready.counters in
    let key = c.in_ok-key.ensures.key q by_name ready.sieve in
    tallied t q rs rec mid new (parts_of readings rec) c.in_ok-key.key c.has_each_once.ensures c.has_each_once-2.ensures
    c.in_ok-key.ensures.grows ready.counters (sieve_own t c.in_ok-key.ensures.grows names mid.sieve ready.sieve.is) refl
    key gathers ready.is.known ready.is
