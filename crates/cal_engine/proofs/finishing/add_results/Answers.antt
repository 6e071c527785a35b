use Rattle.std.proofs.Common.{arith}
use Rattle.std.specs.Option.{option_copied}
use Rattle.cal_engine.proofs.Results.{part_at, results_more}
use Rattle.cal_engine.proofs.finishing.add_results.Goals as goal

pub loop-place-preserved : goal.loop-place-preserved
loop-place-preserved c = λ lists kept.
    let aggs = c.args.aggs.now in
    let n = c.loop-place.place in
    let agg = c.index-aggs-place.result in
    results_more aggs lists n agg c.args.entries.now.items c.loop-place.entries.items c.push_some.new.items.items c.in_ok-found.found
    (omega arith) c.index-aggs-place.is (c.loop-place.invariant lists kept) c.in_ok-push_some.ensures
    (c.in_ok-found.ensures lists
    (part_at aggs lists.own c.args.own.now n agg (option_copied c.get.result) kept.own (omega arith) c.index-aggs-place.is c.get.ensures)
    (part_at aggs lists.all c.args.all.now n agg (option_copied c.get-in-loop-place.result) kept.all (omega arith) c.index-aggs-place.is c.get-in-loop-place.ensures)
    (part_at aggs lists.below c.args.below.now n agg (option_copied c.get-in-loop-place-2.result) kept.below (omega arith) c.index-aggs-place.is c.get-in-loop-place-2.ensures))
