use Rattle.std.proofs.Common.{take}
use Rattle.cal_context.proofs.CallerLemmas.{Grows-trans}
use Rattle.cal_filter.proofs.Zips.{zip_more}
use Rattle.cal_engine.specs.Results.{IsResultOf}
use Rattle.cal_engine.proofs.ResultNumbers.{results-Grows}
use Rattle.cal_engine.proofs.kernel_results.result_attributes.Goals as goal

pub loop-agg-preserved : goal.loop-agg-preserved
loop-agg-preserved c =
    let grows = c.in_ok-attributes.ensures.grows in
    let u = c.attributes_of.new.context in
    record {
      grows = Grows-trans c.args.context.now c.loop-agg.context u c.loop-agg.invariant.grows grows;
      are = zip_more (IsResultOf u) c.args.aggs.now c.loop-agg.results.items c.push.new.self.items c.loop-agg.agg-index c.agg-item.result c.in_ok-attributes.attributes
          (results-Grows grows (take c.loop-agg.agg-index c.args.aggs.now) c.loop-agg.results.items c.loop-agg.invariant.are)
          c.loop-agg-test.true c.agg-item.is c.in_ok-push.ensures.items c.in_ok-attributes.ensures.attributes;
    }
