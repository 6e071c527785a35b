use Rattle.std.proofs.Common.{refl}
use Rattle.cal_keys.proofs.Reaching.{numbered-Grows}
use Rattle.cal_engine.proofs.kernel_results.attributes_of.Goals as goal

pub returns-clause-attributes : goal.returns-clause-attributes
returns-clause-attributes c = record {
  kernel = refl;
  whole = numbered-Grows c.in_ok-fixed.ensures.grows _ c.in_ok-whole.whole c.in_ok-whole.ensures.numbered;
  fixed = c.in_ok-fixed.ensures.numbered;
}
