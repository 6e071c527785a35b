use Rattle.std.proofs.Common.{◌∙◌}
use Rattle.cal_treefmt.proofs.WayLemmas.{AreWays-none}
use Rattle.cal_treefmt.proofs.ways.Ways.new.Goals as goal

pub returns : goal.returns
returns c = λ nodes. AreWays-none c.args.context.now nodes _ (c.in_ok-nothing_known.ensures.counted ∙ c.node_count.ensures) c.in_ok-nothing_known.ensures.none
