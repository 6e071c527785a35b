use Rattle.cal_treefmt.proofs.Chaining.{AreChains-none}
use Rattle.cal_treefmt.proofs.chains.Chains.new.Goals as goal

pub loop-place-init : goal.loop-place-init
loop-place-init c = AreChains-none c.args.keys.now c.args.count _ _ c.in_ok-first.ensures.counted c.in_ok-next.ensures.counted c.in_ok-first.ensures.none
