use Rattle.std.proofs.Common.{[], sym, subst}
use Rattle.std.proofs.lemmas.Result.{IfOk-weaker}
use Rattle.cal_keys.specs.Leading.{AreWaysBehind}
use Rattle.cal_engine.proofs.Totalling.{ways_behind}
use Rattle.cal_engine.proofs.below.parts_below_in.Goals as goal

pub returns : goal.returns
returns c =
    let t = c.ways_to.new.context in
    let keys = c.args.keys.now in
    let ways = subst (AreWaysBehind t [] keys) (sym c.deref.ensures.value)
    (ways_behind t keys c.in_ok-nodes.nodes.items c.in_ok-nodes.ensures) in
    IfOk-weaker c.gathered_below.result _ _ (λ below h. h [] keys ways) c.gathered_below.ensures
