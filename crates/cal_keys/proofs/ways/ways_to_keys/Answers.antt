use Rattle.std.proofs.Common.{◌<◌, ◌+◌, List, length, sym, subst, take, map, refl, arith}
use Rattle.cal_context.specs.declared.numbers.NodeNumber.{NodeNumber}
use Rattle.cal_keys.specs.Keys.{key_in, nth_key}
use Rattle.cal_keys.specs.Leading.{AreWays}
use Rattle.cal_keys.proofs.ReadSame.{read_same}
use Rattle.cal_keys.proofs.KeyWays.{ways-next}
use Rattle.cal_keys.proofs.ways.ways_to_keys.Goals as goal

pub loop-number-preserved : goal.loop-number-preserved
loop-number-preserved c =
    let keys = c.args.keys.now in
    let number = c.loop-number.number in
    let key = nth_key keys number in
    let short : number < length keys = omega arith in
    let done = map (key_in c.args.tree.now) (take (number + 1) keys) in
    subst (λ (nodes : List NodeNumber). AreWays c.way_to_key.new.context done nodes) (sym c.in_ok-push.ensures.items)
    (ways-next c.args.tree.now c.loop-number.context c.way_to_key.new.context keys number key c.loop-number.nodes.items c.in_ok-node.node _
    c.in_ok-node.ensures.grows short (read_same keys number _ key short) c.loop-number.invariant
    refl c.in_ok-node.ensures.leads)
