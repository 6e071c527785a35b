use Rattle.std.proofs.Common.{◌<◌, ◌+◌, length, sym, subst, map, take, arith}
use Rattle.cal_keys.specs.Keys.{key_in, nth_key}
use Rattle.cal_keys.specs.Leading.{AreWaysBehind}
use Rattle.cal_keys.specs.Trails.{no_marks}
use Rattle.cal_keys.proofs.ReadSame.{read_same}
use Rattle.cal_keys.proofs.OwnNodes.{own_next, own_way}
use Rattle.cal_keys.proofs.single_paths.own_nodes.Goals as goal

pub loop-number-preserved : goal.loop-number-preserved
loop-number-preserved c =
    let t = c.args.tree.now in
    let keys = c.args.keys.now in
    let number = c.loop-number.number in
    let key = nth_key keys number in
    let node = c.in-Some.node in
    let short : number < length keys = omega arith in
    let within : node.0 < length t.paths = omega arith in
    subst (AreWaysBehind t no_marks (map (key_in t) (take (number + 1) keys))) (sym c.in_ok-push.ensures.items)
    (own_next t keys number key c.loop-number.nodes.items node
    short (read_same keys number _ key short) c.loop-number.invariant within
    (own_way t key node c.has_each_once.ensures c.requires c.in-Some.ensures within))
