use Rattle.std.proofs.Common.{map, sym, subst}
use Rattle.cal_keys.specs.Keys.{key_in}
use Rattle.cal_keys.specs.Leading.{AreWaysBehind}
use Rattle.cal_keys.specs.Trails.{no_marks}
use Rattle.cal_engine.proofs.below.parts_below_keys.Goals as goal

pub returns-in-Some : goal.returns-in-Some
returns-in-Some c =
    let t = c.args.tree.now in
    let keys = map (key_in t) c.args.keys.now in
    let ways = rw c.in-Some.is at c.in_ok-nodes.ensures in
    c.in_ok-below.ensures no_marks keys (subst (AreWaysBehind t no_marks keys) (sym c.deref.ensures.value) ways)
