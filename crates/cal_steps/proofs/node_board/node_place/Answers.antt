use Rattle.std.proofs.Common.{◌≡◌, ◌+◌, ◌<◌, length, sym, ◌∙◌, arith}
use Rattle.cal_steps.proofs.NeedLemmas.{need-no, need-yes}
use Rattle.cal_steps.proofs.node_board.node_place.Goals as goal
use Rattle.cal_steps.proofs.node_board.node_place.Goals.{else-placed_node}
use Rattle.cal_steps.proofs.node_board.node_place.Goals.{then-placed_node+else-left-eq0}
use Rattle.cal_steps.specs.NodePlaces.{needing}

pub loop-place-preserved : goal.loop-place-preserved
loop-place-preserved c =
    let script = c.args.script.now in
    let journal = c.args.journal.now in
    let h = c.args.history.now in
    let from = c.args.from in
    let place = c.loop-place.place in
    let late = c.loop-place.invariant.late in
    let so_far = c.loop-place.invariant.counted in
    let inside : place < length h = omega (arith, c.loop-place-test.true, c.requires) in
    elim c.if-placed_node.branch [
      | then-placed_node+else-left-eq0 w ↦
          let next : needing script journal h from (place + 1)
          ≡ needing script journal h from place + 1 =
          need-yes script journal h from place _ late inside
          (sym c.placed_node.ensures ∙ w.if-placed_node.true) in
          let some = w.if-left-eq0.false in
          let left = w.left-is in
          record {
            late = omega (arith, late);
            counted = omega (arith, next, so_far, some, left);
          }
      | else-placed_node w ↦
          let next : needing script journal h from (place + 1)
          ≡ needing script journal h from place =
          need-no script journal h from place _ late inside
          (sym c.placed_node.ensures ∙ w.if-placed_node.false) in
          let left = w.left-is in
          record {
            late = omega (arith, late);
            counted = omega (arith, next, so_far, left);
          }
    ]
