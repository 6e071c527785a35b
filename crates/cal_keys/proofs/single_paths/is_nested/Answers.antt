use Rattle.std.proofs.Common.{◌≡◌, arith}
use Rattle.cal_keys.specs.OwnWays.{AreNestedBefore}
use Rattle.cal_keys.proofs.OwnNodes.{nested_next}
use Rattle.cal_keys.proofs.single_paths.is_nested.Goals as goal

pub loop-place-preserved : goal.loop-place-preserved
loop-place-preserved c =
    let e : c.in-Ok.number ≡ c.loop-place.place = omega arith in
    let known : AreNestedBefore c.args.tree.now c.in-Ok.number = λ m l. c.loop-place.invariant m (omega (arith, l, e)) in
    nested_next c.args.tree.now c.loop-place.place (record { 0 = c.in-Ok.number }) e
    (c.has_nested_entry.ensures c.if-not-has_nested_entry.false known) c.loop-place.invariant
