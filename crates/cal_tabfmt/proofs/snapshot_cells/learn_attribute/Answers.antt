use Rattle.std.proofs.Common.{arith}
use Rattle.cal_tabfmt.proofs.Links.{KnowsPlaces-push}
use Rattle.cal_tabfmt.proofs.snapshot_cells.learn_attribute.Goals as goal

pub returns-clause-knows : goal.returns-clause-knows
returns-clause-knows c =
    λ counted knows. rw c.in_ok-push.ensures.items
    (KnowsPlaces-push c.args.context.now _ _ _ c.in_ok-place.place (record { 0 = c.in-Ok.number }) knows
    (omega (arith, c.in-Ok.ensures)) (omega (arith, c.in-Ok.ensures)) (rw c.attribute_at-attribute.ensures at c.in_ok-place.ensures.learned))
