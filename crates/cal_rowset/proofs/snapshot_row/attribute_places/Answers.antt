use Rattle.std.proofs.Common.{ℕ, ◌+◌, ap, ◌∙◌}
use Rattle.std.proofs.lemmas.List.{length_push}
use Rattle.cal_rowset.specs.Filling.{names}
use Rattle.cal_rowset.proofs.Rooms.{stands-push}
use Rattle.cal_rowset.proofs.snapshot_row.attribute_places.Goals as goal

pub loop-number-preserved : goal.loop-number-preserved
loop-number-preserved c =
    let kept = c.loop-number.invariant in
    rw c.in_ok-push.ensures.items (record {
      counted = length_push c.loop-number.places.items c.in_ok-attribute_place.field-0 ∙ ap (λ (n : ℕ). n + 1) kept.counted;
      known = stands-push c.args.context.now (names c.args.cells.now) c.loop-number.places.items c.in_ok-attribute_place.field-0 c.loop-number.number kept.counted kept.known c.in_ok-attribute_place.ensures;
    })
