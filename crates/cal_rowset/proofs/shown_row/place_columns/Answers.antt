use Rattle.std.proofs.Common.{[], ℕ, ◌+◌, ap, ◌∙◌}
use Rattle.std.proofs.lemmas.List.{get_or_read, length_push}
use Rattle.cal_rowset.specs.Filling.{names}
use Rattle.cal_rowset.specs.Showing.{IsPlaceOf, nth_column}
use Rattle.cal_rowset.specs.declared.rowset.Column.{Column}
use Rattle.cal_rowset.proofs.Placing.{placed-push}
use Rattle.cal_rowset.proofs.shown_row.place_columns.Goals as goal

pub loop-column-preserved : goal.loop-column-preserved
loop-column-preserved c =
    let kept = c.loop-column.invariant in
    let placed = c.in_ok-place_of.ensures in
    let column = get_or_read c.args.columns.now c.loop-column.column-index c.column-item.result c.loop-column-test.true c.column-item.is (record { header = []; name = [] }) in
    let here : IsPlaceOf (names c.place_of.new.cells) (nth_column c.args.columns.now c.loop-column.column-index).name c.in_ok-place_of.field-0 = rw (ap (λ (k : Column). k.name) column) at placed.place in
    rw c.in_ok-push.ensures.items (record {
      holds = placed.holds [] kept.holds;
      trail = placed.trail kept.trail;
      counted = length_push c.loop-column.places.items c.in_ok-place_of.field-0 ∙ ap (λ (n : ℕ). n + 1) kept.counted;
      placed = placed-push c.args.columns.now _ _ c.loop-column.places.items c.in_ok-place_of.field-0 c.loop-column.column-index kept.counted placed.front kept.placed here;
    })
