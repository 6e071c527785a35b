use Rattle.std.proofs.Common.{◌<◌, List, [], ◌∷◌, ◌++◌, length, sym, ap, ◌∙◌, arith}
use Rattle.std.proofs.lemmas.List.{map-append, take_all, take_more}
use Rattle.cal_rowset.specs.NumberedRows.{NumberedRow, in_order, nth_numbered}
use Rattle.cal_engine.proofs.snapshot_order.all_places.Goals as goal

pub loop-place-preserved : goal.loop-place-preserved
loop-place-preserved c =
    let rows = c.args.rows.now in
    let n = c.loop-place.place in
    let within : n < length rows = omega arith in
    ap (in_order rows) c.in_ok-push.ensures.items
    ∙ map-append (nth_numbered rows) c.loop-place.places.items (n ∷ [])
    ∙ ap (λ (seen : List NumberedRow). seen ++ nth_numbered rows n ∷ []) c.loop-place.invariant
    ∙ sym (take_more rows n _ within)

pub returns : goal.returns
returns c = c.loop-place.invariant ∙ take_all c.loop-place.place c.args.rows.now (omega arith)
