use Rattle.std.proofs.Common.{◌<◌, [], ◌∷◌, ◌++◌, length, map, sym, ap, ◌∙◌, arith}
use Rattle.std.proofs.lemmas.List.{map-append, take_all, take_more}
use Rattle.cal_rowset.specs.NumberedRows.{meant, numbered}
use Rattle.cal_engine.proofs.Making.{made-counted}
use Rattle.cal_engine.proofs.snapshot_rows.all_rows.Goals as goal

pub loop-number-init : goal.loop-number-init
loop-number-init c = λ aggs rows h. ap (map (meant c.args.context.now)) c.in_ok-all.ensures

pub loop-number-preserved : goal.loop-number-preserved
loop-number-preserved c = λ aggs rows h.
    let t = c.args.context.now in
    let n = c.loop-number.number in
    let row = c.fill.new.row in
    let counted = made-counted t aggs c.args.made.now rows h in
    let within : n < length rows = omega (arith, counted) in
    ap (map (meant t)) c.in_ok-push.ensures
    ∙ map-append (meant t) c.loop-number.all (numbered row ∷ [])
    ∙ (λ i. c.loop-number.invariant aggs rows h i ++ c.in_ok-fill.ensures.row aggs rows h i ∷ [])
    ∙ sym (take_more rows n _ within)

pub returns : goal.returns
returns c = λ aggs rows h.
    let counted = made-counted c.args.context.now aggs c.args.made.now rows h in
    c.loop-number.invariant aggs rows h ∙ take_all c.loop-number.number rows (omega (arith, counted))
