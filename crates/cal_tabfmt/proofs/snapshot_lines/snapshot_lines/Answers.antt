use Rattle.std.proofs.Common.{ℕ, List, [], ◌∷◌, ◌++◌, None, map, take, sym, ap, subst, ◌∙◌}
use Rattle.std.proofs.lemmas.List.{take_all}
use Rattle.cal_rowset.specs.NumberedRows.{NumberedRow, in_order, meant}
use Rattle.cal_value.specs.declared.record.Rec.{Rec}
use Rattle.cal_rowset.proofs.NumberedLemmas.{copied_within, meant_more}
use Rattle.cal_tabfmt.specs.Expand.{expand_lines}
use Rattle.cal_tabfmt.specs.Writer.{HasTaken}
use Rattle.cal_tabfmt.proofs.snapshot_lines.snapshot_lines.Goals as goal

pub loop-place-init : goal.loop-place-init
loop-place-init c = c.seeded-writer.ensures c.args.context.now

pub take-requires : goal.take-requires
take-requires c =
    copied_within c.args.context.now c.args.rows.now _ c.copy_to.new.row c.requires c.in_ok-copy_to.ensures

pub loop-place-preserved : goal.loop-place-preserved
loop-place-preserved c =
    let t = c.args.context.now in
    let rows = c.args.rows.now in
    let order = c.args.order.now in
    let before = map (meant t) (in_order rows (take c.loop-place.place-index order)) in
    let more =
    ap (λ (r : NumberedRow). before ++ meant t r ∷ []) c.in_ok-copy_to.ensures
    ∙ sym (meant_more t rows order c.loop-place.place-index 0 c.loop-place-test.true) in
    subst (λ (all : List Rec). HasTaken c.take.new.self t all) more (c.in_ok-take.ensures _ c.loop-place.invariant)

pub returns : goal.returns
returns c =
    let t = c.args.context.now in
    let order = c.args.order.now in
    c.finish.ensures t _ c.loop-place.invariant
    ∙ ap (λ (ps : List ℕ). expand_lines None (map (meant t) (in_order c.args.rows.now ps))) (take_all c.loop-place.place-index order c.loop-place-test.false)
