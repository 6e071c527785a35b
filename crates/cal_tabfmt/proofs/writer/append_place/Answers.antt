use Rattle.std.proofs.Common.{sym, subst, ◌∙◌, [], arith}
use Rattle.std.proofs.lemmas.List.{get_or_read}
use Rattle.std.proofs.lemmas.Result.{IfOk-weaker}
use Rattle.cal_context.specs.Snapshots.{meaning}
use Rattle.cal_value.specs.Flat.{flat}
use Rattle.cal_rowset.specs.Cells.{values_with}
use Rattle.cal_rowset.specs.Filling.{Shows, cells, names, no_cell, nth_name}
use Rattle.cal_rowset.specs.declared.cell.Cell.{Cell}
use Rattle.cal_tabfmt.proofs.PlaceLemmas.{HasParts-path, HasParts-other}
use Rattle.cal_tabfmt.proofs.writer.append_place.Goals as goal

pub returns-then-is_path : goal.returns-then-is_path
returns-then-is_path c =
    IfOk-weaker c.append_part.result _ _
    (λ first appended before parts holds within has.
    let is = get_or_read (names c.args.trail.now) c.args.place c.in-Some.name.now within (rw c.names.ensures at c.in-Some.ensures.lookup.1) [] in
    HasParts-path (meaning c.args.context.now c.args.snapshot.now) (names c.args.trail.now) c.args.place c.in-Some.name.now before _ first parts is
    (sym c.is_path.ensures ∙ c.if-is_path.true) (appended before parts _ c.in_ok-show.ensures has))
    c.append_part.ensures

pub returns-in-Some-get : goal.returns-in-Some-get
returns-in-Some-get c =
    IfOk-weaker c.append_part-in-Some-get.result _ _
    (λ first appended before parts holds within has.
    let is = get_or_read (names c.args.trail.now) c.args.place c.in-Some.name.now within (rw c.names.ensures at c.in-Some.ensures.lookup.1) [] in
    let cell = get_or_read (cells c.args.trail.now) c.args.place c.in-Some-get.cell.now (omega (arith, within, holds.counted)) (rw c.cells.ensures at c.in-Some-get.ensures.lookup.1) no_cell in
    let vs = values_with (nth_name (names c.args.trail.now) c.args.place) (flat (meaning c.args.context.now c.args.snapshot.now)) in
    HasParts-other (meaning c.args.context.now c.args.snapshot.now) (names c.args.trail.now) c.args.place c.in-Some.name.now before _ first parts is
    (sym c.is_path.ensures ∙ c.if-is_path.false) (appended before parts vs (subst (λ (read : Cell). Shows read vs) (sym cell) (holds.shows c.args.place within)) has))
    c.append_part-in-Some-get.ensures
