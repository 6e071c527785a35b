use Rattle.std.proofs.Common.{List, [], map, subst, append-nil}
use Rattle.std.proofs.lemmas.Result.{on_ok_weaker}
use Rattle.cal_value.specs.Flat.{flat, joined}
use Rattle.cal_value.specs.declared.attribute.Entry.{Entry}
use Rattle.cal_context.specs.Snapshots.{entry_of}
use Rattle.cal_context.specs.Tree.{path_at}
use Rattle.cal_rowset.specs.Hierarchy.{hierarchy}
use Rattle.cal_rowset.specs.NumberedRows.{meant}
use Rattle.cal_rowset.specs.Rooms.{AddsEntries}
use Rattle.cal_rowset.specs.Standing.{IsFilled, IsFilledWith}
use Rattle.cal_rowset.proofs.Rooms.{IsAlike-then}
use Rattle.cal_rowset.proofs.Standing.{filled-more, filled-shows}
use Rattle.cal_rowset.proofs.shown_row.ShownRow.fill_numbered.Goals as goal

pub returns-clause-shows : goal.returns-clause-shows
returns-clause-shows c =
    let t = c.args.context.now in
    let row = meant t (record { nodes = c.args.nodes.now; imms = c.args.imms.now }) in
    let old = c.args.self.now in
    let begun = c.begin.new.self in
    let walked = c.add_paths.new.self in
    let new = c.add_immediates.new.self in
    on_ok_weaker c.add_immediates.result
    (λ added columns is.
    let paths : IsFilledWith t walked (joined (map (path_at t) c.args.nodes.now)) = c.in_ok-add_paths.ensures.filled in
    let imms : AddsEntries t walked new (map (entry_of t) c.args.imms.now) [] = added in
    let both = filled-more t walked new _ (hierarchy row) _ [] paths imms in
    let filled : IsFilled t new (flat row) (hierarchy row) = subst (λ (es : List Entry). IsFilled t new (flat row) es) (append-nil (hierarchy row)) both in
    let alike = IsAlike-then old begun new c.begin.ensures.alike (IsAlike-then begun walked new c.in_ok-add_paths.ensures.alike imms.alike) in
    filled-shows t old new columns row filled alike is)
    c.add_immediates.ensures

pub returns-clause-stands : goal.returns-clause-stands
returns-clause-stands c =
    let t = c.args.context.now in
    on_ok_weaker c.add_immediates.result
    (λ added. (filled-more t c.add_paths.new.self c.add_immediates.new.self _ _ _ [] c.in_ok-add_paths.ensures.filled added).stands)
    c.add_immediates.ensures
