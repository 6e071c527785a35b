use Rattle.std.proofs.Common.{◌≡◌, ℕ, ◌<◌, ◌≤◌, List, [], ◌∷◌, ◌++◌, length, get_or, ap, sym, ◌∙◌, append_assoc, arith}
use Rattle.std.specs.List.{filter_map, join_with_byte}
use Rattle.std.proofs.lemmas.List.{get_or-map, get_or_default, length-map, take_all}
use Rattle.std.proofs.lemmas.Result.{on_ok_weaker}
use Rattle.cal_rowset.specs.Showing.{nth_column}
use Rattle.cal_rowset.specs.declared.rowset.Column.{Column}
use Rattle.cal_tabfmt.specs.Expand.{part_of}
use Rattle.cal_tabfmt.specs.Parts.{column_fronts, part_front}
use Rattle.cal_tabfmt.proofs.LinesMore.{parts_more}
use Rattle.cal_tabfmt.proofs.column_lines.append_line.Goals as goal

-- the front of the column at a place
front_at : (columns : List Column) (place : ℕ) (front : List ℕ) → place < length columns → front ≡ get_or (column_fronts columns) place front → front ≡ part_front (nth_column columns place).header
front_at columns place front within is = is ∙ get_or-map (λ (column : Column). part_front column.header) columns place (record { header = []; name = [] }) front within

pub loop-place-preserved : goal.loop-place-preserved
loop-place-preserved c =
    λ columns row shows are.
    let place = c.loop-place.place in
    let many = ap length are ∙ length-map columns (λ (column : Column). part_front column.header) in
    let within : place < length columns = omega (arith, many, c.loop-place-test.true) in
    let front = c.index-fronts-place.result in
    let is : front ≡ get_or (column_fronts columns) place front = rw (sym are) c.index-fronts-place.is in
    rw (parts_more row columns place (nth_column columns place) within (get_or_default columns place _ (nth_column columns place) within))
    (c.in_ok-is_first.ensures columns row c.args.out.now _ shows within (front_at columns place front within is) (c.loop-place.invariant columns row shows are))

pub returns : goal.returns
returns c =
    on_ok_weaker c.push_str.result
    (λ pushed columns row shows are.
    let place = c.loop-place.place in
    let many = ap length are ∙ length-map columns (λ (column : Column). part_front column.header) in
    let past : length columns ≤ place = omega (arith, many, c.loop-place-test.false) in
    let has = rw (take_all place columns past) at (c.loop-place.invariant columns row shows are) in
    pushed ∙ ap (λ (t : List ℕ). t ++ 10 ∷ []) has.is ∙ append_assoc c.args.out.now (join_with_byte 44 (filter_map (part_of row) columns)) (10 ∷ []))
    c.push_str.ensures.ok
