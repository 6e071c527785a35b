use Rattle.std.proofs.Common.{arith, ◌≡◌, ◌∙◌, ap, length, refl, slice_set}
use Rattle.cal_agg.proofs.Merging.{merged_front, merged_front_more, merged_front_all}
use Rattle.cal_agg.proofs.Merging.{cell_next, cell_read, room_at}
use Rattle.cal_agg.proofs.cells.merge_cells.Goals as goal

-- no cell was lost
pub bounds-cells-place : goal.bounds-cells-place
bounds-cells-place c =
    let kept : length c.loop-place.cells ≡ length c.args.cells.now = c.loop-place.auto.cells in
    let alike : length c.args.others.now ≡ length c.args.cells.now = c.requires.alike in
    omega arith

pub merge-requires : goal.merge-requires
merge-requires c =
    let alike : length c.args.others.now ≡ length c.args.cells.now = c.requires.alike in
    room_at c.loop-place.place c.args.cells.now c.args.others.now _ _
    (record {
      one = cell_next c.loop-place.place c.args.cells.now _ _ _ (omega arith) c.loop-place.invariant c.index-cells-place.is;
      other = cell_read c.loop-place.place c.args.others.now _ _ (omega arith) refl c.index-others-place.is;
    })
    c.requires.room

-- one more place is passed
pub loop-place-preserved : goal.loop-place-preserved
loop-place-preserved c =
    let place = c.loop-place.place in
    let front = merged_front place c.args.cells.now c.args.others.now in
    let alike : length c.args.others.now ≡ length c.args.cells.now = c.requires.alike in
    ap (λ cells. slice_set cells place c.merge.new.self) c.loop-place.invariant
    ∙ ap (λ cell. slice_set front place cell) c.merge.ensures
    ∙ merged_front_more place c.args.cells.now c.args.others.now _ _
    (record {
      one = cell_next c.loop-place.place c.args.cells.now _ _ _ (omega arith) c.loop-place.invariant c.index-cells-place.is;
      other = cell_read c.loop-place.place c.args.others.now _ _ (omega arith) refl c.index-others-place.is;
    })

-- all places are passed
pub returns : goal.returns
returns c =
    let all : c.loop-place.place ≡ length c.args.others.now = omega arith in
    c.loop-place.invariant
    ∙ ap (λ n. merged_front n c.args.cells.now c.args.others.now) all
    ∙ merged_front_all c.args.cells.now c.args.others.now c.requires.alike
