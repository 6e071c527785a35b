use Rattle.std.proofs.Common.{ap, ◌∙◌}
use Rattle.std.specs.List.{filter_map}
use Rattle.std.proofs.lemmas.Result.{IfOk-weaker}
use Rattle.cal_filter.specs.Kept.{kept}
use Rattle.cal_keys.specs.Keys.{room_of}
use Rattle.cal_engine.proofs.Tallying.{holds_in}
use Rattle.cal_engine.proofs.snapshot_fold.SnapshotFold.finish.Goals as goal

pub returns : goal.returns
returns c =
    let fold = c.args.self in
    let t = c.args.context in
    let parts = c.into_groups-own.result in
    let room = c.room-room.ensures fold.query.group c.is_some.ensures ∙ ap (room_of fold.query.group t) c.into_groups-own.ensures.own in
    IfOk-weaker c.answer_in.result _ _
    (λ answer is rs h. is rs (holds_in t fold.query (filter_map (kept fold.query) rs) fold.tally fold.rows c.room-room.result parts.groups room c.into_groups-own.ensures.groups h.holds))
    c.answer_in.ensures
