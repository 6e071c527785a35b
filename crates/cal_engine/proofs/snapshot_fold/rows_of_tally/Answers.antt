use Rattle.std.proofs.Common.{sym, subst, ◌∙◌}
use Rattle.std.specs.List.{filter_map}
use Rattle.std.proofs.lemmas.Result.{IfOk-weaker}
use Rattle.cal_filter.specs.Kept.{kept}
use Rattle.cal_engine.specs.Making.{MakesRows}
use Rattle.cal_engine.proofs.Making.{unordered_rows}
use Rattle.cal_engine.proofs.Tallying.{holds_in, room_by_name, room_by_nodes}
use Rattle.cal_engine.proofs.snapshot_fold.rows_of_tally.Goals as goal

pub returns-then-is_some-clause-rows : goal.returns-then-is_some-clause-rows
returns-then-is_some-clause-rows c =
    let q = c.args.query.now in
    let tally = c.args.tally in
    let parts = c.into_groups-own.result in
    let agg = c.requires.aggregated in
    let none = c.requires.unordered in
    let room = c.into_groups-own.ensures.own ∙ sym (room_by_name q.group c.args.context.now tally.own (sym c.is_some.ensures ∙ c.if-is_some.true)) in
    IfOk-weaker c.moved.result _ _
    (λ made makes rs others h.
    let held = holds_in c.args.context.now q (filter_map (kept q) rs) tally others parts.own parts.groups room c.into_groups-own.ensures.groups h in
    subst (MakesRows c.moved.new.context q.aggs made) (unordered_rows q rs agg none) (makes (filter_map (kept q) rs) (held.groups agg)))
    c.moved.ensures.rows

pub returns-clause-rows : goal.returns-clause-rows
returns-clause-rows c =
    let q = c.args.query.now in
    let t = c.args.context.now in
    let tally = c.args.tally in
    let parts = c.into_groups-own.result in
    let agg = c.requires.aggregated in
    let none = c.requires.unordered in
    let room = sym (room_by_nodes q.group t tally.own (sym c.is_some.ensures ∙ c.if-is_some.false)) in
    IfOk-weaker c.new.result _ _
    (λ made makes rs others h.
    let held = holds_in t q (filter_map (kept q) rs) tally others t parts.groups room c.into_groups-own.ensures.groups h in
    subst (MakesRows c.new.new.context q.aggs made) (unordered_rows q rs agg none) (makes (filter_map (kept q) rs) (held.groups agg)))
    c.new.ensures.rows
