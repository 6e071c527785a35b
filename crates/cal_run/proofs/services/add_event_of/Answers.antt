use Rattle.std.proofs.lemmas.Result.{on_ok_weaker}
use Rattle.cal_run.proofs.AddingLemmas.{adds-one}
use Rattle.cal_run.specs.Lines.{attribute_of}
use Rattle.cal_run.specs.Snapshots.{Sight, board_of, event_of, value_on}
use Rattle.cal_run.proofs.services.add_event_of.Goals as goal

pub push_value-requires : goal.push_value-requires
push_value-requires g c = (
  _,
  c.shown_value-value.ensures c.requires.shown.0 c.requires.shown.1,
)

pub returns : goal.returns
returns g c =
    let script = c.args.script.now in
    let op = c.args.op in
    let shown = λ (s : Sight). value_on script (board_of script s op) op.code op in
    on_ok_weaker c.push_value.result (λ added attributes named s shows.
    adds-one attributes (g.S.ImmediateSink.imms c.args.out.now script.values)
    (g.S.ImmediateSink.imms c.push_value.new.self script.values) c.event_number-attribute.result
    (event_of op.code (attribute_of script op.attr))
    (shown s) (c.event_number-attribute.ensures attributes named)
    (added (shown s) (c.shown_value-value.ensures s shows))) c.push_value.ensures
