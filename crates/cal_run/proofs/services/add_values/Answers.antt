use Rattle.std.proofs.lemmas.Result.{on_ok_weaker}
use Rattle.cal_run.proofs.AddingLemmas.{adds-both, adds-lasts}
use Rattle.cal_run.proofs.services.add_values.Goals as goal

pub returns : goal.returns
returns g c =
    let script = c.args.script.now in
    let m = c.args.moment.now in
    let is_node = g.V.NodeValues.is_node c.args.nodes.now in
    let imms = g.S.ImmediateSink.imms in
    let old = imms c.args.out.now script.values in
    let mid = imms c.push_values.new.self script.values in
    let new = imms c.push_values-2.new.self script.values in
    on_ok_weaker c.push_values-2.result (λ more attributes named s shows.
    adds-both attributes old mid new _ _
    (adds-lasts is_node attributes script named.front m.board.now s.mine shows.mine old mid
    (c.in_ok-push_values.ensures script.values))
    (adds-lasts is_node attributes script named.front m.process.now s.process shows.process mid new
    (more script.values))) c.push_values-2.ensures
