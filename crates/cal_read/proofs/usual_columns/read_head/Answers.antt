use Rattle.std.proofs.lemmas.Result.{IfOk-weaker}
use Rattle.cal_read.proofs.UsualColumnLemmas.{head_none, head_some}
use Rattle.cal_read.proofs.usual_columns.read_head.Goals as goal

pub returns-in_default : goal.returns-in_default
returns-in_default c = head_none c.args.nodes.now c.args.line.now c.in_ok-first.first c.in_ok-place.place c.args.ends.now.items c.in_ok-first.ensures c.in_ok-place.ensures c.requires

pub returns : goal.returns
returns c = IfOk-weaker c.behind-4.result _ _ (λ end comma.
    head_some c.args.nodes.now c.args.line.now c.in_ok-first.first c.in_ok-place.place c.in-Ok.start c.in_ok-end.end end c.push_nodes_at.new.ends.items
    c.in_ok-first.ensures c.in_ok-place.ensures c.in-Ok.ensures c.in_ok-end.ensures c.if-end-start.false comma) c.behind-4.ensures
