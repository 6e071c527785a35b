use Rattle.std.proofs.Common.{sym, subst}
use Rattle.cal_read.specs.Columns.{AreEnds}
use Rattle.cal_read.proofs.ColumnLemmas.{ends_at, unknown_at}
use Rattle.cal_read.proofs.record_line.push_nodes.Goals as goal

pub returns-in_default : goal.returns-in_default
returns-in_default c = λ t named are.
    let before = c.loop-id.invariant t named are in
    unknown_at t c.args.nodes.now named are c.args.ids.now c.loop-id.id-index c.loop-id-test.true before.0 before.1 c.in_default.ensures

pub loop-id-preserved : goal.loop-id-preserved
loop-id-preserved c = λ t named are.
    let before = c.loop-id.invariant t named are in
    let now = ends_at t c.args.nodes.now named are c.args.ids.now c.loop-id.id-index c.loop-id-test.true before.0 before.1 c.loop-id.ends.items c.in-Some.held before.2 c.in-Some.ensures in
    (now.0, now.1, subst (λ l. AreEnds t l now.0) (sym c.in_ok-push.ensures.items) now.2)
