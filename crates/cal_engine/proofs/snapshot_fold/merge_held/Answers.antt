use Rattle.std.proofs.Common.{sym, ◌∙◌}
use Rattle.std.proofs.lemmas.Result.{on_ok_weaker}
use Rattle.cal_engine.proofs.MergedGroups.{holds_groups, holds_rows}
use Rattle.cal_engine.proofs.snapshot_fold.merge_held.Goals as goal

pub returns-then-is_aggregated-clause-merged : goal.returns-then-is_aggregated-clause-merged
returns-then-is_aggregated-clause-merged c =
    let q = c.args.query.now in
    on_ok_weaker c.merge.result
    (λ merges ks ls h k.
    holds_groups c.args.context.now c.merge.new.context c.args.its.now q ks ls c.args.tally.now c.args.other.now c.merge.new.self
    c.args.rows.now c.args.others.now c.args.rows.now (sym c.is_aggregated.ensures ∙ c.if-is_aggregated.true)
    (merges q ks ls c.is_some.ensures) h k)
    c.merge.ensures.merged

pub returns-clause-merged : goal.returns-clause-merged
returns-clause-merged c =
    on_ok_weaker c.append_rows.result
    (λ appends ks ls h k.
    holds_rows c.args.context.now c.append_rows.new.context c.args.its.now c.args.query.now ks ls c.args.tally.now c.args.other.now
    c.args.rows.now c.args.others.now c.append_rows.new.rows (sym c.is_aggregated.ensures ∙ c.if-is_aggregated.false)
    (appends ks ls) h k)
    c.append_rows.ensures.appended
