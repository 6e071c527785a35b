use Rattle.std.proofs.Common.{sym, ◌∙◌}
use Rattle.cal_context.specs.Snapshots.{meaning}
use Rattle.cal_engine.proofs.Tallying.{holds_group, holds_row}
use Rattle.cal_engine.proofs.snapshot_fold.take_kept.Goals as goal

pub returns-then-is_aggregated : goal.returns-then-is_aggregated
returns-then-is_aggregated c = λ ks h.
    holds_group c.args.context.now c.args.query.now ks (meaning c.args.context.now c.args.snapshot.now) c.args.tally.now c.take.new.self
    c.args.rows.now c.args.rows.now (sym c.is_aggregated.ensures ∙ c.if-is_aggregated.true)
    (c.in_ok-take.ensures c.args.query.now ks c.is_some.ensures) h

pub returns : goal.returns
returns c = λ ks h.
    holds_row c.args.context.now c.args.query.now ks c.args.snapshot.now c.args.tally.now c.args.tally.now
    c.args.rows.now c.push.new.self (sym c.is_aggregated.ensures ∙ c.if-is_aggregated.false) c.in_ok-push.ensures c.requires h
