use Rattle.std.proofs.Common.{◌≡◌, true, List, sym, subst}
use Rattle.std.proofs.lemmas.Bool.{cond-true}
use Rattle.cal_context.specs.Taking.{TakesMore}
use Rattle.cal_value.specs.declared.record.Rec.{Rec}
use Rattle.cal_records.proofs.run.take_trace.Goals as goal

pub returns-clause-taken : goal.returns-clause-taken
returns-clause-taken g c =
    let has_taken = g.T.Taker.has_taken in
    let on : c.args.channel.now.trace ≡ true = cc in
    subst (λ (rows : List Rec). TakesMore (has_taken c.args.taker.now c.args.context.now)
    (has_taken c.take_snapshots.new.taker c.take_snapshots.new.context) rows)
    (sym (cond-true c.args.channel.now.trace _ _ on)) c.in_ok-counted.ensures.taken
