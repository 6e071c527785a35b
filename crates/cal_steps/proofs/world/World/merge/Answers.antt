use Rattle.std.proofs.lemmas.Result.{on_err_weaker}
use Rattle.cal_steps.proofs.FlushLemmas.{book-kept}
use Rattle.cal_steps.proofs.world.World.merge.Goals as goal

pub returns-clause-err : goal.returns-clause-err
returns-clause-err c =
    on_err_weaker c.push.result (λ kept. book-kept c.args.self.now c.args.thread _ c.self.view_is
    c.args.channel c.hand_over-snapshots.new.self c.index_mut-2.result.now c.push.new.self
    c.index_mut-2.ensures.value kept) c.push.ensures.err
