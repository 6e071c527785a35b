use Rattle.std.proofs.Common.{set, ap}
use Rattle.cal_events.specs.Worlds.{World}
use Rattle.cal_steps.proofs.FlushLemmas.{on-err}
use Rattle.cal_steps.proofs.world.World.end_line.Goals as goal

pub returns-in_err-end_line-clause-err : goal.returns-in_err-end_line-clause-err
returns-in_err-end_line-clause-err c = on-err c.from_residual.result (
  c.end_line.new.self,
  ap (λ (z : World). record z { threads = set z.threads c.args.thread c.end_line.new.self })
      c.self.view_is,
)
