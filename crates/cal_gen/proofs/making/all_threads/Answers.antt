use Rattle.std.proofs.Common.{◌≡◌, suc, ◌+◌, ◌-◌, ◌*◌, arith}
use Rattle.cal_gen.proofs.ThreadTurns.{next_thread, thread_opened}
use Rattle.cal_gen.proofs.making.all_threads.Goals as goal

pub loop-preserved : goal.loop-preserved
loop-preserved c =
    let left : c.args.threads - c.loop.counter ≡ suc (c.args.threads - (c.loop.counter + 1)) = omega arith in
    let made = c.in_ok-thread_lines.ensures in
    let was = c.loop.invariant in
    let product : (c.loop.counter + 1) * c.args.lines ≡ c.loop.counter * c.args.lines + c.args.lines = grind arith in
    record {
      few = omega (arith, product, made.few, was.few);
      threads = next_thread _ _ left c.loop.opened c.loop.draws.x c.args.lines _ _ made.values made.draws c.loop.all _ _ _
          c.in_ok-push.ensures.ok made.lines was.threads;
      values = thread_opened _ _ left c.loop.opened c.loop.draws.x c.args.lines _ _ made.values made.draws _ was.values;
    }
