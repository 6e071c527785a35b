use Rattle.std.proofs.Common.{◌≡◌, suc, ◌+◌, ◌-◌, arith}
use Rattle.cal_gen.proofs.ThreadTurns.{line_drawn, line_opened, next_line}
use Rattle.cal_gen.proofs.making.thread_lines.Goals as goal

pub loop-preserved : goal.loop-preserved
loop-preserved c =
    let left : c.args.count - c.loop.counter ≡ suc (c.args.count - (c.loop.counter + 1)) = omega arith in
    let line = c.in_ok-depth.ensures in
    let was = c.loop.invariant in
    record {
      within = line.within;
      few = omega (arith, line.few, was.few);
      lines = next_line _ _ left c.loop.opened c.loop.draws.x c.loop.depth _ _ _ line.values line.draws line.depth c.loop.lines _ _ line.line was.lines;
      values = line_opened _ _ left c.loop.opened c.loop.draws.x c.loop.depth _ _ _ line.values line.draws line.depth _ was.values;
      draws = line_drawn _ _ left c.loop.opened c.loop.draws.x c.loop.depth _ _ _ line.values line.draws line.depth _ was.draws;
    }
