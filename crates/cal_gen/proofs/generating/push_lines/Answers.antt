use Rattle.std.proofs.Common.{◌≡◌, suc, ◌+◌, ◌-◌, arith}
use Rattle.cal_gen.proofs.Turns.{next_line}
use Rattle.cal_gen.proofs.generating.push_lines.Goals as goal

pub loop-preserved : goal.loop-preserved
loop-preserved c =
    let left : c.args.lines - c.loop.counter ≡ suc (c.args.lines - (c.loop.counter + 1)) = omega arith in
    let line = c.in_ok-depth.ensures in
    let next = next_line _ _ left c.loop.draws.x c.loop.depth _ _ c.loop.text _ _ _ line.text line.draws line.depth
    c.loop.invariant.1 c.loop.invariant.2 in
    (line.within, next.0, next.1)
