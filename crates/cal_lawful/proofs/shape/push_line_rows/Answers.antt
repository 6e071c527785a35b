use Rattle.std.proofs.Common.{◌+◌, arith}
use Rattle.std.proofs.lemmas.Grind.{common_steps}
use Rattle.cal_lawful.proofs.BrokenLemmas.{line_rows-drop}
use Rattle.cal_lawful.proofs.shape.push_line_rows.Goals as goal

pub loop-place-preserved : goal.loop-place-preserved
loop-place-preserved c =
    let next = line_rows-drop c.args.thread (c.loop-place.place + 1) c.loop-place.place
    c.args.lines.now c.loop-place-test.true in
    grind (arith, common_steps, next)
