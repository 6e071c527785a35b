use Rattle.std.proofs.Common.{arith}
use Rattle.std.proofs.lemmas.Grind.{common_steps}
use Rattle.cal_lawful.proofs.BrokenLemmas.{falses-more}
use Rattle.cal_lawful.proofs.shape.push_lines.Goals as goal

pub loop-place-preserved : goal.loop-place-preserved
loop-place-preserved c =
    let more = falses-more c.args.lines.now c.loop-place._place c.loop-place-test.true in
    grind (arith, common_steps, more)
