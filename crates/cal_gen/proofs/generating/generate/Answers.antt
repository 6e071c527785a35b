use Rattle.std.proofs.Common.{◌≡◌, suc, ◌+◌, ◌-◌, ◌++◌, ◌∙◌, ap, arith}
use Rattle.cal_gen.specs.Generated.{lines_from}
use Rattle.cal_gen.proofs.Turns.{next_thread}
use Rattle.cal_gen.proofs.generating.generate.Goals as goal

pub loop-preserved : goal.loop-preserved
loop-preserved c =
    let left : c.args.threads - c.loop.counter ≡ suc (c.args.threads - (c.loop.counter + 1)) = omega arith in
    let lines = c.in_ok-push_lines.ensures in
    let text = lines.text
    ∙ ap (λ t. t ++ (lines_from c.args.lines (record { x = c.loop.draws.x; depth = 0 })).text) c.in_ok-push_str-2.ensures.ok in
    next_thread _ _ left c.loop.draws.x c.args.lines _ c.loop.text _ _ text lines.draws c.loop.invariant
