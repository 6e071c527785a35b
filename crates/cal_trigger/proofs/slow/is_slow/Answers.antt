use Rattle.std.proofs.Common.{◌≡◌, [], ◌∷◌, refl, sym, ◌∙◌, arith}
use Rattle.std.proofs.lemmas.Grind.{common_steps}
use Rattle.cal_trigger.specs.Named.{slow_condition}
use Rattle.cal_trigger.proofs.Deciding.{first_speaks, none_speaks}
use Rattle.cal_trigger.proofs.slow.is_slow.Goals as goal

pub returns-then-is_long_duration : goal.returns-then-is_long_duration
returns-then-is_long_duration c =
    let left : c.loop-entry.entry-iterator ≡ c.in-Some.entry.now ∷ c.next.new.self =
    grind (arith, common_steps, c.in-Some.ensures.steps) in
    first_speaks slow_condition refl c.args.rec.now c.loop-entry.entry-iterator c.next.new.self
    c.in-Some.entry.now left c.loop-entry.invariant
    (sym c.if-is_long_duration.true ∙ c.is_long_duration.ensures)

pub returns : goal.returns
returns c =
    let left : c.loop-entry.entry-iterator ≡ [] =
    grind (arith, common_steps, c.in-None.ensures.steps) in
    none_speaks slow_condition refl c.args.rec.now c.loop-entry.entry-iterator left
    c.loop-entry.invariant
