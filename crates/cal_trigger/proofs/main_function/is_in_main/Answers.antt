use Rattle.std.proofs.Common.{◌≡◌, [], ◌∷◌, refl, sym, ◌∙◌, arith}
use Rattle.std.proofs.lemmas.Grind.{common_steps}
use Rattle.cal_trigger.specs.Named.{main_condition}
use Rattle.cal_trigger.proofs.Deciding.{first_speaks, none_speaks}
use Rattle.cal_trigger.proofs.main_function.is_in_main.Goals as goal

pub returns-then-is_main_function : goal.returns-then-is_main_function
returns-then-is_main_function c =
    let left : c.loop-entry.entry-iterator ≡ c.in-Some.entry.now ∷ c.next.new.self =
    grind (arith, common_steps, c.in-Some.ensures.steps) in
    first_speaks main_condition refl c.args.rec.now c.loop-entry.entry-iterator c.next.new.self
    c.in-Some.entry.now left c.loop-entry.invariant
    (sym c.if-is_main_function.true ∙ c.is_main_function.ensures)

pub returns : goal.returns
returns c =
    let left : c.loop-entry.entry-iterator ≡ [] =
    grind (arith, common_steps, c.in-None.ensures.steps) in
    none_speaks main_condition refl c.args.rec.now c.loop-entry.entry-iterator left
    c.loop-entry.invariant
