use Rattle.std.proofs.Common.{List, ◌∙◌, ◌++◌, ap, arith}
use Rattle.std.proofs.lemmas.Grind.{common_steps}
use Rattle.std.specs.Prelude.{flat_map}
use Rattle.std.proofs.lemmas.Result.{on_ok_weaker}
use Rattle.cal_world.specs.Events.{events_of}
use Rattle.cal_world.specs.declared.turn.Turn.{Turn}
use Rattle.cal_world.proofs.scheduling.push_row.Goals as goal

pub returns : goal.returns
returns c =
    let f = events_of c.args.script.now c.args.journal.now in
    on_ok_weaker c.push_turns.result
    (λ pushed shared count ts are. pushed
    ∙ ap (λ (xs : List Turn). c.args.events.now ++ flat_map f xs)
    (grind (
      arith,
      common_steps,
      are.long,
      are.each c.args.seen c.index.result.now,
      c.requires.within,
      c.as_slice-row.ensures.value,
      c.index.ensures,
    )))
    c.push_turns.ensures
