use Rattle.std.proofs.Common.{◌∙◌, ◌++◌, ◌+◌, ap, drop}
use Rattle.std.specs.Prelude.{List, flat_map}
use Rattle.cal_world.proofs.ListLemmas.{left-end, left-next}
use Rattle.cal_world.specs.Events.{events_of}
use Rattle.cal_world.specs.declared.event.Event.{Event}
use Rattle.cal_world.proofs.events.push_turns.Goals as goal

pub loop-place-preserved : goal.loop-place-preserved
loop-place-preserved c =
    let f = events_of c.args.script.now c.args.journal.now in
    let i = c.loop-place.place in
    let t = c.turn_at-turn.result in
    ap (λ (events : List Event). events ++ flat_map f (drop (i + 1) c.args.turns.now))
    c.in_ok-push_events.ensures
    ∙ left-next f c.args.turns.now i t c.loop-place.events _
    c.loop-place-test.true (c.turn_at-turn.ensures t) c.loop-place.invariant

pub returns : goal.returns
returns c =
    left-end (events_of c.args.script.now c.args.journal.now) c.args.turns.now c.loop-place.place
    c.loop-place.events _ c.loop-place-test.false c.loop-place.invariant
