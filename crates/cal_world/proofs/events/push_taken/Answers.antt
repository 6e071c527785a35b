use Rattle.std.proofs.Common.{◌∙◌, ◌++◌, ◌+◌, ap}
use Rattle.std.specs.Prelude.{List, flat_map, slice_get, slice_range}
use Rattle.cal_world.proofs.ListLemmas.{nodes-at, range-end, range-next}
use Rattle.cal_world.specs.Events.{placed_nodes}
use Rattle.cal_world.specs.declared.event.Event.{Event}
use Rattle.cal_world.proofs.events.push_taken.Goals as goal

pub loop-place-preserved : goal.loop-place-preserved
loop-place-preserved c =
    let f = placed_nodes c.args.script.now c.args.journal.now c.args.thread in
    let i = c.loop-place.place in
    ap (λ (events : List Event). events
    ++ flat_map f (slice_range c.args.journal.now.ops (i + 1) c.args.to))
    (c.in_ok-push_placed.ensures
    ∙ ap (λ (more : List Event). c.loop-place.events ++ more)
    (nodes-at c.args.script.now c.args.journal.now c.args.thread
    (slice_get c.args.journal.now.ops i)))
    ∙ range-next f c.args.journal.now.ops i c.args.to c.loop-place.events _
    c.loop-place-test.true c.loop-place.invariant

pub returns : goal.returns
returns c =
    range-end (placed_nodes c.args.script.now c.args.journal.now c.args.thread)
    c.args.journal.now.ops c.loop-place.place c.args.to c.loop-place.events _
    c.loop-place-test.false c.loop-place.invariant
