use Rattle.std.proofs.Common.{◌≡◌, ◌++◌}
use Rattle.std.specs.Prelude.{flat_map, slice_range}
use Rattle.cal_world.specs.Events.{placed_nodes}
use Rattle.cal_world.proofs.events.push_taken.Given as goal

-- the events so far, and those of the places that are left
abbrev pub invariant-loop-place : goal.invariant-loop-place
invariant-loop-place l =
    l.events ++ flat_map (placed_nodes l.script l.journal l.thread)
    (slice_range l.journal.ops l.place l.to)
    ≡ l.fn.events ++ flat_map (placed_nodes l.script l.journal l.thread)
    (slice_range l.journal.ops l.from l.to)
