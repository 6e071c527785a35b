use Rattle.std.proofs.Common.{◌≡◌, ◌++◌, drop}
use Rattle.std.specs.Prelude.{flat_map}
use Rattle.cal_world.specs.Events.{events_of}
use Rattle.cal_world.proofs.events.push_turns.Given as goal

-- the events so far, and those of the lines that are left
abbrev pub invariant-loop-place : goal.invariant-loop-place
invariant-loop-place l =
    l.events ++ flat_map (events_of l.script l.journal) (drop l.place l.turns)
    ≡ l.fn.events ++ flat_map (events_of l.script l.journal) l.turns
