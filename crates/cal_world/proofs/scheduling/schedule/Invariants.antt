use Rattle.std.proofs.Common.{◌≡◌, ◌-◌, ◌++◌}
use Rattle.std.specs.Prelude.{flat_map}
use Rattle.cal_world.specs.Events.{events_of}
use Rattle.cal_world.specs.Schedule.{schedule_of}
use Rattle.cal_world.specs.Turns.{turns, turns_by_seen}
use Rattle.cal_world.proofs.scheduling.schedule.Given as goal

-- the events of the lines so far, and of those that have seen more
abbrev pub invariant-loop-seen : goal.invariant-loop-seen
invariant-loop-seen l = l.events
    ++ flat_map (events_of l.script l.journal)
    (turns_by_seen l.script (turns l.script l.journal) l.seen (l.count - l.seen))
    ≡ schedule_of l.script l.journal
