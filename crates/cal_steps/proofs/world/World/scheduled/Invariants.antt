use Rattle.std.proofs.Common.{◌≡◌, drop}
use Rattle.cal_events.specs.Effects.{world_behind}
use Rattle.cal_events.specs.Worlds.{world_at_start}
use Rattle.cal_steps.proofs.world.World.scheduled.Given as goal
use Rattle.cal_steps.specs.Behind.{IsBehind}
use Rattle.cal_world.specs.Progress.{AreNext}
use Rattle.cal_world.specs.Schedule.{schedule_of}

-- the events left are each the next of their thread, and leave the world of the whole schedule
abbrev pub invariant-loop-event : goal.invariant-loop-event
invariant-loop-event l = record {
  behind : IsBehind l.script l.journal l.world;
  next : AreNext l.script l.journal l.world.progress
      (drop l.event-index (schedule_of l.script l.journal));
  left : world_behind l.script l.journal l.world
      (drop l.event-index (schedule_of l.script l.journal))
      ≡ world_behind l.script l.journal (world_at_start l.script l.journal)
      (schedule_of l.script l.journal);
}
