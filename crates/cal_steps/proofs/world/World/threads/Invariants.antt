use Rattle.std.proofs.Common.{◌≡◌, map, take}
use Rattle.cal_events.specs.Worlds.{ThreadWorld}
use Rattle.cal_steps.proofs.world.World.threads.Given as goal

-- the notes of the threads so far
abbrev pub invariant-loop-thread : goal.invariant-loop-thread
invariant-loop-thread l = l.notes
    ≡ map (λ (t : ThreadWorld). t.note) (take l.thread-index l.self.threads)
