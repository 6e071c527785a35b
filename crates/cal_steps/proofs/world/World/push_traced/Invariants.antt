use Rattle.std.proofs.Common.{◌≡◌, ◌++◌, take}
use Rattle.std.specs.Prelude.{flat_map}
use Rattle.cal_events.specs.Worlds.{ThreadWorld, held_by}
use Rattle.cal_steps.proofs.world.World.push_traced.Given as goal

-- the traces of the threads so far
abbrev pub invariant-loop-thread : goal.invariant-loop-thread
invariant-loop-thread l = l.rows ≡ l.fn.rows
    ++ flat_map (λ (t : ThreadWorld). (held_by t l.place).trace) (take l.thread-index l.self.threads)
