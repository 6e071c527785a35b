use Rattle.std.proofs.Common.{◌≡◌, map, take}
use Rattle.cal_events.specs.Worlds.{thread_at_start}
use Rattle.cal_steps.proofs.begin.first_threads.Given as goal

-- the threads so far
abbrev pub invariant-loop-note : goal.invariant-loop-note
invariant-loop-note l = l.threads.items
    ≡ map (thread_at_start l.script) (take l.note-index l.journal.threads)
