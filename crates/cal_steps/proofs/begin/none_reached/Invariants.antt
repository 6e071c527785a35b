use Rattle.std.proofs.Common.{◌≡◌, map, take}
use Rattle.cal_script.specs.declared.journal.ThreadNote.{ThreadNote}
use Rattle.cal_steps.proofs.begin.none_reached.Given as goal
use Rattle.cal_world.specs.Progress.{behind}

-- one for each thread so far
abbrev pub invariant-loop-note : goal.invariant-loop-note
invariant-loop-note l = l.reached.items
    ≡ map (λ (n : ThreadNote). behind 0) (take l._note-index l.journal.threads)
