use Rattle.std.proofs.Common.{◌≡◌, ◌+◌, ◌++◌, drop}
use Rattle.std.specs.Prelude.{zip}
use Rattle.cal_world.specs.Turns.{turns_from}
use Rattle.cal_world.proofs.listing.list_thread.Given as goal

-- the lines so far, and those that are left
abbrev pub invariant-loop-place : goal.invariant-loop-place
invariant-loop-place l = l.turns.items
    ++ turns_from l.thread (l.place + 1) l.before (drop l.place (zip l.lines l.notes))
    ≡ l.fn.turns.items ++ turns_from l.thread 1 0 (zip l.lines l.notes)
