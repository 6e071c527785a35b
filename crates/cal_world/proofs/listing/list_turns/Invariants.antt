use Rattle.std.proofs.Common.{◌≡◌, ◌++◌, drop}
use Rattle.std.specs.Prelude.{flat_map, zip}
use Rattle.std.specs.List.{enumerate_from}
use Rattle.cal_world.specs.Turns.{turns, turns_of}
use Rattle.cal_world.proofs.listing.list_turns.Given as goal

-- the lines of the threads so far, and of those that are left
abbrev pub invariant-loop-thread : goal.invariant-loop-thread
invariant-loop-thread l = l.turns.items
    ++ flat_map turns_of
    (enumerate_from l.thread (drop l.thread (zip l.script.threads l.journal.threads)))
    ≡ turns l.script l.journal
