use Rattle.std.proofs.Common.{◌≡◌, ◌++◌, take, ℕ}
use Rattle.std.specs.Prelude.{flat_map}
use Rattle.std.specs.List.{enumerate_from}
use Rattle.cal_events.specs.Worlds.{ThreadWorld, book_in, given_by, held_by}
use Rattle.cal_steps.proofs.world.World.booked.Given as goal

-- what the book has of the threads so far, and what they keep
abbrev pub invariant-loop-number : goal.invariant-loop-number
invariant-loop-number l = l.taken ≡ flat_map (λ (t : ℕ × ThreadWorld).
    given_by t.0 (book_in l.self l.place) ++ (held_by t.1 l.place).unflushed)
    (enumerate_from 0 (take l.number l.self.threads))
