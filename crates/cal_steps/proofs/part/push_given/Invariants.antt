use Rattle.std.proofs.Common.{◌≡◌, ◌++◌, take}
use Rattle.cal_events.specs.Worlds.{given_by}
use Rattle.cal_steps.proofs.part.push_given.Given as goal

-- what the parts so far have is added
abbrev pub invariant-loop-part : goal.invariant-loop-part
invariant-loop-part l = l.taken ≡ l.fn.taken ++ given_by l.thread (take l.part-index l.book)
