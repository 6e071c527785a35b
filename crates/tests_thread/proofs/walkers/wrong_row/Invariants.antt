use Rattle.tests_thread.proofs.walkers.wrong_row.Given as goal
use Rattle.tests_thread.specs.Behind.{IsBehind}

-- both threads stand between two lines
abbrev pub invariant-loop-place : goal.invariant-loop-place
invariant-loop-place l = record {
  first : IsBehind l.common l.first.thread l.first.done;
  second : IsBehind l.common l.second.thread l.second.done;
}
