use Rattle.cal_replay.proofs.ShowingLemmas.{ShownUpTo}
use Rattle.cal_replay.proofs.showing.show_all.Given as goal

-- the channels before this one were shown the line
abbrev pub invariant-loop-place : goal.invariant-loop-place
invariant-loop-place g l =
    ShownUpTo l.common l.numbers l.thread l.shown l.fn.channels l.place l.channels
