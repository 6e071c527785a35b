use Rattle.std.proofs.Common.{◌≡◌, take}
use Rattle.cal_engine.specs.Learning.{learned}
use Rattle.cal_engine.proofs.spoken.learn_all.Given as goal

abbrev pub invariant-loop-name : goal.invariant-loop-name
invariant-loop-name l = l.names.keys ≡ learned l.initial.names.keys (take l.name-index l.more)
