use Rattle.std.proofs.Common.{◌≡◌, map, take}
use Rattle.cal_engine.specs.Learning.{learned}
use Rattle.cal_engine.proofs.spoken.learn_conds.Given as goal

abbrev pub invariant-loop-cond : goal.invariant-loop-cond
invariant-loop-cond l =
    l.names.keys ≡ learned l.initial.names.keys (map (λ c. c.name) (take l.cond-index l.conds))
