use Rattle.std.proofs.Common.{◌≡◌, take}
use Rattle.std.specs.List.{flat_map}
use Rattle.cal_engine.specs.Learning.{learned}
use Rattle.cal_engine.specs.Looked.{let_names}
use Rattle.cal_engine.proofs.spoken.learn_lets.Given as goal

abbrev pub invariant-loop-definition : goal.invariant-loop-definition
invariant-loop-definition l =
    l.names.keys
    ≡ learned l.initial.names.keys (flat_map let_names (take l.definition-index l.lets))
