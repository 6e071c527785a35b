use Rattle.std.proofs.Common.{◌≡◌, take}
use Rattle.std.specs.List.{flat_map}
use Rattle.cal_engine.specs.Learning.{learned}
use Rattle.cal_engine.proofs.spoken.learn_readings.Given as goal

abbrev pub invariant-loop-reading : goal.invariant-loop-reading
invariant-loop-reading l =
    l.names.keys
    ≡ learned l.initial.names.keys (flat_map (λ r. r.names) (take l.reading-index l.readings))
