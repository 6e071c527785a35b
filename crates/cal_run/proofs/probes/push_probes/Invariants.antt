use Rattle.std.proofs.Common.{List, map, take}
use Rattle.cal_run.specs.Adding.{AddsEntries}
use Rattle.cal_run.specs.Numbers.{AreNamed}
use Rattle.cal_run.specs.Snapshots.{numbered, probe_of, probe_value}
use Rattle.cal_value.specs.declared.attribute.Attribute.{Attribute}
use Rattle.cal_run.proofs.probes.push_probes.Given as goal

-- what the probes so far answer was added
abbrev pub invariant-loop-probe : goal.invariant-loop-probe
invariant-loop-probe g l =
    (attributes : List Attribute) → AreNamed attributes l.script l.numbers
    → AddsEntries attributes (g.S.ImmediateSink.imms l.fn.out l.script.values)
    (g.S.ImmediateSink.imms l.out l.script.values)
    (map (λ p. numbered (probe_of p) (probe_value p l.depths)) (take l.probe-index l.probes))
