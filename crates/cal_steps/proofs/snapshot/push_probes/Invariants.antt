use Rattle.std.proofs.Common.{◌≡◌, ◌++◌, map, take}
use Rattle.cal_run.specs.Snapshots.{numbered, probe_of, probe_value}
use Rattle.cal_script.specs.declared.script.ProbeKind.{ProbeKind}
use Rattle.cal_steps.proofs.snapshot.push_probes.Given as goal

-- the answers of the probes so far are added
abbrev pub invariant-loop-probe : goal.invariant-loop-probe
invariant-loop-probe l = l.out ≡ l.fn.out ++ map (λ (p : ProbeKind).
    numbered (probe_of p) (probe_value p l.depths)) (take l.probe-index l.probes)
