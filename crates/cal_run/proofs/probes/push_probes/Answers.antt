use Rattle.std.proofs.Common.{List, map, subst}
use Rattle.std.proofs.lemmas.List.{take_all}
use Rattle.cal_run.specs.Adding.{AddsEntries}
use Rattle.cal_run.specs.Snapshots.{numbered, probe_of, probe_value}
use Rattle.cal_run.proofs.AddingLemmas.{adds-next, adds-none, adds-number, probe-numbered}
use Rattle.cal_script.specs.declared.script.ProbeKind.{ProbeKind}
use Rattle.cal_run.proofs.probes.push_probes.Goals as goal

pub loop-probe-init : goal.loop-probe-init
loop-probe-init g c = λ attributes named. adds-none attributes _

pub loop-probe-preserved : goal.loop-probe-preserved
loop-probe-preserved g c = λ attributes named.
    let values = c.args.script.now.values in
    let imms = g.S.ImmediateSink.imms in
    let first = imms c.args.out.now values in
    let old = imms c.loop-probe.out values in
    let new = imms c.push_number.new.self values in
    adds-next attributes
    (λ (p : ProbeKind). numbered (probe_of p) (probe_value p c.args.depths.now))
    c.args.probes.now c.loop-probe.probe-index _
    first old new c.loop-probe-test.true (c.loop-probe.invariant attributes named)
    (adds-number attributes old new c.probe_number-attribute.result _ c.ask.result _
    (probe-numbered attributes c.args.script.now c.args.numbers.now named _ _
    c.probe_number-attribute.ensures)
    c.ask.ensures (c.in_ok-push_number.ensures values))

pub returns : goal.returns
returns g c = λ attributes named.
    let imms = g.S.ImmediateSink.imms in
    let values = c.args.script.now.values in
    subst (λ (ps : List ProbeKind). AddsEntries attributes (imms c.args.out.now values)
    (imms c.loop-probe.out values)
    (map (λ (p : ProbeKind). numbered (probe_of p) (probe_value p c.args.depths.now)) ps))
    (take_all c.loop-probe.probe-index c.args.probes.now c.loop-probe-test.false)
    (c.loop-probe.invariant attributes named)
