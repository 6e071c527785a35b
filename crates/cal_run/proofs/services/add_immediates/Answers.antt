use Rattle.std.proofs.Common.{List, subst}
use Rattle.std.proofs.lemmas.Result.{on_ok_weaker}
use Rattle.cal_run.specs.Adding.{AddsEntries}
use Rattle.cal_run.specs.Snapshots.{probe_entries}
use Rattle.cal_run.proofs.AddingLemmas.{adds-both}
use Rattle.cal_script.specs.declared.script.ProbeKind.{ProbeKind}
use Rattle.cal_run.proofs.services.add_immediates.Goals as goal

pub returns : goal.returns
returns g c =
    let values = c.args.script.now.values in
    let imms = g.S.ImmediateSink.imms in
    let old = imms c.args.out.now values in
    let one = imms c.add_event.new.out values in
    let two = imms c.add_times.new.out values in
    let three = imms c.add_probes.new.out values in
    let new = imms c.add_values.new.out values in
    on_ok_weaker c.add_values.result (λ lasts attributes named s shows.
    adds-both attributes old three new _ _
    (adds-both attributes old two three _ _
    (adds-both attributes old one two _ _ (c.in_ok-add_event.ensures attributes named s shows)
    (c.in_ok-add_times.ensures attributes named s shows))
    (subst (λ (ps : List ProbeKind). AddsEntries attributes two three
    (probe_entries c.args.script.now s ps)) c.as_slice-probes.ensures
    (c.in_ok-add_probes.ensures attributes named s shows)))
    (lasts attributes named s shows)) c.add_values.ensures
