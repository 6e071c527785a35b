use Rattle.std.proofs.Common.{◌≡◌, Bool, true, sym, subst, ◌∙◌, ◌-◌, OnOk}
use Rattle.std.specs.Prelude.{Option}
use Rattle.std.proofs.lemmas.Result.{on_ok_weaker}
use Rattle.cal_run.specs.Adding.{AddsEntries, AddsShown}
use Rattle.cal_run.specs.Snapshots.{duration, time_entries}
use Rattle.cal_run.specs.declared.operation.Operation.{Operation}
use Rattle.cal_run.proofs.AddingLemmas.{adds-both, adds-number}
use Rattle.cal_run.proofs.services.add_times.Goals as goal

pub returns-in-None : goal.returns-in-None
returns-in-None g c = λ attributes named s shows.
    let script = c.args.script.now in
    let old = g.S.ImmediateSink.imms c.args.out.now script.values in
    let new = g.S.ImmediateSink.imms c.push_number.new.self script.values in
    let on : c.args.timer ≡ true = cc in
    subst (λ timer. AddsEntries attributes old new (time_entries script s timer c.args.op)) (sym on)
    (subst (λ op. AddsEntries attributes old new (time_entries script s true op)) (sym c.in-None.is)
    (adds-number attributes old new c.args.numbers.now.duration duration
    c.saturating_sub-since.result _ named.duration
    (c.saturating_sub-since.ensures ∙ (λ j. shows.reading j - shows.previous j))
    (c.in_ok-push_number.ensures script.values)))

pub returns-in-Some : goal.returns-in-Some
returns-in-Some g c =
    let script = c.args.script.now in
    let imms = g.S.ImmediateSink.imms in
    let old = imms c.args.out.now script.values in
    let mid = imms c.push_number.new.self script.values in
    let new = imms c.add_inclusive.new.out script.values in
    let on : c.args.timer ≡ true = cc in
    let Adds = λ (timer : Bool) (op : Option Operation). OnOk c.add_inclusive.result
    (AddsShown (g.V.NodeValues.is_node c.args.nodes.now) script c.args.numbers.now c.args.moment.now
    old new (λ s. time_entries script s timer op)) in
    subst (λ timer. Adds timer c.args.op) (sym on) (subst (λ op. Adds true op) (sym c.in-Some.is)
    (on_ok_weaker c.add_inclusive.result (λ more attributes named s shows.
    adds-both attributes old mid new _ _
    (adds-number attributes old mid c.args.numbers.now.duration duration
    c.saturating_sub-since.result _ named.duration
    (c.saturating_sub-since.ensures ∙ (λ j. shows.reading j - shows.previous j))
    (c.in_ok-push_number.ensures script.values))
    (more attributes named s shows)) c.add_inclusive.ensures))
