use Rattle.std.proofs.Common.{OnOk, sym, subst}
use Rattle.cal_run.specs.Adding.{AddsShown, MayAskFor}
use Rattle.cal_run.specs.Snapshots.{event_entries}
use Rattle.cal_run.proofs.services.add_event.Goals as goal

pub add_event_of-requires-clause-asked : goal.add_event_of-requires-clause-asked
add_event_of-requires-clause-asked g c =
    subst (MayAskFor (g.V.NodeValues.is_asked c.args.nodes.now) c.args.script.now
    c.args.moment.now) c.in-Some.is c.requires.asked

pub returns-in-Some : goal.returns-in-Some
returns-in-Some g c =
    let script = c.args.script.now in
    let imms = g.S.ImmediateSink.imms in
    subst (λ op. OnOk c.add_event_of.result
    (AddsShown (g.V.NodeValues.is_node c.args.nodes.now) script c.args.numbers.now c.args.moment.now
    (imms c.args.out.now script.values) (imms c.add_event_of.new.out script.values)
    (λ s. event_entries script s op))) (sym c.in-Some.is) c.add_event_of.ensures
