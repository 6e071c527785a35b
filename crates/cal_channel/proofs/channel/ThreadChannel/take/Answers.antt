use Rattle.std.proofs.Common.{[], ◌∷◌, map, ap, subst, ◌∙◌, if◌then◌else◌}
use Rattle.cal_channel.proofs.ChannelLemmas.{services-kept, shows-timed, takes-one}
use Rattle.cal_channel.proofs.MeaningLemmas.{small-alike}
use Rattle.cal_channel.specs.Channels.{TakesMore}
use Rattle.cal_channel.specs.Shown.{numbered_entry}
use Rattle.cal_channel.specs.Traces.{ShownSnap}
use Rattle.cal_channel.specs.Values.{ChannelValue, KeepsServices}
use Rattle.cal_hand.specs.Nodes.{NodeAt}
use Rattle.cal_run.specs.Snapshots.{snapshot_of}
use Rattle.cal_channel.proofs.channel.ThreadChannel.take.Goals as goal

pub add_to_table-requires-clause-small : goal.add_to_table-requires-clause-small
add_to_table-requires-clause-small g c =
    let can = c.requires.can in
    let script = c.args.script.now in
    let nodes = c.args.nodes.now in
    let shows = shows-timed (NodeAt nodes.tree.now nodes.seat.now) script c.args.moment.now
    can.sight c.args.channel.now.timer c.requires.timed can.shows in
    let means = c.in_ok-fill.ensures c.requires.named.0 can.sight c.requires.named.1 shows in
    small-alike c.requires.named.0 script.values _ _ means.imms can.small

pub returns-clause-takes : goal.returns-clause-takes
returns-clause-takes g c attributes s named shows =
    let script = c.args.script.now in
    let nodes = c.args.nodes.now in
    let i = c.self.inside in
    let old : ChannelValue =
    record { previous = i.previous; trace = i.trace; table = i.table } in
    let new : ChannelValue = record {
      previous = c.previous_after-self-inside.result;
      trace = c.add_to_trace.new.trace;
      table = c.add_to_table.new.table;
    } in
    let snap : ShownSnap = record {
      nodes = c.fill.new.self.nodes.items;
      entries = c.fill.new.self.entries.items;
    } in
    let rec = snapshot_of script s c.args.channel.now c.args.op in
    let timed = shows-timed (NodeAt nodes.tree.now nodes.seat.now) script c.args.moment.now s
    c.args.channel.now.timer c.requires.timed shows in
    subst (λ (v : ChannelValue). TakesMore attributes script nodes.tree.now nodes.seat.now v new
    (rec ∷ [])) c.self.view_is
    (takes-one attributes script nodes.tree.now nodes.seat.now rec old new snap
    c.in_ok-add_to_trace.ensures c.in_ok-add_to_table.ensures
    (c.in_ok-fill.ensures attributes s named timed))

pub returns-clause-services : goal.returns-clause-services
returns-clause-services g c =
    let i = c.self.inside in
    let old : ChannelValue =
    record { previous = i.previous; trace = i.trace; table = i.table } in
    let new : ChannelValue = record {
      previous = c.previous_after-self-inside.result;
      trace = c.add_to_trace.new.trace;
      table = c.add_to_table.new.table;
    } in
    let snap : ShownSnap = record {
      nodes = c.fill.new.self.nodes.items;
      entries = c.fill.new.self.entries.items;
    } in
    subst (λ (v : ChannelValue). KeepsServices v new) c.self.view_is
    (services-kept old new snap (map (numbered_entry c.args.script.now.values) snap.entries)
    c.in_ok-add_to_trace.ensures c.in_ok-add_to_table.ensures)

pub returns-clause-previous : goal.returns-clause-previous
returns-clause-previous g c = c.previous_after-self-inside.ensures
    ∙ ap (λ (v : ChannelValue).
    if c.args.channel.now.timer then c.args.moment.now.reading else v.previous) c.self.view_is
