use Rattle.std.proofs.Common.{◌∙◌, List, ap, length}
use Rattle.cal_keeping.specs.Kept.{new_for}
use Rattle.cal_script.specs.declared.script.Channel.{Channel}
use Rattle.cal_keeping.proofs.FreshChannels.{each-fresh, each-fresh-ready, length-new_for}
use Rattle.cal_keeping.proofs.channels.Channels.new.Goals as goal

pub returns-clause-fresh : goal.returns-clause-fresh
returns-clause-fresh g c =
    let are = c.in_ok-channels.ensures
    ∙ ap (λ (cs : List Channel). new_for cs c.args.shapes.now) c.as_slice.ensures in
    each-fresh c.args.script.now.channels c.args.shapes.now c.in_ok-channels.channels.items are _
    c.requires.nothing

pub returns-clause-ready : goal.returns-clause-ready
returns-clause-ready g c timed left few timed_is =
    let channels = c.args.script.now.channels in
    let shapes = c.args.shapes.now in
    let are = c.in_ok-channels.ensures
    ∙ ap (λ (cs : List Channel). new_for cs shapes) c.as_slice.ensures in
    record {
      named = c.requires.named;
      many = ap length are ∙ length-new_for channels shapes c.requires.many;
      shapes = shapes;
      shaped = c.requires.many;
      takes_them = c.requires.takes;
      timed_is = timed_is;
      each = each-fresh-ready channels shapes c.in_ok-channels.channels.items are _
          c.requires.nothing left few;
    }
