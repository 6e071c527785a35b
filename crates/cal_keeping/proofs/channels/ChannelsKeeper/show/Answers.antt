use Rattle.std.proofs.Common.{◌∙◌, arith, refl, subst, sym}
use Rattle.cal_keeping.proofs.KeptChannels.{each-shown, may-show, told-whole}
use Rattle.cal_replay.specs.Showing.{MayShow}
use Rattle.cal_keeping.proofs.channels.ChannelsKeeper.show.Goals as goal

pub show-requires-clause-named : goal.show-requires-clause-named
show-requires-clause-named g c = c.requires.ready.1.named

pub show-requires-clause-may : goal.show-requires-clause-may
show-requires-clause-may g c =
    let script = c.args.common.now.script.now in
    let runner = c.args.runner.now in
    subst (MayShow script runner) (sym c.as_mut_slice.ensures.value)
    (may-show _ _ script c.args.self.now runner c.requires.ready.0 c.requires.ready.1)

pub returns-clause-shown : goal.returns-clause-shown
returns-clause-shown g c =
    let vec = c.args.self.now.channels in
    let long = vec.ok.0 in
    record {
      shown = told-whole c.args.common.now c.args.self.now.numbers.now c.show.new.thread
          c.args.line vec.items c.as_mut_slice.result.now c.show.new.channels vec.len
          c.as_mut_slice.ensures.value (omega (arith, long)) c.in_ok-show.ensures.shown;
      same = refl;
    }

pub returns-clause-ready : goal.returns-clause-ready
returns-clause-ready g c left ready =
    let common = c.args.common.now in
    let kept = c.args.self.now in
    let vec = kept.channels in
    let long = vec.ok.0 in
    let told = told-whole common kept.numbers.now c.show.new.thread c.args.line vec.items
    c.as_mut_slice.result.now c.show.new.channels vec.len c.as_mut_slice.ensures.value
    (omega (arith, long)) c.in_ok-show.ensures.shown in
    record {
      named = ready.named;
      many = told.many ∙ ready.many;
      shapes = ready.shapes;
      shaped = ready.shaped;
      takes_them = ready.takes_them;
      timed_is = ready.timed_is;
      each = each-shown common kept.numbers.now c.show.new.thread c.args.line left ready.shapes
          vec.items _ _ told ready.each;
    }
