use Rattle.std.proofs.Common.{refl, arith, ◌<◌, ◌^◌}
use Rattle.cal_channel.proofs.SaidLemmas.{can-take}
use Rattle.cal_process.specs.Operations.{history_of}
use Rattle.cal_run.proofs.LineLemmas.{line-places}
use Rattle.cal_thread.specs.Threads.{sight_of}
use Rattle.cal_replay.proofs.showing.show_to.Goals as goal

pub take_if-taken-requires-clause-places : goal.take_if-taken-requires-clause-places
take_if-taken-requires-clause-places g c =
    line-places c.args.common.now.script.now c.args.shown.line c.requires.placed

pub take_if-taken-requires-clause-can : goal.take_if-taken-requires-clause-can
take_if-taken-requires-clause-can g c taken =
    let common = c.args.common.now in
    let thread = c.args.thread.now in
    let t = c.requires.thread in
    let small : c.args.shown.reading < 2 ^ 64 = omega arith in
    can-take common.script.now (history_of t.h) thread.process.seen t.state c.args.shown.reading
    c.previous.result c.args.channel.now c.args.shown.line c.requires.common.runnable
    c.requires.placed t.said small common.tree thread.tree _ (record {
      mine = t.has.mine;
      process = t.has.taken.held;
      readings = t.has.readings;
      reading = refl;
      previous = refl;
    })

pub take_if-taken-requires-clause-asked : goal.take_if-taken-requires-clause-asked
take_if-taken-requires-clause-asked g c =
    let at = c.args.thread.ref_ptr in
    let t = c.args.thread.now in
    c.requires.read (record {
      board = record { ref_ptr = at; now = t.board };
      readings = record { ref_ptr = at; now = t.readings };
      process = record { ref_ptr = at; now = t.process.board };
      reading = c.args.shown.reading;
      previous = c.previous.result;
      timed = t.timed;
    }) refl refl

pub returns : goal.returns
returns g c = record {
  takes = λ attributes h state named has. c.in_ok-taken.ensures.takes attributes
      (sight_of c.args.common.now.script.now h c.args.thread.now.process.seen state
      c.args.shown.reading c.args.kept.now.previous) named (record {
        mine = has.mine;
        process = has.taken.held;
        readings = has.readings;
        reading = refl;
        previous = c.previous.ensures;
      });
  previous = c.in_ok-taken.ensures.previous;
  services = c.in_ok-taken.ensures.services;
}
