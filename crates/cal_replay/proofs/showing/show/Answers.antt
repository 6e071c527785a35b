use Rattle.std.proofs.Common.{sym, ◌∙◌}
use Rattle.cal_replay.proofs.ShowingLemmas.{none-shown, reads-nothing, rooms-after, rooms-stay}
use Rattle.cal_replay.proofs.ShowingLemmas.{thread-reads, timed-reads}
use Rattle.cal_replay.proofs.showing.show.Goals as goal

pub show_all-requires-clause-thread : goal.show_all-requires-clause-thread
show_all-requires-clause-thread g c =
    let t = c.requires.thread in
    record {
      h = t.h;
      state = t.state;
      has = c.in_ok-closed.ensures.state t.h t.state t.has;
      said = t.said;
    }

pub show_all-requires-clause-may : goal.show_all-requires-clause-may
show_all-requires-clause-may g c =
    let m = c.requires.may in
    record {
      many = m.many;
      room = m.room;
      timed = timed-reads c.args.thread.now c.read_closed.new.thread
          c.args.common.now.script.now.channels c.in_ok-closed.ensures.reads m.timed;
    }

pub returns-then-not-is_taken-clause-shown : goal.returns-then-not-is_taken-clause-shown
returns-then-not-is_taken-clause-shown g c = none-shown c.args.common.now c.args.numbers.now
    c.args.thread.now c.args.shown c.args.channels.now
    (sym c.is_taken.ensures ∙ c.if-not-is_taken.true)

pub returns-then-not-is_taken-clause-reads : goal.returns-then-not-is_taken-clause-reads
returns-then-not-is_taken-clause-reads g c = reads-nothing c.args.thread.now

pub returns-clause-thread : goal.returns-clause-thread
returns-clause-thread g c done h state w =
    thread-reads c.args.common.now c.args.thread.now c.read_closed.new.thread done h state
    c.in_ok-closed.ensures.reads (c.in_ok-closed.ensures.state h state w.has) w

pub returns-then-not-is_taken-clause-room : goal.returns-then-not-is_taken-clause-room
returns-then-not-is_taken-clause-room g c left room = rooms-stay c.args.channels.now left room

pub returns-clause-room : goal.returns-clause-room
returns-clause-room g c left room =
    rooms-after c.args.common.now c.args.numbers.now c.read_closed.new.thread c.args.shown
    c.args.channels.now c.show_all.new.channels left c.requires.may.many
    c.in_ok-show_all.ensures room
