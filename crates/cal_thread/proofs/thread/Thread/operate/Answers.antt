use Rattle.std.proofs.Common.{◌∙◌}
use Rattle.cal_board.specs.Readings.{readings_after}
use Rattle.cal_thread.proofs.ThreadLemmas.{taken-later}
use Rattle.cal_thread.proofs.thread.Thread.operate.Goals as goal

pub perform-requires-clause-seat : goal.perform-requires-clause-seat
perform-requires-clause-seat c = c.requires.thread.2.taken.at_tree

pub perform-requires-clause-held : goal.perform-requires-clause-held
perform-requires-clause-held c =
    let t = c.requires.thread in (t.1.board, t.2.mine)

pub returns-clause-operated : goal.returns-clause-operated
returns-clause-operated c h state s =
    let done = c.in_ok-perform.ensures in
    record {
      taken = taken-later c.args.common.now c.args.self.now.tree c.perform.new.seat
          c.args.self.now.process h done.seat done.later.3 s.taken;
      number = s.number;
      at_nodes = done.later.1 ∙ s.at_nodes;
      mine = done.changed state.board s.mine;
      readings = λ timed. c.in_ok-follow_if.ensures timed ∙ (λ j. readings_after
          (s.readings timed j) c.args.op.code (c.attr_ref-attr.ensures j) c.args.reading);
      clock = s.clock;
    }
