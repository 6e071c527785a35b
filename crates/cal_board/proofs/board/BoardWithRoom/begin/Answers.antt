use Rattle.std.proofs.Common.{sym, ◌∙◌, refl, subst}
use Rattle.cal_board.proofs.AskingLemmas.{does_refused}
use Rattle.cal_board.proofs.TableReplies.{reply_to-table}
use Rattle.cal_board.proofs.StandingLemmas.{after_done, after_refused}
use Rattle.cal_board.specs.Blackboard.{Blackboard, IsTableReply}
use Rattle.cal_board.specs.Standing.{Stands}
use Rattle.cal_value.specs.declared.variant.Variant.{Variant}
use Rattle.cal_words.specs.declared.op.OpCode.TheVariants as code
use Rattle.cal_board.proofs.board.BoardWithRoom.begin.Goals as goal

pub returns-in_ok-open-in-Done-clause-steps : goal.returns-in_ok-open-in-Done-clause-steps
returns-in_ok-open-in-Done-clause-steps g c =
    let P = g.M.NodeMaker.is_node c.args.maker.now in
    let Q = g.M.NodeMaker.is_node c.open.new.maker in
    let v = g.M.NodeMaker.value_of c.args.maker.now c.args.value in
    record {
      replies = c.in-Done.ensures;
      stands = λ (b : Blackboard Variant) (is : Stands P c.args.self.now b).
          after_done P c.args.self.now b is c.args.attr Q c.open.new.self code.Begin v (sym c.in-Done.ensures)
          (c.in_ok-open-in-Done.ensures.stands b is);
    }

pub returns-in_default : goal.returns-in_default
returns-in_default g c =
    let P = g.M.NodeMaker.is_node c.args.maker.now in
    let v = g.M.NodeMaker.value_of c.args.maker.now c.args.value in
    record {
      steps = record {
        replies = c.begin_reply.ensures;
        stands = λ (b : Blackboard Variant) (is : Stands P c.args.self.now b).
            after_refused P c.args.self.now b is c.args.attr P code.Begin v
            (λ e. c.in_default.not-Done (c.begin_reply.ensures ∙ e)) is;
      };
      does = does_refused g.M.NodeMaker.adds c.args.maker.now c.args.maker.now c.args.self.now c.args.self.now
          c.args.attr v code.Begin c.begin_reply.result (λ e. c.in_default.not-Done e)
          (subst IsTableReply (sym c.begin_reply.ensures) (reply_to-table c.args.self.now code.Begin c.args.attr))
          (record { board = refl; maker = refl });
      err = tt;
      accepted = tt;
      refused = λ _. tt;
      onward = g.met.M.NodeMaker.same c.args.maker.now;
    }
