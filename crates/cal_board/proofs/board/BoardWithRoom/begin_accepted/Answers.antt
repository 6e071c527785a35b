use Rattle.std.proofs.Common.{sym}
use Rattle.cal_board.proofs.StandingLemmas.{after_done}
use Rattle.cal_board.specs.Blackboard.{Blackboard}
use Rattle.cal_board.specs.Standing.{Stands}
use Rattle.cal_value.specs.declared.variant.Variant.{Variant}
use Rattle.cal_words.specs.declared.op.OpCode.TheVariants as code
use Rattle.cal_board.proofs.board.BoardWithRoom.begin_accepted.Goals as goal

pub returns-clause-steps : goal.returns-clause-steps
returns-clause-steps g c =
    let P = g.M.NodeMaker.is_node c.args.maker.now in
    let Q = g.M.NodeMaker.is_node c.open.new.maker in
    let v = g.M.NodeMaker.value_of c.args.maker.now c.args.value in
    record {
      replies = sym c.requires.accepted;
      stands = λ (b : Blackboard Variant) (is : Stands P c.args.self.now b).
          after_done P c.args.self.now b is c.args.attr Q c.open.new.self code.Begin v
          c.requires.accepted (c.in_ok-open.ensures.stands b is);
    }
