use Rattle.std.proofs.Common.{subst, sym, false}
use Rattle.cal_board.proofs.StandingLemmas.{ended-Stands}
use Rattle.cal_board.specs.Blackboard.{Blackboard, board_after}
use Rattle.cal_board.specs.Standing.{Stands}
use Rattle.cal_hand.specs.Nodes.{NodeAt}
use Rattle.cal_value.specs.declared.variant.Variant.{Variant}
use Rattle.cal_value.specs.declared.variant.Variant.TheVariants as variant
use Rattle.cal_words.specs.declared.node.NodeId.{NodeId}
use Rattle.cal_words.specs.declared.op.OpCode.TheVariants as code
use Rattle.tests_hand.proofs.lines.reply_to.Goals as goal

pub returns-in-End-clause-stands : goal.returns-in-End-clause-stands
returns-in-End-clause-stands c =
    let P = NodeAt c.args.tree.now c.args.seat.now in
    let b = c.requires.stands.0 in
    let none : Variant = variant.Bool false in
    let after = board_after b code.End c.args.attr none none in (
      after,
      subst (λ (h : Blackboard NodeId). Stands P h after) (sym c.end.ensures.after)
          (ended-Stands P c.args.board.now b c.args.attr none c.requires.stands.1),
    )
