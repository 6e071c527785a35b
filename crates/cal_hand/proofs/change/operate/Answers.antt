use Rattle.std.proofs.Common.{false, sym, subst}
use Rattle.cal_board.proofs.StandingLemmas.{ended-Stands}
use Rattle.cal_board.specs.Blackboard.{Blackboard, ended}
use Rattle.cal_board.specs.Standing.{Stands}
use Rattle.cal_hand.specs.Changes.{changed_board}
use Rattle.cal_hand.specs.Nodes.{NodeAt}
use Rattle.cal_hand.specs.declared.change.Change.{Change}
use Rattle.cal_value.specs.declared.variant.Variant.TheVariants as variant
use Rattle.cal_words.specs.declared.node.NodeId.{NodeId}
use Rattle.cal_hand.proofs.change.operate.Goals as goal

pub returns-in-End-clause-stands : goal.returns-in-End-clause-stands
returns-in-End-clause-stands c b is =
    let P = NodeAt c.args.tree.now c.args.seat.now in
    let held = c.args.board.now in
    let a = c.args.attr in
    subst (λ (h : Blackboard NodeId). Stands P h (changed_board b a c.args.change))
    (sym c.end.ensures.after)
    (subst (λ (change : Change). Stands P (ended held a) (changed_board b a change)) (sym c.in-End.is)
    (ended-Stands P held b a (variant.Bool false) is))

pub returns-in-End-clause-holds : goal.returns-in-End-clause-holds
returns-in-End-clause-holds c =
    let P = NodeAt c.args.tree.now c.args.seat.now in
    let held = c.args.board.now in
    let s = c.requires.stands in (
      ended s.0 c.args.attr,
      subst (λ (h : Blackboard NodeId). Stands P h (ended s.0 c.args.attr)) (sym c.end.ensures.after)
          (ended-Stands P held s.0 c.args.attr (variant.Bool false) s.1),
    )
