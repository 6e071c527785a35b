use Rattle.std.proofs.Common.{refl, sym, subst, arith}
use Rattle.cal_board.specs.Blackboard.{Blackboard, nothing_open}
use Rattle.cal_process.proofs.OperationLemmas.{nothing-held}
use Rattle.cal_process.specs.Boards.{Held}
use Rattle.cal_words.specs.declared.node.NodeId.{NodeId}
use Rattle.cal_process.proofs.replica.Replica.new.Goals as goal

pub returns-clause-taken : goal.returns-clause-taken
returns-clause-taken c common seat at_tree at_log words = record {
  at_tree = at_tree;
  at_log = at_log;
  read = λ k d l. absurd (omega (arith, l));
  long = refl;
  words = words;
  held = subst (λ (b : Blackboard NodeId). Held common seat b nothing_open) (sym c.new.ensures)
      (nothing-held common seat);
}
