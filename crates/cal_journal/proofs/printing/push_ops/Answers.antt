use Rattle.std.proofs.Common.{arith}
use Rattle.std.proofs.lemmas.Grind.{common_steps}
use Rattle.std.proofs.lemmas.List.Elements.{All-more}
use Rattle.cal_journal.specs.ReadBack.{HoldsOp}
use Rattle.cal_journal.proofs.printing.push_ops.Goals as goal

pub loop-op-preserved : goal.loop-op-preserved
loop-op-preserved c = record {
  text = grind (arith, common_steps);
  held = All-more HoldsOp c.args.ops.now c.loop-op.op-index _ c.loop-op-test.true
      c.loop-op.invariant.held c.in_ok-push_op.ensures.held;
}
