use Rattle.std.proofs.Common.{decimal}
use Rattle.cal_write.proofs.LineLemmas.{joined_node}
use Rattle.cal_write.proofs.lines.write_node.Goals as goal

pub returns : goal.returns
returns c =
    rw (
      c.in_ok-put-4.ensures,
      c.in_ok-write_parent.ensures,
      c.in_ok-write_value.ensures,
      c.in_ok-put-3.ensures,
      c.in_ok-put_equals-2.ensures,
      c.in_ok-put-2.ensures,
      c.in_ok-put_equals.ensures,
      c.in_ok-put.ensures,
    ) (joined_node c.args.out.now (decimal c.args.id) (decimal c.args.attribute) _ _)
