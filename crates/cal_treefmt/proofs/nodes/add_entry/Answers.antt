use Rattle.std.proofs.Common.{arith}
use Rattle.cal_treefmt.proofs.Walking.{Walks-other}
use Rattle.cal_treefmt.proofs.nodes.add_entry.Goals as goal

pub returns-then-not-is_of_hierarchy : goal.returns-then-not-is_of_hierarchy
returns-then-not-is_of_hierarchy c =
    Walks-other c.args.context.now c.args.parent (record { attr = c.args.attribute.now; value = c.args.value.now }) c.requires (grind arith)
