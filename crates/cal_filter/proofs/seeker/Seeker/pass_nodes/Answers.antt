use Rattle.std.proofs.Common.{ap, ◌∙◌}
use Rattle.cal_filter.specs.Memo.{with_roots}
use Rattle.cal_filter.proofs.Passing.{passed}
use Rattle.cal_filter.proofs.seeker.Seeker.pass_nodes.Goals as goal

pub returns-clause-knows : goal.returns-clause-knows
returns-clause-knows c = λ k.
    passed c.args.context.now c.args.self.now c.put_roots.new.self c.has_each_once.ensures k
    (c.put_roots.ensures ∙ ap (with_roots c.args.self.now.nearest) c.node_count-count.ensures)
    c.requires.nowhere (c.finds_none.ensures k)
