use Rattle.std.proofs.Common.{get_or, sym, ap, ◌∙◌}
use Rattle.cal_filter.proofs.MemoLemmas.{read-with_roots, root}
use Rattle.cal_filter.proofs.memo.NodeMemo.get.Goals as goal

pub returns : goal.returns
returns c =
    c.node_at.ensures
    ∙ ap (λ xs. get_or xs c.args.node.0 root) c.deref.ensures.value
    ∙ sym (read-with_roots c.self.inside.nodes.items c.self.inside.count c.args.node.0)
    ∙ ap (λ xs. get_or xs c.args.node.0 root) c.self.view_is
