use Rattle.std.proofs.Common.{length, sym, ap, ◌∙◌}
use Rattle.cal_filter.proofs.MemoLemmas.{length-with_roots}
use Rattle.cal_filter.proofs.memo.NodeMemo.len.Goals as goal

pub returns : goal.returns
returns c =
    sym (length-with_roots c.self.inside.nodes.items c.self.inside.count c.self.invariant)
    ∙ ap length c.self.view_is
